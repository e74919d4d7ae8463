-- What is heard by one Applicant, on its octet, with what stands behind and before it.
use mathlib.Core.Path.{◌≡◌, refl, ◌∙◌, ap}
use mathlib.Core.List.{List, [], ◌∷◌, ◌++◌}
use mathlib.Core.Bool.{false}
use Prim.Native.Nat.{ℕ, ◌+◌}
use native.Mathlib.Nat.{zero-add, suc-add}
use native.Mathlib.Omega.{arith}
use lib.ListN.{length, set}
use lib.Seq.{get_or-append-add}
use Rattle.octets.specs.Parts.{zeros}
use Rattle.model.specs.Applicant.{ApplicantState, vo, vp, vn, an, aa, qa, la, lo, ApplicantEvent, applicant_entry, Standing, very_anxious_passive, very_anxious_new, anxious_new, anxious_active, quiet_active, leaving_active, named, standing, becomes, state_of, octet_of, step}
use Rattle.model.specs.Machines.{Listed, Applicant, no_applicant, applicant, Heard, heard_in, heard_empty, heard_leave, heard_event, with, applicant_of, moved, heard}
use Rattle.model.specs.Sending.{standing_number, applicant_octets}
use Rattle.model.proofs.ApplicantEntries.{tables}
use Rattle.model.proofs.Hearing.{remains}
use Rattle.hearing.specs.Hears.{heard_at}

-- States.

state-read : (q : Standing) → state_of (standing_number q) ≡ named q
unfolding state_of standing_number named octet_of
state-read very_anxious_passive = refl
state-read very_anxious_new = refl
state-read anxious_new = refl
state-read anxious_active = refl
state-read quiet_active = refl
state-read leaving_active = refl

octet-left : (s : ApplicantState) (q : Standing) → standing s ≡ q ∷ [] → octet_of s ≡ standing_number q
unfolding standing octet_of standing_number named
octet-left vo q e = let z : ◌≡◌ {A = ℕ} 0 1 = cc in absurd (omega arith)
octet-left vp q e = let p : very_anxious_passive ≡ q = cc in ap standing_number p
octet-left vn q e = let p : very_anxious_new ≡ q = cc in ap standing_number p
octet-left an q e = let p : anxious_new ≡ q = cc in ap standing_number p
octet-left aa q e = let p : anxious_active ≡ q = cc in ap standing_number p
octet-left qa q e = let p : quiet_active ≡ q = cc in ap standing_number p
octet-left la q e = let p : leaving_active ≡ q = cc in ap standing_number p
octet-left lo q e = let z : ◌≡◌ {A = ℕ} 0 1 = cc in absurd (omega arith)

-- an event that leaves a machine, on the octet of its state
stepped : (e : ApplicantEvent) (q n : Standing) → becomes false e q ≡ n ∷ [] → step false e (standing_number q) ≡ standing_number n
unfolding step becomes
stepped e q n h = rw (state-read q) (octet-left (applicant_entry false e (named q)).next n h)

-- where there is no machine, none is made
none-hears : (h : Heard) → step false (heard_event h) 0 ≡ 0
unfolding tables heard_event
none-hears heard_in = refl
none-hears heard_empty = refl
none-hears heard_leave = refl

-- An Applicant with its values, and octets behind it.

module _ {A : Type 0} (n : ℕ) (to : A → List ℕ) (h : Heard) where
  machine-hears : (x : Listed A) (rest : List ℕ) → heard_at 0 h (applicant_octets n to (applicant x) ++ rest) ≡ applicant_octets n to (heard h (applicant x)) ++ rest
  unfolding heard_at applicant_octets heard moved applicant_of with
  machine-hears x rest =
      let r = remains h x.state in
      rw r.is (ap (λ (k : ℕ). k ∷ (to x.value ++ rest)) (stepped (heard_event h) x.state r.next r.is))

  pub applicant-hears : (a : Applicant A) (rest : List ℕ) → heard_at 0 h (applicant_octets n to a ++ rest) ≡ applicant_octets n to (heard h a) ++ rest
  applicant-hears no_applicant rest = unfold heard_at applicant_octets heard moved in (ap (λ (k : ℕ). k ∷ (zeros n ++ rest)) (none-hears h))
  applicant-hears (applicant x) rest = machine-hears x rest

-- Octets before it.

set-behind : (x y : List ℕ) (i v : ℕ) → set (x ++ y) (length x + i) v ≡ x ++ set y i v
set-behind [] y i v = ap (λ (k : ℕ). set y k v) (zero-add i)
set-behind (a ∷ x) y i v =
    ap (λ (k : ℕ). set (a ∷ (x ++ y)) k v) (suc-add (length x) i) ∙ ap (λ (r : List ℕ). a ∷ r) (set-behind x y i v)

pub heard-behind : (h : Heard) (x y : List ℕ) (m i : ℕ) → length x ≡ m → heard_at (m + i) h (x ++ y) ≡ x ++ heard_at i h y
unfolding heard_at
heard-behind h x y m i e = rw (← e, set-behind x y i, get_or-append-add x y i 0)
