-- One Applicant: what the code makes of its octets is what an advance decides.
use mathlib.Core.Path.{◌≡◌, refl, sym, ◌∙◌, ap, ap₂}
use mathlib.Core.List.{List, [], ◌∷◌, map, ◌++◌, append-nil}
use mathlib.Core.Bool.{Bool, true, false, cond, ◌&&◌}
use Prim.Native.Nat.{ℕ, zero, suc, ◌+◌, ◌-◌, ◌≤◌}
use native.Mathlib.Omega.{arith}
use lib.ListN.{length, get_or, set, take, drop, length-drop}
use borrow.Rule.Slice.PartMut.{put_mid}
use lib.Seq.{drop-drop, drop-length, take-add, take_all, take-length}
use lib.Dec.{eqb}
use borrow.Author.Tests.{lt-leb}
use Rattle.octets.specs.Parts.{patch, zeros}
use Rattle.octets.specs.Pick.{pick}
use Rattle.model.specs.Applicant.{Standing, very_anxious_passive, very_anxious_new, anxious_new, anxious_active, quiet_active, leaving_active, vo, join, lv, applicant_entry, standing, becomes, step}
use Rattle.model.specs.Machines.{Applicant, no_applicant, applicant, Decided, undeclared, declared, other_content, with, applicant_of, after, born, decided}
use Rattle.model.specs.Sending.{standing_number, applicant_octets}
use Rattle.model.proofs.Lists.{and_left, and_right}
use Rattle.model.proofs.Valid.{GoodApplicant}
use Rattle.model.proofs.ApplicantEntries.{tables}
use Rattle.applicants.specs.Octets.{octet}
use Rattle.applicants.specs.Octets as octets
use Rattle.applicants.proofs.Octets.{step_read}
use Rattle.declaring.specs.Octets.{same_octets, declared_state, declared_octets, left_octets, withdrawn_octets}
use Rattle.declaring.proofs.Comparing.{same_self, same-all}

-- Octets stored: zeros for all of them, and the state before the values.

pub all_cleared : (s : List ℕ) → patch 0 (length s) (zeros (length s)) s ≡ zeros (length s)
unfolding patch
all_cleared s = rw (drop-length s, append-nil)

pub state_put : (s : List ℕ) (q : ℕ) → 1 ≤ length s → set s 0 q ≡ q ∷ drop 1 s
state_put [] q h = absurd (omega arith)
state_put (x ∷ s) q h = refl

-- an octet above 6 is declared as LA is
pub declared_read : (same : Bool) (n : ℕ) → declared_state same (octet (octets.applicant n)) ≡ declared_state same n
unfolding declared_state pick octets.applicant tables
declared_read true n = step_read false join n
declared_read false zero = refl
declared_read false (suc zero) = refl
declared_read false (suc (suc zero)) = refl
declared_read false (suc (suc (suc zero))) = refl
declared_read false (suc (suc (suc (suc zero)))) = refl
declared_read false (suc (suc (suc (suc (suc zero))))) = refl
declared_read false (suc (suc (suc (suc (suc (suc n)))))) = rw (lt-leb (suc (suc (suc (suc (suc (suc n)))))) 1 (omega arith))

-- the values copied behind it
pub declared_put : (s v y : List ℕ) (q : ℕ) → length s ≡ suc (length v) → y ≡ v
    → q ≡ declared_state (same_octets v (take (length s - 1) (drop 1 s))) (get_or s 0 0)
    → put_mid 1 (length (set s 0 q) - 1) (set s 0 q) y ≡ declared_octets v s
unfolding declared_octets
declared_put [] v y q h e g = absurd (omega arith)
declared_put (x ∷ s) v y q h e g =
    let same : suc (length s) - 1 ≡ length s = omega arith in
    let whole : take (suc (length s) - 1) s ≡ s = rw same (take-length s) in
    rw (e, g, whole, same, drop-length s, append-nil v)

-- A machine that is left as it is: Join! does not move it, and it has the values, in two parts; or Lv! does not move it.

module _ (s v w : List ℕ) (long : length s ≡ suc (length v + length w)) (j : step false join (get_or s 0 0) ≡ get_or s 0 0) where
  pub steady-declared : (a b : Bool) → a ≡ same_octets v (take (1 + length v - 1) (drop 1 s))
      → b ≡ same_octets w (take (1 + length v + length w - (1 + length v)) (drop (1 + length v) s)) → (a && b) ≡ true → declared_octets (v ++ w) s ≡ s
  steady-declared a b e g t =
      let one : 1 + length v ≡ suc (length v) = omega arith in
      let first : 1 + length v - 1 ≡ length v = omega arith in
      let rest : 1 + length v + length w - (1 + length v) ≡ length w = omega arith in
      let p : v ≡ take (length v) (drop 1 s) = same-all v (take (length v) (drop 1 s)) (rw first at (sym e ∙ and_left a b t)) in
      let q : w ≡ take (length w) (drop (length v) (drop 1 s)) =
      same-all w (take (length w) (drop (length v) (drop 1 s))) (rw (drop-drop (length v) 1 s) (rw (rest) at (sym g ∙ and_right a b t))) in
      let whole : v ++ w ≡ drop 1 s =
      ap₂ (λ (x y : List ℕ). x ++ y) p q ∙ sym (take-add (length v) (length w) (drop 1 s))
      ∙ take_all (length v + length w) (drop 1 s) (omega (arith, length-drop 1 s)) in
      rw whole (go s long j)
    where
      go : (s : List ℕ) → length s ≡ suc (length v + length w) → step false join (get_or s 0 0) ≡ get_or s 0 0 → declared_octets (drop 1 s) s ≡ s
      go [] h k = absurd (omega arith)
      go (n ∷ r) h k = unfold declared_octets declared_state pick in (rw (same_self r, k))

pub steady-withdrawn : (s : List ℕ) → 1 ≤ length s → step false lv (get_or s 0 0) ≡ get_or s 0 0 → withdrawn_octets s ≡ s
unfolding withdrawn_octets left_octets pick
steady-withdrawn [] h j = absurd (omega arith)
steady-withdrawn (n ∷ r) h j = rw j (go (eqb n 0))
  where
    go : (t : Bool) → pick t (n ∷ r) (pick t (zeros (suc (length r))) (n ∷ r)) ≡ n ∷ r
    go true = refl
    go false = refl

-- what a decision gives to be declared
module _ {A : Type 0} where
  abbrev pub GoodDecided : (A → Type 0) → Decided A → Type 0
  GoodDecided Good undeclared = Unit {0}
  GoodDecided Good (declared v) = Good v

-- its values are valid still
module _ {A : Type 0} (Good : A → Type 0) (same : A → A → Bool) where
  good_of : (v : A) → Good v → (l : List Standing) → GoodApplicant Good (applicant_of (map (with v) l))
  unfolding applicant_of with
  good_of v g [] = tt
  good_of v g (q ∷ l) = g

  pub good-decided : (d : Decided A) (x : Applicant A) → GoodDecided Good d → GoodApplicant Good x → GoodApplicant Good (decided same d x)
  unfolding decided after born
  good-decided undeclared no_applicant g h = tt
  good-decided undeclared (applicant x) g h = good_of x.value h (becomes false lv x.state)
  good-decided (declared v) no_applicant g h = good_of v g (standing (applicant_entry false join vo).next)
  good-decided (declared v) (applicant x) g h =
      good_of v g (becomes false (cond (same v x.value) join (other_content x.state)) x.state)

module _ {A : Type 0} (n : ℕ) (to : A → List ℕ) (Good : A → Type 0) (size : (a : A) → Good a → length (to a) ≡ n) (same : A → A → Bool) where
  pub withdraws : (x : Applicant A) → GoodApplicant Good x → withdrawn_octets (applicant_octets n to x) ≡ applicant_octets n to (decided same undeclared x)
  unfolding withdrawn_octets left_octets applicant_octets decided after applicant_of with standing_number pick tables
  withdraws no_applicant h = refl
  withdraws (applicant x) h = go x.state
    where
      go : (q : Standing) → withdrawn_octets (standing_number q ∷ to x.value) ≡ applicant_octets n to (applicant_of (map (with x.value) (becomes false lv q)))
      go very_anxious_passive = ap (λ (m : ℕ). 0 ∷ zeros m) (size x.value h)
      go very_anxious_new = refl
      go anxious_new = refl
      go anxious_active = refl
      go quiet_active = refl
      go leaving_active = refl

  module _ (alike : (a b : A) → Good a → Good b → same_octets (to a) (to b) ≡ same a b) (v : A) (g : Good v) where
    pub declares : (x : Applicant A) → GoodApplicant Good x → declared_octets (to v) (applicant_octets n to x) ≡ applicant_octets n to (decided same (declared v) x)
    unfolding declared_octets declared_state applicant_octets decided born other_content applicant_of with standing_number pick tables
    declares no_applicant h = go (same_octets (to v) (zeros n))
      where
        go : (t : Bool) → declared_state t 0 ∷ to v ≡ applicant_octets n to (born v)
        go true = refl
        go false = refl
    declares (applicant x) h = rw (alike v x.value g h) (go (same v x.value) x.state)
      where
        go : (t : Bool) (q : Standing) → declared_state t (standing_number q) ∷ to v
            ≡ applicant_octets n to (applicant_of (map (with v) (becomes false (cond t join (other_content q)) q)))
        go true very_anxious_passive = refl
        go true very_anxious_new = refl
        go true anxious_new = refl
        go true anxious_active = refl
        go true quiet_active = refl
        go true leaving_active = refl
        go false very_anxious_passive = refl
        go false very_anxious_new = refl
        go false anxious_new = refl
        go false anxious_active = refl
        go false quiet_active = refl
        go false leaving_active = refl
