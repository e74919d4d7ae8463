-- One machine that a write moves, on its octet, with its values and with what stands before and behind it.
use mathlib.Core.Path.{◌≡◌, refl, sym, ◌∙◌, ap}
use mathlib.Core.List.{List, [], ◌∷◌, ◌++◌, map}
use mathlib.Core.Bool.{Bool, true, false, cond, not, ◌&&◌}
use Prim.Native.Nat.{ℕ, suc, ◌+◌, ◌≤◌}
use native.Mathlib.Nat.{add-zero, zero-add, suc-add}
use native.Mathlib.Numerals.{add-one}
use native.Mathlib.Omega.{arith}
use lib.ListN.{length, get_or, set}
use lib.Seq.{get_or-append-add, drop_at}
use lib.Dec.{leb, ltb, eqb}
use borrow.Author.Tests.{eq-eqb, ne_eqb}
use Rattle.octets.specs.Parts.{patch, zeros}
use Rattle.octets.proofs.Fields.{patch-behind}
use Rattle.model.specs.Lists.{bit}
use Rattle.model.specs.Applicant.{ApplicantState, vo, vp, vn, an, aa, qa, la, lo, ApplicantEvent, tx_la, tx_laf, opportunity, ApplicantEntry, applicant_row, applicant_column, to, applicant_entry, Standing, named, standing, becomes, state_of, octet_of, step}
use Rattle.model.specs.Machines.{Applicant, no_applicant, applicant, with, applicant_of, moved}
use Rattle.model.specs.Settling.{is_applicant}
use Rattle.model.specs.Writing.{moved_at}
use Rattle.model.specs.Sending.{standing_number, applicant_octets}
use Rattle.model.proofs.ApplicantEntries.{tables, octet-back}
use Rattle.model.proofs.ApplicantOctets.{standing-few}
use Rattle.moving.specs.declared.Span.{Span}
use Rattle.moving.specs.declared.Met.{Met}
use Rattle.moving.specs.Moves.{moved_by, octet_by, state_at, met_by}

-- the octet of what is left of a machine
unfoldable pub octet_left : List Standing → ℕ
octet_left [] = 0
octet_left (q ∷ l) = standing_number q

octet-left : (s : ApplicantState) → octet_of s ≡ octet_left (standing s)
unfolding octet_left standing octet_of standing_number named
octet-left vo = refl
octet-left vp = refl
octet-left vn = refl
octet-left an = refl
octet-left aa = refl
octet-left qa = refl
octet-left la = refl
octet-left lo = refl

stepped : (r : Bool) (e : ApplicantEvent) (q : Standing) → step r e (standing_number q) ≡ octet_left (becomes r e q)
unfolding step becomes standing_number
stepped r e q = rw (octet-back q) (octet-left (applicant_entry r e (named q)).next)

none-stepped : (r a : Bool) → (step r (opportunity a) 0 ≡ 0) × (step r tx_laf 0 ≡ 0)
unfolding tables opportunity
none-stepped true true = (refl, refl)
none-stepped true false = (refl, refl)
none-stepped false true = (refl, refl)
none-stepped false false = (refl, refl)

-- with LeaveAll the Registrar plays no part: the row of either event is the same
row-alike : (r : Bool) (e : ApplicantEvent) → applicant_row r e ≡ applicant_row false e → (n : ℕ) → step r e n ≡ step false e n
unfolding step applicant_entry
row-alike r e h n = ap (λ (row : List ApplicantEntry). octet_of (get_or row (applicant_column (state_of n)) (to (state_of n))).next) h

pub leaving-all-alike : (r : Bool) (n : ℕ) → step r tx_la n ≡ step false tx_la n
leaving-all-alike r n = row-alike r tx_la (unfold applicant_row in refl) n

pub left_out_alike : (r : Bool) (n : ℕ) → step r tx_laf n ≡ step false tx_laf n
left_out_alike r n = row-alike r tx_laf (unfold applicant_row in refl) n

module _ (w : Span) (i : ℕ) (r : Bool) where
  pub moved-octet : (q : Standing) → octet_by w i r (standing_number q) ≡ octet_left (moved_by w i r q)
  unfolding octet_by moved_by moved_at
  moved-octet q = go (leb w.place i && ltb i w.end) w.all
    where
      go : (t a : Bool) → cond t (step r (opportunity w.all) (standing_number q)) (cond a (step r tx_laf (standing_number q)) (standing_number q))
          ≡ octet_left (cond t (becomes r (opportunity w.all) q) (cond a (becomes r tx_laf q) (q ∷ [])))
      go true a = stepped r (opportunity w.all) q
      go false true = stepped r tx_laf q
      go false false = unfold octet_left in refl

  pub none-moved : octet_by w i r 0 ≡ 0
  unfolding octet_by
  none-moved = go (leb w.place i && ltb i w.end) w.all
    where
      go : (t a : Bool) → cond t (step r (opportunity w.all) 0) (cond a (step r tx_laf 0) 0) ≡ 0
      go true a = (none-stepped r w.all).0
      go false true = (none-stepped r w.all).1
      go false false = refl

  -- an Applicant with its values, and octets behind it
  module _ {A : Type 0} (n : ℕ) (to : A → List ℕ) (rest : List ℕ) where
    gone : (s : List ℕ) → length s ≡ suc n → state_at 0 n 0 (s ++ rest) ≡ applicant_octets n to no_applicant ++ rest
    unfolding state_at patch applicant_octets
    gone s e = rw (add-one n) (ap (λ (t : List ℕ). zeros (suc n) ++ t) (drop_at s rest (suc n) e))

    left : (q : Standing) (v : A) (s : ℕ) → state_at 0 n (standing_number q) ((s ∷ to v) ++ rest) ≡ applicant_octets n to (applicant (with v q)) ++ rest
    unfolding state_at applicant_octets with
    left q v s = rw (ne_eqb (standing_number q) 0 (λ z. omega (arith, z, (standing-few q).0)))

    pub applicant-moved : (a : Applicant A) → length (applicant_octets n to a) ≡ suc n
        → state_at 0 n (octet_by w i r (get_or (applicant_octets n to a ++ rest) 0 0)) (applicant_octets n to a ++ rest)
        ≡ applicant_octets n to (moved (moved_by w i r) a) ++ rest
    applicant-moved no_applicant e = unfold applicant_octets moved in (rw none-moved (gone (applicant_octets n to no_applicant) e))
    applicant-moved (applicant x) e = unfold applicant_octets moved in (rw (moved-octet x.state) (go (moved_by w i r x.state)))
      where
        go : (l : List Standing) → state_at 0 n (octet_left l) ((standing_number x.state ∷ to x.value) ++ rest)
            ≡ applicant_octets n to (applicant_of (map (with x.value) l)) ++ rest
        go [] = unfold octet_left applicant_of in (gone (standing_number x.state ∷ to x.value) (unfold applicant_octets in e))
        go (q ∷ l) = unfold octet_left applicant_of in (left q x.value (standing_number x.state))

-- Octets before it.

set-behind : (x y : List ℕ) (i v : ℕ) → set (x ++ y) (length x + i) v ≡ x ++ set y i v
set-behind [] y i v = ap (λ (k : ℕ). set y k v) (zero-add i)
set-behind (a ∷ x) y i v =
    ap (λ (k : ℕ). set (a ∷ (x ++ y)) k v) (suc-add (length x) i) ∙ ap (λ (r : List ℕ). a ∷ r) (set-behind x y i v)

pub state-behind : (x y : List ℕ) (m i values n : ℕ) → length x ≡ m → state_at (m + i) values n (x ++ y) ≡ x ++ state_at i values n y
unfolding state_at
state-behind x y m i values n e = go (eqb n 0)
  where
    go : (t : Bool) → cond t (patch (m + i) (values + 1) (zeros (values + 1)) (x ++ y)) (set (x ++ y) (m + i) n)
        ≡ x ++ cond t (patch i (values + 1) (zeros (values + 1)) y) (set y i n)
    go true = patch-behind x y (zeros (values + 1)) m i (values + 1) e
    go false = rw (← e) (set-behind x y i n)

-- what an Applicant behind other octets becomes
pub state-there : (x y : List ℕ) (m i : ℕ) → length x ≡ m → get_or (x ++ y) (m + i) 0 ≡ get_or y i 0
state-there x y m i e = rw (← e) (get_or-append-add x y i 0)

-- The octet of a machine, where there is one.

unfoldable pub state_octet : {A : Type 0} → Applicant A → ℕ
state_octet no_applicant = 0
state_octet (applicant x) = standing_number x.state

pub state_few : {A : Type 0} (a : Applicant A) → state_octet a ≤ 6
unfolding state_octet
state_few no_applicant = omega arith
state_few (applicant x) = (standing-few x.state).1

pub counted-octet : {A : Type 0} (a : Applicant A) → bit (is_applicant a) ≡ bit (not (eqb (state_octet a) 0))
unfolding state_octet is_applicant
counted-octet no_applicant = refl
counted-octet (applicant x) = rw (ne_eqb (standing_number x.state) 0 (λ z. omega (arith, z, (standing-few x.state).0)))

pub octet-moved : (w : Span) (i : ℕ) (r : Bool) {A : Type 0} (a : Applicant A) → state_octet (moved (moved_by w i r) a) ≡ octet_by w i r (state_octet a)
unfolding state_octet moved
octet-moved w i r no_applicant = sym (none-moved w i r)
octet-moved w i r (applicant x) = go (moved_by w i r x.state) ∙ sym (moved-octet w i r x.state)
  where
    go : (l : List Standing) → state_octet (applicant_of (map (with x.value) l)) ≡ octet_left l
    go [] = unfold applicant_of octet_left in refl
    go (q ∷ l) = unfold applicant_of octet_left with in refl

-- Without a machine nothing moves, and nothing is met.

pub none_stays : {A : Type 0} (g : Standing → List Standing) (a : Applicant A) → state_octet a ≡ 0 → moved g a ≡ a
unfolding state_octet moved
none_stays g no_applicant e = refl
none_stays g (applicant x) e = absurd (omega (arith, e, (standing-few x.state).0))

pub none-met : (w : Span) (m : Met) → m ≡ met_by w m 0 0
unfolding met_by
none-met w m = go (ltb m.count w.end)
  where
    go : (t : Bool) → m ≡ record { count = m.count + 0; left = m.left + cond t 0 0 }
    go true = rw (add-zero m.count, add-zero m.left)
    go false = rw (add-zero m.count, add-zero m.left)

-- How far the moves are behind a machine, by its octet before and after.
module _ (w : Span) (m : Met) (r : Bool) {A : Type 0} (a : Applicant A) (o : ℕ) (e : o ≡ state_octet a) where
  abbrev met_machine : Met
  met_machine = met_by w m (bit (is_applicant a)) (bit (is_applicant (moved (moved_by w m.count r) a)))

  pub no-machine-met : o ≡ 0 → m ≡ met_machine
  no-machine-met z =
      let none : bit (is_applicant a) ≡ 0 = counted-octet a ∙ unfold bit in rw (eq-eqb (state_octet a) 0 (sym e ∙ z)) in
      none-met w m ∙ sym (rw (none_stays (moved_by w m.count r) a (sym e ∙ z), none))

  pub machine-met : (o ≡ 0 → ⊥) → (n : ℕ) → n ≡ octet_by w m.count r o → met_by w m 1 (bit (not (eqb n 0))) ≡ met_machine
  machine-met z n q =
      let one : bit (is_applicant a) ≡ 1 = counted-octet a ∙ unfold bit in rw (ne_eqb (state_octet a) 0 (λ h. z (e ∙ h))) in
      let left : bit (is_applicant (moved (moved_by w m.count r) a)) ≡ bit (not (eqb n 0)) =
      counted-octet (moved (moved_by w m.count r) a)
      ∙ ap (λ (k : ℕ). bit (not (eqb k 0))) (octet-moved w m.count r a ∙ sym (q ∙ ap (octet_by w m.count r) e)) in
      sym (rw (one, left))
