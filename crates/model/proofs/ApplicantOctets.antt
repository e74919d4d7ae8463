-- An Applicant over coded values is coded, and so are two coded things: what a port sends of a stream follows from its three kinds of
-- values.
use mathlib.Core.Path.{◌≡◌, refl, sym, ◌∙◌, ap, ap₂}
use mathlib.Core.List.{List, [], ◌∷◌, ◌++◌}
use mathlib.Core.Bool.{Bool, true, false, cond}
use Prim.Native.Nat.{ℕ, zero, suc, ◌+◌, ◌≤◌}
use native.Mathlib.Omega.{arith}
use lib.ListN.{length, take, drop, length-append, take-append-drop, length-drop}
use lib.Seq.{length-take-le, take_at, drop_at}
use lib.Dec.{eqb, leb}
use borrow.Author.Tests.{ne_eqb, le-leb, leb-true}
use Rattle.octets.specs.Parts.{zeros}
use Rattle.model.specs.Lists.{Octets, all_zero}
use Rattle.model.proofs.Parts.{length-zeros, octets-zeros, zeros-add, zero-zeros, zeros-zero, octets-take, octets-drop}
use Rattle.model.proofs.Valid.{GoodApplicant}
use Rattle.model.proofs.Coded.{Coded}
use Rattle.model.proofs.Lists.{and_left, and_right, and_both}
use Rattle.model.specs.Applicant.{Standing, very_anxious_passive, very_anxious_new, anxious_new, anxious_active, quiet_active, leaving_active, named, octet_of}
use Rattle.model.specs.Machines.{Applicant, no_applicant, applicant}
use Rattle.model.specs.Sending.{standing_number, to_standing, applicant_octets, to_applicant, applicant_formed, both_octets, to_both, both_formed}

-- States.

standing-back : (q : Standing) → to_standing (standing_number q) ≡ q
unfolding to_standing standing_number octet_of named
standing-back very_anxious_passive = refl
standing-back very_anxious_new = refl
standing-back anxious_new = refl
standing-back anxious_active = refl
standing-back quiet_active = refl
standing-back leaving_active = refl

standing-forth : (n : ℕ) → 1 ≤ n → n ≤ 6 → standing_number (to_standing n) ≡ n
unfolding to_standing standing_number octet_of named
standing-forth zero h k = absurd (omega arith)
standing-forth (suc zero) h k = refl
standing-forth (suc (suc zero)) h k = refl
standing-forth (suc (suc (suc zero))) h k = refl
standing-forth (suc (suc (suc (suc zero)))) h k = refl
standing-forth (suc (suc (suc (suc (suc zero))))) h k = refl
standing-forth (suc (suc (suc (suc (suc (suc zero)))))) h k = refl
standing-forth (suc (suc (suc (suc (suc (suc (suc n))))))) h k = absurd (omega arith)

pub standing-few : (q : Standing) → (1 ≤ standing_number q) × (standing_number q ≤ 6)
unfolding standing_number octet_of named
standing-few very_anxious_passive = (omega arith, omega arith)
standing-few very_anxious_new = (omega arith, omega arith)
standing-few anxious_new = (omega arith, omega arith)
standing-few anxious_active = (omega arith, omega arith)
standing-few quiet_active = (omega arith, omega arith)
standing-few leaving_active = (omega arith, omega arith)

-- a state is a machine
standing-some : (q : Standing) → eqb (standing_number q) 0 ≡ false
standing-some q = ne_eqb (standing_number q) 0 (λ z. omega (arith, (standing-few q).0, z))

-- Values in n octets: as `Coded`, but none of them need be zeros.
pub record Values {A : Type 0} (n : ℕ) (to : A → List ℕ) (from : List ℕ → A) (rule : List ℕ → Bool) (Good : A → Type 0) : Type 0 where
  pub size : (a : A) → Good a → length (to a) ≡ n
  pub back : (a : A) → Good a → from (to a) ≡ a
  pub keeps : (a : A) → Good a → rule (to a) ≡ true
  pub forth : (s : List ℕ) → length s ≡ n → Octets s → rule s ≡ true → to (from s) ≡ s
  pub valid : (s : List ℕ) → length s ≡ n → Octets s → rule s ≡ true → Good (from s)

-- the octets of an Applicant, whatever it declares
module _ {A : Type 0} (n : ℕ) (to : A → List ℕ) where
  pub applicant-length : ((a : A) → length (to a) ≡ n) → (x : Applicant A) → length (applicant_octets n to x) ≡ suc n
  unfolding applicant_octets
  applicant-length h no_applicant = ap suc (length-zeros n)
  applicant-length h (applicant x) = ap suc (h x.value)

  pub applicant-octets : ((a : A) → Octets (to a)) → (x : Applicant A) → Octets (applicant_octets n to x)
  unfolding applicant_octets
  applicant-octets h no_applicant = (omega arith, octets-zeros n)
  applicant-octets h (applicant x) = (omega (arith, (standing-few x.state).1), h x.value)

-- An Applicant.
module _ {A : Type 0} {n : ℕ} {to : A → List ℕ} {from : List ℕ → A} {rule : List ℕ → Bool} {Good : A → Type 0}
    (c : Values n to from rule Good) where
  size : (x : Applicant A) → GoodApplicant Good x → length (applicant_octets n to x) ≡ suc n
  unfolding applicant_octets
  size no_applicant g = ap suc (length-zeros n)
  size (applicant x) g = ap suc (c.size x.value g)

  back : (x : Applicant A) → GoodApplicant Good x → to_applicant from (applicant_octets n to x) ≡ x
  unfolding to_applicant applicant_octets
  back no_applicant g = refl
  back (applicant x) g = rw (standing-some x.state, standing-back x.state, c.back x.value g)

  keeps : (x : Applicant A) → GoodApplicant Good x → applicant_formed rule (applicant_octets n to x) ≡ true
  unfolding applicant_formed applicant_octets
  keeps no_applicant g = zero-zeros n
  keeps (applicant x) g = rw (standing-some x.state, le-leb (standing_number x.state) 6 (standing-few x.state).1) (c.keeps x.value g)

  -- octets that keep the rule: the state, and what stands behind it
  module _ (k : ℕ) (r : List ℕ) (l : length r ≡ n) (o : Octets r) (h : applicant_formed rule (k ∷ r) ≡ true) where
    few : k ≤ 6
    unfolding applicant_formed
    few = leb-true k 6 (and_left (leb k 6) _ h)

    rest : cond (eqb k 0) (all_zero r) (rule r) ≡ true
    unfolding applicant_formed
    rest = and_right (leb k 6) (cond (eqb k 0) (all_zero r) (rule r)) h

    forth-at : applicant_octets n to (to_applicant from (k ∷ r)) ≡ k ∷ r
    unfolding applicant_octets to_applicant
    forth-at = go k refl rest
      where
        go : (m : ℕ) → k ≡ m → cond (eqb m 0) (all_zero r) (rule r) ≡ true
            → applicant_octets n to (cond (eqb m 0) no_applicant (applicant record { state = to_standing m; value = from r })) ≡ m ∷ r
        go zero q z = ap (λ (t : List ℕ). 0 ∷ t) (sym (zeros-zero r z ∙ ap zeros l))
        go (suc m) q z =
            let some : suc m ≡ 0 → ⊥ = λ x. omega (arith, x) in
            let ok : rule r ≡ true = rw (ne_eqb (suc m) 0 some) at z in
            let low : suc m ≤ 6 = omega (arith, few, q) in
            rw (ne_eqb (suc m) 0 some) (ap₂ (λ (a : ℕ) (t : List ℕ). a ∷ t) (standing-forth (suc m) (omega arith) low) (c.forth r l o ok))

    valid-at : GoodApplicant Good (to_applicant from (k ∷ r))
    unfolding to_applicant
    valid-at = go k rest
      where
        go : (m : ℕ) → cond (eqb m 0) (all_zero r) (rule r) ≡ true → GoodApplicant Good (cond (eqb m 0) no_applicant (applicant record { state = to_standing m; value = from r }))
        go zero z = tt
        go (suc m) z =
            let some : suc m ≡ 0 → ⊥ = λ x. omega (arith, x) in
            let ok : rule r ≡ true = rw (ne_eqb (suc m) 0 some) at z in
            rw (ne_eqb (suc m) 0 some) (c.valid r l o ok)

  pub applicant-coded : Coded (suc n) (applicant_octets n to) (to_applicant from) (applicant_formed rule) (GoodApplicant Good) no_applicant
  applicant-coded = record {
    size = size;
    back = back;
    keeps = keeps;
    forth = forth;
    valid = valid;
    blank = unfold applicant_octets in refl;
    good = tt;
  }
    where
      forth : (s : List ℕ) → length s ≡ suc n → Octets s → applicant_formed rule s ≡ true → applicant_octets n to (to_applicant from s) ≡ s
      forth [] l o h = absurd (omega (arith, l))
      forth (k ∷ r) l o h = forth-at k r (omega (arith, l)) o.1 h

      valid : (s : List ℕ) → length s ≡ suc n → Octets s → applicant_formed rule s ≡ true → GoodApplicant Good (to_applicant from s)
      valid [] l o h = absurd (omega (arith, l))
      valid (k ∷ r) l o h = valid-at k r (omega (arith, l)) o.1 h

-- Two things.
module _ {A B : Type 0} {n m : ℕ} {to_a : A → List ℕ} {to_b : B → List ℕ} {from_a : List ℕ → A} {from_b : List ℕ → B} {rule_a rule_b : List ℕ → Bool}
    {GoodA : A → Type 0} {GoodB : B → Type 0} (c : Values n to_a from_a rule_a GoodA) (d : Values m to_b from_b rule_b GoodB) where
  abbrev pub GoodBoth : A × B → Type 0
  GoodBoth x = GoodA x.0 × GoodB x.1

  both-size : (x : A × B) → GoodBoth x → length (both_octets to_a to_b x) ≡ n + m
  unfolding both_octets
  both-size x g = length-append (to_a x.0) (to_b x.1) ∙ ap₂ (λ (i j : ℕ). i + j) (c.size x.0 g.0) (d.size x.1 g.1)

  first_part_lem : (x : A × B) → GoodBoth x → take n (both_octets to_a to_b x) ≡ to_a x.0
  unfolding both_octets
  first_part_lem x g = take_at (to_a x.0) (to_b x.1) n (c.size x.0 g.0)

  second-part : (x : A × B) → GoodBoth x → drop n (both_octets to_a to_b x) ≡ to_b x.1
  unfolding both_octets
  second-part x g = drop_at (to_a x.0) (to_b x.1) n (c.size x.0 g.0)

  both-back : (x : A × B) → GoodBoth x → to_both n from_a from_b (both_octets to_a to_b x) ≡ x
  unfolding to_both
  both-back x g =
      ap₂ (λ (i : A) (j : B). (i, j)) (ap from_a (first_part_lem x g) ∙ c.back x.0 g.0) (ap from_b (second-part x g) ∙ d.back x.1 g.1)

  both-keeps : (x : A × B) → GoodBoth x → both_formed n rule_a rule_b (both_octets to_a to_b x) ≡ true
  unfolding both_formed
  both-keeps x g =
      and_both _ _ (ap rule_a (first_part_lem x g) ∙ c.keeps x.0 g.0) (ap rule_b (second-part x g) ∙ d.keeps x.1 g.1)

  module _ (s : List ℕ) (l : length s ≡ n + m) (o : Octets s) (h : both_formed n rule_a rule_b s ≡ true) where
    front_long : length (take n s) ≡ n
    front_long = length-take-le n s (omega (arith, l))

    rest-long : length (drop n s) ≡ m
    rest-long = length-drop n s ∙ omega (arith, l)

    tests : (rule_a (take n s) ≡ true) × (rule_b (drop n s) ≡ true)
    unfolding both_formed
    tests = (and_left (rule_a (take n s)) (rule_b (drop n s)) h, and_right (rule_a (take n s)) (rule_b (drop n s)) h)

    both-forth : both_octets to_a to_b (to_both n from_a from_b s) ≡ s
    unfolding both_octets to_both
    both-forth =
        ap₂ (λ (x y : List ℕ). x ++ y) (c.forth (take n s) front_long (octets-take n s o) tests.0) (d.forth (drop n s) rest-long (octets-drop n s o) tests.1)
        ∙ take-append-drop n s

    both-valid : GoodBoth (to_both n from_a from_b s)
    unfolding to_both
    both-valid = (c.valid (take n s) front_long (octets-take n s o) tests.0, d.valid (drop n s) rest-long (octets-drop n s o) tests.1)

  pub both_values : Values (n + m) (both_octets to_a to_b) (to_both n from_a from_b) (both_formed n rule_a rule_b) GoodBoth
  both_values = record { size = both-size; back = both-back; keeps = both-keeps; forth = both-forth; valid = both-valid }

-- with zeros for nothing
module _ {A B : Type 0} {n m : ℕ} {to_a : A → List ℕ} {to_b : B → List ℕ} {from_a : List ℕ → A} {from_b : List ℕ → B} {rule_a rule_b : List ℕ → Bool}
    {GoodA : A → Type 0} {GoodB : B → Type 0} {a₀ : A} {b₀ : B}
    (c : Coded n to_a from_a rule_a GoodA a₀) (d : Coded m to_b from_b rule_b GoodB b₀) where
  all-of : Values (n + m) (both_octets to_a to_b) (to_both n from_a from_b) (both_formed n rule_a rule_b) (λ x. GoodA x.0 × GoodB x.1)
  all-of =
      both_values record { size = c.size; back = c.back; keeps = c.keeps; forth = c.forth; valid = c.valid }
      record { size = d.size; back = d.back; keeps = d.keeps; forth = d.forth; valid = d.valid }

  pub both_coded : Coded (n + m) (both_octets to_a to_b) (to_both n from_a from_b) (both_formed n rule_a rule_b) (λ x. GoodA x.0 × GoodB x.1) (a₀, b₀)
  both_coded = record {
    size = all-of.size;
    back = all-of.back;
    keeps = all-of.keeps;
    forth = all-of.forth;
    valid = all-of.valid;
    blank = unfold both_octets in (ap₂ (λ (x y : List ℕ). x ++ y) c.blank d.blank ∙ sym (zeros-add n m));
    good = (c.good, d.good);
  }

-- the same things under other names
module _ {A B : Type 0} {n : ℕ} {to : A → List ℕ} {from : List ℕ → A} {rule : List ℕ → Bool} {GoodA : A → Type 0} {a : A}
    (c : Coded n to from rule GoodA a) (GoodB : B → Type 0) (as-a : B → A) (as-b : A → B) where
  pub renamed-coded : ((x : B) → as-b (as-a x) ≡ x) → ((x : A) → as-a (as-b x) ≡ x) → ((x : B) → GoodB x → GoodA (as-a x)) → ((x : A) → GoodA x → GoodB (as-b x))
      → Coded n (λ x. to (as-a x)) (λ s. as-b (from s)) rule GoodB (as-b a)
  renamed-coded there here good-a good-b = record {
    size = λ x g. c.size (as-a x) (good-a x g);
    back = λ x g. ap as-b (c.back (as-a x) (good-a x g)) ∙ there x;
    keeps = λ x g. c.keeps (as-a x) (good-a x g);
    forth = λ s l o h. ap to (here (from s)) ∙ c.forth s l o h;
    valid = λ s l o h. good-b (from s) (c.valid s l o h);
    blank = ap to (here a) ∙ c.blank;
    good = good-b a c.good;
  }
