-- The event octets of a vector, one declaration after another: each adds its own event and its type to one octet of either kind.
use mathlib.Core.Path.{◌≡◌, refl, sym, ◌∙◌, ap}
use mathlib.Core.List.{List, [], ◌∷◌, ◌++◌}
use mathlib.Core.Bool.{Bool, true, false, cond}
use Prim.Native.Nat.{ℕ, zero, suc, ◌+◌, ◌*◌, ◌/◌, ◌%◌, ◌<◌}
use native.Mathlib.Omega.{arith}
use lib.ListN.{length, get_or, set, length-set}
use lib.Seq.{ext_get_or, get_or-set_same, get_or-set_other}
use lib.Dec.{eqb}
use borrow.Author.Tests.{eq-eqb, ne_eqb, eqb-true, eqb-false}
use Rattle.octets.specs.Parts.{zeros}
use Rattle.model.specs.Lists.{All, tabulate}
use Rattle.model.specs.Declarations.{Said, declared_id, declared_ids}
use Rattle.model.specs.WrittenFrames.{listener_number, said, event_said, three_octet, four_octet}
use Rattle.model.proofs.Lists.{get_or_tabulate, length-tabulate}
use Rattle.model.proofs.Parts.{tabulate-zeros}

-- one place of a list made from a function is changed
pub tabulate-set : (f g : ℕ → ℕ) (n k v : ℕ) → k < n → v ≡ g k → ((i : ℕ) → (i ≡ k → ⊥) → f i ≡ g i) → set (tabulate n 0 f) k v ≡ tabulate n 0 g
tabulate-set f g n k v h e same =
    ext_get_or 0 (set (tabulate n 0 f) k v) (tabulate n 0 g) (length-set (tabulate n 0 f) k v ∙ long f ∙ sym (long g)) at
  where
    long : (f : ℕ → ℕ) → length (tabulate n 0 f) ≡ n
    long f = length-tabulate f n 0

    there : (f : ℕ → ℕ) (i : ℕ) → i < n → get_or (tabulate n 0 f) i 0 ≡ f i
    there f i l = get_or_tabulate f n 0 i 0 l ∙ ap f (omega arith)

    go : (i : ℕ) → i < n → (t : Bool) → eqb i k ≡ t → get_or (set (tabulate n 0 f) k v) i 0 ≡ get_or (tabulate n 0 g) i 0
    go i l true q =
        let s : i ≡ k = eqb-true i k q in
        rw s (get_or-set_same (tabulate n 0 f) k v 0 (rw (long f) h) ∙ e ∙ sym (there g k h))
    go i l false q =
        let d : i ≡ k → ⊥ = eqb-false i k q in
        get_or-set_other (tabulate n 0 f) k i v 0 d ∙ there f i l ∙ same i d ∙ sym (there g i l)

    at : (i : ℕ) → i < length (set (tabulate n 0 f) k v) → get_or (set (tabulate n 0 f) k v) i 0 ≡ get_or (tabulate n 0 g) i 0
    at i l = go i (omega (arith, length-set (tabulate n 0 f) k v, long f)) (eqb i k) refl

-- e with v at place o, where it had 0
pub record Adds (e f : ℕ → ℕ) (o v : ℕ) : Type 0 where
  pub none : e o ≡ 0
  pub there : f o ≡ v
  pub same : (i : ℕ) → (i ≡ o → ⊥) → f i ≡ e i

module _ (e f : ℕ → ℕ) (o v : ℕ) (a : Adds e f o v) where
  -- the events at a place of the octet, by whether it is o
  here : (i : ℕ) → i ≡ o → (e i ≡ 0) × (f i ≡ v)
  here i s = (ap e s ∙ a.none, ap f s ∙ a.there)

  kept : (i : ℕ) → (i ≡ o → ⊥) → f i ≡ e i
  kept i d = a.same i d

  -- an octet gets v in the weight of place o
  pub three-adds : (w : ℕ) → (o % 3 ≡ 0 → w ≡ 36) → (o % 3 ≡ 1 → w ≡ 6) → (o % 3 ≡ 2 → w ≡ 1)
      → three_octet f (o / 3) ≡ three_octet e (o / 3) + v * w
  unfolding three_octet
  three-adds w first second third = go (o % 3) refl
    where
      q : ℕ
      q = o / 3 * 3

      go : (r : ℕ) → o % 3 ≡ r → (f q * 6 + f (q + 1)) * 6 + f (q + 2) ≡ (e q * 6 + e (q + 1)) * 6 + e (q + 2) + v * w
      go zero s =
          let h = here q (omega arith) in
          rw (first s) (omega (arith, h.0, h.1, kept (q + 1) (λ d. omega arith), kept (q + 2) (λ d. omega arith)))
      go (suc zero) s =
          let h = here (q + 1) (omega arith) in
          rw (second s) (omega (arith, h.0, h.1, kept q (λ d. omega arith), kept (q + 2) (λ d. omega arith)))
      go (suc (suc zero)) s =
          let h = here (q + 2) (omega arith) in
          rw (third s) (omega (arith, h.0, h.1, kept q (λ d. omega arith), kept (q + 1) (λ d. omega arith)))
      go (suc (suc (suc r))) s = absurd (omega arith)

  pub four-adds : (w : ℕ) → (o % 4 ≡ 0 → w ≡ 64) → (o % 4 ≡ 1 → w ≡ 16) → (o % 4 ≡ 2 → w ≡ 4) → (o % 4 ≡ 3 → w ≡ 1)
      → four_octet f (o / 4) ≡ four_octet e (o / 4) + v * w
  unfolding four_octet
  four-adds w first second third fourth = go (o % 4) refl
    where
      q : ℕ
      q = o / 4 * 4

      go : (r : ℕ) → o % 4 ≡ r
          → ((f q * 4 + f (q + 1)) * 4 + f (q + 2)) * 4 + f (q + 3) ≡ ((e q * 4 + e (q + 1)) * 4 + e (q + 2)) * 4 + e (q + 3) + v * w
      go zero s =
          let h = here q (omega arith) in
          rw (first s) (omega (arith, h.0, h.1, kept (q + 1) (λ d. omega arith), kept (q + 2) (λ d. omega arith), kept (q + 3) (λ d. omega arith)))
      go (suc zero) s =
          let h = here (q + 1) (omega arith) in
          rw (second s) (omega (arith, h.0, h.1, kept q (λ d. omega arith), kept (q + 2) (λ d. omega arith), kept (q + 3) (λ d. omega arith)))
      go (suc (suc zero)) s =
          let h = here (q + 2) (omega arith) in
          rw (third s) (omega (arith, h.0, h.1, kept q (λ d. omega arith), kept (q + 1) (λ d. omega arith), kept (q + 3) (λ d. omega arith)))
      go (suc (suc (suc zero))) s =
          let h = here (q + 3) (omega arith) in
          rw (fourth s) (omega (arith, h.0, h.1, kept q (λ d. omega arith), kept (q + 1) (λ d. omega arith), kept (q + 2) (λ d. omega arith)))
      go (suc (suc (suc (suc r)))) s = absurd (omega arith)

  -- and no other octet changes
  three-kept : (i : ℕ) → (i ≡ o / 3 → ⊥) → three_octet e i ≡ three_octet f i
  unfolding three_octet
  three-kept i d =
      omega (arith, kept (i * 3) (λ s. omega arith), kept (i * 3 + 1) (λ s. omega arith), kept (i * 3 + 2) (λ s. omega arith))

  four-kept : (i : ℕ) → (i ≡ o / 4 → ⊥) → four_octet e i ≡ four_octet f i
  unfolding four_octet
  four-kept i d =
      omega (
        arith,
        kept (i * 4) (λ s. omega arith),
        kept (i * 4 + 1) (λ s. omega arith),
        kept (i * 4 + 2) (λ s. omega arith),
        kept (i * 4 + 3) (λ s. omega arith),
      )

  -- of n octets, the one that has place o is set
  pub three-more : (n x : ℕ) → o / 3 < n → x ≡ three_octet f (o / 3) → set (tabulate n 0 (three_octet e)) (o / 3) x ≡ tabulate n 0 (three_octet f)
  three-more n x h s = tabulate-set (three_octet e) (three_octet f) n (o / 3) x h s three-kept

  pub four-more : (n x : ℕ) → o / 4 < n → x ≡ four_octet f (o / 4) → set (tabulate n 0 (four_octet e)) (o / 4) x ≡ tabulate n 0 (four_octet f)
  four-more n x h s = tabulate-set (four_octet e) (four_octet f) n (o / 4) x h s four-kept

-- no event yet
pub three-none : (n : ℕ) → tabulate n 0 (three_octet (λ i. 0)) ≡ zeros n
unfolding three_octet
three-none n = tabulate-zeros n 0 (three_octet (λ i. 0)) (λ i a b. refl)

pub four-none : (n : ℕ) → tabulate n 0 (four_octet (λ i. 0)) ≡ zeros n
unfolding four_octet
four-none n = tabulate-zeros n 0 (four_octet (λ i. 0)) (λ i a b. refl)

-- What the Listeners of a vector tell of a StreamID, by the number that each has: its declaration type, or its event.
abbrev pub id_of : Said → ℕ
id_of d = declared_id d.declaration

abbrev pub type_of : Said → ℕ
type_of d = listener_number d.declaration

abbrev pub event_in : Said → ℕ
event_in d = d.event

unfoldable pub told : (Said → ℕ) → List Said → ℕ → ℕ
told f [] id = 0
told f (d ∷ g) id = cond (eqb (id_of d) id) (f d) (told f g id)

pub said-told : (g : List Said) (i : ℕ) → said g i ≡ told type_of g i
unfolding said told
said-told [] i = refl
said-told (d ∷ g) i = ap (cond (eqb (id_of d) i) (type_of d)) (said-told g i)

pub event-told : (g : List Said) (i : ℕ) → event_said g i ≡ told event_in g i
unfolding event_said told
event-told [] i = refl
event-told (d ∷ g) i = ap (cond (eqb (id_of d) i) d.event) (event-told g i)

module _ (f : Said → ℕ) where
  told-above : (g : List Said) (i : ℕ) → All (λ j. j < i) (declared_ids g) → told f g i ≡ 0
  unfolding told declared_ids
  told-above [] i a = refl
  told-above (d ∷ g) i a = rw (ne_eqb (id_of d) i (λ e. omega (arith, a.0))) (told-above g i a.1)

  told-last : (g : List Said) (d : Said) → All (λ j. j < id_of d) (declared_ids g) → told f (g ++ (d ∷ [])) (id_of d) ≡ f d
  unfolding told declared_ids
  told-last [] d a = rw (eq-eqb (id_of d) (id_of d) refl)
  told-last (c ∷ g) d a = rw (ne_eqb (id_of c) (id_of d) (λ e. omega (arith, a.0))) (told-last g d a.1)

  told-other : (g : List Said) (d : Said) (i : ℕ) → (i ≡ id_of d → ⊥) → told f (g ++ (d ∷ [])) i ≡ told f g i
  unfolding told
  told-other [] d i s = rw (ne_eqb (id_of d) i (λ e. s (sym e)))
  told-other (c ∷ g) d i s = rw (told-other g d i s)

-- One declaration more, above those that are there: nothing was said of its StreamID.
module _ (g : List Said) (d : Said) (first o : ℕ) (above : All (λ j. j < id_of d) (declared_ids g)) (at : first + o ≡ id_of d) where
  pub said_more : Adds (λ i. said g (first + i)) (λ i. said (g ++ (d ∷ [])) (first + i)) o (type_of d)
  said_more = record {
    none = rw at (said-told g (id_of d) ∙ told-above type_of g (id_of d) above);
    there = rw at (said-told (g ++ (d ∷ [])) (id_of d) ∙ told-last type_of g d above);
    same = λ i s. said-told (g ++ (d ∷ [])) (first + i) ∙ told-other type_of g d (first + i) (λ q. s (omega arith)) ∙ sym (said-told g (first + i));
  }

  -- and its event
  pub event-more : Adds (λ i. event_said g (first + i)) (λ i. event_said (g ++ (d ∷ [])) (first + i)) o d.event
  event-more = record {
    none = rw at (event-told g (id_of d) ∙ told-above event_in g (id_of d) above);
    there = rw at (event-told (g ++ (d ∷ [])) (id_of d) ∙ told-last event_in g d above);
    same = λ i s. event-told (g ++ (d ∷ [])) (first + i) ∙ told-other event_in g d (first + i) (λ q. s (omega arith)) ∙ sym (event-told g (first + i));
  }
