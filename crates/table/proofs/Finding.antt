-- Halving finds the place of a StreamID among ascending ones.
use Prim.Native.Nat.{ℕ, zero, suc, ◌+◌, ◌≤◌, ◌<◌}
use native.Mathlib.Nat.{eq-or-lt_of_le}
use native.Mathlib.Omega.{arith}
use mathlib.Core.Path.{◌≡◌, sym, ap, ◌∙◌}
use mathlib.Core.Logic.{⊎_elim}
use mathlib.Core.List.{List, [], ◌∷◌}
use lib.ListN.{length, get_or, length-map, get_or-map}
use borrow.Author.Tests.{lt-ltb, le-ltb, eq-eqb, ne_eqb}
use Rattle.octets.specs.Be.{be_at}
use Rattle.octets.specs.Parts.{part}
use Rattle.octets.proofs.Frame.{be_at-part}
use Rattle.model.specs.Layout.{record_place, record_size}
use Rattle.model.specs.State.{Stream, fresh}
use Rattle.model.specs.Registrations.{ids}
use Rattle.model.specs.Table.{stream_octets, decode}
use Rattle.model.specs.Laid.{FitStream, Ascending, Laid}
use Rattle.model.proofs.Fits.{laid-is, laid-fits}
use Rattle.std.specs.Prelude.{Ok, Err}
use Rattle.table.specs.Find.{found_at}
use Rattle.table.proofs.Lens.{all-at}
use Rattle.table.proofs.Records.{record-part}
use Rattle.table.proofs.StreamParts.{id-at}

pub ascending-less : (l : List ℕ) → Ascending l → (i j : ℕ) → i < j → j < length l → get_or l i 0 < get_or l j 0
ascending-less [] a i j h k = absurd (omega arith)
ascending-less (x ∷ l) a zero zero h k = absurd (omega arith)
ascending-less (x ∷ l) a zero (suc j) h k = all-at (λ y. x < y) l a.0 j 0 (omega arith)
ascending-less (x ∷ l) a (suc i) zero h k = absurd (omega arith)
ascending-less (x ∷ l) a (suc i) (suc j) h k = ascending-less l a.1 i j (omega arith) (omega arith)

pub ascending-most : (l : List ℕ) → Ascending l → (i j : ℕ) → i ≤ j → j < length l → get_or l i 0 ≤ get_or l j 0
ascending-most l a i j h k =
    ⊎_elim (λ (e : i ≡ j). rw e (omega arith)) (λ (p : i < j). let q = ascending-less l a i j p k in omega arith) (eq-or-lt_of_le h)

-- all before low are lower than id, and all from high on are higher
pub record Between (id : ℕ) (l : List ℕ) (low high : ℕ) : Type 0 where
  pub ordered : low ≤ high
  pub within : high ≤ length l
  pub lower : (j : ℕ) → j < low → get_or l j 0 < id
  pub higher : (j : ℕ) → high ≤ j → j < length l → id < get_or l j 0

pub between-all : (id : ℕ) (l : List ℕ) (n : ℕ) → n ≡ length l → Between id l 0 n
between-all id l n e = record {
  ordered = omega arith;
  within = omega arith;
  lower = λ j h. absurd (omega arith);
  higher = λ j h k. absurd (omega arith);
}

-- what the test at a place between says
module _ (id : ℕ) (l : List ℕ) (a : Ascending l) (low high middle : ℕ) (b : Between id l low high) (p : low ≤ middle) (q : middle < high) where
  pub between-low : id < get_or l middle 0 → Between id l low middle
  between-low h = record {
    ordered = p;
    within = omega (arith, b.within);
    lower = b.lower;
    higher = λ j e f. omega (arith, ascending-most l a middle j e f);
  }

  pub between-high : get_or l middle 0 < id → Between id l (middle + 1) high
  between-high h = record {
    ordered = omega arith;
    within = b.within;
    lower = λ j e. let f = b.within in omega (arith, ascending-most l a j middle (omega arith) (omega arith));
    higher = b.higher;
  }

-- the three arms of `found_at`
module _ (id k i : ℕ) (l : List ℕ) where
  pub found_before : id < i → found_at id k (i ∷ l) ≡ Err k
  unfolding found_at
  found_before h = rw (lt-ltb id i h)

  pub found_here : id ≡ i → found_at id k (i ∷ l) ≡ Ok k
  unfolding found_at
  found_here h = let m : i ≤ id = omega arith in rw (le-ltb id i m, eq-eqb id i h)

  pub found-past : i < id → found_at id k (i ∷ l) ≡ found_at id (suc k) l
  unfolding found_at
  found-past h = let m : i ≤ id = omega arith in let n : id ≡ i → ⊥ = λ e. omega arith in rw (le-ltb id i m, ne_eqb id i n)

-- a place before which all are lower
pub found-at : (id n k : ℕ) (l : List ℕ) → ((j : ℕ) → j < k → get_or l j 0 < id) → k < length l → get_or l k 0 ≡ id → found_at id n l ≡ Ok (n + k)
found-at id n k [] f h e = absurd (omega arith)
found-at id n zero (i ∷ l) f h e = found_here id n i l (sym e) ∙ ap Ok (omega arith)
found-at id n (suc k) (i ∷ l) f h e =
    found-past id n i l (f 0 (omega arith))
    ∙ found-at id (suc n) k l (λ j p. f (suc j) (omega arith)) (omega arith) e
    ∙ ap Ok (omega arith)

pub found-gap : (id n k : ℕ) (l : List ℕ) → ((j : ℕ) → j < k → get_or l j 0 < id) → k ≤ length l → (k < length l → id < get_or l k 0)
    → found_at id n l ≡ Err (n + k)
found-gap id n zero [] f h e = unfold found_at in ap Err (omega arith)
found-gap id n (suc k) [] f h e = absurd (omega arith)
found-gap id n zero (i ∷ l) f h e = found_before id n i l (e (omega arith)) ∙ ap Err (omega arith)
found-gap id n (suc k) (i ∷ l) f h e =
    found-past id n i l (f 0 (omega arith))
    ∙ found-gap id (suc n) k l (λ j p. f (suc j) (omega arith)) (omega arith) (λ p. e (omega arith))
    ∙ ap Err (omega arith)

-- what halving ends with
pub between-found : (id : ℕ) (l : List ℕ) → Ascending l → (k : ℕ) → k < length l → get_or l k 0 ≡ id → Ok k ≡ found_at id 0 l
between-found id l a k h e =
    sym (found-at id 0 k l (λ j p. let q = ascending-less l a j k p h in omega arith) h e ∙ ap Ok (omega arith))

pub between_none : (id : ℕ) (l : List ℕ) (low high : ℕ) → Between id l low high → high ≤ low → Err low ≡ found_at id 0 l
between_none id l low high b h =
    sym (found-gap id 0 low l b.lower (omega (arith, b.within, b.ordered)) (λ p. b.higher low h p) ∙ ap Err (omega arith))

-- the StreamID that a record has
module _ (t : List ℕ) (l : Laid t) (k a : ℕ) (h : k < length (decode t).streams) (e : a ≡ record_place k) where
  pub stream-id : be_at 8 t a ≡ (get_or (decode t).streams k (fresh 0)).id
  stream-id =
      let b = decode t in
      let w = laid-fits t l in
      let x = get_or b.streams k (fresh 0) in
      let there : part a record_size t ≡ stream_octets x = ap (part a record_size) (laid-is t l) ∙ record-part b w k a h e in
      let first : be_at 8 (part a record_size t) 0 ≡ be_at 8 t a = be_at-part 8 a record_size 0 t (omega arith) ∙ ap (be_at 8 t) (omega arith) in
      sym first ∙ ap (λ (s : List ℕ). be_at 8 s 0) there ∙ id-at x (all-at FitStream b.streams w.streams k (fresh 0) h)

  -- among those of all
  pub record-id : be_at 8 t a ≡ get_or (ids (decode t).streams) k 0
  unfolding ids fresh
  record-id = stream-id ∙ sym (get_or-map (λ (y : Stream). y.id) (decode t).streams k (fresh 0))

pub length_ids : (s : List Stream) → length (ids s) ≡ length s
unfolding ids
length_ids s = length-map s (λ (x : Stream). x.id)
