-- What the loops over the table need: a turn of each, in their own words.
use mathlib.Core.Path.{◌≡◌, refl, sym, ◌∙◌, ap, ap₂}
use mathlib.Core.Bool.{Bool, true, false, cond}
use mathlib.Core.List.{List, [], ◌∷◌}
use Prim.Native.Nat.{ℕ, zero, suc, ◌+◌, ◌-◌, ◌*◌, ◌/◌, ◌≤◌, ◌<◌, min}
use native.Mathlib.Omega.{arith}
use native.Mathlib.Numerals.{add-one}
use lib.ListN.{length, get_or, set, take, drop, length-append, length-drop}
use lib.Seq.{drop-length, drop-drop, drop-set-lt, get_or-set_same, get_or-set_other}
use lib.Dec.{leb, ltb, eqb}
use borrow.Author.Tests.{ltb-true, ltb-false, le-leb, lt-leb, eq-eqb, ne_eqb, eqb-true, eqb-false}
use Rattle.model.specs.Lists.{All, longest}
use Rattle.model.specs.Frames.{three_length, four_length}
use Rattle.model.specs.Cutting.{mac, Part, concat, values, octets_for}
use Rattle.model.specs.Best.{price, weight, bests, best, least}
use Rattle.cutting.specs.Plan.{none, entry, lower, farther, entries, less, back, Kept}
use Rattle.cutting.specs.declared.Entry.{Entry}
use Rattle.model.proofs.Lists.{longest-ends, longest-stops, longest-goes}
use Rattle.model.proofs.LeastCutting.{best-cuts, best-under}
use Rattle.model.proofs.OneCutting.{best-next}
use Rattle.cutting.proofs.Table.{entry_at, entry-weighs, entry-octets}
use Rattle.model.proofs.LongestRun.{singles, singles-cut, least-most, length_cut}

-- the entry from place i on that a search starts with
pub first-try : (l : List ℕ) (i : ℕ) → i < length l
    → get_or (entries l) i none
    ≡ farther (get_or l i 0) 1 (drop (suc i) l) (drop (suc (suc i)) (entries l)) (record { weighs = price 1 + (get_or (entries l) (suc i) none).weighs; first = 1 })
unfolding entries
first-try [] i h = absurd (omega arith)
first-try (x ∷ l) zero h = refl
first-try (x ∷ l) (suc i) h = first-try l i (omega arith)

-- one more declaration
next-try : (l : List ℕ) (x k j : ℕ) (e : Entry) → j < length l
    → farther x k (drop j l) (drop (suc j) (entries l)) e
    ≡ cond (eqb (mac (get_or l j 0)) (mac x))
    (farther x (k + 1) (drop (suc j) l) (drop (suc (suc j)) (entries l))
    (lower e (record { weighs = price (get_or l j 0 - x + 1) + (get_or (entries l) (suc j) none).weighs; first = k + 1 }))) e
unfolding entries
next-try [] x k j e h = absurd (omega arith)
next-try (y ∷ l) x k zero e h = unfold farther in refl
next-try (y ∷ l) x k (suc j) e h = next-try l x k j e (omega arith)

-- the search from place i with k declarations tried, e the best entry so far
unfoldable pub seek : List ℕ → ℕ → ℕ → Entry → Entry
seek l i k e = farther (get_or l i 0) k (drop (i + k) l) (drop (i + k + 1) (entries l)) e

pub seek-starts : (l : List ℕ) (i w : ℕ) → i < length l → w ≡ (get_or (entries l) (i + 1) none).weighs
    → seek l i 1 (record { weighs = 781 + w; first = 1 }) ≡ get_or (entries l) i none
unfolding seek price octets_for three_length four_length
seek-starts l i w h e = rw (e, add-one i, add-one (suc i)) (sym (first-try l i h))

pub seek-ends : (l : List ℕ) (i k : ℕ) (e : Entry) → i + k ≡ length l → seek l i k e ≡ e
unfolding seek farther
seek-ends l i k e h = rw (h, drop-length l)

-- one more is met, y behind x
module _ (l : List ℕ) (i k x y : ℕ) (h : i + k < length l) (ex : x ≡ get_or l i 0) (ey : y ≡ get_or l (i + k) 0) where
  pub seek-stops : (e : Entry) → (y / 65536 ≡ x / 65536 → ⊥) → seek l i k e ≡ e
  unfolding seek mac
  seek-stops e n = rw (add-one (i + k), next-try l (get_or l i 0) k (i + k) e h, ← ex, ← ey, ne_eqb _ _ n)

  -- and tried: v is what the rest behind it weighs, q what its vector does
  module _ (w f v q : ℕ) (m : y / 65536 ≡ x / 65536) (ev : v ≡ (get_or (entries l) (i + k + 1) none).weighs) (eq : q ≡ price (y - x + 1)) where
    a : i + (k + 1) ≡ suc (i + k)
    a = omega arith

    b : v ≡ (get_or (entries l) (suc (i + k)) none).weighs
    b = rw (add-one (i + k)) at ev

    pub seek-next : seek l i k (record { weighs = w; first = f }) ≡ seek l i (k + 1) (lower (record { weighs = w; first = f }) (record { weighs = q + v; first = k + 1 }))
    unfolding seek mac
    seek-next =
        rw (add-one (i + k), next-try l (get_or l i 0) k (i + k) (record { weighs = w; first = f }) h, ← ex, ← ey, eq-eqb _ _ m, ← eq, ← b, a, add-one (suc (i + k)))

-- an entry's numbers are small
singles-weigh : (l : List ℕ) → weight (singles l) ≡ 781 * length l
unfolding singles values price octets_for three_length four_length
singles-weigh [] = refl
singles-weigh (x ∷ l) = omega (arith, singles-weigh l)

entry-small : (l : List ℕ) → ((entry (best l)).weighs ≤ 781 * length l) × ((entry (best l)).first ≤ length l)
entry-small l =
    (omega (arith, entry-weighs (best l), (best-under l (singles l) (singles-cut l)).0, singles-weigh l), go (best l) (best-cuts l).0)
  where
    go : (c : List (List ℕ)) → concat c ≡ l → (entry c).first ≤ length l
    go [] e = unfold entry in omega arith
    go (g ∷ c) e = unfold entry in omega (arith, ap length e, length-append g (concat c))

pub entry-fits : (l : List ℕ) (i : ℕ) → length l ≤ 64 → i ≤ length l → ((get_or (entries l) i none).weighs < 65536) × ((get_or (entries l) i none).first < 256)
entry-fits l i h m =
    let e : length (drop i l) ≡ length l - i = length-drop i l in
    rw (entry_at l i m) (omega (arith, (entry-small (drop i l)).0), omega (arith, (entry-small (drop i l)).1))

-- the last entry is that of the empty list
pub entry-end : (l : List ℕ) → get_or (entries l) (length l) none ≡ none
entry-end l = entry_at l (length l) (omega arith) ∙ rw (drop-length l) (unfold best bests entry in refl)

-- a buffer that is filled from its end: one more place
pub filled : (g : ℕ → ℕ) (w : List ℕ) (n i j v : ℕ) → j < length w → j + 1 ≡ i → v ≡ g j → ((k : ℕ) → i ≤ k → k ≤ n → get_or w k 0 ≡ g k)
    → (k : ℕ) → j ≤ k → k ≤ n → get_or (set w j v) k 0 ≡ g k
filled g w n i j v h s e f k p q = go (eqb k j) refl
  where
    go : (t : Bool) → eqb k j ≡ t → get_or (set w j v) k 0 ≡ g k
    go true m = rw (eqb-true k j m) (get_or-set_same w j v 0 h ∙ e)
    go false m =
        let d : k ≡ j → ⊥ = eqb-false k j m in
        get_or-set_other w j k v 0 d ∙ f k (omega arith) q

-- whoever writes the cutting: from place i, the vector that begins there, and the place behind it
pub record Next (l : List ℕ) (i f : ℕ) : Type 0 where
  pub some : 0 < f
  pub inside : i + f ≤ length l
  pub vector : best (drop i l) ≡ take f (drop i l) ∷ best (drop (i + f) l)

pub next : (l : List ℕ) (i f : ℕ) → i < length l → f ≡ (get_or (entries l) i none).first → Next l i f
next l i f h e = go (best (drop i l)) refl (best-cuts (drop i l)).0 (best-cuts (drop i l)).1 (e ∙ ap (λ r. r.first) (entry_at l i (omega arith)))
  where
    n : length (drop i l) ≡ length l - i
    n = length-drop i l

    go : (c : List (List ℕ)) → best (drop i l) ≡ c → concat (best (drop i l)) ≡ drop i l → All Part (best (drop i l)) → f ≡ (entry (best (drop i l))).first → Next l i f
    go [] b j v s = absurd (omega (arith, n, ap length (sym (ap concat b) ∙ j)))
    go ([] ∷ d) b j v s = absurd (rw b at v).0
    go ((x ∷ g) ∷ d) b j v s =
        let k : f ≡ suc (length g) = s ∙ rw b (unfold entry in refl) in
        let w = best-next (drop i l) (x ∷ g) d b in
        record {
          some = omega arith;
          inside = omega (arith, n, ap length (sym (ap concat b) ∙ j), length-append (x ∷ g) (concat d));
          vector =
              b ∙ ap₂ (λ (a : List ℕ) (z : List (List ℕ)). a ∷ z) (w.0 ∙ ap (λ (z : ℕ). take z (drop i l)) (sym k))
              (w.1 ∙ ap best (ap (λ (z : ℕ). drop z (drop i l)) (sym k) ∙ drop-drop f i l));
        }

min-less : (m n : ℕ) → less m n ≡ min m n
unfolding less
min-less m n = go (ltb n m) refl
  where
    go : (t : Bool) → ltb n m ≡ t → cond t n m ≡ min m n
    go true e = let h : n < m = ltb-true n m e in omega arith
    go false e = let h : m ≤ n = ltb-false n m e in omega arith

-- the loop back from a last declaration: c is what is tried
module _ (key cost : ℕ → ℕ) (y j i m x : ℕ) (s : j ≡ suc i) (ex : x ≡ key i) where
  pub back-stops : (x / 65536 ≡ y / 65536 → ⊥) → back key cost y j m ≡ m
  unfolding back mac
  back-stops n = rw (s, ← ex, ne_eqb _ _ n)

  module _ (e : x / 65536 ≡ y / 65536) (c : ℕ) (o : c ≡ cost i + octets_for (y - x + 1)) where
    pub back-goes : back key cost y j m ≡ back key cost y i (min m c)
    unfolding back mac less
    back-goes = rw (s, ← ex, eq-eqb _ _ e, ← o) (ap (back key cost y i) (min-less m c))

pub back-ends : (key cost : ℕ → ℕ) (y j m : ℕ) → j ≡ 0 → back key cost y j m ≡ m
unfolding back
back-ends key cost y j m e = rw e

-- the loop that finds the longest run: k declarations fit, and n more are there
abbrev pub run_from : ℕ → List ℕ → ℕ → ℕ → ℕ
run_from room l k n = longest (λ i. leb (least (take i l)) room) k n

module _ (room : ℕ) (l : List ℕ) (k n p c : ℕ) (e : c ≡ least (take (k + 1) l)) (s : n ≡ suc p) where
  pub run-stops : room < c → run_from room l k n ≡ k
  run-stops h = rw s (longest-stops _ k p (rw (← e) (lt-leb _ _ h)))

  pub run-goes : c ≤ room → run_from room l k n ≡ run_from room l (k + 1) p
  run-goes h = rw s (longest-goes _ k p (rw (← e) (le-leb _ _ h)))

pub run_ends : (room : ℕ) (l : List ℕ) (k n : ℕ) → n ≡ 0 → run_from room l k n ≡ k
run_ends room l k n e = rw e (longest-ends _ k)

pub least-small : (l : List ℕ) (k : ℕ) → length l ≤ 64 → least (take k l) ≤ 768
least-small l k few = let h : length (take k l) ≤ 64 = omega (arith, length_cut k l) in omega (arith, least-most (take k l) h)

-- a buffer that is filled from its beginning: one more place
pub filled-up : (g : ℕ → ℕ) (w : List ℕ) (j v : ℕ) → j < length w → v ≡ g j → ((i : ℕ) → i < j → get_or w i 0 ≡ g i) → (i : ℕ) → i ≤ j → get_or (set w j v) i 0 ≡ g i
filled-up g w j v h e f i p = go (eqb i j) refl
  where
    go : (t : Bool) → eqb i j ≡ t → get_or (set w j v) i 0 ≡ g i
    go true m = rw (eqb-true i j m) (get_or-set_same w j v 0 h ∙ e)
    go false m =
        let d : i ≡ j → ⊥ = eqb-false i j m in
        get_or-set_other w j i v 0 d ∙ f i (omega arith)

pub least-none : (l : List ℕ) → 0 ≡ least (take 0 l)
unfolding least best bests
least-none l = refl

-- the octets of the planned cutting
pub planned-octets : (l w : List ℕ) → length l ≤ 64 → ((k : ℕ) → 0 ≤ k → k ≤ length l → get_or w k 0 ≡ (get_or (entries l) k none).weighs) → get_or w 0 0 / 65 ≡ least l
planned-octets l w few h =
    ap (λ (n : ℕ). n / 65) (h 0 (omega arith) (omega arith) ∙ ap (λ (r : Entry). r.weighs) (entry_at l 0 (omega arith))) ∙ entry-octets l few

-- What a loop leaves behind place n: a store at most there, and one at the next place.
pub kept_set : (n i v : ℕ) (before after : List ℕ) → i ≤ n → Kept n before after → Kept n before (set after i v)
kept_set n i v before after h k = drop-set-lt (n + 1) after i v (omega arith) ∙ k

pub kept_more : (n v : ℕ) (before after : List ℕ) → Kept n before after → Kept (n + 1) before (set after (n + 1) v)
kept_more n v before after k =
    kept_set (n + 1) (n + 1) v before after (omega arith) (sym (drop-drop 1 (n + 1) after) ∙ ap (drop 1) k ∙ drop-drop 1 (n + 1) before)
