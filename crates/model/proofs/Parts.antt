-- Laws of lists of things that take n octets each: what is written is read back, what is read is written back where the rule of
-- its form holds, and what is not used is zero.
use mathlib.Core.Path.{◌≡◌, refl, sym, ap, ◌∙◌, subst}
use mathlib.Core.List.{List, [], ◌∷◌, ◌++◌, append_assoc, append-nil, map}
use mathlib.Core.Bool.{Bool, true, ◌&&◌, and_assoc}
use Prim.Native.Nat.{ℕ, zero, suc, ◌+◌, ◌*◌, ◌-◌, ◌≤◌, ◌<◌}
use native.Mathlib.Nat.{zero-mul, suc-mul, zero-add, suc-add, add-mul}
use native.Mathlib.Omega.{arith}
use lib.ListN.{length, get_or, take, drop, replicate, length-append, length-drop, length-replicate, replicate-append-replicate}
use lib.Seq.{take_at, drop_at, take-add, drop-drop, length-take-le, take_all, get_or-take, get_or-drop}
use lib.Dec.{eqb, ltb}
use borrow.Author.Tests.{eqb-true, ltb-true, lt-ltb}
use Rattle.octets.specs.Parts.{part, zeros}
use Rattle.octets.specs.Fields.{fields, packed, width, flat}
use Rattle.octets.proofs.Fields.{packed-octets, packed-fields}
use Rattle.model.specs.Lists.{All, tabulate, parts, Octet, Octets, all_zero}
use Rattle.model.specs.Table.{every_part, rising}
use Rattle.model.specs.Laid.{Ascending}
use Rattle.model.proofs.Lists.{all_map, all_append, all_take, all_drop, all_replicate, and_left, and_right, and_both}
use Rattle.model.proofs.Valid.{Rising}

-- facts one after another, as `All` and `Fit` ask for them
infixr 20 ◌also◌
pub ◌also◌ : {A B : Type 0} → A → B → A × B
a also b = (a, b)

-- Octets.

-- each of them, and any found past the end, is below 256
pub octets-at : (s : List ℕ) → Octets s → (i : ℕ) → get_or s i 0 < 256
octets-at [] o i = omega arith
octets-at (b ∷ s) o zero = o.0
octets-at (b ∷ s) o (suc i) = octets-at s o.1 i

pub octets-of : (s : List ℕ) → ((i : ℕ) → get_or s i 0 < 256) → Octets s
octets-of [] h = tt
octets-of (b ∷ s) h = (h 0, octets-of s (λ i. h (suc i)))

pub octets-append : (s t : List ℕ) → Octets s → Octets t → Octets (s ++ t)
octets-append = all_append Octet

pub octets-take : (n : ℕ) (s : List ℕ) → Octets s → Octets (take n s)
octets-take = all_take Octet

pub octets-drop : (n : ℕ) (s : List ℕ) → Octets s → Octets (drop n s)
octets-drop = all_drop Octet

pub octets-part : (at n : ℕ) (s : List ℕ) → Octets s → Octets (part at n s)
unfolding part
octets-part at n s o = octets-take n (drop at s) (octets-drop at s o)

pub octets-zeros : (n : ℕ) → Octets (zeros n)
octets-zeros n = all_replicate Octet n 0 (omega arith)

pub octets-packed : (ws vs : List ℕ) → Octets (packed ws vs)
octets-packed ws vs = octets-of (packed ws vs) (packed-octets ws vs)

-- Zeros.

pub length-zeros : (n : ℕ) → length (zeros n) ≡ n
length-zeros n = length-replicate n 0

pub zeros-add : (n m : ℕ) → zeros (n + m) ≡ zeros n ++ zeros m
zeros-add n m = sym (replicate-append-replicate n m 0)

pub zero-zeros : (n : ℕ) → all_zero (zeros n) ≡ true
unfolding all_zero
zero-zeros zero = refl
zero-zeros (suc n) = zero-zeros n

pub zeros-zero : (s : List ℕ) → all_zero s ≡ true → s ≡ zeros (length s)
unfolding all_zero
zeros-zero [] h = refl
zeros-zero (b ∷ s) h = rw (eqb-true b 0 (and_left (eqb b 0) (all_zero s) h)) (ap (λ (l : List ℕ). 0 ∷ l) (zeros-zero s (and_right (eqb b 0) (all_zero s) h)))

-- numbers that are all zero, and each of them
pub zero-at : (s : List ℕ) → all_zero s ≡ true → (i : ℕ) → get_or s i 0 ≡ 0
unfolding all_zero
zero-at [] h i = refl
zero-at (b ∷ s) h zero = eqb-true b 0 (and_left (eqb b 0) (all_zero s) h)
zero-at (b ∷ s) h (suc i) = zero-at s (and_right (eqb b 0) (all_zero s) h) i

pub zero-behind : (a : ℕ) (vs : List ℕ) → all_zero (drop a vs) ≡ true → (j : ℕ) → get_or vs (a + j) 0 ≡ 0
zero-behind a vs h j = sym (get_or-drop a vs j 0) ∙ zero-at (drop a vs) h j

pub zero-between : (a n : ℕ) (vs : List ℕ) → all_zero (take n (drop a vs)) ≡ true → (j : ℕ) → j < n → get_or vs (a + j) 0 ≡ 0
zero-between a n vs h j l = sym (get_or-take n (drop a vs) j 0 l ∙ get_or-drop a vs j 0) ∙ zero-at (take n (drop a vs)) h j

pub tabulate-zeros : (n p : ℕ) (f : ℕ → ℕ) → ((i : ℕ) → p ≤ i → i < p + n → f i ≡ 0) → tabulate n p f ≡ zeros n
unfolding tabulate
tabulate-zeros zero p f h = refl
tabulate-zeros (suc n) p f h = rw (h p (omega arith) (omega arith), tabulate-zeros n (suc p) f (λ i a b. h i (omega arith) (omega arith)))

pub two-zero : (a b : ℕ) → all_zero (a ∷ b ∷ []) ≡ true → (a ≡ 0) × (b ≡ 0)
two-zero a b h = (zero-at (a ∷ b ∷ []) h 0, zero-at (a ∷ b ∷ []) h 1)

pub zero-run : (a n : ℕ) (vs : List ℕ) → all_zero (take n (drop a vs)) ≡ true → tabulate n a (λ i. get_or vs i 0) ≡ zeros n
zero-run a n vs h =
    tabulate-zeros n a (λ i. get_or vs i 0)
    (λ i p q.
    let e : a + (i - a) ≡ i = omega arith in
    subst (λ (m : ℕ). get_or vs m 0 ≡ 0) e (zero-between a n vs h (i - a) (omega arith)))

-- Parts.

-- the part that stands between two lists
pub part-between : (x y z : List ℕ) (a n : ℕ) → length x ≡ a → length y ≡ n → part a n (x ++ (y ++ z)) ≡ y
unfolding part
part-between x y z a n p q = rw (drop_at x (y ++ z) a p) (take_at y z n q)

less-and-rest : (k m : ℕ) → k ≤ m → m ≡ k + (m - k)
less-and-rest k m h = omega arith

-- the octets of one thing more, in the two ways that it is written
suc-times : (k n : ℕ) → suc k * n ≡ n + k * n
suc-times k n = omega (arith, suc-mul k n)

-- the first n of so many zeros, and the others
zeros-first : (k n : ℕ) → take n (zeros (suc k * n)) ≡ zeros n
zeros-first k n = rw (suc-times k n, zeros-add n (k * n)) (take_at (zeros n) (zeros (k * n)) n (length-zeros n))

zeros-rest : (k n : ℕ) → drop n (zeros (suc k * n)) ≡ zeros (k * n)
zeros-rest k n = rw (suc-times k n, zeros-add n (k * n)) (drop_at (zeros n) (zeros (k * n)) n (length-zeros n))

drop-suc-times : (k n : ℕ) (s : List ℕ) → drop (suc k * n) s ≡ drop (k * n) (drop n s)
drop-suc-times k n s = ap (λ (m : ℕ). drop m s) (suc-times k n) ∙ sym (drop-drop (k * n) n s)

drop-zero-times : (n : ℕ) (s : List ℕ) → drop (0 * n) s ≡ s
drop-zero-times n s = rw zero-mul

-- octets for one part, and for k more after it
room : (k n : ℕ) (s : List ℕ) → suc k * n ≤ length s → (n ≤ length s) × (k * n ≤ length (drop n s))
room k n s h = (omega (arith, suc-times k n), omega (arith, suc-times k n, length-drop n s))

-- octets that fields make up are written back from their numbers
pub packed-whole : (ws s : List ℕ) → length s ≡ width ws → Octets s → packed ws (fields ws 0 s) ≡ s
packed-whole ws s l o = packed-fields ws 0 s (omega arith) (octets-at s o) ∙ unfold part in take_all (width ws) s (omega arith)

module _ {A : Type 0} (n : ℕ) (from : List ℕ → A) where
  pub length-parts : (k : ℕ) (s : List ℕ) → length (parts n from k s) ≡ k
  unfolding parts
  length-parts zero s = refl
  length-parts (suc k) s = ap suc (length-parts k (drop n s))

  -- the first j, and those after them
  pub parts-take : (j k : ℕ) (s : List ℕ) → j ≤ k → take j (parts n from k s) ≡ parts n from j s
  unfolding parts
  parts-take zero k s h = refl
  parts-take (suc j) zero s h = absurd (omega arith)
  parts-take (suc j) (suc k) s h = ap (λ (l : List A). from (take n s) ∷ l) (parts-take j k (drop n s) (omega arith))

  pub parts-drop : (j k : ℕ) (s : List ℕ) → drop j (parts n from (j + k) s) ≡ parts n from k (drop (j * n) s)
  unfolding parts
  parts-drop zero k s = rw (drop-zero-times n s, zero-add)
  parts-drop (suc j) k s = rw (drop-suc-times j n s, suc-add) (parts-drop j k (drop n s))

  -- parts of zeros
  pub parts-zeros : (k : ℕ) → parts n from k (zeros (k * n)) ≡ replicate k (from (zeros n))
  unfolding parts
  parts-zeros zero = refl
  parts-zeros (suc k) = rw (zeros-first k n, zeros-rest k n, parts-zeros k)

-- what is read and then asked something
pub parts-map : {A B : Type 0} (n : ℕ) (from : List ℕ → A) (f : A → B) (k : ℕ) (s : List ℕ) → parts n (λ p. f (from p)) k s ≡ map f (parts n from k s)
unfolding parts
parts-map n from f zero s = refl
parts-map {B = B} n from f (suc k) s = ap (λ (l : List B). f (from (take n s)) ∷ l) (parts-map n from f k (drop n s))

-- Things of n octets, one after another.

module _ {A : Type 0} (n : ℕ) (to : A → List ℕ) where
  -- a thing that takes n octets
  abbrev pub Sized : A → Type 0
  Sized a = length (to a) ≡ n

  pub length-flat-sized : (l : List A) → All Sized l → length (flat to l) ≡ length l * n
  unfolding flat
  length-flat-sized [] z = omega arith
  length-flat-sized (a ∷ l) z = omega (arith, length-append (to a) (flat to l), z.0, length-flat-sized l z.1, suc-times (length l) n)

  pub flat-drop : (k : ℕ) (l : List A) (rest : List ℕ) → All Sized l → k ≤ length l → drop (k * n) (flat to l ++ rest) ≡ flat to (drop k l) ++ rest
  unfolding flat
  flat-drop zero l rest z h = drop-zero-times n (flat to l ++ rest)
  flat-drop (suc k) [] rest z h = absurd (omega arith)
  flat-drop (suc k) (a ∷ l) rest z h =
      rw (
        drop-suc-times k n ((to a ++ flat to l) ++ rest),
        append_assoc (to a) (flat to l) rest,
        drop_at (to a) (flat to l ++ rest) n z.0,
        flat-drop k l rest z.1 (omega arith),
      )

  -- what is written as zeros
  pub flat-zeros : (e : A) → to e ≡ zeros n → (l : List A) → All (λ a. a ≡ e) l → flat to l ≡ zeros (length l * n)
  unfolding flat
  flat-zeros e z [] h = rw zero-mul
  flat-zeros e z (a ∷ l) h =
      rw (h.0, z, flat-zeros e z l h.1) (sym (zeros-add n (length l * n)) ∙ ap zeros (sym (suc-times (length l) n)))

  -- written and read: the things that come back from their own octets
  pub parts-flat : (from : List ℕ → A) (l : List A) (rest : List ℕ) → All Sized l → All (λ a. from (to a) ≡ a) l
      → parts n from (length l) (flat to l ++ rest) ≡ l
  unfolding flat parts
  parts-flat from [] rest z g = refl
  parts-flat from (a ∷ l) rest z g =
      rw (
        append_assoc (to a) (flat to l) rest,
        take_at (to a) (flat to l ++ rest) n z.0,
        drop_at (to a) (flat to l ++ rest) n z.0,
        g.0,
        parts-flat from l rest z.1 g.1,
      )

  -- m of them
  pub many_read : (m : ℕ) (from : List ℕ → A) (l : List A) → length l ≡ m → All Sized l → All (λ a. from (to a) ≡ a) l
      → parts n from m (flat to l) ≡ l
  many_read m from l e z g =
      ap (λ (k : ℕ). parts n from k (flat to l)) (sym e)
      ∙ ap (parts n from (length l)) (sym (append-nil (flat to l)))
      ∙ parts-flat from l [] z g

module _ {A : Type 0} (n : ℕ) (to : A → List ℕ) (from : List ℕ → A) where
  -- read and written: the parts that come back from what they say
  pub flat-parts : (k : ℕ) (s : List ℕ) → k * n ≤ length s → All (λ p. to (from p) ≡ p) (parts n (λ p. p) k s)
      → flat to (parts n from k s) ≡ take (k * n) s
  unfolding flat parts
  flat-parts zero s h a = rw zero-mul
  flat-parts (suc k) s h a =
      rw (a.0, flat-parts k (drop n s) (room k n s h).1 a.1)
      (sym (take-add n (k * n) s) ∙ ap (λ (m : ℕ). take m s) (sym (suc-times k n)))

-- the octets after the first k of m parts, where they are zero
pub padding : (n k m : ℕ) (s : List ℕ) → k ≤ m → length s ≡ m * n → all_zero (drop (k * n) s) ≡ true → drop (k * n) s ≡ zeros ((m - k) * n)
padding n k m s h l o =
    let d : m * n ≡ k * n + (m - k) * n = ap (λ (i : ℕ). i * n) (less-and-rest k m h) ∙ add-mul k (m - k) n in
    let e : length (drop (k * n) s) ≡ (m - k) * n = omega (arith, length-drop (k * n) s) in
    zeros-zero (drop (k * n) s) o ∙ ap zeros e

-- the things read from them are those that zeros say
pub parts-padded : {A : Type 0} (n : ℕ) (from : List ℕ → A) (k m : ℕ) (s : List ℕ) → k ≤ m → length s ≡ m * n → all_zero (drop (k * n) s) ≡ true
    → All (λ a. a ≡ from (zeros n)) (drop k (parts n from m s))
parts-padded {A = A} n from k m s h l o =
    let e : drop k (parts n from m s) ≡ replicate (m - k) (from (zeros n)) =
    ap (λ (i : ℕ). drop k (parts n from i s)) (less-and-rest k m h)
    ∙ parts-drop n from k (m - k) s
    ∙ ap (parts n from (m - k)) (padding n k m s h l o)
    ∙ parts-zeros n from (m - k) in
    subst (All (λ (a : A). a ≡ from (zeros n))) (sym e) (all_replicate (λ (a : A). a ≡ from (zeros n)) (m - k) (from (zeros n)) refl)

-- and the other way round: things that are written as zeros
pub zero-padded : {A : Type 0} (n : ℕ) (to : A → List ℕ) (e : A) → to e ≡ zeros n
    → (k : ℕ) (l : List A) → All (Sized n to) l → k ≤ length l → All (λ a. a ≡ e) (drop k l) → all_zero (drop (k * n) (flat to l)) ≡ true
zero-padded n to e z k l size h g =
    let q : drop (k * n) (flat to l) ≡ zeros (length (drop k l) * n) =
    ap (drop (k * n)) (sym (append-nil (flat to l)))
    ∙ flat-drop n to k l [] size h
    ∙ append-nil (flat to (drop k l))
    ∙ flat-zeros n to e z (drop k l) g in
    ap all_zero q ∙ zero-zeros (length (drop k l) * n)

-- A rule that every part meets.

module _ (n : ℕ) (rule : List ℕ → Bool) where
  -- the first j parts, and those after them
  pub every-add : (j k : ℕ) (s : List ℕ) → every_part n rule (j + k) s ≡ (every_part n rule j s && every_part n rule k (drop (j * n) s))
  unfolding every_part
  every-add zero k s = rw (drop-zero-times n s, zero-add)
  every-add (suc j) k s =
      rw (drop-suc-times j n s, suc-add, every-add j k (drop n s))
      (sym (and_assoc (rule (take n s)) (every_part n rule j (drop n s)) (every_part n rule k (drop (j * n) (drop n s)))))

  pub every-fewer : (j k : ℕ) (s : List ℕ) → j ≤ k → every_part n rule k s ≡ true → every_part n rule j s ≡ true
  every-fewer j k s h e =
      and_left (every_part n rule j s) (every_part n rule (k - j) (drop (j * n) s))
      (sym (ap (λ (m : ℕ). every_part n rule m s) (less-and-rest j k h) ∙ every-add j (k - j) s) ∙ e)

  -- zeros meet it
  module _ (z : rule (zeros n) ≡ true) where
    pub every-zeros : (k : ℕ) → every_part n rule k (zeros (k * n)) ≡ true
    unfolding every_part
    every-zeros zero = refl
    every-zeros (suc k) = rw (zeros-first k n, zeros-rest k n, z) (every-zeros k)

    -- m parts, of which those after the first k are zero
    pub every-padded : (k m : ℕ) (s : List ℕ) → k ≤ m → length s ≡ m * n → every_part n rule k s ≡ true
        → all_zero (drop (k * n) s) ≡ true → every_part n rule m s ≡ true
    every-padded k m s h l e o =
        ap (λ (i : ℕ). every_part n rule i s) (less-and-rest k m h)
        ∙ every-add k (m - k) s
        ∙ and_both (every_part n rule k s) (every_part n rule (m - k) (drop (k * n) s)) e
        (ap (every_part n rule (m - k)) (padding n k m s h l o) ∙ every-zeros (m - k))

  -- what holds of each part that meets it
  pub every-parts : (P : List ℕ → Type 0) → ((p : List ℕ) → length p ≡ n → Octets p → rule p ≡ true → P p)
      → (k : ℕ) (s : List ℕ) → k * n ≤ length s → Octets s → every_part n rule k s ≡ true → All P (parts n (λ p. p) k s)
  unfolding every_part parts
  every-parts P f zero s h o e = tt
  every-parts P f (suc k) s h o e =
      let r = room k n s h in (
        f (take n s) (length-take-le n s r.0) (octets-take n s o) (and_left (rule (take n s)) (every_part n rule k (drop n s)) e),
        every-parts P f k (drop n s) r.1 (octets-drop n s o) (and_right (rule (take n s)) (every_part n rule k (drop n s)) e),
      )

module _ {A : Type 0} (n : ℕ) (rule : List ℕ → Bool) (from : List ℕ → A) where
  all-parts : (P : A → Type 0) (k : ℕ) (s : List ℕ) → All (λ p. P (from p)) (parts n (λ p. p) k s) → All P (parts n from k s)
  unfolding parts
  all-parts P zero s a = tt
  all-parts P (suc k) s a = (a.0, all-parts P k (drop n s) a.1)

  -- what is read from parts that meet the rule
  pub every-read : (P : A → Type 0) → ((p : List ℕ) → length p ≡ n → Octets p → rule p ≡ true → P (from p))
      → (k : ℕ) (s : List ℕ) → k * n ≤ length s → Octets s → every_part n rule k s ≡ true → All P (parts n from k s)
  every-read P f k s h o e = all-parts P k s (every-parts n rule (λ p. P (from p)) f k s h o e)

  -- it is written as it was read
  pub every-forth : (to : A → List ℕ) → ((p : List ℕ) → length p ≡ n → Octets p → rule p ≡ true → to (from p) ≡ p)
      → (k : ℕ) (s : List ℕ) → k * n ≤ length s → Octets s → every_part n rule k s ≡ true → flat to (parts n from k s) ≡ take (k * n) s
  every-forth to f k s h o e = flat-parts n to from k s h (every-parts n rule (λ p. to (from p) ≡ p) f k s h o e)

-- what is written meets the rule
pub every-flat : {A : Type 0} (n : ℕ) (to : A → List ℕ) (rule : List ℕ → Bool)
    (l : List A) (rest : List ℕ) → All (Sized n to) l → All (λ a. rule (to a) ≡ true) l → every_part n rule (length l) (flat to l ++ rest) ≡ true
unfolding flat every_part
every-flat n to rule [] rest z g = refl
every-flat n to rule (a ∷ l) rest z g =
    rw (
      append_assoc (to a) (flat to l) rest,
      take_at (to a) (flat to l ++ rest) n z.0,
      drop_at (to a) (flat to l ++ rest) n z.0,
      g.0,
    )
    (every-flat n to rule l rest z.1 g.1)

pub octets-flat : {A : Type 0} (to : A → List ℕ) → ((a : A) → Octets (to a)) → (l : List A) → Octets (flat to l)
unfolding flat
octets-flat to o [] = tt
octets-flat to o (a ∷ l) = octets-append (to a) (flat to l) (o a) (octets-flat to o l)

-- StreamIDs that rise from one to the next rise from each to all that follow.

pub rising-rises : (l : List ℕ) → rising l ≡ true → Rising l
unfolding rising Rising
rising-rises [] e = tt
rising-rises (i ∷ []) e = (tt, tt)
rising-rises (i ∷ j ∷ l) e =
    let h : i < j = ltb-true i j (and_left (ltb i j) (rising (j ∷ l)) e) in
    let r : All (λ (k : ℕ). j < k) l × Rising l = rising-rises (j ∷ l) (and_right (ltb i j) (rising (j ∷ l)) e) in
    ((h, all_map (λ (k : ℕ). j < k) (λ (k : ℕ). i < k) (λ k q. omega arith) l r.0), r)

pub rises-rising : (l : List ℕ) → Rising l → rising l ≡ true
unfolding rising Rising
rises-rising [] r = refl
rises-rising (i ∷ []) r = refl
rises-rising (i ∷ j ∷ l) r = and_both (ltb i j) (rising (j ∷ l)) (lt-ltb i j r.0.0) (rises-rising (j ∷ l) r.1)

-- said with the definition that contracts cite, and back

pub rising-ascends : (l : List ℕ) → Rising l → Ascending l
unfolding Rising
rising-ascends [] r = tt
rising-ascends (i ∷ l) r = (r.0, rising-ascends l r.1)

pub ascending-rises : (l : List ℕ) → Ascending l → Rising l
unfolding Rising
ascending-rises [] a = tt
ascending-rises (i ∷ l) a = (a.0, ascending-rises l a.1)
