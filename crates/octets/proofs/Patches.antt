-- A part replaced: between others, within a part, twice, or by what it was; what a call leaves that was lent it; and what a loop
-- over parts leaves behind those that it has done. Assumes nothing.
use Prim.Native.Nat.{ℕ, ◌+◌, ◌-◌, ◌≤◌}
use native.Mathlib.Omega.{arith}
use mathlib.Core.Path.{◌≡◌, sym, ap, ◌∙◌}
use mathlib.Core.List.{List, ◌++◌, append_assoc}
use lib.ListN.{length, replicate, take, drop, length-append, length-drop, take-append-drop}
use lib.Seq.{length-take-le, take_at, drop_at, take-append-le, drop-append-le, drop-drop}
use Rattle.octets.specs.Parts.{part, patch, zeros}
use Rattle.octets.proofs.Parts.{lent_length, length_part, patch-is}
use Rattle.octets.proofs.Fields.{patch-behind}
use Rattle.octets.proofs.Frame.{part-part}

-- what a call leaves that was lent `&mut s[a..a + n]` and left y there
pub lent-patch : (a n : ℕ) (y s : List ℕ) → take a s ++ (y ++ drop (a + n - a) (drop a s)) ≡ patch a n y s
unfolding patch
lent-patch a n y s = rw (lent_length a n)

-- what a call leaves that was lent it, and filled it
pub lent_filled : (a n : ℕ) (y s : List ℕ) → a + n ≤ length s → y ≡ replicate (length (take (a + n - a) (drop a s))) 0
    → take a s ++ (y ++ drop (a + n - a) (drop a s)) ≡ patch a n (zeros n) s
lent_filled a n y s h e =
    let l : length (take (a + n - a) (drop a s)) ≡ n = rw (lent_length a n) (length-take-le n (drop a s) (omega (arith, length-drop a s))) in
    lent-patch a n y s ∙ rw (e, l)

-- what `copy_within(from..end, to)` leaves
pub copied_within : (from end to n : ℕ) (s : List ℕ) → end - from ≡ n
    → take to s ++ take (end - from) (drop from s) ++ drop (to + (end - from)) s ≡ patch to n (part from n s) s
unfolding part
copied_within from end to n s e =
    rw e (append_assoc (take to s) (take n (drop from s)) (drop (to + n) s) ∙ sym (patch-is to n (take n (drop from s)) s))

-- y between x and z, replaced
pub patch-between : (x y z w : List ℕ) (a n : ℕ) → length x ≡ a → length y ≡ n → patch a n w (x ++ (y ++ z)) ≡ x ++ (w ++ z)
unfolding patch
patch-between x y z w a n p q = rw (take_at x (y ++ z) a p, drop_at x (y ++ z) a p, drop_at y z n q)

-- a part of the first of two lists
pub patch-front : (x z y : List ℕ) (a n : ℕ) → a + n ≤ length x → patch a n y (x ++ z) ≡ patch a n y x ++ z
unfolding patch
patch-front x z y a n h =
    let l : n ≤ length (drop a x) = omega (arith, length-drop a x) in
    rw (take-append-le a x z (omega arith), drop-append-le a x z (omega arith), drop-append-le n (drop a x) z l)
    (sym (append_assoc (take a x) (y ++ drop n (drop a x)) z ∙ ap (λ (r : List ℕ). take a x ++ r) (append_assoc y (drop n (drop a x)) z)))

-- a list is what stands before a part, the part, and what stands behind it
pub around : (a n : ℕ) (s : List ℕ) → s ≡ take a s ++ (part a n s ++ drop n (drop a s))
unfolding part
around a n s = sym (ap (λ (r : List ℕ). take a s ++ r) (take-append-drop n (drop a s)) ∙ take-append-drop a s)

-- a part put in its own place
pub patch-part : (a n : ℕ) (s : List ℕ) → patch a n (part a n s) s ≡ s
unfolding patch
patch-part a n s = sym (around a n s)

pub patch-within : (a n b m : ℕ) (y s : List ℕ) → a + n ≤ length s → b + m ≤ n
    → patch (a + b) m y s ≡ patch a n (patch b m y (part a n s)) s
patch-within a n b m y s h k =
    let x = take a s in
    let w = part a n s in
    let z = drop n (drop a s) in
    let e : length x ≡ a = length-take-le a s (omega arith) in
    let f : length w ≡ n = length_part a n s h in
    ap (patch (a + b) m y) (around a n s)
    ∙ patch-behind x (w ++ z) y a b m e
    ∙ ap (λ (r : List ℕ). x ++ r) (patch-front w z y b m (omega arith))
    ∙ sym (ap (patch a n (patch b m y w)) (around a n s) ∙ patch-between x w z (patch b m y w) a n e f)

-- what it leaves of s where the part of s was lent it that has k octets from place a on: p and q are the places in s
pub copied-in-part : (a k from end to n p q : ℕ) (s : List ℕ) → end - from ≡ n → a + k ≤ length s → from + n ≤ k → to + n ≤ k → a + from ≡ p → a + to ≡ q
    → let lent = take k (drop a s) in
    take a s ++ ((take to lent ++ take (end - from) (drop from lent) ++ drop (to + (end - from)) lent) ++ drop k (drop a s)) ≡ patch q n (part p n s) s
unfolding part patch
copied-in-part a k from end to n p q s e h from-fits to-fits p-is q-is =
    let lent = part a k s in
    ap (λ (y : List ℕ). patch a k y s) (copied_within from end to n lent e)
    ∙ sym (patch-within a k to n (part from n lent) s h to-fits)
    ∙ rw (part-part a k from n s h from-fits, p-is, q-is)

-- the part behind one that was replaced
pub patch-next : (a n k : ℕ) (y z s : List ℕ) → length y ≡ n → a + n ≤ length s → patch (a + n) k z (patch a n y s) ≡ patch a (n + k) (y ++ z) s
unfolding patch
patch-next a n k y z s e h =
    let l : length (take a s ++ y) ≡ a + n = length-append (take a s) y ∙ omega (arith, length-take-le a s (omega arith)) in
    let rest = drop n (drop a s) in
    ap (patch (a + n) k z) (sym (append_assoc (take a s) y rest))
    ∙ rw (take_at (take a s ++ y) rest (a + n) l, drop_at (take a s ++ y) rest (a + n) l, drop-drop k n (drop a s))
    (append_assoc (take a s) y (z ++ drop (n + k) (drop a s)) ∙ ap (λ (r : List ℕ). take a s ++ r) (sym (append_assoc y z (drop (n + k) (drop a s)))))
