-- A text put into a line, and texts put one behind the other. Assumes nothing.
use Prim.Native.Nat.{ℕ, zero, suc, ◌+◌, ◌-◌, ◌/◌, ◌^◌, ◌≤◌, ◌<◌, min}
use native.Mathlib.Nat.{add_assoc, pow-suc, pow-le-pow_right}
use native.Mathlib.Numerals.{add-one}
use native.Mathlib.Omega.{arith}
use mathlib.Core.Path.{◌≡◌, refl, sym, ap, ◌∙◌}
use mathlib.Core.Bool.{Bool, true, false}
use mathlib.Core.List.{List, [], ◌∷◌, ◌++◌, append-nil}
use lib.ListN.{length, get_or, take, drop, length-append}
use lib.Seq.{length-take-le, take-suc, take_at, take_all}
use lib.Dec.{ltb}
use borrow.Author.Tests.{ltb-true, ltb-false}
use Rattle.octets.specs.Parts.{patch}
use Rattle.octets.specs.Pick.{pick}
use Rattle.octets.specs.Fields.{flat}
use Rattle.octets.proofs.Parts.{length-patch, patch-none}
use Rattle.octets.proofs.Patches.{lent-patch, patch-next}
use Rattle.octets.proofs.Fields.{flat_append}
use Rattle.io.specs.Digits.{last_digits, IsDigitCount}
use Rattle.console.specs.Text.{start_of, fitting, put_in, Put, decimal_in}

-- what copying the part of a text that fits into the part of the line behind its start leaves
pub put-made : (line text y : List ℕ) (at from n : ℕ) → from ≡ min at (length line) → n ≡ min (length text) (length line - from) → y ≡ take n text
    → Put line at text (from + n) (take from line ++ (y ++ drop (from + n - from) (drop from line)))
unfolding start_of fitting put_in
put-made line text y at from n a b e =
    let l : length (take n text) ≡ n = length-take-le n text (omega arith) in
    let w = lent-patch from n y line ∙ ap (λ (t : List ℕ). patch from n t line) e in
    record {
      end_is = rw (← a, ← b);
      line_is = w ∙ rw (← a, ← b);
      within = rw (w, length-patch from n (take n text) line l (omega arith)) (omega arith);
    }

-- nothing
pub put-none : (line : List ℕ) (at from : ℕ) → from ≡ min at (length line) → Put line at [] from line
unfolding start_of fitting put_in
put-none line at from e =
    let z : min 0 (length line - min at (length line)) ≡ 0 = omega arith in
    record { end_is = omega arith; line_is = rw z (sym (patch-none (min at (length line)) line)); within = omega arith }

take-both : (x y : List ℕ) (n k : ℕ) → n ≤ length x → (n < length x → k ≡ 0) → take (n + k) (x ++ y) ≡ take n x ++ take k y
take-both [] y zero k h z = let e : 0 + k ≡ k = omega arith in rw e
take-both [] y (suc n) k h z = absurd (omega arith)
take-both (a ∷ x) y zero k h z = rw (z (omega arith))
take-both (a ∷ x) y (suc n) k h z =
    let e : suc n + k ≡ suc (n + k) = omega arith in
    rw e (ap (λ (l : List ℕ). a ∷ l) (take-both x y n k (omega arith) (λ g. z (omega arith))))

-- what fits of a octets behind s of l, and then of b
starts-within : (e l : ℕ) → e ≤ l → min e l ≡ e
starts-within e l h = omega arith

fits-of : (a r : ℕ) → min a r ≤ a
fits-of a r = omega arith

ends-within : (at l a : ℕ) → min at l + min a (l - min at l) ≤ l
ends-within at l a = omega arith

fit-both : (a b l s : ℕ) → min (a + b) (l - s) ≡ min a (l - s) + min b (l - (s + min a (l - s)))
fit-both a b l s = omega arith

none-behind : (a b l s : ℕ) → min a (l - s) < a → min b (l - (s + min a (l - s))) ≡ 0
none-behind a b l s h = omega arith

-- a text, and another behind it
pub put-append : {b m c x y : List ℕ} {at e f : ℕ} → Put b at x e m → Put m e y f c → Put b at (x ++ y) f c
unfolding start_of fitting put_in
put-append {b = b} {m = m} {x = x} {y = y} {at = at} {e = e} p q =
    let l = length b in
    let s : ℕ = min at l in
    let n : ℕ = min (length x) (l - s) in
    let k : ℕ = min (length y) (l - (s + n)) in
    let room = ends-within at l (length x) in
    let long = length-take-le n x (fits-of (length x) (l - s)) in
    let same : length m ≡ l = ap length p.line_is ∙ length-patch s n (take n x) b long room in
    let here : min e (length m) ≡ s + n = rw (p.end_is, same) (starts-within (s + n) l room) in
    let both = fit-both (length x) (length y) l s in
    record {
      end_is = q.end_is ∙ rw (here, same, length-append x y, both) (add_assoc s n k);
      line_is =
          q.line_is
          ∙ rw (here, same, length-append x y, both, p.line_is, take-both x y n k (fits-of (length x) (l - s)) (none-behind (length x) (length y) l s))
          (patch-next s n k (take n x) (take k y) b long room);
      within = q.within;
    }

-- a text that fits is put whole
pub put_whole : {line text after : List ℕ} {end : ℕ} → Put line 0 text end after → length text ≤ length line → take end after ≡ text
unfolding start_of fitting put_in patch
put_whole {line = line} {text = text} p h =
    let start : min 0 (length line) ≡ 0 = omega arith in
    let all : min (length text) (length line - 0) ≡ length text = omega arith in
    let end = rw (start, all) at p.end_is in
    let after = rw (start, all, take_all (length text) text (omega arith)) at p.line_is in
    rw (end, after) (take_at text (drop (length text) line) (0 + length text) (omega arith))

-- the text of one thing more
pub flat-more : (text : ℕ → List ℕ) (s : List ℕ) (i : ℕ) → i < length s → flat text (take i s) ++ text (get_or s i 0) ≡ flat text (take (i + 1) s)
unfolding flat
flat-more text s i h = sym (rw (add-one i, take-suc s i 0 h) (flat_append text (take i s) (get_or s i 0 ∷ []) ∙ rw (append-nil (text (get_or s i 0)))))

-- a number that so many digits hold has no more
pub no_more : (base least width n k : ℕ) → 0 < base → least ≤ width → n < base ^ width → IsDigitCount base least n k → k ≤ width
no_more base least width n k some h g f = go (ltb width k) refl
  where
    go : (b : Bool) → ltb width k ≡ b → k ≤ width
    go true e =
        let more : least < k = omega (arith, ltb-true width k e) in
        let fits : width ≤ k - 1 = omega (arith, ltb-true width k e) in
        absurd (omega (arith, f.2 more, pow-le-pow_right some fits))
    go false e = ltb-false width k e

-- and has just so many where no fewer are asked for
pub fixed-width : (base width n k : ℕ) → 0 < base → n < base ^ width → IsDigitCount base width n k → k ≡ width
fixed-width base width n k some h f = omega (arith, no_more base width width n k some (omega arith) h f, f.0)

less_one : (k : ℕ) → suc (suc k) - 1 ≡ suc k
less_one k = omega arith

-- a number of two digits or more does not begin with a zero
not-below : (n k : ℕ) → IsDigitCount 10 1 n (suc (suc k)) → 10 ^ suc k ≤ n
not-below n k w = rw (less_one k) at (w.2 (omega arith))

-- a number below 10 has one digit
one-digit : (n k : ℕ) → n < 10 → IsDigitCount 10 1 n (suc k) → k ≡ 0
one-digit n zero p w = refl
one-digit n (suc k) p w =
    let some : 0 < 10 = omega arith in
    let fits : 1 ≤ suc k = omega arith in
    absurd (omega (arith, not-below n k w, pow-le-pow_right some fits))

-- any other has those of its tenth, and one more
tenth : (n k : ℕ) → 10 ≤ n → IsDigitCount 10 1 n (suc k) → IsDigitCount 10 1 (n / 10) k
tenth n zero p w = absurd (omega (arith, w.1))
tenth n (suc zero) p w = (omega arith, omega (arith, w.1), λ h. absurd (omega (arith, h)))
tenth n (suc (suc k)) p w =
    let low : 10 ^ suc k ≤ n / 10 = omega (arith, not-below n (suc k) w, pow-suc 10 (suc k)) in
    (omega arith, omega (arith, w.1, pow-suc 10 (suc (suc k))), λ h. rw (less_one k) low)

-- the fewest decimal digits of a number are the number in decimal
pub decimal-is : (f n k : ℕ) → k ≤ f → IsDigitCount 10 1 n k → last_digits 10 k n ≡ decimal_in f n
decimal-is zero n k h w = absurd (omega (arith, w.0))
decimal-is (suc f) n zero h w = absurd (omega (arith, w.0))
decimal-is (suc f) n (suc k) h w = go (ltb n 10) refl (λ m. decimal-is f (n / 10) k (omega arith) m)
  where
    go : (b : Bool) → ltb n 10 ≡ b → (IsDigitCount 10 1 (n / 10) k → last_digits 10 k (n / 10) ≡ decimal_in f (n / 10)) → last_digits 10 (suc k) n ≡ decimal_in (suc f) n
    go true e next = unfold decimal_in pick in rw (one-digit n k (ltb-true n 10 e) w, e)
    go false e next = unfold decimal_in pick in rw (e, next (tenth n k (ltb-false n 10 e) w))
