-- Sets of ports in one octet: masked below a place a set has the places below it, its ones are counted, and a place is put in.
use mathlib.Core.Path.{◌≡◌, refl, sym, ap, ◌∙◌}
use mathlib.Core.List.{List, [], ◌∷◌, ◌++◌}
use mathlib.Core.Bool.{Bool, true, false, ◌||◌, or-false, or-true}
use Prim.Native.Nat.{ℕ, zero, suc, ◌+◌, ◌-◌, ◌*◌, ◌%◌, ◌^◌, ◌≤◌, ◌<◌}
use native.Mathlib.Nat.{add-mul, mul_assoc, pow-suc, mod-eq_of_lt}
use native.Mathlib.Decide.{le_ind}
use native.Mathlib.Numerals.{add-one}
use native.Mathlib.Omega.{arith}
use lib.ListN.{length, get_or, take}
use lib.Seq.{take-suc, take_all}
use lib.Dec.{ltb, eqb}
use lib.Pow.{pow_pos, pow-lt, pow-add, low}
use lib.Bits.{bit_or, bit_and, and_le_l, and_mask, or_block, or_zero_r}
use lib.Count.{ones, ones_cat, ones-le}
use borrow.Author.Tests.{eq-eqb, ne_eqb}
use Rattle.model.specs.Lists.{bit, count_to}
use Rattle.model.specs.State.{Stream, fresh}
use Rattle.model.specs.Settling.{Source, nowhere, from, source_of, is_source, Inbound, inbounds_of, is_inbound, inbound_below, may_bring}
use Rattle.model.proofs.ComingIn.{inbound-more}
use Rattle.streams.specs.Answers.{source_port, talker_port}
use Rattle.streams.proofs.Sources.{port_bound}
use Rattle.fanin.specs.Sets.{set_to, includes, Placed}

-- the bit of a place in an octet
pub unit : (t : ℕ) → t < 8 → (1 * 2 ^ t) % 256 ≡ 2 ^ t
unit t h = let w : 2 ^ t < 2 ^ 8 = pow-lt h in let e : 1 * 2 ^ t ≡ 2 ^ t = omega arith in rw e (mod-eq_of_lt w)

-- the ones of an octet under a mask
pub few_ones : (s m : ℕ) → s < 256 → ones (bit_and s m) ≤ 8
few_ones s m h = ones-le 8 (bit_and s m) (omega (arith, and_le_l s m))

bit-ones : (b : Bool) → ones (bit b) ≡ bit b
unfolding bit ones
bit-ones true = refl
bit-ones false = refl

or-bit : (b : Bool) → bit_or (bit b) 1 ≡ 1
unfolding bit
or-bit true = refl
or-bit false = refl

module _ (f : ℕ → Bool) where
  set-lt : (n : ℕ) → set_to f n < 2 ^ n
  unfolding set_to bit
  set-lt zero = omega arith
  set-lt (suc n) = go (f n) (set-lt n)
    where
      go : (b : Bool) → set_to f n < 2 ^ n → bit b * 2 ^ n + set_to f n < 2 ^ suc n
      go true h = omega (arith, h, pow-suc 2 n)
      go false h = omega (arith, h, pow-suc 2 n)

  -- what stands above the places below t
  record Above (t n : ℕ) : Type 0 where
    high : ℕ
    is : set_to f n ≡ high * 2 ^ t + set_to f t

  one-above : (t n : ℕ) → t ≤ n → Above t n → Above t (suc n)
  unfolding set_to
  one-above t n h a =
      let b = bit (f n) in
      let e : n - t + t ≡ n = omega arith in
      let w : 2 ^ (n - t) * 2 ^ t ≡ 2 ^ n = sym (pow-add 2 (n - t) t) ∙ ap (λ (m : ℕ). 2 ^ m) e in
      let q : (b * 2 ^ (n - t) + a.high) * 2 ^ t ≡ b * 2 ^ n + a.high * 2 ^ t = rw (add-mul, mul_assoc, w) in
      record { high = b * 2 ^ (n - t) + a.high; is = omega (arith, q, a.is) }

  above : (t n : ℕ) → t ≤ n → Above t n
  above t n = le_ind (λ (m : ℕ). Above t m) record { high = 0; is = omega arith } (one-above t) n

  -- masked below place t, and its ones counted
  masked : (t n : ℕ) → t ≤ n → bit_and (set_to f n) (2 ^ t - 1) ≡ set_to f t
  masked t n h = and_mask (set_to f n) t ∙ rw (above t n h).is (low (above t n h).high t (set-lt t))

  counted : (n : ℕ) → ones (set_to f n) ≡ count_to f n
  unfolding set_to count_to
  counted zero = unfold ones in refl
  counted (suc n) = ones_cat n (bit (f n)) (set_to f n) (set-lt n) ∙ rw (bit-ones (f n), counted n) (omega arith)

  pub counted-below : (t n : ℕ) → t ≤ n → ones (bit_and (set_to f n) (2 ^ t - 1)) ≡ count_to f t
  counted-below t n h = rw (masked t n h) (counted t)

set_same : (f g : ℕ → Bool) (n : ℕ) → ((p : ℕ) → p < n → f p ≡ g p) → set_to f n ≡ set_to g n
unfolding set_to
set_same f g zero h = refl
set_same f g (suc n) h = rw (h n (omega arith), set_same f g n (λ p k. h p (omega arith)))

-- with a port in it
module _ (f : ℕ → Bool) (t : ℕ) where
  abbrev joined : ℕ → Bool
  joined p = f p || eqb t p

  put_last : bit_or (set_to f (suc t)) (2 ^ t) ≡ set_to joined (suc t)
  unfolding set_to bit
  put_last =
      let e : 2 ^ t ≡ 1 * 2 ^ t + 0 = omega arith in
      let same : set_to f t ≡ set_to joined t = set_same f joined t (λ p h. sym (rw (ne_eqb t p (λ e. omega (arith, e))) (or-false (f p)))) in
      ap (bit_or (bit (f t) * 2 ^ t + set_to f t)) e
      ∙ or_block t (bit (f t)) 1 (set_to f t) 0 (set-lt f t) (pow_pos t)
      ∙ rw (or-bit (f t), or_zero_r, same, eq-eqb t t refl, or-true (f t))

  put-below : (n : ℕ) → t < n → bit_or (set_to f n) (2 ^ t) ≡ set_to joined n → bit_or (set_to f (suc n)) (2 ^ t) ≡ set_to joined (suc n)
  unfolding set_to
  put-below n h ih =
      let e : 2 ^ t ≡ 0 * 2 ^ n + 2 ^ t = omega arith in
      ap (bit_or (bit (f n) * 2 ^ n + set_to f n)) e
      ∙ or_block n (bit (f n)) 0 (set_to f n) (2 ^ t) (set-lt f n) (pow-lt h)
      ∙ rw (or_zero_r, ih, ne_eqb t n (λ e. omega (arith, e)), or-false (f n))

  put : (n : ℕ) → t < n → bit_or (set_to f n) (2 ^ t) ≡ set_to joined n
  put n h = le_ind (λ (m : ℕ). bit_or (set_to f m) (2 ^ t) ≡ set_to joined m) put_last put-below n h

pub included : (f : ℕ → Bool) (s : Source) → Placed (source_port s) → includes (set_to f 8) (source_port s) ≡ set_to (λ p. f p || is_source s p) 8
unfolding includes source_port is_source
included f nowhere w = set_same f (λ p. f p || false) 8 (λ p h. sym (or-false (f p)))
included f (from o) w = put f o.port 8 w

pub placed : (x : Stream) → length x.cells ≡ 8 → Placed (source_port (source_of x))
unfolding source_port
placed x l = go (source_of x) (port_bound x l)
  where
    go : (s : Source) → talker_port s < 8 → Placed (source_port s)
    go nowhere h = tt
    go (from o) h = h

-- The inbound ports, one stream after another.

inbound-last : (l : List Stream) (x : Stream) (p : ℕ) → is_inbound (inbounds_of (l ++ (x ∷ []))) p ≡ (is_inbound (inbounds_of l) p || is_source (source_of x) p)
inbound-last [] x p = inbound-more x [] p ∙ unfold inbounds_of is_inbound in (or-false (is_source (source_of x) p))
inbound-last (y ∷ l) x p = inbound-more y (l ++ (x ∷ [])) p ∙ rw (inbound-last l x p, inbound-more y l p) (go (is_source (source_of y) p))
  where
    go : (b : Bool) → (b || (is_inbound (inbounds_of l) p || is_source (source_of x) p)) ≡ ((b || is_inbound (inbounds_of l) p) || is_source (source_of x) p)
    go true = refl
    go false = refl

module _ (s : List Stream) where
  abbrev pub first : ℕ → ℕ → Bool
  first k = is_inbound (inbounds_of (take k s))

  pub none-inbound : 0 ≡ set_to (first 0) 8
  unfolding inbounds_of is_inbound
  none-inbound = sym (set_same (first 0) (λ p. false) 8 (λ p h. refl) ∙ unfold set_to bit in refl)

  one-inbound : (k p : ℕ) → k < length s → first (k + 1) p ≡ (first k p || is_source (source_of (get_or s k (fresh 0))) p)
  one-inbound k p h = rw (add-one k, take-suc s k (fresh 0) h) (inbound-last (take k s) (get_or s k (fresh 0)) p)

  -- a turn, and the end
  pub next-inbound : (k set r : ℕ) → k < length s → length (get_or s k (fresh 0)).cells ≡ 8 → set ≡ set_to (first k) 8
      → r ≡ includes set (source_port (source_of (get_or s k (fresh 0)))) → r ≡ set_to (first (k + 1)) 8
  next-inbound k set r h l e q =
      let x = get_or s k (fresh 0) in
      q
      ∙ rw e (included (first k) (source_of x) (placed x l))
      ∙ sym (set_same (first (k + 1)) (λ p. first k p || is_source (source_of x) p) 8 (λ p w. one-inbound k p h))

  pub all-inbound : (k : ℕ) → k ≡ length s → set_to (first k) 8 ≡ set_to (is_inbound (inbounds_of s)) 8
  all-inbound k e = rw (take_all k s (omega (arith, e)))

-- Whether a port may bring streams in, by the tests of the code.
module _ (limit : ℕ) (l : List Inbound) (t : ℕ) where
  pub no-limit : limit ≡ 0 → true ≡ may_bring limit l t
  unfolding may_bring
  no-limit e = sym (rw (eq-eqb limit 0 e))

  pub by_count : (limit ≡ 0 → ⊥) → t < 8 → (set unit : ℕ) → set ≡ set_to (is_inbound l) 8 → unit ≡ 2 ^ t
      → ltb (ones (bit_and set (unit - 1))) limit ≡ may_bring limit l t
  unfolding may_bring inbound_below
  by_count n h set unit e u = rw (e, u, counted-below (is_inbound l) t 8 (omega arith), ne_eqb limit 0 n)
