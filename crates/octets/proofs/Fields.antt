-- Laws of `fields`, `packed` and `flat`: numbers in fields of any widths become octets and come back, and octets come back from
-- their numbers. Assumes nothing.
use Prim.Native.Nat.{ℕ, zero, suc, ◌+◌, ◌*◌, ◌/◌, ◌%◌, ◌^◌, ◌≤◌, ◌<◌}
use native.Mathlib.Nat.{add-zero, zero-add, add_assoc, add-mul, mul_assoc, suc-mul, pow-suc, one-le-pow}
use native.Mathlib.Omega.{arith}
use mathlib.Core.Path.{◌≡◌, refl, sym, ap, ◌∙◌}
use mathlib.Core.List.{List, [], ◌∷◌, ◌++◌, append_assoc}
use lib.ListN.{length, get_or, set, take, drop, length-append, length-take, length-drop, take-append-drop, get_or-append, length-replicate, replicate-append-replicate}
use lib.Seq.{get_or-append-add, take-add, drop-drop, take-append-add, drop-append-add, take_at, drop_at}
use Rattle.octets.specs.Be.{be_at, be}
use Rattle.octets.specs.Fields.{fields, packed, Fit, width, flat}
use Rattle.octets.specs.Parts.{part, patch, zeros}
use Rattle.octets.proofs.Be.{length-be, be_at-ext, be_at-be, be-zero, put-none}
use Rattle.octets.proofs.Parts.{length_part, part_none, part-more}

-- Octets: each element, also that found past the end, is below 256.

pub octets-append : (s t : List ℕ) → ((i : ℕ) → get_or s i 0 < 256) → ((i : ℕ) → get_or t i 0 < 256) → (i : ℕ) → get_or (s ++ t) i 0 < 256
octets-append [] t p q i = q i
octets-append (b ∷ s) t p q zero = p 0
octets-append (b ∷ s) t p q (suc i) = octets-append s t (λ j. p (suc j)) q i

pub octets-be : (n x i : ℕ) → get_or (be n x) i 0 < 256
unfolding be
octets-be zero x i = omega arith
octets-be (suc n) x i = octets-append (be n (x / 256)) (x % 256 ∷ []) (octets-be n (x / 256)) last i
  where
    last : (j : ℕ) → get_or (x % 256 ∷ []) j 0 < 256
    last zero = omega arith
    last (suc j) = omega arith

pub packed-octets : (ws vs : List ℕ) (i : ℕ) → get_or (packed ws vs) i 0 < 256
unfolding packed
packed-octets [] vs i = omega arith
packed-octets (w ∷ ws) [] i = omega arith
packed-octets (w ∷ ws) (v ∷ vs) i = octets-append (be w v) (packed ws vs) (octets-be w v) (packed-octets ws vs) i

-- One number of octets.

pub be_at-fits : (n : ℕ) (s : List ℕ) (at : ℕ) → ((i : ℕ) → get_or s i 0 < 256) → be_at n s at < 256 ^ n
unfolding be_at
be_at-fits zero s at h = omega arith
be_at-fits (suc n) s at h = omega (arith, be_at-fits n s at h, h (at + n), pow-suc 256 n)

pub be-be_at : (n : ℕ) (s : List ℕ) (at : ℕ) → at + n ≤ length s → ((i : ℕ) → get_or s i 0 < 256) → be n (be_at n s at) ≡ part at n s
unfolding be_at be
be-be_at zero s at l h = sym (part_none at s)
be-be_at (suc n) s at l h =
    let v = be_at n s at in
    let b = get_or s (at + n) 0 in
    let k : b < 256 = h (at + n) in
    let q : (v * 256 + b) / 256 ≡ v = omega arith in
    let r : (v * 256 + b) % 256 ≡ b = omega arith in
    rw (q, r, be-be_at n s at (omega arith) h) (sym (part-more at n s (omega arith)))

-- Fields see only their octets.

pub fields-ext : (ws s t : List ℕ) (a b : ℕ) → ((j : ℕ) → j < width ws → get_or s (a + j) 0 ≡ get_or t (b + j) 0) → fields ws a s ≡ fields ws b t
unfolding fields width
fields-ext [] s t a b h = refl
fields-ext (w ∷ ws) s t a b h =
    rw (
      be_at-ext w s t a b (λ j l. h j (omega arith)),
      fields-ext ws s t (a + w) (b + w)
          (λ j l.
          let p : a + w + j ≡ a + (w + j) = omega arith in
          let q : b + w + j ≡ b + (w + j) = omega arith in
          rw (p, q) (h (w + j) (omega arith))),
    )

-- of the first of two lists, and of the second
pub fields-front : (ws : List ℕ) (at : ℕ) (x y : List ℕ) → at + width ws ≤ length x → fields ws at (x ++ y) ≡ fields ws at x
fields-front ws at x y h = fields-ext ws (x ++ y) x at at (λ j l. get_or-append x y 0 (at + j) (omega arith))

pub fields-behind : (ws : List ℕ) (at : ℕ) (x y : List ℕ) → fields ws (length x + at) (x ++ y) ≡ fields ws at y
fields-behind ws at x y =
    fields-ext ws (x ++ y) y (length x + at) at
    (λ j l. ap (λ (k : ℕ). get_or (x ++ y) k 0) (omega arith) ∙ get_or-append-add x y (at + j) 0)

-- the number in front of a list, and the fields behind it
be_at-front : (n : ℕ) (x y : List ℕ) → n ≤ length x → be_at n (x ++ y) 0 ≡ be_at n x 0
be_at-front n x y h = be_at-ext n (x ++ y) x 0 0 (λ j l. rw zero-add (get_or-append x y 0 j (omega arith)))

fields-after : (ws : List ℕ) (n : ℕ) (x y : List ℕ) → length x ≡ n → fields ws n (x ++ y) ≡ fields ws 0 y
fields-after ws n x y e = ap (λ (k : ℕ). fields ws k (x ++ y)) (omega arith) ∙ fields-behind ws 0 x y

-- Numbers become octets and come back.

-- as many numbers as fields, whatever they are
pub length-packed-any : (ws vs : List ℕ) → length vs ≡ length ws → length (packed ws vs) ≡ width ws
unfolding packed width
length-packed-any [] vs e = refl
length-packed-any (w ∷ ws) [] e = absurd (omega arith)
length-packed-any (w ∷ ws) (v ∷ vs) e =
    omega (arith, length-append (be w v) (packed ws vs), length-be w v, length-packed-any ws vs (omega arith))

pub length-fit : (ws vs : List ℕ) → Fit ws vs → length vs ≡ length ws
unfolding Fit
length-fit [] [] h = refl
length-fit [] (v ∷ vs) h = absurd h
length-fit (w ∷ ws) [] h = absurd h
length-fit (w ∷ ws) (v ∷ vs) h = ap suc (length-fit ws vs h.1)

pub length-packed : (ws vs : List ℕ) → Fit ws vs → length (packed ws vs) ≡ width ws
length-packed ws vs h = length-packed-any ws vs (length-fit ws vs h)

pub fields-packed : (ws vs rest : List ℕ) → Fit ws vs → fields ws 0 (packed ws vs ++ rest) ≡ vs
unfolding fields packed Fit
fields-packed [] [] rest h = refl
fields-packed [] (v ∷ vs) rest h = absurd h
fields-packed (w ∷ ws) [] rest h = absurd h
fields-packed (w ∷ ws) (v ∷ vs) rest h =
    let l = length-be w v in
    let more = packed ws vs ++ rest in
    rw (
      append_assoc,
      zero-add,
      be_at-front w (be w v) more (omega arith),
      be_at-be w v h.0,
      fields-after ws w (be w v) more l,
      fields-packed ws vs rest h.1,
    )

-- behind any list
pub fields-packed-behind : (ws vs pre rest : List ℕ) → Fit ws vs → fields ws (length pre) (pre ++ (packed ws vs ++ rest)) ≡ vs
fields-packed-behind ws vs pre rest h = fields-after ws (length pre) pre (packed ws vs ++ rest) refl ∙ fields-packed ws vs rest h

-- with nothing behind
pub fields-of-packed : (ws vs : List ℕ) → Fit ws vs → fields ws 0 (packed ws vs) ≡ vs
fields-of-packed ws vs h = sym (fields-front ws 0 (packed ws vs) [] (omega (arith, length-packed ws vs h))) ∙ fields-packed ws vs [] h

-- Octets become numbers and come back.

part-add : (at n m : ℕ) (s : List ℕ) → part at n s ++ part (at + n) m s ≡ part at (n + m) s
unfolding part
part-add at n m s = rw (take-add n m (drop at s), drop-drop n at s)

pub packed-fields : (ws : List ℕ) (at : ℕ) (s : List ℕ) → at + width ws ≤ length s → ((i : ℕ) → get_or s i 0 < 256)
    → packed ws (fields ws at s) ≡ part at (width ws) s
unfolding packed fields width
packed-fields [] at s l h = sym (part_none at s)
packed-fields (w ∷ ws) at s l h =
    rw (be-be_at w s at (omega arith) h, packed-fields ws (at + w) s (omega arith) h) (part-add at w (width ws) s)

pub fields_fit : (ws : List ℕ) (at : ℕ) (s : List ℕ) → ((i : ℕ) → get_or s i 0 < 256) → Fit ws (fields ws at s)
unfolding fields Fit
fields_fit [] at s h = tt
fields_fit (w ∷ ws) at s h = (be_at-fits w s at h, fields_fit ws (at + w) s h)

-- Numbers that fit: one of them, and those of two lists.

-- past the end it is 0, in a field of no octets
pub fit_at : (ws vs : List ℕ) → Fit ws vs → (i : ℕ) → get_or vs i 0 < 256 ^ get_or ws i 0
unfolding Fit
fit_at [] [] h i = omega arith
fit_at [] (v ∷ vs) h i = absurd h
fit_at (w ∷ ws) [] h i = absurd h
fit_at (w ∷ ws) (v ∷ vs) h zero = h.0
fit_at (w ∷ ws) (v ∷ vs) h (suc i) = fit_at ws vs h.1 i

pub fit_append : (ws vs us xs : List ℕ) → Fit ws vs → Fit us xs → Fit (ws ++ us) (vs ++ xs)
unfolding Fit
fit_append [] [] us xs h k = k
fit_append [] (v ∷ vs) us xs h k = absurd h
fit_append (w ∷ ws) [] us xs h k = absurd h
fit_append (w ∷ ws) (v ∷ vs) us xs h k = (h.0, fit_append ws vs us xs h.1 k)

pub fit-split : (ws vs us xs : List ℕ) → length vs ≡ length ws → Fit (ws ++ us) (vs ++ xs) → Fit ws vs × Fit us xs
unfolding Fit
fit-split [] [] us xs e h = (tt, h)
fit-split [] (v ∷ vs) us xs e h = absurd (omega arith)
fit-split (w ∷ ws) [] us xs e h = absurd (omega arith)
fit-split (w ∷ ws) (v ∷ vs) us xs e h =
    let more = fit-split ws vs us xs (omega arith) h.1 in
    ((h.0, more.0), more.1)

-- Zeros.

pub fit-zeros : (ws : List ℕ) → Fit ws (zeros (length ws))
unfolding Fit
fit-zeros [] = tt
fit-zeros (w ∷ ws) = (one-le-pow w 256 (omega arith), fit-zeros ws)

pub packed-zeros : (ws : List ℕ) → packed ws (zeros (length ws)) ≡ zeros (width ws)
unfolding packed width
packed-zeros [] = refl
packed-zeros (w ∷ ws) = rw (be-zero w, packed-zeros ws) (replicate-append-replicate w (width ws) 0)

-- Things one after another.

module _ {A : Type 0} (to : A → List ℕ) where
  pub flat_append : (l m : List A) → flat to (l ++ m) ≡ flat to l ++ flat to m
  unfolding flat
  flat_append [] m = refl
  flat_append (a ∷ l) m = rw (flat_append l m) (sym (append_assoc (to a) (flat to l) (flat to m)))

  pub length-flat : (n : ℕ) → ((a : A) → length (to a) ≡ n) → (l : List A) → length (flat to l) ≡ length l * n
  unfolding flat
  length-flat n h [] = omega arith
  length-flat n h (a ∷ l) = omega (arith, length-append (to a) (flat to l), h a, length-flat n h l, suc-mul (length l) n)

-- One field of many, and several that follow each other: read, and replaced.

-- an octet as a number
pub be_at-one : (s : List ℕ) (at : ℕ) → get_or s at 0 ≡ be_at 1 s at
unfolding be_at
be_at-one s at = rw (add-zero, zero-add)

-- a number of n and m octets
pub be_at-add : (n m : ℕ) (s : List ℕ) (at : ℕ) → be_at (n + m) s at ≡ be_at n s at * 256 ^ m + be_at m s (at + n)
unfolding be_at
be_at-add n zero s at = rw add-zero (omega arith)
be_at-add n (suc m) s at =
    let e : n + suc m ≡ suc (n + m) = omega arith in
    let a : at + (n + m) ≡ at + n + m = omega arith in
    rw (e, a, be_at-add n m s at, pow-suc 256 m, add-mul, mul_assoc, add_assoc)

-- what is done behind a list
pub patch-behind : (x y z : List ℕ) (m a n : ℕ) → length x ≡ m → patch (m + a) n z (x ++ y) ≡ x ++ patch a n z y
unfolding patch
patch-behind x y z m a n e = rw (← e) (rw (take-append-add x y a, drop-append-add x y a, append_assoc))

-- past the last field both sides are 0
pub fields_at : (ws : List ℕ) (at : ℕ) (s : List ℕ) (i : ℕ) → get_or (fields ws at s) i 0 ≡ be_at (get_or ws i 0) s (at + width (take i ws))
unfolding fields width
fields_at [] at s i = unfold be_at in refl
fields_at (w ∷ ws) at s zero = ap (be_at w s) (omega arith)
fields_at (w ∷ ws) at s (suc i) = fields_at ws (at + w) s i ∙ ap (be_at (get_or ws i 0) s) (omega arith)

-- the number in field i is number i
pub get-field : (ws vs : List ℕ) → Fit ws vs → (i : ℕ) → be_at (get_or ws i 0) (packed ws vs) (width (take i ws)) ≡ get_or vs i 0
get-field ws vs h i =
    ap (be_at (get_or ws i 0) (packed ws vs)) (sym (zero-add (width (take i ws))))
    ∙ sym (fields_at ws 0 (packed ws vs) i)
    ∙ ap (λ (l : List ℕ). get_or l i 0) (fields-of-packed ws vs h)

-- where the field has one octet
pub get-octet : (ws vs : List ℕ) → Fit ws vs → (i : ℕ) → get_or ws i 0 ≡ 1 → get_or (packed ws vs) (width (take i ws)) 0 ≡ get_or vs i 0
get-octet ws vs h i e = be_at-one (packed ws vs) (width (take i ws)) ∙ (rw e at (get-field ws vs h i))

-- with v put in field i, number i is v
pub put-field : (ws vs : List ℕ) (i v : ℕ) → length vs ≡ length ws
    → patch (width (take i ws)) (get_or ws i 0) (be (get_or ws i 0) v) (packed ws vs) ≡ packed ws (set vs i v)
unfolding packed width
put-field [] [] i v e = put-none (width (take i [])) v []
put-field [] (x ∷ vs) i v e = absurd (omega arith)
put-field (w ∷ ws) [] i v e = absurd (omega arith)
put-field (w ∷ ws) (x ∷ vs) zero v e = unfold patch in rw (drop_at (be w x) (packed ws vs) w (length-be w x))
put-field (w ∷ ws) (x ∷ vs) (suc i) v e =
    patch-behind (be w x) (packed ws vs) (be (get_or ws i 0) v) w (width (take i ws)) (get_or ws i 0) (length-be w x)
    ∙ ap (λ (l : List ℕ). be w x ++ l) (put-field ws vs i v (omega arith))

pub packed-append : (ws us vs xs : List ℕ) → length vs ≡ length ws → packed (ws ++ us) (vs ++ xs) ≡ packed ws vs ++ packed us xs
unfolding packed
packed-append [] us [] xs e = refl
packed-append [] us (v ∷ vs) xs e = absurd (omega arith)
packed-append (w ∷ ws) us [] xs e = absurd (omega arith)
packed-append (w ∷ ws) us (v ∷ vs) xs e =
    rw (packed-append ws us vs xs (omega arith)) (sym (append_assoc (be w v) (packed ws vs) (packed us xs)))

-- several fields that follow each other, of the widths ws and with the numbers vs; before them bs with us, behind them cs with xs
module _ (bs ws cs us vs xs : List ℕ) (p : length us ≡ length bs) (q : length vs ≡ length ws) where
  in_three : packed (bs ++ (ws ++ cs)) (us ++ (vs ++ xs)) ≡ packed bs us ++ (packed ws vs ++ packed cs xs)
  in_three = packed-append bs (ws ++ cs) us (vs ++ xs) p ∙ ap (λ (l : List ℕ). packed bs us ++ l) (packed-append ws cs vs xs q)

  pub part-fields : part (width bs) (width ws) (packed (bs ++ (ws ++ cs)) (us ++ (vs ++ xs))) ≡ packed ws vs
  unfolding part
  part-fields =
      rw (
        in_three,
        drop_at (packed bs us) (packed ws vs ++ packed cs xs) (width bs) (length-packed-any bs us p),
        take_at (packed ws vs) (packed cs xs) (width ws) (length-packed-any ws vs q),
      )

  -- other numbers put in their place
  pub put-fields : (ys : List ℕ) → length ys ≡ length ws
      → patch (width bs) (width ws) (packed ws ys) (packed (bs ++ (ws ++ cs)) (us ++ (vs ++ xs))) ≡ packed (bs ++ (ws ++ cs)) (us ++ (ys ++ xs))
  unfolding patch
  put-fields ys r =
      rw (
        in_three,
        take_at (packed bs us) (packed ws vs ++ packed cs xs) (width bs) (length-packed-any bs us p),
        drop_at (packed bs us) (packed ws vs ++ packed cs xs) (width bs) (length-packed-any bs us p),
        drop_at (packed ws vs) (packed cs xs) (width ws) (length-packed-any ws vs q),
        packed-append bs (ws ++ cs) us (ys ++ xs) p,
        packed-append ws cs ys xs r,
      )

-- the k fields from field i on
module _ (ws vs : List ℕ) (i k : ℕ) (e : length vs ≡ length ws) (h : i + k ≤ length ws) where
  pub part-run : part (width (take i ws)) (width (part i k ws)) (packed ws vs) ≡ packed (part i k ws) (part i k vs)
  unfolding part
  part-run =
      let p : length (take i vs) ≡ length (take i ws) = simp length-take (omega arith) in
      let q : length (take k (drop i vs)) ≡ length (take k (drop i ws)) = simp (length-take, length-drop) (omega arith) in
      rw (take-append-drop k (drop i ws), take-append-drop i ws, take-append-drop k (drop i vs), take-append-drop i vs)
      at (part-fields (take i ws) (take k (drop i ws)) (drop k (drop i ws)) (take i vs) (take k (drop i vs)) (drop k (drop i vs)) p q)

  pub put-run : (ys : List ℕ) → length ys ≡ k
      → patch (width (take i ws)) (width (part i k ws)) (packed (part i k ws) ys) (packed ws vs) ≡ packed ws (patch i k ys vs)
  unfolding part patch
  put-run ys r =
      let p : length (take i vs) ≡ length (take i ws) = simp length-take (omega arith) in
      let q : length (take k (drop i vs)) ≡ length (take k (drop i ws)) = simp (length-take, length-drop) (omega arith) in
      let g : length ys ≡ length (take k (drop i ws)) = simp (length-take, length-drop) (omega arith) in
      rw (take-append-drop k (drop i ws), take-append-drop i ws, take-append-drop k (drop i vs), take-append-drop i vs)
      at (put-fields (take i ws) (take k (drop i ws)) (drop k (drop i ws)) (take i vs) (take k (drop i vs)) (drop k (drop i vs)) p q ys g)

  pub clear-run : patch (width (take i ws)) (width (part i k ws)) (zeros (width (part i k ws))) (packed ws vs) ≡ packed ws (patch i k (zeros k) vs)
  clear-run =
      let g : length (part i k ws) ≡ k = length_part i k ws h in
      ap (λ (l : List ℕ). patch (width (take i ws)) (width (part i k ws)) l (packed ws vs))
      (sym (packed-zeros (part i k ws)) ∙ ap (λ (n : ℕ). packed (part i k ws) (zeros n)) g)
      ∙ put-run (zeros k) (length-replicate k 0)
