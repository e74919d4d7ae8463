-- Octets moved up or down: what a gap that was made or closed leaves.
use Prim.Native.Nat.{ℕ, ◌+◌}
use native.Mathlib.Omega.{arith}
use mathlib.Core.Path.{◌≡◌, sym, ap, ◌∙◌}
use mathlib.Core.List.{List, ◌++◌, append_assoc}
use lib.ListN.{length, take, drop, length-append, length-drop, take-append-drop}
use lib.Seq.{take-append-add, length-take-le, drop_at}
use Rattle.octets.specs.Parts.{part, patch, zeros}
use Rattle.octets.proofs.Parts.{patch-is}
use Rattle.model.proofs.Parts.{part-between}
use Rattle.table.proofs.Lens.{patch-between}

-- n octets moved up by d, and zeros in the room so made
pub gap-made : (x y z r : List ℕ) (at n d : ℕ) → length x ≡ at → length y ≡ n → length z ≡ d
    → patch at d (zeros d) (patch (at + d) n (part at n (x ++ (y ++ (z ++ r)))) (x ++ (y ++ (z ++ r)))) ≡ x ++ (zeros d ++ (y ++ r))
gap-made x y z r at n d p q o =
    let s = x ++ (y ++ (z ++ r)) in
    let over = take d (y ++ (z ++ r)) in
    let few : length over ≡ d =
    length-take-le d (y ++ (z ++ r)) (omega (arith, length-append y (z ++ r), length-append z r)) in
    let front : take (at + d) s ≡ x ++ over = ap (λ (k : ℕ). take (k + d) s) (sym p) ∙ take-append-add x (y ++ (z ++ r)) d in
    let long : length ((x ++ y) ++ z) ≡ at + d + n = omega (arith, length-append (x ++ y) z, length-append x y) in
    let behind : drop (at + d + n) s ≡ r = ap (drop (at + d + n)) (simp append_assoc) ∙ drop_at ((x ++ y) ++ z) r (at + d + n) long in
    ap (λ (m : List ℕ). patch at d (zeros d) (patch (at + d) n m s)) (part-between x y (z ++ r) at n p q)
    ∙ ap (patch at d (zeros d)) (patch-is (at + d) n y s ∙ rw (front, behind) (append_assoc x over (y ++ r)))
    ∙ patch-between x over (y ++ r) (zeros d) at d p few

-- d octets taken out: the n behind them moved down, and zeros in the room so freed
pub gap-closed : (x y z r : List ℕ) (at n d : ℕ) → length x ≡ at → length y ≡ d → length z ≡ n
    → patch (at + n) d (zeros d) (patch at n (part (at + d) n (x ++ (y ++ (z ++ r)))) (x ++ (y ++ (z ++ r)))) ≡ x ++ (z ++ (zeros d ++ r))
gap-closed x y z r at n d p q o =
    let s = x ++ (y ++ (z ++ r)) in
    let whole : length (y ++ z) ≡ d + n = length-append y z ∙ omega arith in
    let first = take n (y ++ z) in
    let last = drop n (y ++ z) in
    let moved : part (at + d) n s ≡ z =
    ap (part (at + d) n) (sym (append_assoc x y (z ++ r))) ∙ part-between (x ++ y) z r (at + d) n (length-append x y ∙ omega arith) o in
    let cut : s ≡ x ++ (first ++ (last ++ r)) =
    ap (λ (t : List ℕ). x ++ t) (sym (append_assoc y z r) ∙ ap (λ (t : List ℕ). t ++ r) (sym (take-append-drop n (y ++ z))) ∙ append_assoc first last r) in
    let few : length first ≡ n = length-take-le n (y ++ z) (omega (arith, whole)) in
    let rest : length last ≡ d = length-drop n (y ++ z) ∙ omega (arith, whole) in
    let stored : patch at n (part (at + d) n s) s ≡ x ++ (z ++ (last ++ r)) =
    ap (λ (t : List ℕ). patch at n t s) moved ∙ ap (patch at n z) cut ∙ patch-between x first (last ++ r) z at n p few in
    ap (patch (at + n) d (zeros d)) (stored ∙ sym (append_assoc x z (last ++ r)))
    ∙ patch-between (x ++ z) last r (zeros d) (at + n) d (length-append x z ∙ omega arith) rest
    ∙ append_assoc x z (zeros d ++ r)
