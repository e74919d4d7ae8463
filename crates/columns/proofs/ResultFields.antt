-- A result's fields, written one after another over what was there.
use mathlib.Core.Path.{◌≡◌, refl, sym, ap, ◌∙◌}
use mathlib.Core.List.{List, [], ◌∷◌, ◌++◌, append_assoc}
use Prim.Native.Nat.{ℕ, ◌+◌, ◌≤◌}
use native.Mathlib.Nat.{add-zero, add_assoc}
use native.Mathlib.Omega.{arith}
use lib.ListN.{length, take, drop}
use lib.Seq.{length-take-le, drop-drop}
use Rattle.octets.specs.Be.{be}
use Rattle.octets.specs.Parts.{patch}
use Rattle.octets.specs.Fields.{packed, width}
use Rattle.octets.proofs.Be.{length-be}
use Rattle.octets.proofs.Parts.{length-patch, patch-none, patch-is}
use Rattle.octets.proofs.Fields.{length-packed-any, packed-append, patch-behind}
use Rattle.model.specs.Layout.{in_result, result_size}
use Rattle.model.specs.State.{Column, Entry, Declared}
use Rattle.model.specs.Settling.{entry_of, age_of, age_kept}
use Rattle.model.specs.Table.{result_numbers, result_octets, entry_number, declared_number, to_result}
use Rattle.table.proofs.Lens.{patch-whole}
use Rattle.columns.specs.Stages.{shown_by}
use Rattle.columns.specs.Answers.{column_widths, column_numbers, entry_widths, entry_size}

-- a part replaced, and then that right behind it
patch-next : (a n m : ℕ) (x y s : List ℕ) → length x ≡ n → a ≤ length s → patch (a + n) m y (patch a n x s) ≡ patch a (n + m) (x ++ y) s
patch-next a n m x y s e h =
    let r = drop (a + n) s in
    ap (patch (a + n) m y) (patch-is a n x s)
    ∙ patch-behind (take a s) (x ++ r) y a n m (length-take-le a s h)
    ∙ ap (λ (k : ℕ). take a s ++ patch k m y (x ++ r)) (sym (add-zero n))
    ∙ ap (λ (l : List ℕ). take a s ++ l) (patch-behind x r y n 0 m e)
    ∙ unfold patch in rw (drop-drop m (a + n) s, drop-drop (n + m) a s, append_assoc, add_assoc)

-- fields put one after another, from place a on
unfoldable pub puts : List ℕ → List ℕ → ℕ → List ℕ → List ℕ
puts [] vs a s = s
puts (w ∷ ws) [] a s = s
puts (w ∷ ws) (v ∷ vs) a s = puts ws vs (a + w) (patch a w (be w v) s)

pub puts-packed : (ws vs : List ℕ) → length vs ≡ length ws → (a : ℕ) (s : List ℕ) → a + width ws ≤ length s
    → puts ws vs a s ≡ patch a (width ws) (packed ws vs) s
unfolding puts packed width
puts-packed [] [] e a s h = sym (patch-none a s)
puts-packed [] (v ∷ vs) e a s h = absurd (omega arith)
puts-packed (w ∷ ws) [] e a s h = absurd (omega arith)
puts-packed (w ∷ ws) (v ∷ vs) e a s h =
    puts-packed ws vs (omega arith) (a + w) (patch a w (be w v) s) (omega (arith, length-patch a w (be w v) s (length-be w v) (omega arith)))
    ∙ patch-next a w (width ws) (be w v) (packed ws vs) s (length-be w v) (omega arith)

-- those of the column and those of the entry: the result as a whole
pub result-put : (column : Column) (latency : ℕ) (heard : Declared) (now : ℕ) (e : Entry) (a : ℕ) (s : List ℕ) → length s ≡ result_size
    → e ≡ entry_of column heard → a ≡ age_kept e (age_of now (to_result s))
    → patch in_result.entry entry_size (packed entry_widths (entry_number e ∷ a ∷ 0 ∷ [])) (patch 0 in_result.entry (packed column_widths (column_numbers column latency)) s)
    ≡ result_octets (shown_by column latency heard now (to_result s))
unfolding result_octets result_numbers column_numbers declared_number width
result-put column latency heard now e a s l p q =
    let vs = column_numbers column latency in
    let us : List ℕ = entry_number e ∷ a ∷ 0 ∷ [] in
    patch-next 0 in_result.entry entry_size (packed column_widths vs) (packed entry_widths us) s (length-packed-any column_widths vs refl) (omega arith)
    ∙ patch-whole result_size (packed column_widths vs ++ packed entry_widths us) s l
    ∙ sym (packed-append column_widths entry_widths vs us refl)
    ∙ rw (q, p)
