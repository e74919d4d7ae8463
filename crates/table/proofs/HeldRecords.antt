-- Whether some port has a registration of a stream or sends of it, read from its record part by part.
use Rattle.std.proofs.Common.{ℕ, zero, suc, refl, ◌/◌, ◌≡◌, sym, ◌∙◌, Bool, ◌||◌, not, eqb, List, length, get_or, take, drop, arith}
use Rattle.std.proofs.lemmas.List.{get_or-take, length-take-le, length-drop}
use Rattle.std.specs.List.{list_any}
use Rattle.std.specs.Simd.{first_chunks}
use Rattle.octets.specs.Parts.{part}
use Rattle.model.specs.Layout.{all_sends_size, cell_size, in_record, cells_size, in_cell, in_sends, record_size, sends_size}
use Rattle.model.specs.Settling.{held, any_sending}
use Rattle.model.specs.Table.{to_stream, cells_part, holds, all_sends_part, sends}
use Rattle.model.proofs.Cells.{holds_parts}
use Rattle.model.proofs.SendsOctets.{sends-parts}

-- a cell has a registration
abbrev pub registers : List ℕ → Bool
registers cell = not (eqb (get_or cell 0 0) 0) || not (eqb (get_or cell in_cell.listener 0) 0)

holds-any : (k : ℕ) (s : List ℕ) → holds k s ≡ list_any registers (first_chunks cell_size k s)
unfolding holds
holds-any zero s = refl
holds-any (suc k) s =
    rw (get_or-take cell_size s 0 0 (omega arith), get_or-take cell_size s in_cell.listener 0 (omega arith), holds-any k (drop cell_size s))

-- so in the cells of a record
pub held_any : (s : List ℕ) → length s ≡ record_size → (cells : List (List ℕ))
    → cells ≡ first_chunks cell_size (length (take cells_size (drop in_record.cells s)) / cell_size) (take cells_size (drop in_record.cells s))
    → list_any registers cells ≡ held (to_stream s).cells
unfolding to_stream cells_part part
held_any s h cells e =
    let n : length (take cells_size (drop in_record.cells s)) / cell_size ≡ 8 = omega (arith, length-take-le cells_size (drop in_record.cells s) (omega (arith, length-drop in_record.cells s))) in
    rw (e, n) (sym (holds-any 8 (take cells_size (drop in_record.cells s))) ∙ holds_parts 8 (take cells_size (drop in_record.cells s)))

-- a port sends
abbrev pub sending : List ℕ → Bool
sending sent = not (eqb (get_or sent in_sends.advertising 0) 0) || not (eqb (get_or sent in_sends.failing 0) 0) || not (eqb (get_or sent in_sends.listening 0) 0)

sends-any : (k : ℕ) (s : List ℕ) → sends k s ≡ list_any sending (first_chunks sends_size k s)
unfolding sends
sends-any zero s = refl
sends-any (suc k) s =
    rw (
      get_or-take sends_size s in_sends.advertising 0 (omega arith),
      get_or-take sends_size s in_sends.failing 0 (omega arith),
      get_or-take sends_size s in_sends.listening 0 (omega arith),
      sends-any k (drop sends_size s),
    )

-- so in what the ports send of a record
pub sent_any : (s : List ℕ) → length s ≡ record_size → (ports : List (List ℕ))
    → ports ≡ first_chunks sends_size (length (take all_sends_size (drop in_record.sends s)) / sends_size) (take all_sends_size (drop in_record.sends s))
    → list_any sending ports ≡ any_sending (to_stream s).sends
unfolding to_stream all_sends_part part
sent_any s h ports e =
    let n : length (take all_sends_size (drop in_record.sends s)) / sends_size ≡ 8 = omega (arith, length-take-le all_sends_size (drop in_record.sends s) (omega (arith, length-drop in_record.sends s))) in
    rw (e, n) (sym (sends-any 8 (take all_sends_size (drop in_record.sends s))) ∙ sends-parts 8 (take all_sends_size (drop in_record.sends s)))
