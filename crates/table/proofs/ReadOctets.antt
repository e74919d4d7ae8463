-- Octets that the code looks at in parts that were handed out: of a result its whole, and the numbers of its fields of one octet;
-- of a cell its Listener.
use Prim.Native.Nat.{ℕ}
use mathlib.Core.Path.{◌≡◌, refl, ap, ◌∙◌, subst}
use mathlib.Core.List.{List, ◌++◌}
use lib.ListN.{get_or, take}
use Rattle.octets.specs.Fields.{width}
use Rattle.octets.proofs.Fields.{get-octet}
use Rattle.model.specs.Layout.{cell_widths, in_result, cell_index, in_cell, result_widths}
use Rattle.model.specs.State.{Talker, no_talker, talker, Listener, no_listener, listener, Cell, Result}
use Rattle.model.specs.WrittenFrames.{fixed_numbers}
use Rattle.model.specs.Settling.{registered}
use Rattle.model.specs.Table.{column_number, column_code, entry_number, declared_number, talker_numbers, listener_numbers, cell_numbers, cell_octets, to_cell, result_numbers, result_octets}
use Rattle.model.specs.Laid.{FitResult}
use Rattle.model.proofs.Fits.{laid-cell-is, laid-cell-fits, laid-result-is, laid-result-fits}
use Rattle.table.specs.Reads.{ReadsCell, ReadsResult}

module _ {s : List ℕ} {r : Result} (w : ReadsResult s r) where
  pub result-is : s ≡ result_octets r
  result-is = laid-result-is s w.laid ∙ ap result_octets w.is

  -- field i
  result-octet : (i : ℕ) → get_or result_widths i 0 ≡ 1 → get_or s (width (take i result_widths)) 0 ≡ get_or (result_numbers r) i 0
  unfolding result_octets
  result-octet i o =
      ap (λ (y : List ℕ). get_or y (width (take i result_widths)) 0) result-is
      ∙ get-octet result_widths (result_numbers r) (subst FitResult w.is (laid-result-fits s w.laid)) i o

  pub column-octet : get_or s 0 0 ≡ column_number r.column
  unfolding width result_numbers
  column-octet = result-octet 0 refl

  pub code-octet : get_or s in_result.code 0 ≡ column_code r.column
  unfolding width result_numbers
  code-octet = result-octet 3 refl

  pub entry-octet : get_or s in_result.entry 0 ≡ entry_number r.entry
  unfolding width result_numbers
  entry-octet = result-octet 4 refl

  pub declared-octet : get_or s in_result.declared 0 ≡ declared_number r.declares
  unfolding width result_numbers
  declared-octet = result-octet 6 refl

listener-number : (t : Talker) (h : Listener)
    → get_or (talker_numbers t ++ listener_numbers h) cell_index.listener 0 ≡ declared_number (registered record { talks = t; hears = h })
unfolding talker_numbers listener_numbers fixed_numbers declared_number registered
listener-number no_talker no_listener = refl
listener-number no_talker (listener r l) = refl
listener-number (talker k) no_listener = refl
listener-number (talker k) (listener r l) = refl

-- the Listener registered in a cell
pub listener-octet : {s : List ℕ} {c : Cell} → ReadsCell s c → get_or s in_cell.listener 0 ≡ declared_number (registered c)
unfolding cell_octets cell_numbers width
listener-octet {s = s} h =
    let c = to_cell s in
    ap (λ (t : List ℕ). get_or t in_cell.listener 0) (laid-cell-is s h.laid)
    ∙ get-octet cell_widths (cell_numbers c) (laid-cell-fits s h.laid).numbers cell_index.listener refl
    ∙ listener-number c.talks c.hears
    ∙ ap (λ (c : Cell). declared_number (registered c)) h.is
