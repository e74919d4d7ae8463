-- What a stream has registered at its Talker port: the cell there as its source, and the octets of the fixed values in it.
use mathlib.Core.Path.{◌≡◌, refl, sym, ap, ◌∙◌}
use mathlib.Core.List.{List}
use Prim.Native.Nat.{ℕ}
use native.Mathlib.Omega.{arith}
use lib.ListN.{length}
use Rattle.octets.specs.Parts.{part}
use Rattle.octets.specs.Fields.{fields, packed, width}
use Rattle.octets.proofs.Fields.{fields-of-packed, length-fit, part-run}
use Rattle.model.specs.Layout.{cell_widths, cell_index, in_cell, fixed_size, fixed_widths}
use Rattle.model.specs.State.{Talker, no_talker, talker, Cell, Stream, no_fixed, cell_at}
use Rattle.model.specs.WrittenFrames.{priority_octet, fixed_numbers}
use Rattle.model.specs.Settling.{Source, source_of, fixed_of}
use Rattle.model.specs.Table.{cell_numbers, cell_octets, talker_numbers, to_cell}
use Rattle.model.specs.Laid.{FitCell, FitStream, LaidCell}
use Rattle.model.proofs.Lists.{all_map}
use Rattle.model.proofs.Cells.{fixed-fit}
use Rattle.model.proofs.Fits.{latest, longest, fit-cell, laid-cell-is, laid-cell-fits}
use Rattle.model.proofs.Valid.{ValidCell}
use Rattle.model.proofs.AdvanceKeepsForm.{ValidSource, source-valid, fixed-valid}
use Rattle.table.specs.Reads.{FitFixed, fixed_octets, ReadsCell, ReadsFixed}
use Rattle.table.proofs.ByPlace.{reads-fixed}
use Rattle.streams.specs.Answers.{talker_port, source_in}
use Rattle.streams.proofs.Sources.{source-at}

fixed-numbers : (t : ℕ) (k : Talker) (c : Cell) → c.talks ≡ k → part cell_index.fixed (length fixed_widths) (cell_numbers c) ≡ fixed_numbers (fixed_of (source_in t c))
unfolding part fixed_of no_fixed source_in cell_numbers talker_numbers fixed_numbers priority_octet
fixed-numbers t no_talker c e = rw e
fixed-numbers t (talker r) c e = rw e

-- Of octets that are laid out as a cell.

module _ (s : List ℕ) (l : LaidCell s) where
  pub numbers-laid : fields cell_widths 0 s ≡ cell_numbers (to_cell s)
  unfolding cell_octets
  numbers-laid =
      ap (fields cell_widths 0) (laid-cell-is s l) ∙ fields-of-packed cell_widths (cell_numbers (to_cell s)) (laid-cell-fits s l).numbers

  pub fixed-part : (t : ℕ) → part in_cell.fixed fixed_size s ≡ fixed_octets (fixed_of (source_in t (to_cell s)))
  unfolding cell_octets fixed_octets width part
  fixed-part t =
      let c = to_cell s in
      ap (part in_cell.fixed fixed_size) (laid-cell-is s l)
      ∙ part-run cell_widths (cell_numbers c) cell_index.fixed (length fixed_widths) (length-fit cell_widths (cell_numbers c) (laid-cell-fits s l).numbers) (omega arith)
      ∙ ap (packed fixed_widths) (fixed-numbers t c.talks c refl)

-- Of a stream that fits its fields.

module _ (x : Stream) (w : FitStream x) where
  pub source_fits : ValidSource latest longest (source_of x)
  unfolding source_of
  source_fits = source-valid latest longest 0 x.cells (all_map FitCell (ValidCell latest longest) fit-cell x.cells w.cells)

  pub settled-values : FitFixed (fixed_of (source_of x))
  settled-values =
      let v = fixed-valid latest longest (source_of x) source_fits in
      record { numbers = fixed-fit (fixed_of (source_of x)) v; rank = v.rank }

-- The cell at place t of a stream whose Talker stands there, in the octets s.

module _ (x : Stream) (t : ℕ) (e : t ≡ talker_port (source_of x)) (s : List ℕ) (r : ReadsCell s (cell_at x t)) where
  pub source-read : source_in t (to_cell s) ≡ source_of x
  source-read = ap (source_in t) r.is ∙ rw e (sym (source-at x))

  pub fixed-read : FitStream x → ReadsFixed (part in_cell.fixed fixed_size s) (fixed_of (source_of x))
  fixed-read w =
      reads-fixed (fixed_of (source_of x)) (settled-values x w) (part in_cell.fixed fixed_size s)
      (fixed-part s r.laid t ∙ ap (λ (o : Source). fixed_octets (fixed_of o)) source-read)
