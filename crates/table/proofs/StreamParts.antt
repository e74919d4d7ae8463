-- The parts of a stream record: StreamID, settled values, cells, results and what is sent; each read, or replaced.
use Prim.Native.Nat.{ℕ, ◌<◌}
use native.Mathlib.Omega.{arith}
use mathlib.Core.Path.{◌≡◌, refl, sym, ap, ◌∙◌}
use mathlib.Core.List.{List, [], ◌++◌, append_assoc, append-nil}
use lib.ListN.{length, get_or, set, length-append}
use Rattle.octets.specs.Be.{be_at, be}
use Rattle.octets.specs.Parts.{part, patch}
use Rattle.octets.specs.Fields.{packed, width, flat}
use Rattle.octets.proofs.Be.{length-be}
use Rattle.octets.proofs.Fields.{length-packed-any}
use Rattle.model.specs.Layout.{cell_in, cell_size, in_record, fixed_size, fixed_widths, result_in, result_size, sends_in, sends_size}
use Rattle.model.specs.State.{Fixed, Cell, Result, Sends, Stream, cell_at, result_at, sends_at, empty, unsettled, no_sends}
use Rattle.model.specs.Registrations.{at, change}
use Rattle.model.specs.WrittenFrames.{fixed_numbers}
use Rattle.model.specs.Sending.{sends_octets}
use Rattle.model.specs.Table.{cell_octets, result_octets, stream_octets, id_of}
use Rattle.model.specs.Laid.{FitCell, FitResult, FitSends, FitStream}
use Rattle.model.proofs.Parts.{part-between}
use Rattle.model.proofs.Cells.{cells-sized}
use Rattle.model.proofs.Results.{results-sized}
use Rattle.model.proofs.Tables.{name, name-length, Eights, sends-sized, length-cells, length-results, id-read}
use Rattle.table.specs.Updates.{settled_as, resulting}
pub use Rattle.table.specs.Reads.{fixed_octets}
pub use Rattle.table.proofs.Lens.{at_set}
use Rattle.table.proofs.Lens.{patch-between, all-at, part-one, patch-one}

-- StreamID and settled values.

pub id-at : (x : Stream) → FitStream x → be_at 8 (stream_octets x) 0 ≡ x.id
unfolding id_of
id-at x w = id-read x w.name

pub fixed-length : (f : Fixed) → length (fixed_octets f) ≡ fixed_size
unfolding fixed_octets fixed_numbers width
fixed-length f = length-packed-any fixed_widths (fixed_numbers f) refl

-- its cells, its results and what is sent of it; these follow the settled values
abbrev cells_whole : Stream → List ℕ
cells_whole x = flat cell_octets x.cells

abbrev results_whole : Stream → List ℕ
results_whole x = flat result_octets x.results

abbrev sends_whole : Stream → List ℕ
sends_whole x = flat sends_octets x.sends

abbrev pub behind_name : Stream → List ℕ
behind_name x = cells_whole x ++ (results_whole x ++ sends_whole x)

pub settled-laid : (x : Stream) → stream_octets x ≡ be 8 x.id ++ (fixed_octets x.settled ++ behind_name x)
unfolding stream_octets fixed_octets packed
settled-laid x = append_assoc (be 8 x.id) (packed fixed_widths (fixed_numbers x.settled)) (behind_name x)

pub settled-part : (x : Stream) → part in_record.settled fixed_size (stream_octets x) ≡ fixed_octets x.settled
settled-part x =
    ap (part in_record.settled fixed_size) (settled-laid x)
    ∙ part-between (be 8 x.id) (fixed_octets x.settled) (behind_name x) in_record.settled fixed_size (length-be 8 x.id)
    (fixed-length x.settled)

pub settled-patch : (x : Stream) (f : Fixed) → patch in_record.settled fixed_size (fixed_octets f) (stream_octets x) ≡ stream_octets (settled_as f x)
settled-patch x f =
    ap (patch in_record.settled fixed_size (fixed_octets f)) (settled-laid x)
    ∙ patch-between (be 8 x.id) (fixed_octets x.settled) (behind_name x) (fixed_octets f) in_record.settled fixed_size
    (length-be 8 x.id) (fixed-length x.settled)
    ∙ sym (settled-laid (settled_as f x))

-- Cells.

module _ (x : Stream) (w : FitStream x) (p a : ℕ) (h : p < 8) (e : a ≡ cell_in p) where
  a-cell : p < length x.cells
  a-cell = omega (arith, w.eight_cells)

  pub cell-part : part a cell_size (stream_octets x) ≡ cell_octets (cell_at x p)
  unfolding stream_octets cell_at
  cell-part = part-one cell_size cell_octets in_record.cells (name x) (results_whole x ++ sends_whole x) (name-length x) x.cells (cells-sized x.cells) p a a-cell e empty

  pub cell-patch : (u : Cell → Cell) → patch a cell_size (cell_octets (u (cell_at x p))) (stream_octets x) ≡ stream_octets (change (at p u) (λ m. m) x)
  unfolding stream_octets cell_at change
  cell-patch u =
      patch-one cell_size cell_octets in_record.cells (name x) (results_whole x ++ sends_whole x) (name-length x) x.cells (cells-sized x.cells) p a a-cell e
      (u (get_or x.cells p empty))
      ∙ ap (λ (l : List Cell). name x ++ (flat cell_octets l ++ (results_whole x ++ sends_whole x))) (at_set p u x.cells empty a-cell)

  pub cell-fits : FitCell (cell_at x p)
  unfolding cell_at
  cell-fits = all-at FitCell x.cells w.cells p empty a-cell

-- Results.

abbrev ahead : Stream → List ℕ
ahead x = name x ++ cells_whole x

results-laid : (x : Stream) → stream_octets x ≡ ahead x ++ (results_whole x ++ sends_whole x)
unfolding stream_octets
results-laid x = simp append_assoc

eights : (x : Stream) → FitStream x → Eights x
eights x w = record { cells = w.eight_cells; results = w.eight_results; sends = w.eight_sends }

module _ (x : Stream) (w : FitStream x) where
  ahead-length : length (ahead x) ≡ in_record.results
  ahead-length = length-append (name x) (cells_whole x) ∙ omega (arith, name-length x, length-cells x (eights x w))

  module _ (p a : ℕ) (h : p < 8) (e : a ≡ result_in p) where
    a-result : p < length x.results
    a-result = omega (arith, w.eight_results)

    pub result-part : part a result_size (stream_octets x) ≡ result_octets (result_at x p)
    unfolding result_at
    result-part =
        ap (part a result_size) (results-laid x)
        ∙ part-one result_size result_octets in_record.results (ahead x) (sends_whole x) ahead-length x.results (results-sized x.results) p a a-result e unsettled

    pub result-patch : (r : Result) → patch a result_size (result_octets r) (stream_octets x) ≡ stream_octets (resulting (λ l. set l p r) x)
    result-patch r =
        ap (patch a result_size (result_octets r)) (results-laid x)
        ∙ patch-one result_size result_octets in_record.results (ahead x) (sends_whole x) ahead-length x.results (results-sized x.results) p a a-result e r
        ∙ sym (results-laid (resulting (λ l. set l p r) x))

    pub result_fits : FitResult (result_at x p)
    unfolding result_at
    result_fits = all-at FitResult x.results w.results p unsettled a-result

-- What is sent.

sends-laid : (x : Stream) → stream_octets x ≡ (ahead x ++ results_whole x) ++ (sends_whole x ++ [])
unfolding stream_octets
sends-laid x = simp (append_assoc, append-nil)

module _ (x : Stream) (w : FitStream x) where
  before-sends : length (ahead x ++ results_whole x) ≡ in_record.sends
  before-sends = length-append (ahead x) (results_whole x) ∙ omega (arith, ahead-length x w, length-results x (eights x w))

  module _ (p a : ℕ) (h : p < 8) (e : a ≡ sends_in p) where
    a-sends : p < length x.sends
    a-sends = omega (arith, w.eight_sends)

    pub sends-part : part a sends_size (stream_octets x) ≡ sends_octets (sends_at x p)
    unfolding sends_at
    sends-part =
        ap (part a sends_size) (sends-laid x)
        ∙ part-one sends_size sends_octets in_record.sends (ahead x ++ results_whole x) [] before-sends x.sends (sends-sized x.sends) p a a-sends e no_sends

    pub sends-patch : (u : Sends → Sends) → patch a sends_size (sends_octets (u (sends_at x p))) (stream_octets x) ≡ stream_octets (change (λ l. l) (at p u) x)
    unfolding sends_at change
    sends-patch u =
        ap (patch a sends_size (sends_octets (u (get_or x.sends p no_sends)))) (sends-laid x)
        ∙ patch-one sends_size sends_octets in_record.sends (ahead x ++ results_whole x) [] before-sends x.sends (sends-sized x.sends) p a a-sends e
        (u (get_or x.sends p no_sends))
        ∙ ap (λ (l : List Sends). (ahead x ++ results_whole x) ++ (flat sends_octets l ++ [])) (at_set p u x.sends no_sends a-sends)
        ∙ sym (sends-laid (change (λ l. l) (at p u) x))

    pub sends-fit : FitSends (sends_at x p)
    unfolding sends_at
    sends-fit = all-at FitSends x.sends w.sends p no_sends a-sends
