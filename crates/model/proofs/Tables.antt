-- The table as octets and back: nothing is lost either way, and the octets that keep the form rules are those of valid bridges.
use mathlib.Core.Path.{◌≡◌, refl, sym, ◌∙◌, ap, ap₂}
use mathlib.Core.List.{List, [], ◌∷◌, ◌++◌, append_assoc, append-nil}
use mathlib.Core.Bool.{Bool, true, false, cond, ◌&&◌, ◌||◌}
use Prim.Native.Nat.{ℕ, zero, suc, ◌+◌, ◌*◌, ◌-◌, ◌%◌, ◌^◌, ◌≤◌, ◌<◌}
use native.Mathlib.Omega.{arith}
use lib.ListN.{length, get_or, take, drop, replicate, take-append-drop, length-append, length-drop}
use lib.Seq.{take_at, drop_at, drop-drop, take_all, length-take-le}
use lib.Dec.{eqb, leb}
use borrow.Author.Tests.{eq-eqb, eqb-true, le-leb, leb-true}
use Rattle.octets.specs.Fields.{fields, packed, Fit, width, flat}
use Rattle.octets.specs.Parts.{part, zeros}
use Rattle.octets.proofs.Parts.{length_part}
use Rattle.octets.proofs.Fields.{length-packed-any, fields-packed, fields-packed-behind, fields-of-packed, packed-fields, fields_fit, fit_at, be_at-fits, packed-zeros}
use Rattle.model.specs.Layout.{all_sends_size, cell_size, cells_size, clock_size, clock_widths, in_record, in_table, name_size, name_widths, own_size, owns_size, port_place, port_size, record_size, records_size, result_size, results_size, sender_size, senders_size, sends_size, settings_size, table_length, total_size, totals_size, totals_widths}
use Rattle.model.specs.Lists.{All, all_true, parts, Octets, implies, all_zero}
use Rattle.model.specs.State.{Port, Totals, Sends, Sender, Stream, Bridge, empty, unsettled, no_totals, no_own, no_sends, no_sender, started_sender, started, no_fixed, cell_at, result_at, sends_at, sender_at, declares_slot, class_b, in_force}
use Rattle.model.specs.Registrations.{ids}
use Rattle.model.specs.Settling.{held, any_sending, is_held}
use Rattle.model.specs.Sending.{sends_octets, to_sends, sends_formed, sender_octets, to_sender}
use Rattle.model.specs.WrittenFrames.{fixed_numbers, priority_octet, fixed_from}
use Rattle.model.specs.Table.{settings_octets, ports_field, to_settings, settings_rules, settings_formed, every_part, cell_octets, to_cell, cell_formed, result_octets, to_result, result_formed, cells_part, results_part, all_sends_part, holds, sends, stream_octets, to_stream, stream_rules, stream_formed, totals_octets, to_totals, own_octets, to_own, own_formed, encode, settings_part, clock_field, count_field, totals_part, owns_part, senders_part, records_part, decode, rising, id_of, totals_within, table_rules, formed, talkers, declarers, stored_formed, sent_formed, every_port, at_most, any_held, any_holds, senders_formed}
use Rattle.model.specs.Laid.{FitSettings, FitOwn, FitSender, FitStream, FitTotals, FitBridge}
use Rattle.model.proofs.Lists.{and_left, and_right, and_both, all_map, all-each, all_drop, all_replicate, at_place, length-tabulate, all_true_lem, true-all, implied, implies_true}
use Rattle.model.proofs.Valid.{ValidCell, ValidResult, ValidPort, ValidFixed, ValidOwn, ValidStream, Rising, Valid}
use Rattle.model.proofs.Parts.{◌also◌, octets-at, packed-whole, octets-append, octets-take, octets-drop, octets-part, octets-zeros, octets-packed, octets-flat, length-zeros, zero-zeros, zeros-zero, part-between, length-parts, parts-map, Sized, length-flat-sized, parts-flat, many_read, every-read, every-forth, every-flat, rising-rises, rises-rising, zero-behind}
use Rattle.model.specs.Frames.{priority_of, rank_of}
use Rattle.model.proofs.Stored.{port-kept, ports-kept}
use Rattle.model.proofs.Cells.{fixed-fit, fixed_back, fixed-forth, fixed-valid, priority-spare, cell-length, cell-octets, cells-sized, cell-back, cell-formed, cell-forth, cell-valid, cell-zeros, holds_parts, held-append, held-empty}
use Rattle.model.proofs.Results.{result-length, result-octets, results-sized, result-back, result-formed, result-forth, result-valid, result-zeros}
use Rattle.model.proofs.Coded.{Coded, many-back, many-keep, many-rest, many-forth, many-valid, many-others, some_is}
use Rattle.model.proofs.AdvanceKeepsForm.{all-drop-tabulate}
use Rattle.model.proofs.SendsOctets.{sends-coded, sends-length, sends-octets, sends-parts, sending-append, sending-none}
use Rattle.model.proofs.SenderOctets.{sender_rule, sender-coded, sender-octets, valid-sender-fits, sender-formed, senders-formed, senders-rule, senders-valid, started-valid, started_none}
use Rattle.model.proofs.Owns.{own-length, own-octets, own-fit-back, valid-own-fits, owns-coded}
use Rattle.model.proofs.SettingsOctets.{limit-b-fits, octet-field, settings-length, ports-read, fit-back, settings-fit, settings-rules, settings-ports, settings-taken, settings-valid, settings-room, eight_ports, formed-valid, octets-settings}

-- A stream's record: StreamID and settled values, cells, results, what is sent.

abbrev pub name : Stream → List ℕ
name x = packed name_widths (x.id ∷ fixed_numbers x.settled)

pub name-length : (x : Stream) → length (name x) ≡ name_size
unfolding fixed_numbers width
name-length x = length-packed-any name_widths (x.id ∷ fixed_numbers x.settled) refl

-- a record is its parts
four-parts : (s : List ℕ) → length s ≡ record_size → s ≡ part 0 name_size s ++ (cells_part s ++ (results_part s ++ all_sends_part s))
unfolding part cells_part results_part all_sends_part
four-parts s l =
    let h : length (drop in_record.sends s) ≤ all_sends_size = omega (arith, length-drop in_record.sends s) in
    rw (
      take_all all_sends_size (drop in_record.sends s) h,
      ← drop-drop results_size in_record.results s,
      take-append-drop results_size (drop in_record.results s),
      ← drop-drop cells_size in_record.cells s,
      take-append-drop cells_size (drop in_record.cells s),
    )
    (sym (take-append-drop name_size s))

-- what stands behind the name, by its parts
abbrev cells_whole : Stream → List ℕ
cells_whole x = flat cell_octets x.cells

abbrev results_whole : Stream → List ℕ
results_whole x = flat result_octets x.results

abbrev sends_whole : Stream → List ℕ
sends_whole x = flat sends_octets x.sends

pub sends-sized : (l : List Sends) → All (Sized sends_size sends_octets) l
sends-sized = all-each (Sized sends_size sends_octets) sends-length

-- eight cells, results and places of what is sent
pub record Eights (x : Stream) : Type 0 where
  pub cells : length x.cells ≡ 8
  pub results : length x.results ≡ 8
  pub sends : length x.sends ≡ 8

module _ (x : Stream) (eight : Eights x) where
  pub length-cells : length (flat cell_octets x.cells) ≡ cells_size
  length-cells = omega (arith, length-flat-sized cell_size cell_octets x.cells (cells-sized x.cells), eight.cells)

  pub length-results : length (flat result_octets x.results) ≡ results_size
  length-results = omega (arith, length-flat-sized result_size result_octets x.results (results-sized x.results), eight.results)

  pub length-sends : length (flat sends_octets x.sends) ≡ all_sends_size
  length-sends = omega (arith, length-flat-sized sends_size sends_octets x.sends (sends-sized x.sends), eight.sends)

  pub stream-length : length (stream_octets x) ≡ record_size
  unfolding stream_octets
  stream-length =
      length-append (name x) (cells_whole x ++ (results_whole x ++ sends_whole x))
      ∙ omega (
        arith,
        length-append (cells_whole x) (results_whole x ++ sends_whole x),
        length-append (results_whole x) (sends_whole x),
        name-length x,
        length-cells,
        length-results,
        length-sends,
      )

  pub cells_of : cells_part (stream_octets x) ≡ flat cell_octets x.cells
  unfolding cells_part stream_octets
  cells_of = part-between (name x) (cells_whole x) (results_whole x ++ sends_whole x) in_record.cells cells_size (name-length x) length-cells

  -- up to the results, and behind them
  before-results : length (name x ++ cells_whole x) ≡ in_record.results
  before-results = omega (arith, length-append (name x) (cells_whole x), name-length x, length-cells)

  behind-cells : stream_octets x ≡ (name x ++ cells_whole x) ++ (results_whole x ++ sends_whole x)
  unfolding stream_octets
  behind-cells = sym (append_assoc (name x) (cells_whole x) (results_whole x ++ sends_whole x))

  pub results-of : results_part (stream_octets x) ≡ flat result_octets x.results
  unfolding results_part
  results-of =
      ap (part in_record.results results_size) behind-cells
      ∙ part-between (name x ++ cells_whole x) (results_whole x) (sends_whole x) in_record.results results_size before-results length-results

  pub sends-of : all_sends_part (stream_octets x) ≡ flat sends_octets x.sends
  unfolding all_sends_part
  sends-of =
      let front = (name x ++ cells_whole x) ++ results_whole x in
      ap (part in_record.sends all_sends_size)
      (behind-cells ∙ sym (append_assoc (name x ++ cells_whole x) (results_whole x) (sends_whole x)) ∙ ap (λ (r : List ℕ). front ++ r) (sym (append-nil (sends_whole x))))
      ∙ part-between front (sends_whole x) [] in_record.sends all_sends_size
      (omega (arith, length-append (name x ++ cells_whole x) (results_whole x), before-results, length-results)) length-sends

module _ (x : Stream) (f : Fit name_widths (x.id ∷ fixed_numbers x.settled)) where
  pub name-read : fields name_widths 0 (stream_octets x) ≡ x.id ∷ fixed_numbers x.settled
  unfolding stream_octets
  name-read = fields-packed name_widths (x.id ∷ fixed_numbers x.settled) (cells_whole x ++ (results_whole x ++ sends_whole x)) f

  pub id-read : id_of (stream_octets x) ≡ x.id
  unfolding id_of fields
  id-read = ap (λ (vs : List ℕ). get_or vs 0 0) name-read

  spare-read : get_or (stream_octets x) in_record.priority 0 % 16 ≡ 0
  unfolding fields fixed_numbers
  spare-read =
      ap (λ (o : ℕ). o % 16) (sym (octet-field (stream_octets x) in_record.priority) ∙ ap (λ (vs : List ℕ). get_or vs 5 0) name-read) ∙ priority-spare x.settled

pub octets-stream : (x : Stream) → Octets (stream_octets x)
unfolding stream_octets
octets-stream x =
    octets-append (name x) (cells_whole x ++ (results_whole x ++ sends_whole x)) (octets-packed name_widths (x.id ∷ fixed_numbers x.settled))
    (octets-append (cells_whole x) (results_whole x ++ sends_whole x) (octets-flat cell_octets cell-octets x.cells)
    (octets-append (results_whole x) (sends_whole x) (octets-flat result_octets result-octets x.results) (octets-flat sends_octets sends-octets x.sends)))

-- some port has a registration, or sends: as the octets say, and as what is read from them does
cells-hold : (k m : ℕ) (s : List ℕ) → k ≤ m → All (λ c. c ≡ empty) (drop k (parts cell_size to_cell m s)) → holds k s ≡ held (parts cell_size to_cell m s)
cells-hold = some_is cell_size to_cell empty holds held holds_parts held-append held-empty

some-sends : (k m : ℕ) (s : List ℕ) → k ≤ m → All (λ x. x ≡ no_sends) (drop k (parts sends_size to_sends m s)) → sends k s ≡ any_sending (parts sends_size to_sends m s)
some-sends = some_is sends_size to_sends no_sends sends any_sending sends-parts sending-append sending-none

-- settled values that are none
none-zero : all_zero (fixed_numbers no_fixed) ≡ true
unfolding all_zero fixed_numbers no_fixed priority_octet
none-zero = refl

zero-none : (vs : List ℕ) → all_zero (drop 1 vs) ≡ true → fixed_from 1 vs ≡ no_fixed
unfolding fixed_from no_fixed priority_of rank_of
zero-none vs e = rw (zero-behind 1 vs e 0, zero-behind 1 vs e 1, zero-behind 1 vs e 2, zero-behind 1 vs e 3, zero-behind 1 vs e 4)

-- at a bridge with so many ports, this clock and leave time
module _ (ports clock leave : ℕ) (few : ports ≤ 8) (small : clock < 2 ^ 32) where
  cells-coded : Coded cell_size cell_octets to_cell (cell_formed clock leave) (ValidCell clock leave) empty
  unfolding empty
  cells-coded = record {
    size = λ c v. cell-length c;
    back = cell-back clock leave small;
    keeps = cell-formed clock leave small;
    forth = cell-forth clock leave;
    valid = cell-valid clock leave;
    blank = cell-zeros;
    good = record { talks = tt; hears = tt };
  }

  results-coded : Coded result_size result_octets to_result (result_formed clock) (ValidResult clock) unsettled
  unfolding unsettled
  results-coded = record {
    size = λ r v. result-length r;
    back = result-back clock small;
    keeps = result-formed clock small;
    forth = result-forth clock;
    valid = result-valid clock;
    blank = result-zeros;
    good = record { column = refl; latency = omega arith; age = refl };
  }

  module _ (x : Stream) (v : ValidStream ports clock leave x) where
    name-fit : Fit name_widths (x.id ∷ fixed_numbers x.settled)
    unfolding Fit
    name-fit = v.id also fixed-fit x.settled v.settled

    settled-read : fixed_from 1 (fields name_widths 0 (stream_octets x)) ≡ x.settled
    unfolding fixed_numbers
    settled-read = ap (fixed_from 1) (name-read x name-fit) ∙ fixed_back x.settled v.settled (x.id ∷ []) []

    eight : Eights x
    eight = record { cells = v.eight_cells; results = v.eight_results; sends = v.eight_sends }

    cells-back : parts cell_size to_cell 8 (flat cell_octets x.cells) ≡ x.cells
    cells-back = many-back cells-coded ports 8 few x.cells v.eight_cells v.cells

    sends-back : parts sends_size to_sends 8 (flat sends_octets x.sends) ≡ x.sends
    sends-back = many-back sends-coded ports 8 few x.sends v.eight_sends v.sends

    pub stream-back : to_stream (stream_octets x) ≡ x
    unfolding to_stream id_of
    stream-back =
        let rs = many-back results-coded ports 8 few x.results v.eight_results v.results in
        rw (id-read x name-fit, settled-read, cells_of x eight, results-of x eight, sends-of x eight, cells-back, rs, sends-back)

    held-there : (holds ports (flat cell_octets x.cells) || sends ports (flat sends_octets x.sends)) ≡ true
    unfolding is_held
    held-there =
        ap₂ (λ (a b : Bool). a || b)
        (cells-hold ports 8 (flat cell_octets x.cells) few (rw cells-back v.no-other-cells) ∙ ap held cells-back)
        (some-sends ports 8 (flat sends_octets x.sends) few (rw sends-back v.no-other-sends) ∙ ap any_sending sends-back)
        ∙ v.is-held

    pub stream-formed : stream_formed ports clock leave (stream_octets x) ≡ true
    unfolding stream_formed stream_rules cell_at result_at sends_at
    stream-formed =
        let n = talkers ports x.cells in
        true-all (stream_rules ports clock leave (stream_octets x))
        (eq-eqb (get_or (stream_octets x) in_record.priority 0 % 16) 0 (spare-read x name-fit)
        also rw (stream-back, cells_of x eight, results-of x eight, sends-of x eight)
        (implies_true (eqb n 0) (all_zero (drop 1 (fields name_widths 0 (stream_octets x)))) (λ e. rw (name-read x name-fit, v.idle (eqb-true n 0 e)) none-zero)
        also many-keep cells-coded ports 8 few x.cells v.eight_cells v.cells
        also held-there
        also many-rest cells-coded ports 8 few x.cells v.eight_cells v.cells v.no-other-cells
        also many-keep results-coded ports 8 few x.results v.eight_results v.results
        also ports-kept (stored_formed n) empty unsettled ports x.cells x.results v.stored
        also le-leb (declarers ports x.results) 1 v.one-declares
        also many-rest results-coded ports 8 few x.results v.eight_results v.results v.no-other-results
        also many-keep sends-coded ports 8 few x.sends v.eight_sends v.sends
        also ports-kept sent_formed unsettled no_sends ports x.results x.sends v.sent
        also many-rest sends-coded ports 8 few x.sends v.eight_sends v.sends v.no-other-sends
        also tt))

  module _ (s : List ℕ) (l : length s ≡ record_size) (o : Octets s) (f : stream_formed ports clock leave s ≡ true) where
    stream-rules : All (λ r. r ≡ true) (stream_rules ports clock leave s)
    unfolding stream_formed
    stream-rules = all_true_lem (stream_rules ports clock leave s) f

    spare-kept : get_or (fields name_widths 0 s) 5 0 % 16 ≡ 0
    unfolding stream_rules fields
    spare-kept = ap (λ (b : ℕ). b % 16) (octet-field s in_record.priority) ∙ eqb-true (get_or s in_record.priority 0 % 16) 0 stream-rules.0

    idle-kept : implies (eqb (talkers ports (to_stream s).cells) 0) (all_zero (drop 1 (fields name_widths 0 s))) ≡ true
    unfolding stream_rules
    idle-kept = stream-rules.1.0

    cells-kept : every_part cell_size (cell_formed clock leave) ports (cells_part s) ≡ true
    unfolding stream_rules
    cells-kept = stream-rules.1.1.0

    held_kept : (holds ports (cells_part s) || sends ports (all_sends_part s)) ≡ true
    unfolding stream_rules
    held_kept = stream-rules.1.1.1.0

    cells-zero : all_zero (drop (ports * cell_size) (cells_part s)) ≡ true
    unfolding stream_rules
    cells-zero = stream-rules.1.1.1.1.0

    results-kept : every_part result_size (result_formed clock) ports (results_part s) ≡ true
    unfolding stream_rules
    results-kept = stream-rules.1.1.1.1.1.0

    stored-kept : every_port (stored_formed (talkers ports (to_stream s).cells)) ports (to_stream s).cells (to_stream s).results ≡ true
    unfolding stream_rules
    stored-kept = stream-rules.1.1.1.1.1.1.0

    one_kept : declarers ports (to_stream s).results ≤ 1
    unfolding stream_rules
    one_kept = leb-true (declarers ports (to_stream s).results) 1 stream-rules.1.1.1.1.1.1.1.0

    results-zero : all_zero (drop (ports * result_size) (results_part s)) ≡ true
    unfolding stream_rules
    results-zero = stream-rules.1.1.1.1.1.1.1.1.0

    sends-kept : every_part sends_size sends_formed ports (all_sends_part s) ≡ true
    unfolding stream_rules
    sends-kept = stream-rules.1.1.1.1.1.1.1.1.1.0

    sent-kept : every_port sent_formed ports (to_stream s).results (to_stream s).sends ≡ true
    unfolding stream_rules
    sent-kept = stream-rules.1.1.1.1.1.1.1.1.1.1.0

    sends-zero : all_zero (drop (ports * sends_size) (all_sends_part s)) ≡ true
    unfolding stream_rules
    sends-zero = stream-rules.1.1.1.1.1.1.1.1.1.1.1.0

    cells-room : length (cells_part s) ≡ cells_size
    unfolding cells_part
    cells-room = length_part in_record.cells cells_size s (omega arith)

    results-room : length (results_part s) ≡ results_size
    unfolding results_part
    results-room = length_part in_record.results results_size s (omega arith)

    cells-octets : Octets (cells_part s)
    unfolding cells_part
    cells-octets = octets-part in_record.cells cells_size s o

    results-octets : Octets (results_part s)
    unfolding results_part
    results-octets = octets-part in_record.results results_size s o

    sends-room : length (all_sends_part s) ≡ all_sends_size
    unfolding all_sends_part
    sends-room = length_part in_record.sends all_sends_size s (omega arith)

    octets-sends : Octets (all_sends_part s)
    unfolding all_sends_part
    octets-sends = octets-part in_record.sends all_sends_size s o

    other-cells : All (λ c. c ≡ empty) (drop ports (parts cell_size to_cell 8 (cells_part s)))
    other-cells = many-others cells-coded ports 8 few (cells_part s) cells-room cells-octets cells-kept cells-zero

    other-sends : All (λ x. x ≡ no_sends) (drop ports (parts sends_size to_sends 8 (all_sends_part s)))
    other-sends = many-others sends-coded ports 8 few (all_sends_part s) sends-room octets-sends sends-kept sends-zero

    -- some port has a registration of it
    record-holds : holds ports (cells_part s) ≡ held (to_stream s).cells
    unfolding to_stream
    record-holds = cells-hold ports 8 (cells_part s) few other-cells

    name-forth : name (to_stream s) ≡ part 0 name_size s
    unfolding to_stream fields width
    name-forth =
        rw (fixed-forth 1 (fields name_widths 0 s) spare-kept)
        (packed-fields name_widths 0 s (omega arith) (octets-at s o))

    pub stream-forth : stream_octets (to_stream s) ≡ s
    unfolding stream_octets to_stream
    stream-forth =
        rw (
          name-forth,
          many-forth cells-coded ports 8 few (cells_part s) cells-room cells-octets cells-kept cells-zero,
          many-forth results-coded ports 8 few (results_part s) results-room results-octets results-kept results-zero,
          many-forth sends-coded ports 8 few (all_sends_part s) sends-room octets-sends sends-kept sends-zero,
        )
        (sym (four-parts s l))

    settled-valid : ValidFixed (fixed_from 1 (fields name_widths 0 s))
    settled-valid =
        let vs = fields name_widths 0 s in
        let fit = fit_at name_widths vs (fields_fit name_widths 0 s (octets-at s o)) in
        fixed-valid 1 vs (fit 1) (fit 2) (fit 3) (fit 4) (fit 5)

    pub stream-valid : ValidStream ports clock leave (to_stream s)
    unfolding to_stream cell_at result_at sends_at is_held
    stream-valid = record {
      id = be_at-fits 8 s 0 (octets-at s o);
      settled = settled-valid;
      eight_cells = length-parts cell_size to_cell 8 (cells_part s);
      cells = many-valid cells-coded ports 8 few (cells_part s) cells-room cells-octets cells-kept cells-zero;
      no-other-cells = other-cells;
      is-held = ap₂ (λ (a b : Bool). a || b) (sym record-holds) (sym (some-sends ports 8 (all_sends_part s) few other-sends)) ∙ held_kept;
      eight_results = length-parts result_size to_result 8 (results_part s);
      results = many-valid results-coded ports 8 few (results_part s) results-room results-octets results-kept results-zero;
      no-other-results = many-others results-coded ports 8 few (results_part s) results-room results-octets results-kept results-zero;
      idle = λ e. zero-none (fields name_widths 0 s) (implied (eqb (talkers ports (to_stream s).cells) 0) _ idle-kept (eq-eqb _ 0 e));
      stored = λ p h.
          port-kept (stored_formed (talkers ports (to_stream s).cells)) empty unsettled ports (to_stream s).cells (to_stream s).results stored-kept p h
          (omega (arith, length-parts cell_size to_cell 8 (cells_part s))) (omega (arith, length-parts result_size to_result 8 (results_part s)));
      one-declares = one_kept;
      eight_sends = length-parts sends_size to_sends 8 (all_sends_part s);
      sends = many-valid sends-coded ports 8 few (all_sends_part s) sends-room octets-sends sends-kept sends-zero;
      sent = λ p h.
          port-kept sent_formed unsettled no_sends ports (to_stream s).results (to_stream s).sends sent-kept p h
          (omega (arith, length-parts result_size to_result 8 (results_part s))) (omega (arith, length-parts sends_size to_sends 8 (all_sends_part s)));
      no-other-sends = other-sends;
    }

  -- some stream has a registration
  any-holds : (n : ℕ) (s : List ℕ) → n * record_size ≤ length s → Octets s → every_part record_size (stream_formed ports clock leave) n s ≡ true
      → any_holds ports n s ≡ any_held (parts record_size to_stream n s)
  unfolding any_holds any_held parts every_part
  any-holds zero s l o f = refl
  any-holds (suc n) s l o f =
      let first = stream_formed ports clock leave (take record_size s) in
      let rest = every_part record_size (stream_formed ports clock leave) n (drop record_size s) in
      ap₂ (λ (a b : Bool). a || b)
      (record-holds (take record_size s) (length-take-le record_size s (omega arith)) (octets-take record_size s o) (and_left first rest f))
      (any-holds n (drop record_size s) (omega (arith, length-drop record_size s)) (octets-drop record_size s o) (and_right first rest f))

-- One port's totals, which fit since its limits do.

at-most-limit : (some supports : Bool) (limit : ℕ) → at_most some supports limit ≤ limit
unfolding at_most
at-most-limit some supports limit = go (some && supports)
  where
    go : (t : Bool) → cond t limit 0 ≤ limit
    go true = omega arith
    go false = omega arith

pub totals-fit : (some : Bool) (ts : List Totals) (qs : List Port) → All ValidPort qs → totals_within some ts qs ≡ true → All FitTotals ts
unfolding totals_within
totals-fit some [] qs v e = tt
totals-fit some (t ∷ ts) [] v e =
    let first = eqb t.total_a 0 && eqb t.total_b 0 in
    let u = and_left first (totals_within some ts []) e in
    let a : t.total_a ≡ 0 = eqb-true t.total_a 0 (and_left (eqb t.total_a 0) (eqb t.total_b 0) u) in
    let b : t.total_b ≡ 0 = eqb-true t.total_b 0 (and_right (eqb t.total_a 0) (eqb t.total_b 0) u) in
    ((omega arith, omega arith), totals-fit some ts [] v (and_right first (totals_within some ts []) e))
totals-fit some (t ∷ ts) (q ∷ qs) v e =
    let most_a = at_most some q.supports_a q.limit_a in
    let limit_b = in_force q t.total_a class_b in
    let most_b = at_most some q.supports_b limit_b in
    let first = leb t.total_a most_a && leb t.total_b most_b in
    let u = and_left first (totals_within some ts qs) e in
    let a : t.total_a ≤ most_a = leb-true t.total_a most_a (and_left (leb t.total_a most_a) (leb t.total_b most_b) u) in
    let b : t.total_b ≤ most_b = leb-true t.total_b most_b (and_right (leb t.total_a most_a) (leb t.total_b most_b) u) in
    let la : q.limit_a < 256 ^ 5 = v.0.limit_a in
    let lb : limit_b < 256 ^ 6 = limit-b-fits q v.0.limit_a v.0.limit_b t.total_a in (
      (omega (arith, at-most-limit some q.supports_a q.limit_a), omega (arith, at-most-limit some q.supports_b limit_b)),
      totals-fit some ts qs v.1 (and_right first (totals_within some ts qs) e),
    )

pub totals-length : (t : Totals) → length (totals_octets t) ≡ total_size
unfolding totals_octets width
totals-length t = length-packed-any totals_widths (t.total_a ∷ t.total_b ∷ []) refl

totals-octets : (t : Totals) → Octets (totals_octets t)
unfolding totals_octets
totals-octets t = octets-packed totals_widths (t.total_a ∷ t.total_b ∷ [])

pub totals-sized : (l : List Totals) → All (Sized total_size totals_octets) l
totals-sized = all-each (Sized total_size totals_octets) totals-length

pub no-totals : totals_octets no_totals ≡ zeros total_size
unfolding totals_octets no_totals width
no-totals = packed-zeros totals_widths

pub totals-back : (t : Totals) → FitTotals t → to_totals (totals_octets t) ≡ t
unfolding totals_octets to_totals fields Fit
totals-back t f =
    ap (λ (vs : List ℕ). record { total_a = get_or vs 0 0; total_b = get_or vs 1 0 })
    (fields-of-packed totals_widths (t.total_a ∷ t.total_b ∷ []) (f.0 also f.1 also tt))

totals-forth : (s : List ℕ) → length s ≡ total_size → Octets s → totals_octets (to_totals s) ≡ s
unfolding totals_octets to_totals fields width
totals-forth s l o = packed-whole totals_widths s l o

-- The table's lay-out: settings, clock and count, totals, what the ports hold, what they send, records.

module _ (ss h ts os ns rs : List ℕ) (a : length ss ≡ settings_size) (b : length h ≡ clock_size) (c : length ts ≡ totals_size)
    (d : length os ≡ owns_size) (e : length ns ≡ senders_size) where
  abbrev laid : List ℕ
  laid = ss ++ (h ++ (ts ++ (os ++ (ns ++ rs))))

  settings-of : settings_part laid ≡ ss
  unfolding settings_part part
  settings-of = take_at ss (h ++ (ts ++ (os ++ (ns ++ rs)))) settings_size a

  totals-of : totals_part laid ≡ ts
  unfolding totals_part
  totals-of =
      ap (part in_table.totals totals_size) (sym (append_assoc ss h (ts ++ (os ++ (ns ++ rs)))))
      ∙ part-between (ss ++ h) ts (os ++ (ns ++ rs)) in_table.totals totals_size (omega (arith, length-append ss h)) c

  -- what is behind the totals
  behind : laid ≡ ((ss ++ h) ++ ts) ++ (os ++ (ns ++ rs))
  behind = sym (append_assoc ss h (ts ++ (os ++ (ns ++ rs)))) ∙ sym (append_assoc (ss ++ h) ts (os ++ (ns ++ rs)))

  before-owns : length ((ss ++ h) ++ ts) ≡ in_table.owns
  before-owns = omega (arith, length-append (ss ++ h) ts, length-append ss h)

  owns_of : owns_part laid ≡ os
  unfolding owns_part
  owns_of = ap (part in_table.owns owns_size) behind ∙ part-between ((ss ++ h) ++ ts) os (ns ++ rs) in_table.owns owns_size before-owns d

  -- what is behind them
  behind-owns : laid ≡ (((ss ++ h) ++ ts) ++ os) ++ (ns ++ rs)
  behind-owns = behind ∙ sym (append_assoc ((ss ++ h) ++ ts) os (ns ++ rs))

  before-senders : length (((ss ++ h) ++ ts) ++ os) ≡ in_table.senders
  before-senders = omega (arith, length-append ((ss ++ h) ++ ts) os, before-owns)

  senders-of : senders_part laid ≡ ns
  unfolding senders_part
  senders-of = ap (part in_table.senders senders_size) behind-owns ∙ part-between (((ss ++ h) ++ ts) ++ os) ns rs in_table.senders senders_size before-senders e

  records-of : records_part laid ≡ rs
  unfolding records_part
  records-of =
      let front = ((ss ++ h) ++ ts) ++ os in
      ap (drop in_table.records) (behind-owns ∙ sym (append_assoc front ns rs))
      ∙ drop_at (front ++ ns) rs in_table.records (omega (arith, length-append front ns, before-senders))

-- a table is its parts
drop-split : (a n : ℕ) (t : List ℕ) → drop a t ≡ part a n t ++ drop (a + n) t
unfolding part
drop-split a n t = sym (take-append-drop n (drop a t)) ∙ ap (λ (r : List ℕ). take n (drop a t) ++ r) (drop-drop n a t)

six-parts : (t : List ℕ) → t ≡ settings_part t ++ (part in_table.clock clock_size t ++ (totals_part t ++ (owns_part t ++ (senders_part t ++ records_part t))))
unfolding settings_part totals_part owns_part senders_part records_part
six-parts t =
    drop-split 0 settings_size t
    ∙ ap (λ (r : List ℕ). settings_part t ++ r)
    (drop-split in_table.clock clock_size t
    ∙ ap (λ (r : List ℕ). part in_table.clock clock_size t ++ r)
    (drop-split in_table.totals totals_size t
    ∙ ap (λ (r : List ℕ). totals_part t ++ r)
    (drop-split in_table.owns owns_size t ∙ ap (λ (r : List ℕ). owns_part t ++ r) (drop-split in_table.senders senders_size t))))

-- The table of a bridge.

abbrev pub settings_whole : Bridge → List ℕ
settings_whole b = settings_octets b.settings ++ zeros ((8 - length b.settings.ports) * port_size)

abbrev pub clock_and_count : Bridge → List ℕ
clock_and_count b = packed clock_widths (b.clock ∷ length b.streams ∷ [])

abbrev pub totals_whole : Bridge → List ℕ
totals_whole b = flat totals_octets b.totals

abbrev pub owns_whole : Bridge → List ℕ
owns_whole b = flat own_octets b.owns

abbrev pub senders_whole : Bridge → List ℕ
senders_whole b = flat sender_octets b.senders

abbrev pub records_whole : Bridge → List ℕ
records_whole b = flat stream_octets b.streams ++ zeros ((64 - length b.streams) * record_size)

-- what is behind the totals
abbrev pub behind_totals : Bridge → List ℕ
behind_totals b = owns_whole b ++ (senders_whole b ++ records_whole b)

pub encode-parts : (b : Bridge) → encode b ≡ settings_whole b ++ (clock_and_count b ++ (totals_whole b ++ behind_totals b))
unfolding encode
encode-parts b =
    sym (append_assoc (settings_octets b.settings) (zeros ((8 - length b.settings.ports) * port_size)) (clock_and_count b ++ (totals_whole b ++ behind_totals b)))

pub octets-encode : (b : Bridge) → Octets (encode b)
octets-encode b =
    let ps : ℕ = (8 - length b.settings.ports) * port_size in
    let rs : ℕ = (64 - length b.streams) * record_size in
    rw (encode-parts b)
    (octets-append (settings_whole b) (clock_and_count b ++ (totals_whole b ++ behind_totals b))
    (octets-append (settings_octets b.settings) (zeros ps) (octets-settings b.settings) (octets-zeros ps))
    (octets-append (clock_and_count b) (totals_whole b ++ behind_totals b) (octets-packed clock_widths (b.clock ∷ length b.streams ∷ []))
    (octets-append (totals_whole b) (behind_totals b) (octets-flat totals_octets totals-octets b.totals)
    (octets-append (owns_whole b) (senders_whole b ++ records_whole b) (octets-flat own_octets own-octets b.owns)
    (octets-append (senders_whole b) (records_whole b) (octets-flat sender_octets sender-octets b.senders)
    (octets-append (flat stream_octets b.streams) (zeros rs) (octets-flat stream_octets octets-stream b.streams) (octets-zeros rs)))))))

-- what gives each part of the table its place
pub record Whole (b : Bridge) : Type 0 where
  pub eight_ports : length b.settings.ports ≤ 8
  pub eight_totals : length b.totals ≡ 8
  pub eight_owns : length b.owns ≡ 8
  pub owns : All (Sized own_size own_octets) b.owns
  pub eight_senders : length b.senders ≡ 8
  pub senders : All (Sized sender_size sender_octets) b.senders
  pub at_most_64 : length b.streams ≤ 64
  pub streams : All (Sized record_size stream_octets) b.streams

-- what the ports send fits: what holds of each of the first n, and of all behind them, holds of all
all-by-place : {A : Type 0} (P : A → Type 0) (n : ℕ) (l : List A) (d : A) → ((q : ℕ) → q < n → P (get_or l q d)) → All P (drop n l) → All P l
all-by-place P n [] d h a = tt
all-by-place P zero (x ∷ l) d h a = a
all-by-place P (suc n) (x ∷ l) d h a = (h 0 (omega arith), all-by-place P n l d (λ q g. h (suc q) (omega arith)) a)

pub senders-fit : (b : Bridge) → Valid b → All FitSender b.senders
unfolding sender_at
senders-fit b v =
    let n = length b.settings.ports in
    all-by-place FitSender n b.senders no_sender
    (λ q h. valid-sender-fits (declares_slot b.settings q) b.clock v.clock (sender_at b.senders q) (v.senders q h))
    (all_map (λ x. x ≡ no_sender) FitSender (λ x e. rw e sender-coded.good) (drop n b.senders) v.no-other-senders)

fit-senders-sized : (l : List Sender) → All FitSender l → All (Sized sender_size sender_octets) l
fit-senders-sized = all_map FitSender (Sized sender_size sender_octets) sender-coded.size

pub valid-whole : (b : Bridge) → Valid b → Whole b
valid-whole b v = record {
  eight_ports = v.settings.eight_ports;
  eight_totals = v.eight_totals;
  eight_owns = v.eight_owns;
  owns = all_map (ValidOwn b.clock b.settings.leave_time) (Sized own_size own_octets) (λ o w. own-length o w.slotted w.addresses.at_most_64) b.owns v.owns;
  eight_senders = v.eight_senders;
  senders = fit-senders-sized b.senders (senders-fit b v);
  at_most_64 = v.at_most_64;
  streams =
      all_map (ValidStream (length b.settings.ports) b.clock b.settings.leave_time) (Sized record_size stream_octets)
      (λ x w. stream-length x record { cells = w.eight_cells; results = w.eight_results; sends = w.eight_sends }) b.streams v.streams;
}

pub fit-whole : (b : Bridge) → FitBridge b → Whole b
fit-whole b f = record {
  eight_ports = f.settings.eight_ports;
  eight_totals = f.eight_totals;
  eight_owns = f.eight_owns;
  owns = all_map FitOwn (Sized own_size own_octets) (λ o w. own-length o w.slotted w.addresses.at_most_64) b.owns f.owns;
  eight_senders = f.eight_senders;
  senders = fit-senders-sized b.senders f.senders;
  at_most_64 = f.at_most_64;
  streams =
      all_map FitStream (Sized record_size stream_octets)
      (λ x w. stream-length x record { cells = w.eight_cells; results = w.eight_results; sends = w.eight_sends }) b.streams f.streams;
}

pub clock-length : (b : Bridge) → length (clock_and_count b) ≡ clock_size
unfolding width
clock-length b = length-packed-any clock_widths (b.clock ∷ length b.streams ∷ []) refl

module _ (b : Bridge) (w : Whole b) where
  pub settings-whole-length : length (settings_whole b) ≡ settings_size
  settings-whole-length =
      let n = length b.settings.ports in
      let h : n ≤ 8 = w.eight_ports in
      length-append (settings_octets b.settings) (zeros ((8 - n) * port_size)) ∙ omega (arith, settings-length b.settings, length-zeros ((8 - n) * port_size))

  pub totals-whole-length : length (totals_whole b) ≡ totals_size
  totals-whole-length = omega (arith, length-flat-sized total_size totals_octets b.totals (totals-sized b.totals), w.eight_totals)

  pub owns-whole-length : length (owns_whole b) ≡ owns_size
  owns-whole-length = omega (arith, length-flat-sized own_size own_octets b.owns w.owns, w.eight_owns)

  pub senders-whole-length : length (senders_whole b) ≡ senders_size
  senders-whole-length = omega (arith, length-flat-sized sender_size sender_octets b.senders w.senders, w.eight_senders)

  pub records-whole-length : length (records_whole b) ≡ records_size
  records-whole-length =
      let n = length b.streams in
      let h : n ≤ 64 = w.at_most_64 in
      length-append (flat stream_octets b.streams) (zeros ((64 - n) * record_size))
      ∙ omega (arith, length-flat-sized record_size stream_octets b.streams w.streams, length-zeros ((64 - n) * record_size))

  pub whole_length : length (encode b) ≡ table_length
  whole_length =
      let ss = settings_whole b in
      let cc = clock_and_count b in
      let ts = totals_whole b in
      let os = owns_whole b in
      let ns = senders_whole b in
      let rs = records_whole b in
      ap length (encode-parts b)
      ∙ omega (
        arith,
        length-append ss (cc ++ (ts ++ (os ++ (ns ++ rs)))),
        length-append cc (ts ++ (os ++ (ns ++ rs))),
        length-append ts (os ++ (ns ++ rs)),
        length-append os (ns ++ rs),
        length-append ns rs,
        settings-whole-length,
        clock-length b,
        totals-whole-length,
        owns-whole-length,
        senders-whole-length,
        records-whole-length,
      )

  -- what is read from it
  pub settings-read : settings_part (encode b) ≡ settings_octets b.settings ++ zeros ((8 - length b.settings.ports) * port_size)
  settings-read =
      ap settings_part (encode-parts b)
      ∙ settings-of (settings_whole b) (clock_and_count b) (totals_whole b) (owns_whole b) (senders_whole b) (records_whole b) settings-whole-length
      (clock-length b) totals-whole-length owns-whole-length senders-whole-length

  pub totals-read : totals_part (encode b) ≡ flat totals_octets b.totals
  totals-read =
      ap totals_part (encode-parts b)
      ∙ totals-of (settings_whole b) (clock_and_count b) (totals_whole b) (owns_whole b) (senders_whole b) (records_whole b) settings-whole-length
      (clock-length b) totals-whole-length owns-whole-length senders-whole-length

  pub owns-read : owns_part (encode b) ≡ flat own_octets b.owns
  owns-read =
      ap owns_part (encode-parts b)
      ∙ owns_of (settings_whole b) (clock_and_count b) (totals_whole b) (owns_whole b) (senders_whole b) (records_whole b) settings-whole-length
      (clock-length b) totals-whole-length owns-whole-length senders-whole-length

  pub senders-read : senders_part (encode b) ≡ flat sender_octets b.senders
  senders-read =
      ap senders_part (encode-parts b)
      ∙ senders-of (settings_whole b) (clock_and_count b) (totals_whole b) (owns_whole b) (senders_whole b) (records_whole b) settings-whole-length
      (clock-length b) totals-whole-length owns-whole-length senders-whole-length

  pub records-read : records_part (encode b) ≡ flat stream_octets b.streams ++ zeros ((64 - length b.streams) * record_size)
  records-read =
      ap records_part (encode-parts b)
      ∙ records-of (settings_whole b) (clock_and_count b) (totals_whole b) (owns_whole b) (senders_whole b) (records_whole b) settings-whole-length
      (clock-length b) totals-whole-length owns-whole-length senders-whole-length

  module _ (small : b.clock < 2 ^ 32) where
    numbers-read : fields clock_widths in_table.clock (encode b) ≡ b.clock ∷ length b.streams ∷ []
    unfolding Fit
    numbers-read =
        let h : length b.streams ≤ 64 = w.at_most_64 in
        ap (fields clock_widths in_table.clock) (encode-parts b)
        ∙ ap (λ (k : ℕ). fields clock_widths k (settings_whole b ++ (clock_and_count b ++ (totals_whole b ++ behind_totals b)))) (sym settings-whole-length)
        ∙ fields-packed-behind clock_widths (b.clock ∷ length b.streams ∷ []) (settings_whole b) (totals_whole b ++ behind_totals b) (small also omega arith also tt)

    pub clock-read : clock_field (encode b) ≡ b.clock
    unfolding clock_field fields
    clock-read = ap (λ (vs : List ℕ). get_or vs 0 0) numbers-read

    pub count-read : count_field (encode b) ≡ length b.streams
    unfolding count_field fields
    count-read = sym (octet-field (encode b) in_table.count) ∙ ap (λ (vs : List ℕ). get_or vs 1 0) numbers-read

  pub settings-decoded : FitSettings b.settings → to_settings (settings_part (encode b)) ≡ b.settings
  settings-decoded f = ap to_settings settings-read ∙ fit-back b.settings f (zeros ((8 - length b.settings.ports) * port_size))

  pub totals-decoded : All FitTotals b.totals → parts total_size to_totals 8 (totals_part (encode b)) ≡ b.totals
  totals-decoded f =
      ap (parts total_size to_totals 8) totals-read
      ∙ many_read total_size totals_octets 8 to_totals b.totals w.eight_totals (totals-sized b.totals)
      (all_map FitTotals (λ t. to_totals (totals_octets t) ≡ t) totals-back b.totals f)

  pub owns-decoded : All FitOwn b.owns → parts own_size to_own 8 (owns_part (encode b)) ≡ b.owns
  owns-decoded f =
      ap (parts own_size to_own 8) owns-read
      ∙ many_read own_size own_octets 8 to_own b.owns w.eight_owns w.owns (all_map FitOwn (λ o. to_own (own_octets o) ≡ o) own-fit-back b.owns f)

  pub senders-decoded : All FitSender b.senders → parts sender_size to_sender 8 (senders_part (encode b)) ≡ b.senders
  senders-decoded f = ap (parts sender_size to_sender 8) senders-read ∙ many-back sender-coded 8 8 (omega arith) b.senders w.eight_senders f

-- A valid bridge is read back from its table, which keeps the form rules.

module _ (b : Bridge) (v : Valid b) where
  whole : Whole b
  whole = valid-whole b v

  pub length-encode : length (encode b) ≡ table_length
  length-encode = whole_length b whole

  settings-same : to_settings (settings_part (encode b)) ≡ b.settings
  settings-same = settings-decoded b whole (settings-fit b.settings v.settings)

  totals-same : parts total_size to_totals 8 (totals_part (encode b)) ≡ b.totals
  totals-same = totals-decoded b whole (totals-fit _ b.totals b.settings.ports v.settings.ports v.totals)

  own_same : parts own_size to_own 8 (owns_part (encode b)) ≡ b.owns
  own_same =
      owns-decoded b whole
      (all_map (ValidOwn b.clock b.settings.leave_time) FitOwn (valid-own-fits b.clock b.settings.leave_time v.clock) b.owns v.owns)

  senders-same : parts sender_size to_sender 8 (senders_part (encode b)) ≡ b.senders
  senders-same = senders-decoded b whole (senders-fit b v)

  streams-same : parts record_size to_stream (count_field (encode b)) (records_part (encode b)) ≡ b.streams
  streams-same =
      let n = length b.settings.ports in
      rw (count-read b whole v.clock, records-read b whole)
      (parts-flat record_size stream_octets to_stream b.streams (zeros ((64 - length b.streams) * record_size)) whole.streams
      (all_map (ValidStream n b.clock b.settings.leave_time) (λ x. to_stream (stream_octets x) ≡ x)
      (stream-back n b.clock b.settings.leave_time v.settings.eight_ports v.clock) b.streams v.streams))

  pub decode-encode : decode (encode b) ≡ b
  unfolding decode
  decode-encode = rw (settings-same, clock-read b whole v.clock, totals-same, own_same, senders-same, streams-same)

  ports-same : ports_field (settings_part (encode b)) ≡ length b.settings.ports
  ports-same =
      ap ports_field (settings-read b whole)
      ∙ ports-read b.settings (settings-fit b.settings v.settings) (zeros ((8 - length b.settings.ports) * port_size))

  settings-rest : all_zero (drop (port_place (ports_field (settings_part (encode b)))) (settings_part (encode b))) ≡ true
  settings-rest =
      let n = length b.settings.ports in
      let z = zeros ((8 - n) * port_size) in
      rw (ports-same, settings-read b whole, drop_at (settings_octets b.settings) z (port_place n) (settings-length b.settings)) (zero-zeros ((8 - n) * port_size))

  ids-rise : rising (parts record_size id_of (count_field (encode b)) (records_part (encode b))) ≡ true
  unfolding id_of to_stream ids
  ids-rise =
      ap rising (parts-map record_size to_stream (λ (x : Stream). x.id) (count_field (encode b)) (records_part (encode b)) ∙ ap ids streams-same)
      ∙ rises-rising (ids b.streams) v.ascending

  records-rest : all_zero (drop (count_field (encode b) * record_size) (records_part (encode b))) ≡ true
  records-rest =
      let n = length b.streams in
      let rs = flat stream_octets b.streams in
      let z = zeros ((64 - n) * record_size) in
      let l : length rs ≡ n * record_size = omega (arith, length-flat-sized record_size stream_octets b.streams whole.streams) in
      rw (count-read b whole v.clock, records-read b whole, drop_at rs z (n * record_size) l) (zero-zeros ((64 - n) * record_size))

  streams-formed : every_part record_size (stream_formed (length b.settings.ports) b.clock b.settings.leave_time) (length b.streams) (records_whole b) ≡ true
  streams-formed =
      let n = length b.settings.ports in
      let rule = stream_formed n b.clock b.settings.leave_time in
      every-flat record_size stream_octets rule b.streams (zeros ((64 - length b.streams) * record_size)) whole.streams
      (all_map (ValidStream n b.clock b.settings.leave_time) (λ x. rule (stream_octets x) ≡ true)
      (stream-formed n b.clock b.settings.leave_time v.settings.eight_ports v.clock) b.streams v.streams)

  owns-formed : every_part own_size (own_formed b.clock b.settings.leave_time) (length b.settings.ports) (flat own_octets b.owns) ≡ true
  owns-formed =
      many-keep (owns-coded b.clock b.settings.leave_time v.clock) (length b.settings.ports) 8 v.settings.eight_ports b.owns
      v.eight_owns v.owns

  owns-rest : all_zero (drop (length b.settings.ports * own_size) (flat own_octets b.owns)) ≡ true
  owns-rest =
      many-rest (owns-coded b.clock b.settings.leave_time v.clock) (length b.settings.ports) 8 v.settings.eight_ports b.owns
      v.eight_owns v.owns v.no-other-owns

  ports-send : senders_formed b.settings b.clock 0 (length b.settings.ports) (flat sender_octets b.senders) ≡ true
  unfolding sender_at
  ports-send =
      let n = length b.settings.ports in
      senders-formed b.settings b.clock 0 n b.senders (omega (arith, v.eight_senders, v.settings.eight_ports)) whole.senders
      (λ q h. let e : 0 + q ≡ q = omega arith in
      rw e (sender-formed (declares_slot b.settings q) b.clock v.clock (sender_at b.senders q) (v.senders q h)))

  others-send : all_zero (drop (length b.settings.ports * sender_size) (flat sender_octets b.senders)) ≡ true
  others-send =
      many-rest sender-coded (length b.settings.ports) 8 v.settings.eight_ports b.senders v.eight_senders (senders-fit b v) v.no-other-senders

  -- some stream has a registration
  some-held : any_holds (length b.settings.ports) (length b.streams) (records_whole b) ≡ any_held b.streams
  some-held =
      let n = length b.settings.ports in
      let l = b.streams in
      any-holds n b.clock b.settings.leave_time v.settings.eight_ports v.clock (length l) (records_whole b)
      (omega (arith, records-whole-length b whole, v.at_most_64)) octets-records streams-formed
      ∙ ap any_held
      (parts-flat record_size stream_octets to_stream l (zeros ((64 - length l) * record_size)) whole.streams
      (all_map (ValidStream n b.clock b.settings.leave_time) (λ x. to_stream (stream_octets x) ≡ x)
      (stream-back n b.clock b.settings.leave_time v.settings.eight_ports v.clock) l v.streams))
    where
      octets-records : Octets (records_whole b)
      octets-records =
          octets-append (flat stream_octets b.streams) (zeros ((64 - length b.streams) * record_size)) (octets-flat stream_octets octets-stream b.streams)
          (octets-zeros ((64 - length b.streams) * record_size))

  pub formed-encode : formed (encode b) ≡ true
  unfolding formed table_rules
  formed-encode =
      let clock = clock-read b whole v.clock in
      let count = count-read b whole v.clock in
      let settings-keep : all_true (settings_rules (settings_part (encode b))) ≡ true =
      rw (settings-read b whole) (settings-rules b.settings v.settings (zeros ((8 - length b.settings.ports) * port_size))) in
      and_both (eqb (length (encode b)) table_length) (all_true (table_rules (encode b))) (eq-eqb (length (encode b)) table_length length-encode)
      (true-all (table_rules (encode b))
      (settings-keep
      also settings-rest
      also rw (ports-same, count, records-read b whole, some-held, totals-same, settings-same) v.totals
      also rw (ports-same, clock, settings-same, owns-read b whole) owns-formed
      also rw (ports-same, owns-read b whole) owns-rest
      also rw (ports-same, clock, settings-same, senders-read b whole) ports-send
      also rw (ports-same, senders-read b whole) others-send
      also rw count (le-leb (length b.streams) 64 v.at_most_64)
      also rw (ports-same, clock, settings-same, count, records-read b whole) streams-formed
      also ids-rise
      also records-rest
      also tt))

-- Octets that keep the form rules.

every_any : (n k : ℕ) (s : List ℕ) → every_part n (λ p. true) k s ≡ true
unfolding every_part
every_any n zero s = refl
every_any n (suc k) s = every_any n k (drop n s)

-- the rules as facts
module _ (t : List ℕ) (f : formed t ≡ true) where
  pub formed-table-length : length t ≡ table_length
  unfolding formed
  formed-table-length = eqb-true (length t) table_length (and_left (eqb (length t) table_length) (all_true (table_rules t)) f)

  table-rules : All (λ r. r ≡ true) (table_rules t)
  unfolding formed
  table-rules = all_true_lem (table_rules t) (and_right (eqb (length t) table_length) (all_true (table_rules t)) f)

  pub settings-kept : all_true (settings_rules (settings_part t)) ≡ true
  unfolding table_rules
  settings-kept = table-rules.0

  settings-zero : all_zero (drop (port_place (ports_field (settings_part t))) (settings_part t)) ≡ true
  unfolding table_rules
  settings-zero = table-rules.1.0

  totals-kept : totals_within (any_holds (ports_field (settings_part t)) (count_field t) (records_part t)) (parts total_size to_totals 8 (totals_part t)) (to_settings (settings_part t)).ports ≡ true
  unfolding table_rules
  totals-kept = table-rules.1.1.0

  pub owns-kept : every_part own_size (own_formed (clock_field t) (to_settings (settings_part t)).leave_time) (ports_field (settings_part t)) (owns_part t) ≡ true
  unfolding table_rules
  owns-kept = table-rules.1.1.1.0

  pub owns-zero : all_zero (drop (ports_field (settings_part t) * own_size) (owns_part t)) ≡ true
  unfolding table_rules
  owns-zero = table-rules.1.1.1.1.0

  pub senders-kept : senders_formed (to_settings (settings_part t)) (clock_field t) 0 (ports_field (settings_part t)) (senders_part t) ≡ true
  unfolding table_rules
  senders-kept = table-rules.1.1.1.1.1.0

  pub senders-zero : all_zero (drop (ports_field (settings_part t) * sender_size) (senders_part t)) ≡ true
  unfolding table_rules
  senders-zero = table-rules.1.1.1.1.1.1.0

  pub count_kept : count_field t ≤ 64
  unfolding table_rules
  count_kept = leb-true (count_field t) 64 table-rules.1.1.1.1.1.1.1.0

  pub streams-kept : every_part record_size (stream_formed (ports_field (settings_part t)) (clock_field t) (to_settings (settings_part t)).leave_time)
      (count_field t) (records_part t) ≡ true
  unfolding table_rules
  streams-kept = table-rules.1.1.1.1.1.1.1.1.0

  ids-kept : rising (parts record_size id_of (count_field t) (records_part t)) ≡ true
  unfolding table_rules
  ids-kept = table-rules.1.1.1.1.1.1.1.1.1.0

  records-zero : all_zero (drop (count_field t * record_size) (records_part t)) ≡ true
  unfolding table_rules
  records-zero = table-rules.1.1.1.1.1.1.1.1.1.1.0

  settings-room-length : length (settings_part t) ≡ settings_size
  unfolding settings_part
  settings-room-length = length_part 0 settings_size t (omega (arith, formed-table-length))

  totals-room : length (totals_part t) ≡ totals_size
  unfolding totals_part
  totals-room = length_part in_table.totals totals_size t (omega (arith, formed-table-length))

  owns-room : length (owns_part t) ≡ owns_size
  unfolding owns_part
  owns-room = length_part in_table.owns owns_size t (omega (arith, formed-table-length))

  senders-room : length (senders_part t) ≡ senders_size
  unfolding senders_part
  senders-room = length_part in_table.senders senders_size t (omega (arith, formed-table-length))

  records-room : length (records_part t) ≡ records_size
  unfolding records_part
  records-room = length-drop in_table.records t ∙ omega (arith, formed-table-length)

module _ (t : List ℕ) (o : Octets t) (f : formed t ≡ true) where
  octets-settings-part : Octets (settings_part t)
  unfolding settings_part
  octets-settings-part = octets-part 0 settings_size t o

  octets-totals-part : Octets (totals_part t)
  unfolding totals_part
  octets-totals-part = octets-part in_table.totals totals_size t o

  octets-owns-part : Octets (owns_part t)
  unfolding owns_part
  octets-owns-part = octets-part in_table.owns owns_size t o

  octets-senders-part : Octets (senders_part t)
  unfolding senders_part
  octets-senders-part = octets-part in_table.senders senders_size t o

  -- what stands where a port sends is coded
  senders-ruled : every_part sender_size sender_rule (ports_field (settings_part t)) (senders_part t) ≡ true
  senders-ruled =
      senders-rule (to_settings (settings_part t)) (clock_field t) 0 (ports_field (settings_part t)) (senders_part t)
      (omega (arith, senders-room t f, eight_ports (settings_part t) (settings-kept t f))) (senders-kept t f)

  octets-records-part : Octets (records_part t)
  unfolding records_part
  octets-records-part = octets-drop in_table.records t o

  ports-fit : port_place (ports_field (settings_part t)) ≤ length (settings_part t)
  ports-fit = settings-room (settings_part t) (settings-room-length t f) (settings-kept t f)

  streams-fit : count_field t * record_size ≤ length (records_part t)
  streams-fit = omega (arith, records-room t f, count_kept t f)

  pub clock-fits : clock_field t < 2 ^ 32
  unfolding clock_field
  clock-fits = be_at-fits 4 t in_table.clock (octets-at t o)

  pub valid-decode : Valid (decode t)
  unfolding decode ids to_stream id_of sender_at
  valid-decode =
      let s = settings_part t in
      let n = count_field t in
      let p = ports_field s in
      let e = settings-ports s in
      let h = eight_ports s (settings-kept t f) in
      let l = (to_settings s).leave_time in
      let rs = records_part t in
      let coded = owns-coded (clock_field t) l clock-fits in
      let rise = ap rising (sym (parts-map record_size to_stream (λ (x : Stream). x.id) n rs)) ∙ ids-kept t f in
      let read =
      every-read record_size (stream_formed p (clock_field t) l) to_stream (ValidStream p (clock_field t) l) (stream-valid p (clock_field t) l h clock-fits)
      n rs streams-fit octets-records-part (streams-kept t f) in
      record {
        settings = settings-valid s octets-settings-part ports-fit (settings-kept t f);
        clock = clock-fits;
        eight_totals = length-parts total_size to_totals 8 (totals_part t);
        totals = rw (← any-holds p (clock_field t) l h clock-fits n rs streams-fit octets-records-part (streams-kept t f)) (totals-kept t f);
        eight_owns = length-parts own_size to_own 8 (owns_part t);
        owns = many-valid coded p 8 h (owns_part t) (owns-room t f) octets-owns-part (owns-kept t f) (owns-zero t f);
        no-other-owns = rw e (many-others coded p 8 h (owns_part t) (owns-room t f) octets-owns-part (owns-kept t f) (owns-zero t f));
        eight_senders = length-parts sender_size to_sender 8 (senders_part t);
        senders = λ q g.
            let z : 0 + q ≡ q = omega arith in
            rw z at (senders-valid (to_settings s) (clock_field t) 0 p 8 (senders_part t) h (omega (arith, senders-room t f, h)) (senders-kept t f) q (omega (arith, e, g)));
        no-other-senders = rw e (many-others sender-coded p 8 h (senders_part t) (senders-room t f) octets-senders-part senders-ruled (senders-zero t f));
        at_most_64 = omega (arith, length-parts record_size to_stream n rs, count_kept t f);
        streams = rw e read;
        ascending = rising-rises (ids (parts record_size to_stream n rs)) rise;
      }

  settings-written : settings_whole (decode t) ≡ settings_part t
  unfolding decode
  settings-written =
      let s = settings_part t in
      let e = settings-ports s in
      let k : length (drop (port_place (ports_field s)) s) ≡ (8 - length (to_settings s).ports) * port_size =
      length-drop (port_place (ports_field s)) s ∙ omega (arith, settings-room-length t f, eight_ports s (settings-kept t f)) in
      let z = zeros-zero (drop (port_place (ports_field s)) s) (settings-zero t f) ∙ ap zeros k in
      rw (← z, settings-taken s octets-settings-part ports-fit (settings-kept t f)) (take-append-drop (port_place (ports_field s)) s)

  clock-written : clock_and_count (decode t) ≡ part in_table.clock clock_size t
  unfolding decode clock_field count_field fields width
  clock-written =
      rw (length-parts record_size to_stream (get_or t in_table.count 0) (records_part t), ← octet-field t in_table.count)
      (packed-fields clock_widths in_table.clock t (omega (arith, formed-table-length t f)) (octets-at t o))

  totals-written : totals_whole (decode t) ≡ totals_part t
  unfolding decode
  totals-written =
      every-forth total_size (λ p. true) to_totals totals_octets (λ p l c e. totals-forth p l c) 8 (totals_part t) (omega (arith, totals-room t f)) octets-totals-part
      (every_any total_size 8 (totals_part t))
      ∙ take_all totals_size (totals_part t) (omega (arith, totals-room t f))

  owns-written : owns_whole (decode t) ≡ owns_part t
  unfolding decode
  owns-written =
      let s = settings_part t in
      many-forth (owns-coded (clock_field t) (to_settings s).leave_time clock-fits) (ports_field s) 8 (eight_ports s (settings-kept t f))
      (owns_part t) (owns-room t f) octets-owns-part (owns-kept t f) (owns-zero t f)

  senders-written : senders_whole (decode t) ≡ senders_part t
  unfolding decode
  senders-written =
      let s = settings_part t in
      many-forth sender-coded (ports_field s) 8 (eight_ports s (settings-kept t f)) (senders_part t) (senders-room t f) octets-senders-part senders-ruled
      (senders-zero t f)

  records-written : records_whole (decode t) ≡ records_part t
  unfolding decode
  records-written =
      let s = settings_part t in
      let r = records_part t in
      let n = count_field t in
      let p = ports_field s in
      let l = (to_settings s).leave_time in
      let h = eight_ports s (settings-kept t f) in
      let w =
      every-forth record_size (stream_formed p (clock_field t) l) to_stream stream_octets (stream-forth p (clock_field t) l h clock-fits)
      n r streams-fit octets-records-part (streams-kept t f) in
      let e : length (parts record_size to_stream n r) ≡ n = length-parts record_size to_stream n r in
      let k : length (drop (n * record_size) r) ≡ (64 - length (parts record_size to_stream n r)) * record_size =
      length-drop (n * record_size) r ∙ omega (arith, records-room t f, count_kept t f) in
      let z = zeros-zero (drop (n * record_size) r) (records-zero t f) ∙ ap zeros k in
      rw (← z, w) (take-append-drop (n * record_size) r)

  pub encode-decode : encode (decode t) ≡ t
  encode-decode = encode-parts (decode t) ∙ rw (settings-written, clock-written, totals-written, owns-written, senders-written, records-written) (sym (six-parts t))

-- equal contents are equal octets
pub same-octets : (t u : List ℕ) → Octets t → Octets u → formed t ≡ true → formed u ≡ true → decode t ≡ decode u → t ≡ u
same-octets t u o p f g e = sym (encode-decode t o f) ∙ ap encode e ∙ encode-decode u p g

-- Start.

none_within : (some : Bool) (n : ℕ) (qs : List Port) → totals_within some (replicate n no_totals) qs ≡ true
unfolding totals_within no_totals
none_within some zero qs = refl
none_within some (suc n) [] = none_within some n []
none_within some (suc n) (q ∷ qs) =
    rw (le-leb 0 (at_most some q.supports_a q.limit_a) (omega arith), le-leb 0 (at_most some q.supports_b (in_force q 0 class_b)) (omega arith))
    (none_within some n qs)

pub valid-started : (s : List ℕ) → Octets s → settings_formed s ≡ true → Valid (started (to_settings s))
unfolding started ids Rising sender_at
valid-started s o f = record {
  settings = formed-valid s o f;
  clock = omega arith;
  eight_totals = refl;
  totals = none_within _ 8 (to_settings s).ports;
  eight_owns = refl;
  owns = all_replicate (ValidOwn 0 (to_settings s).leave_time) 8 no_own (owns-coded 0 (to_settings s).leave_time (omega arith)).good;
  no-other-owns = all_drop (λ o. o ≡ no_own) (length (to_settings s).ports) (replicate 8 no_own) (all_replicate (λ o. o ≡ no_own) 8 no_own refl);
  eight_senders = length-tabulate _ 8 0;
  senders = λ p h.
      rw (at_place (started_sender (to_settings s)) p no_sender (omega (arith, (formed-valid s o f).eight_ports, h))) (started-valid (to_settings s) p);
  no-other-senders =
      all-drop-tabulate (λ x. x ≡ no_sender) (length (to_settings s).ports) 8 0 (started_sender (to_settings s)) (λ p h. started_none (to_settings s) p (omega (arith, h)));
  at_most_64 = omega arith;
  streams = tt;
  ascending = tt;
}
