-- The rules of a table in terms of its octets: settings and totals, then stream records.
use mathlib.Core.Path.{◌≡◌, sym, ap, ◌∙◌}
use mathlib.Core.List.{List}
use mathlib.Core.Bool.{Bool, true, false, ◌&&◌, ◌||◌, and_assoc, and-true, and-false}
use Prim.Native.Nat.{ℕ, ◌+◌, ◌-◌, ◌*◌, ◌/◌, ◌%◌, ◌≤◌, ◌<◌}
use native.Mathlib.Omega.{arith}
use lib.ListN.{length, get_or, take, drop, length-drop}
use lib.Seq.{drop-drop, length-take-le, take_all}
use lib.Dec.{leb, eqb}
use borrow.Author.Tests.{eq-eqb, le-leb, lt-leb}
use Rattle.std.specs.List.{list_all, list_any, count_by}
use Rattle.std.proofs.lemmas.List.{drop-take}
use Rattle.octets.specs.Be.{be_at}
use Rattle.octets.specs.Parts.{part}
use Rattle.octets.specs.Fields.{fields}
use Rattle.octets.proofs.Frame.{be_at-part}
use Rattle.model.specs.Layout.{all_sends_size, cell_size, in_record, cells_size, in_table, name_widths, own_size, owns_size, port_place, port_size, ports_unit, record_size, records_size, result_size, results_size, sender_size, senders_size, sends_size, settings_size, table_length, total_size, totals_size, in_head}
use Rattle.model.specs.Lists.{all_true, all_zero, implies, parts}
use Rattle.model.specs.State.{no_port, port_at}
use Rattle.model.specs.Table.{ports_field, to_port, to_settings, settings_rules, cell_formed, cells_part, results_part, to_stream, all_sends_part, stream_rules, stream_formed, own_formed, owns_part}
use Rattle.model.specs.Table.{settings_part, count_field, totals_part, senders_part, records_part, any_holds, rising, id_of, table_rules, formed}
use Rattle.model.proofs.Lists.{all_true_lem}
use Rattle.model.proofs.SettingsOctets.{eight_ports}
use Rattle.form.specs.declared.Head.{Head}
use Rattle.form.specs.Asks.{IsHead, TableGiven, all_pairs, registers, talks, declares_any, sends_any, result_beside, sent_beside, within, sender_beside}
use Rattle.form.proofs.Tests.{all-true-split}
use Rattle.form.proofs.Parts.{same, all-parts, any-cells, any-sends, count-talkers, count-declarers}
use Rattle.form.proofs.Ports.{pairs-results, pairs-sends}
use Rattle.form.proofs.Totals.{pairs-totals}
use Rattle.form.proofs.Senders.{part_at, pairs-senders}

-- a stream record: the tests of its parts, as they were lent
pub record-tests : (ports clock leave : ℕ) (s : List ℕ) → ports ≤ 8 → (cs rs ss : List ℕ) → cs ≡ take cells_size (drop in_record.cells s) → rs ≡ take results_size (drop in_record.results s)
    → ss ≡ take all_sends_size (drop in_record.sends s)
    → (n : ℕ) → n ≡ count_by talks (parts cell_size same ports cs)
    → (settled formed held others results rest sent behind : Bool)
    → settled ≡ (eqb (get_or s in_record.priority 0 % 16) 0 && implies (eqb n 0) (all_zero (drop 1 (fields name_widths 0 s))))
    → formed ≡ list_all (cell_formed clock leave) (parts cell_size same ports cs)
    → held ≡ (list_any registers (parts cell_size same ports cs) || list_any sends_any (parts sends_size same ports ss))
    → others ≡ all_zero (drop (ports * cell_size) cs)
    → results ≡ (all_pairs (result_beside clock n) (parts cell_size same ports cs) (parts result_size same ports rs) && leb (count_by declares_any (parts result_size same ports rs)) 1)
    → rest ≡ all_zero (drop (ports * result_size) rs)
    → sent ≡ all_pairs sent_beside (parts result_size same ports rs) (parts sends_size same ports ss)
    → behind ≡ all_zero (drop (ports * sends_size) ss)
    → (settled && formed && held && others && results && rest && sent && behind) ≡ stream_formed ports clock leave s
unfolding stream_formed stream_rules to_stream cells_part results_part all_sends_part part all_true
record-tests ports clock leave s few cs rs ss c r m n t settled formed held others results rest sent behind a f i b d e g j =
    rw (
      a,
      f ∙ all-parts cell_size (cell_formed clock leave) ports cs,
      i,
      any-cells ports cs,
      any-sends ports ss,
      b,
      d,
      pairs-results clock n ports cs rs few,
      count-declarers ports 8 rs few,
      e,
      g ∙ pairs-sends ports rs ss few,
      j,
      t ∙ count-talkers ports 8 cs few,
      c,
      r,
      m,
    )
    simp (and_assoc, and-true)

-- settings that keep their rules have at most eight ports
pub few-ports : (s : List ℕ) (w : ℕ) → w ≡ be_at 3 s in_head.word → all_true (settings_rules s) ≡ true → w / ports_unit ≤ 8
few-ports s w e r =
    let h : be_at 3 s in_head.word / ports_unit ≤ 8 = unfold ports_field in eight_ports s r in
    rw e h

module _ (t : List ℕ) where
  -- settings
  pub header-fails : all_true (settings_rules (take settings_size t)) ≡ false → false ≡ all_true (take 2 (table_rules t))
  unfolding table_rules settings_part part all_true
  header-fails r = rw r

  pub header-tests : (w : ℕ) → w ≡ be_at 3 (take settings_size t) in_head.word → all_true (settings_rules (take settings_size t)) ≡ true
      → (s : List ℕ) → s ≡ take (in_table.clock - in_table.ports) (drop in_table.ports t) → all_zero (drop (w / ports_unit * port_size) s) ≡ all_true (take 2 (table_rules t))
  unfolding table_rules settings_part ports_field part all_true
  header-tests w e r s f =
      let behind : drop (w / ports_unit * port_size) s ≡ drop (port_place (w / ports_unit)) (take settings_size t) =
      rw (f, ← (drop-take in_table.ports (in_table.clock - in_table.ports) t)) (drop-drop (w / ports_unit * port_size) in_table.ports (take settings_size t)) in
      rw (behind, r, e, and-true)

  pub header-ports : all_true (take 2 (table_rules t)) ≡ true → ports_field (settings_part t) ≤ 8
  unfolding table_rules
  header-ports r = eight_ports (settings_part t) (all_true_lem (take 2 (table_rules t)) r).0

  behind-two : (all_true (take 1 (drop 2 (table_rules t))) && all_true (take 2 (drop 3 (table_rules t))) && all_true (take 2 (drop 5 (table_rules t))) && all_true (drop 7 (table_rules t)))
      ≡ all_true (drop 2 (table_rules t))
  unfolding table_rules all_true
  behind-two = simp (and_assoc, and-true)

  module _ (whole : length t ≡ table_length) where
    pub too-many-streams : 64 < get_or t in_table.count 0 → false ≡ formed t
    unfolding formed table_rules count_field all_true
    too-many-streams h = rw (eq-eqb (length t) table_length whole, lt-leb (get_or t in_table.count 0) 64 h) (sym (simp and-false))

    pub no-header : all_true (take 2 (table_rules t)) ≡ false → false ≡ formed t
    unfolding formed
    no-header h = rw (eq-eqb (length t) table_length whole, ← (all-true-split 2 (table_rules t)), h)

    -- the rules behind those of the settings
    pub behind-header : all_true (take 2 (table_rules t)) ≡ true → (totals owns senders streams : Bool)
        → totals ≡ all_true (take 1 (drop 2 (table_rules t))) → owns ≡ all_true (take 2 (drop 3 (table_rules t)))
        → senders ≡ all_true (take 2 (drop 5 (table_rules t))) → streams ≡ all_true (drop 7 (table_rules t))
        → (totals && owns && senders && streams) ≡ formed t
    unfolding formed
    behind-header h totals owns senders streams a b c d =
        rw (eq-eqb (length t) table_length whole, ← (all-true-split 2 (table_rules t)), h, a, b, c, d) behind-two

  pub word : be_at 3 (settings_part t) in_head.word ≡ be_at 3 t in_head.word
  unfolding settings_part
  word = be_at-part 3 0 settings_size in_head.word t (omega arith)

  port-read : (i : ℕ) → i < ports_field (settings_part t)
      → port_at (to_settings (settings_part t)) i ≡ to_port (take port_size (drop (i * port_size) (drop in_table.ports (settings_part t))))
  unfolding port_at to_settings
  port-read i l = part_at port_size (ports_field (settings_part t)) to_port (drop in_table.ports (settings_part t)) i no_port l

  -- the ports' settings, as they are lent
  pub lent-ports : take (in_table.clock - in_table.ports) (drop in_table.ports t) ≡ drop in_table.ports (settings_part t)
  unfolding settings_part part
  lent-ports = sym (drop-take in_table.ports (in_table.clock - in_table.ports) t)

  module _ (h : Head) (g : TableGiven t h) (whole : length t ≡ table_length) where
    -- totals
    pub totals-tests : (ts qs : List ℕ) → ts ≡ take totals_size (drop in_table.totals t) → qs ≡ take (in_table.clock - in_table.ports) (drop in_table.ports t)
        → (some fit none : Bool) → some ≡ any_holds h.ports (count_field t) (records_part t)
        → fit ≡ all_pairs (within some) (parts total_size same h.ports ts) (parts port_size same h.ports qs) → none ≡ all_zero (drop (h.ports * total_size) ts)
        → (fit && none) ≡ all_true (take 1 (drop 2 (table_rules t)))
    unfolding table_rules totals_part to_settings part all_true
    totals-tests ts qs e f some fit none a b c =
        let long : length (take totals_size (drop in_table.totals t)) ≡ totals_size = length-take-le totals_size (drop in_table.totals t) (omega (arith, length-drop in_table.totals t)) in
        rw (b, c, e, f ∙ lent-ports, pairs-totals some h.ports 8 (take totals_size (drop in_table.totals t)) (drop in_table.ports (settings_part t)) g.few_ports (omega (arith, long)), a, g.is.ports, and-true)

    -- what the ports hold
    pub edges-tests : (s : List ℕ) → s ≡ take owns_size (drop in_table.owns t) → (each none : Bool)
        → each ≡ list_all (own_formed h.times.clock h.times.leave) (parts own_size same h.ports s) → none ≡ all_zero (drop (h.ports * own_size) s)
        → (each && none) ≡ all_true (take 2 (drop 3 (table_rules t)))
    unfolding table_rules owns_part part all_true
    edges-tests s e each none a b =
        rw (a ∙ all-parts own_size (own_formed h.times.clock h.times.leave) h.ports s, b, e, g.is.clock, g.is.leave, g.is.ports, and-true)

    -- what the ports send by themselves
    pub sending-tests : (qs ss : List ℕ) → qs ≡ take (in_table.clock - in_table.ports) (drop in_table.ports t) → ss ≡ take senders_size (drop in_table.senders t)
        → (each none : Bool) → each ≡ all_pairs (sender_beside h.slot_a h.slot_b h.times.clock) (parts port_size same h.ports qs) (parts sender_size same h.ports ss)
        → none ≡ all_zero (drop (h.ports * sender_size) ss)
        → (each && none) ≡ all_true (take 2 (drop 5 (table_rules t)))
    unfolding table_rules senders_part part all_true
    sending-tests qs ss e f each none a b =
        let st = to_settings (settings_part t) in
        let room : h.ports * sender_size ≤ length ss = rw f (omega (arith, g.few_ports, length-take-le senders_size (drop in_table.senders t) (omega (arith, length-drop in_table.senders t)))) in
        let read : (i : ℕ) → i < h.ports → port_at st (0 + i) ≡ to_port (take port_size (drop (i * port_size) (drop in_table.ports (settings_part t)))) = λ i l. ap (port_at st) (omega arith) ∙ port-read i (omega (arith, g.is.ports)) in
        rw (a, g.is.slot_a, g.is.slot_b, e ∙ lent-ports, pairs-senders st h.times.clock h.ports 0 (drop in_table.ports (settings_part t)) ss read room, b, f, g.is.clock, g.is.ports, and-true)

    -- the records
    pub streams-tests : (s : List ℕ) → s ≡ take records_size (drop in_table.records t) → (each ids none : Bool)
        → each ≡ list_all (stream_formed h.ports h.times.clock h.times.leave) (parts record_size same (count_field t) s)
        → ids ≡ rising (parts record_size id_of (count_field t) s) → none ≡ all_zero (drop (count_field t * record_size) s)
        → (each && ids && none) ≡ all_true (drop 7 (table_rules t))
    unfolding table_rules count_field records_part all_true
    streams-tests s e each ids none a b c =
        let all : s ≡ drop in_table.records t = e ∙ take_all records_size (drop in_table.records t) (omega (arith, length-drop in_table.records t)) in
        rw (
          a ∙ all-parts record_size (stream_formed h.ports h.times.clock h.times.leave) (get_or t in_table.count 0) s,
          b,
          c,
          le-leb (get_or t in_table.count 0) 64 g.few,
          all,
          g.is.clock,
          g.is.leave,
          g.is.ports,
          and-true,
        )
        simp and_assoc

-- what a table whose settings keep their rules gives its parts
pub given : (t : List ℕ) (h : Head) → IsHead t h → get_or t in_table.count 0 ≤ 64 → (header : Bool) → header ≡ all_true (take 2 (table_rules t)) → header ≡ true → TableGiven t h
given t h i n header e k = record { is = i; few = n; few_ports = rw i.ports (header-ports t (sym e ∙ k)) }
