-- Write and report on a table, way by way: what they answer, and what write leaves of the buffer and of the table.
use mathlib.Core.Path.{◌≡◌, refl, ◌∙◌, ap}
use mathlib.Core.List.{List}
use mathlib.Core.Bool.{Bool, true, false}
use Prim.Native.Nat.{ℕ, ◌-◌, ◌≤◌, ◌<◌}
use lib.ListN.{length}
use borrow.Author.Tests.{lt-ltb, le-ltb}
use Rattle.model.specs.FrameLayout.{longest_pdu}
use Rattle.model.specs.Lists.{Octets}
use Rattle.model.specs.Frames.{wrong_port}
use Rattle.model.specs.Declarations.{declarations}
use Rattle.model.specs.Writing.{wrote_on, after_write, write}
use Rattle.model.specs.Reports.{refused_report, report}
use Rattle.model.specs.Table.{formed, encode, decode}
use Rattle.model.specs.Calls.{refused_write, written_to, write_on, report_on}
use Rattle.model.proofs.Tables.{valid-decode}
use Rattle.model.proofs.ReceiveKeepsForm.{right-port}
use Rattle.model.proofs.PortPasses.{listed-port}
use Rattle.declarations.specs.declared.Taken.{Taken}
use Rattle.declarations.specs.Passes.{run_on, pdu_on, PduWritten}
use Rattle.moving.specs.declared.Span.{Span}
use Rattle.moving.specs.Moves.{ListMoved}
use Rattle.moving.proofs.AfterWrite.{SpanOf, moves-written, left-written}
use Rattle.bridge.specs.Promises.{port_refusal, Writes}

-- what a refused write answers, with the buffer and the table as they were
pub refused : (t : List ℕ) (p place : ℕ) (buffer : List ℕ) (n : ℕ) → write_on t p place buffer ≡ refused_write n t buffer → Writes t p place buffer n 0 0 buffer t
unfolding refused_write
refused t p place buffer n e = record { number_is = rw e; length_is = rw e; next_is = rw e; buffer_is = rw e; table_is = rw e }

module _ (t : List ℕ) (p place : ℕ) (buffer : List ℕ) where
  -- before the buffer is looked at
  pub write-refused : (n : ℕ) → n ≡ port_refusal t p → (n ≡ 0 → ⊥) → write_on t p place buffer ≡ refused_write n t buffer
  unfolding write_on port_refusal
  write-refused n e z = go (formed t) (wrong_port (decode t).settings p) refl refl
    where
      go : (h w : Bool) → formed t ≡ h → wrong_port (decode t).settings p ≡ w → write_on t p place buffer ≡ refused_write n t buffer
      go true true h w = let q : n ≡ 1 = e ∙ rw (h, w) in rw (h, w, q)
      go true false h w = absurd (z (e ∙ rw (h, w)))
      go false w h v = let q : n ≡ 12 = e ∙ rw h in rw (h, q)

  module _ (h : formed t ≡ true) (w : wrong_port (decode t).settings p ≡ false) where
    pub write-short : length buffer < longest_pdu → write_on t p place buffer ≡ refused_write 10 t buffer
    unfolding write_on
    write-short l = rw (h, w, lt-ltb (length buffer) longest_pdu l)

    module _ (l : longest_pdu ≤ length buffer) where
      pub write-above : length (declarations (decode t) (p - 1)) < place → write_on t p place buffer ≡ refused_write 13 t buffer
      unfolding write_on write written_to
      write-above a = rw (h, w, le-ltb (length buffer) longest_pdu l, lt-ltb _ _ a)

      -- the PDU is written, then the machines are moved
      pub write_done : Octets t → place ≤ length (declarations (decode t) (p - 1)) → (r : Taken) (after : List ℕ) → PduWritten (decode t) (p - 1) place buffer r after
          → (next : ℕ) (u : List ℕ) → ListMoved record { place = place; end = r.end; all = r.all } (p - 1) t next u
          → Writes t p place buffer 0 r.length next after u
      unfolding write_on write written_to run_on pdu_on
      write_done o a r after d next u m =
          let b = decode t in
          let span : Span = record { place = place; end = r.end; all = r.all } in
          let reached : SpanOf b (p - 1) place span = record { place_is = refl; end_is = d.end; all-is = d.all } in
          let listed = listed-port b (valid-decode t o h) (p - 1) (right-port b.settings p w) in
          let table : u ≡ encode (after_write b (p - 1) place) = m.table ∙ ap encode (moves-written b (p - 1) place span reached) in
          let place-then : next ≡ (wrote_on b (p - 1) place).next = m.next ∙ left-written b (p - 1) place span reached listed a in
          record {
            number_is = rw (h, w, le-ltb (length buffer) longest_pdu l, le-ltb _ _ a);
            length_is = rw (h, w, le-ltb (length buffer) longest_pdu l, le-ltb _ _ a) d.size;
            next_is = rw (h, w, le-ltb (length buffer) longest_pdu l, le-ltb _ _ a) place-then;
            buffer_is = rw (h, w, le-ltb (length buffer) longest_pdu l, le-ltb _ _ a) d.buffer;
            table_is = rw (h, w, le-ltb (length buffer) longest_pdu l, le-ltb _ _ a) table;
          }

module _ (t : List ℕ) (p place : ℕ) where
  pub report-refused : (n : ℕ) → n ≡ port_refusal t p → (n ≡ 0 → ⊥) → report_on t p place ≡ refused_report n
  unfolding report_on port_refusal
  report-refused n e z = go (formed t) (wrong_port (decode t).settings p) refl refl
    where
      go : (h w : Bool) → formed t ≡ h → wrong_port (decode t).settings p ≡ w → report_on t p place ≡ refused_report n
      go true true h w = let q : n ≡ 1 = e ∙ rw (h, w) in rw (h, w, q)
      go true false h w = absurd (z (e ∙ rw (h, w)))
      go false w h v = let q : n ≡ 12 = e ∙ rw h in rw (h, q)

  pub report-unformed : formed t ≡ false → report_on t p place ≡ refused_report 12
  unfolding report_on
  report-unformed h = rw h

  module _ (h : formed t ≡ true) where
    pub report-wrong-port : wrong_port (decode t).settings p ≡ true → report_on t p place ≡ refused_report 1
    unfolding report_on
    report-wrong-port w = rw (h, w)

    module _ (w : wrong_port (decode t).settings p ≡ false) where
      pub report-above : length (decode t).streams < place → report_on t p place ≡ refused_report 13
      unfolding report_on report
      report-above a = rw (h, w, lt-ltb (length (decode t).streams) place a)

      pub report-done : report_on t p place ≡ report (decode t) p place
      unfolding report_on
      report-done = rw (h, w)
