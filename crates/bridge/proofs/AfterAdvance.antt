-- Demand 2, of the code: a report after an accepted advance shows no made-up total and no made-up column. The premises are the
-- contracts of advance and report (specs/Promises).
use mathlib.Core.Path.{◌≡◌, ◌∙◌}
use mathlib.Core.List.{List}
use mathlib.Core.Bool.{true}
use Prim.Native.Nat.{ℕ, ◌+◌, ◌-◌, ◌^◌, ◌≤◌, ◌<◌}
use native.Mathlib.Omega.{arith}
use Rattle.model.specs.Lists.{Octets}
use Rattle.model.specs.State.{Class, class_a, class_b, in_force, port_at, stream_at}
use Rattle.model.specs.Reports.{Report}
use Rattle.model.specs.Table.{decode}
use Rattle.model.proofs.SettingsOctets.{both-at-most}
use Rattle.model.proofs.Valid.{Valid}
use Rattle.model.proofs.Tables.{valid-decode}
use Rattle.model.proofs.ReceiveKeepsForm.{right-port}
use Rattle.model.proofs.ColumnRule.{column_at, total_at, spent, Settled, SettledAt, SettledStream}
use Rattle.model.proofs.Refusals.{report-0}
use Rattle.table.proofs.Lens.{all-at}
use Rattle.bridge.specs.Promises.{Advances, Reports}
use Rattle.bridge.proofs.Demand1.{advance-answers}
use Rattle.bridge.proofs.Demand2.{Shows, advance-decides, report-shows}

-- the sum of what the streams of a table reserve on the port at place p, by the columns that it holds
abbrev pub reserved_on : List ℕ → ℕ → Class → ℕ
reserved_on u p c = spent (decode u).settings (decode u).clock p c (column_at p) (λ e. true) (decode u).streams

-- A report r on the table u, at port p and a place.
pub record ShowsSettled (u : List ℕ) (p place : ℕ) (r : Report) : Type 0 where
  -- each class total is the sum of what is reserved; "A's total stays within limit A, and both totals together within the sum of
  -- limits"
  pub totals : (r.total_a ≡ reserved_on u (p - 1) class_a) × (r.total_b ≡ reserved_on u (p - 1) class_b)
  pub limits : (r.total_a ≤ r.limit_a) × (r.total_a + r.total_b ≤ r.limit_a + r.limit_b)
  -- column, entry and Listener of the stream there are what the rules give
  pub stream : place < r.count → SettledAt (decode u) (stream_at place (decode u)) (p - 1)

pub report-settled : (t : List ℕ) (time n : ℕ) (u : List ℕ) → Octets t → time < 2 ^ 32 → Advances t time n u → n ≡ 0 →
    (p place : ℕ) (r : Report) → Reports u p place r → r.number ≡ 0 → ShowsSettled u p place r
unfolding total_at in_force
report-settled t time n u o small call z p place r shown accepted =
    let kept = (advance-answers t time n u o small call).form z in
    let b = decode u in
    let v : Valid b = valid-decode u kept.0 kept.1 in
    let h = (report-0 u p place).0 (rw shown at accepted) in
    let here : p - 1 < 8 = omega (arith, right-port b.settings p h.0.1, v.settings.eight_ports) in
    let d : Settled b = (advance-decides t time n u o small call z).rules.settled in
    let s : Shows u p place r = report-shows u p place r shown accepted in
    record {
      totals = (s.total_a ∙ d.totals (p - 1) here class_a, s.total_b ∙ d.totals (p - 1) here class_b);
      limits = (
        rw (s.total_a, s.limit_a) (d.limits (p - 1) here class_a),
        rw (s.total_a, s.limit_a, s.total_b, s.limit_b) (omega (arith, d.together (p - 1) here, both-at-most (port_at b.settings (p - 1)))),
      );
      stream = λ l. (all-at (SettledStream b) b.streams d.streams place _ (rw s.count at l)).shows (p - 1) here;
    }
