-- `columns::latency_out` meets its contract. Assumes nothing.
use Prim.Native.Nat.{◌/◌}
use mathlib.Core.Path.{◌≡◌}
use borrow.Author.Rules.{rules}
use Rattle.octets.specs.Be.{be_at}
use Rattle.model.specs.Layout.{in_cell}
use Rattle.model.specs.State.{class_of, class_latency}
use Rattle.model.specs.Table.{to_port, decode}
use Rattle.columns.proofs.Talkers.{latency-capped, latency-whole}
use Rattle.columns.proofs.latency_out.Statement.{statement}
use Rattle.columns.proofs.latency_out.Tie as tie

-- the class latency that was read
added : (c : tie.After-class_latency)
    → c.class_latency.result
    ≡ class_latency (to_port c.port_at.result.now) (class_of (decode c.args.table.now).settings (be_at 1 c.cell_at-talker.result.now in_cell.priority / 32))
added c = rw (← c.get.ensures.0, ← c.class_of-class.ensures) c.class_latency.ensures.0

returns : tie.Need-returns-then-sum-gt4294967295
returns c =
    latency-capped _ _ c.requires.0.is _ c.cell_at-talker.ensures _ _ _ c.port_at.ensures _ _ c.get-2.ensures.0
    (added c.before) c.if-sum-gt4294967295.true

returns-2 : tie.Need-returns
returns-2 c =
    latency-whole _ _ c.requires.0.is _ c.cell_at-talker.ensures _ _ _ c.port_at.ensures _ _ c.get-2.ensures.0
    (added c.before) c.if-sum-gt4294967295.false

pub latency_out_spec : {M : Type 1} → statement M
latency_out_spec =
    tie.close
    (tie.spec (λ c κs. search rules) (λ c κs. search rules) (λ c κs. search rules) (λ c κs. search rules) (λ c κs. search rules)
    (λ c κs. search rules) (λ c. search rules) returns returns-2)
