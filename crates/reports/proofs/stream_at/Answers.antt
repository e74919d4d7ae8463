-- Past the last stream nothing is shown.
use Rattle.std.proofs.Common.{arith, ◌≤◌, length}
use Rattle.model.specs.Table.{decode}
use Rattle.reports.proofs.Showing.{nothing-shown}
use Rattle.reports.proofs.stream_at.Goals as goal

pub returns : goal.returns
returns c =
    let b = decode c.args.table.now in
    let past : length b.streams ≤ c.args.place = omega arith in
    nothing-shown b c.args.place c.args.p _ past c.requires.port c.default.ensures
