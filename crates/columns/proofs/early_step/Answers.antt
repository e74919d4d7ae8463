use Rattle.std.proofs.Common.{◌<◌, length, ◌∙◌, rules}
use Rattle.model.specs.Table.{decode}
use Rattle.table.specs.Updates.{stream_at}
use Rattle.columns.specs.Steps.{step_shown}
use Rattle.columns.proofs.Steps.{no-port, named-by, same-failure}
use Rattle.columns.proofs.Talkers.{source-read, size-read}
use Rattle.columns.proofs.early_step.Goals as goal

pub returns-then-ports-p : goal.returns-then-ports-p
unfolding step_shown
returns-then-ports-p c = λ sc w. no-port sc _ _ (rw (w.settings, ← c.ports.ensures.0) c.if-ports-p.true)

pub first_step-requires : goal.first_step-requires
first_step-requires c =
    let e = source-read _ _ c.requires.0.talker.is _ c.cell_at-talker.ensures in
    (search rules, rw e c.requires.2)

pub returns-in-Some : goal.returns-in-Some
returns-in-Some c = λ sc w.
    let x = stream_at c.args.k (decode c.args.table.now) in
    let q = c.requires.0 in
    let e = source-read _ _ q.talker.is _ c.cell_at-talker.ensures in
    let port : c.args.p < length sc.settings.ports = rw (w.settings, ← c.ports.ensures.0) c.if-ports-p.false in
    let found = named-by sc _ x port _ (λ m. c.first_step.ensures sc x.id w m ∙ rw (c.cell_at-here.ensures.is, e)) _ (same-failure _ _ w q.is) _
    (size-read _ _ q.talker.is _ c.cell_at-talker.ensures) in
    rw c.in-Some.is at found

pub returns-in-None : goal.returns-in-None
returns-in-None c = λ sc w.
    let x = stream_at c.args.k (decode c.args.table.now) in
    let q = c.requires.0 in
    let e = source-read _ _ q.talker.is _ c.cell_at-talker.ensures in
    let port : c.args.p < length sc.settings.ports = rw (w.settings, ← c.ports.ensures.0) c.if-ports-p.false in
    let found = named-by sc _ x port _ (λ m. c.first_step.ensures sc x.id w m ∙ rw (c.cell_at-here.ensures.is, e)) _ (same-failure _ _ w q.is) _
    (size-read _ _ q.talker.is _ c.cell_at-talker.ensures) in
    c.last_step.ensures ∙ rw (← w.settings) (rw c.in-None.is at found)
