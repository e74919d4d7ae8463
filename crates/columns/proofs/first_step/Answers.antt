use Rattle.std.proofs.Common.{sym, ◌∙◌, get_or, arith}
use borrow.Author.Tests.{eq-eqb, ne_eqb, lt-ltb, le-ltb}
use Rattle.model.specs.Table.{decode}
use Rattle.columns.specs.Steps.{step_shown}
use Rattle.columns.proofs.Steps.{talking, not-talking, no_source, steps-told, supports-told, none-told, some-told, edge-told}
use Rattle.columns.proofs.first_step.Goals as goal

pub returns-then-kind-eq0 : goal.returns-then-kind-eq0
unfolding step_shown
returns-then-kind-eq0 c = λ sc n w m. no_source sc _ _ _ _ m n c.if-kind-eq0.true

pub returns-then-p-t : goal.returns-then-p-t
unfolding step_shown
returns-then-p-t c = λ sc n w m. let a = c.args in sym (steps-told (decode a.table.now) a.own.edges a.here.now a.said.now a.p a.t sc n w m c.if-kind-eq0.false ∙ rw (eq-eqb a.p a.t c.if-p-t.true))

pub returns-then-not-supports : goal.returns-then-not-supports
unfolding step_shown
returns-then-not-supports c = λ sc n w m. let a = c.args in sym (steps-told (decode a.table.now) a.own.edges a.here.now a.said.now a.p a.t sc n w m c.if-kind-eq0.false ∙ rw (ne_eqb a.p a.t c.if-p-t.false, supports-told (decode a.table.now) a.own.edges a.here.now a.said.now a.p a.t _ c.get.ensures.0 _ c.class_of-class.ensures _ _ c.supports.ensures c.port_at.ensures.is, c.if-not-supports.true))

pub returns-then-own : goal.returns-then-own
unfolding step_shown
returns-then-own c = λ sc n w m. let a = c.args in sym (steps-told (decode a.table.now) a.own.edges a.here.now a.said.now a.p a.t sc n w m c.if-kind-eq0.false ∙ rw (ne_eqb a.p a.t c.if-p-t.false, supports-told (decode a.table.now) a.own.edges a.here.now a.said.now a.p a.t _ c.get.ensures.0 _ c.class_of-class.ensures _ _ c.supports.ensures c.port_at.ensures.is, c.if-not-supports.false, ← c.requires.1, c.if-own.true))

pub returns-then-kind-ne1 : goal.returns-then-kind-ne1
unfolding step_shown
returns-then-kind-ne1 c = λ sc n w m. let a = c.args in sym (steps-told (decode a.table.now) a.own.edges a.here.now a.said.now a.p a.t sc n w m c.if-kind-eq0.false ∙ rw (ne_eqb a.p a.t c.if-p-t.false, supports-told (decode a.table.now) a.own.edges a.here.now a.said.now a.p a.t _ c.get.ensures.0 _ c.class_of-class.ensures _ _ c.supports.ensures c.port_at.ensures.is, c.if-not-supports.false, ← c.requires.1, c.if-own.false, ne_eqb _ _ c.if-kind-ne1.true))

pub returns-then-mark-eq1 : goal.returns-then-mark-eq1
unfolding step_shown
returns-then-mark-eq1 c = λ sc n w m. let a = c.args in sym (steps-told (decode a.table.now) a.own.edges a.here.now a.said.now a.p a.t sc n w m c.if-kind-eq0.false ∙ rw (ne_eqb a.p a.t c.if-p-t.false, supports-told (decode a.table.now) a.own.edges a.here.now a.said.now a.p a.t _ c.get.ensures.0 _ c.class_of-class.ensures _ _ c.supports.ensures c.port_at.ensures.is, c.if-not-supports.false, ← c.requires.1, c.if-own.false, eq-eqb (get_or a.said.now 0 0) 1 (omega (arith, c.if-kind-ne1.false)), eq-eqb _ _ c.if-mark-eq1.true))

pub returns-then-get : goal.returns-then-get
unfolding step_shown
returns-then-get c = λ sc n w m. let a = c.args in sym (steps-told (decode a.table.now) a.own.edges a.here.now a.said.now a.p a.t sc n w m c.if-kind-eq0.false ∙ rw (ne_eqb a.p a.t c.if-p-t.false, supports-told (decode a.table.now) a.own.edges a.here.now a.said.now a.p a.t _ c.get.ensures.0 _ c.class_of-class.ensures _ _ c.supports.ensures c.port_at.ensures.is, c.if-not-supports.false, ← c.requires.1, c.if-own.false, eq-eqb (get_or a.said.now 0 0) 1 (omega (arith, c.if-kind-ne1.false)), ne_eqb _ _ c.if-mark-eq1.false, ← c.get-2.ensures.0, ← c.get-3.ensures.0, lt-ltb _ _ c.if-get.true))

pub returns-then-here-ne0 : goal.returns-then-here-ne0
unfolding step_shown
returns-then-here-ne0 c = λ sc n w m. let a = c.args in sym (steps-told (decode a.table.now) a.own.edges a.here.now a.said.now a.p a.t sc n w m c.if-kind-eq0.false ∙ rw (ne_eqb a.p a.t c.if-p-t.false, supports-told (decode a.table.now) a.own.edges a.here.now a.said.now a.p a.t _ c.get.ensures.0 _ c.class_of-class.ensures _ _ c.supports.ensures c.port_at.ensures.is, c.if-not-supports.false, ← c.requires.1, c.if-own.false, eq-eqb (get_or a.said.now 0 0) 1 (omega (arith, c.if-kind-ne1.false)), ne_eqb _ _ c.if-mark-eq1.false, ← c.get-2.ensures.0, ← c.get-3.ensures.0, le-ltb _ _ c.if-get.false, talking _ c.if-here-ne0.true))

pub returns-in_default : goal.returns-in_default
unfolding step_shown
returns-in_default c = λ sc n w m. let a = c.args in sym (steps-told (decode a.table.now) a.own.edges a.here.now a.said.now a.p a.t sc n w m c.if-kind-eq0.false ∙ rw (ne_eqb a.p a.t c.if-p-t.false, supports-told (decode a.table.now) a.own.edges a.here.now a.said.now a.p a.t _ c.get.ensures.0 _ c.class_of-class.ensures _ _ c.supports.ensures c.port_at.ensures.is, c.if-not-supports.false, ← c.requires.1, c.if-own.false, eq-eqb (get_or a.said.now 0 0) 1 (omega (arith, c.if-kind-ne1.false)), ne_eqb _ _ c.if-mark-eq1.false, ← c.get-2.ensures.0, ← c.get-3.ensures.0, le-ltb _ _ c.if-get.false, not-talking _ c.if-here-ne0.false, none-told (decode a.table.now) a.own.edges a.here.now a.said.now a.p a.t _ c.get.ensures.0 _ c.class_of-class.ensures c.in_default.is))

pub returns-then-of : goal.returns-then-of
unfolding step_shown
returns-then-of c = λ sc n w m. let a = c.args in sym (steps-told (decode a.table.now) a.own.edges a.here.now a.said.now a.p a.t sc n w m c.if-kind-eq0.false ∙ rw (ne_eqb a.p a.t c.if-p-t.false, supports-told (decode a.table.now) a.own.edges a.here.now a.said.now a.p a.t _ c.get.ensures.0 _ c.class_of-class.ensures _ _ c.supports.ensures c.port_at.ensures.is, c.if-not-supports.false, ← c.requires.1, c.if-own.false, eq-eqb (get_or a.said.now 0 0) 1 (omega (arith, c.if-kind-ne1.false)), ne_eqb _ _ c.if-mark-eq1.false, ← c.get-2.ensures.0, ← c.get-3.ensures.0, le-ltb _ _ c.if-get.false, not-talking _ c.if-here-ne0.false, some-told (decode a.table.now) a.own.edges a.here.now a.said.now a.p a.t _ c.get.ensures.0 _ c.class_of-class.ensures _ c.in-Some.is, edge-told (decode a.table.now) a.own.edges a.here.now a.said.now a.p a.t _ c.get.ensures.0 _ c.class_of-class.ensures _ c.in-Some.is _ c.of.ensures, c.if-of.true))

pub returns : goal.returns
unfolding step_shown
returns c = λ sc n w m. let a = c.args in sym (steps-told (decode a.table.now) a.own.edges a.here.now a.said.now a.p a.t sc n w m c.if-kind-eq0.false ∙ rw (ne_eqb a.p a.t c.if-p-t.false, supports-told (decode a.table.now) a.own.edges a.here.now a.said.now a.p a.t _ c.get.ensures.0 _ c.class_of-class.ensures _ _ c.supports.ensures c.port_at.ensures.is, c.if-not-supports.false, ← c.requires.1, c.if-own.false, eq-eqb (get_or a.said.now 0 0) 1 (omega (arith, c.if-kind-ne1.false)), ne_eqb _ _ c.if-mark-eq1.false, ← c.get-2.ensures.0, ← c.get-3.ensures.0, le-ltb _ _ c.if-get.false, not-talking _ c.if-here-ne0.false, some-told (decode a.table.now) a.own.edges a.here.now a.said.now a.p a.t _ c.get.ensures.0 _ c.class_of-class.ensures _ c.in-Some.is, edge-told (decode a.table.now) a.own.edges a.here.now a.said.now a.p a.t _ c.get.ensures.0 _ c.class_of-class.ensures _ c.in-Some.is _ c.of.ensures, c.if-of.false))
