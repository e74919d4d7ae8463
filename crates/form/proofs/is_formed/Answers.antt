use Rattle.std.proofs.Common.{◌≡◌, ◌∙◌, sym, subst, ap, false, length, List, ℕ}
use borrow.Author.Tests.{ne_eqb}
use Rattle.model.specs.Layout.{table_length}
use Rattle.model.specs.Table.{formed}
use Rattle.form.proofs.Tables.{given, too-many-streams, no-header, behind-header}
use Rattle.form.proofs.is_formed.Goals as goal

pub returns-in_default : goal.returns-in_default
unfolding formed
returns-in_default c =
    let n : length c.args.table.now ≡ table_length → ⊥ = c.in_default.ensures.cases in
    rw (ne_eqb _ _ n)

pub returns-then-table-gt64 : goal.returns-then-table-gt64
returns-then-table-gt64 c =
    let w = c.in-Some.ensures.cases in
    subst (λ (t : List ℕ). false ≡ formed t) w.same (too-many-streams _ (ap length w.same ∙ w.long) c.if-table-gt64.true)

pub returns-then-not-header_formed : goal.returns-then-not-header_formed
returns-then-not-header_formed c =
    let w = c.in-Some.ensures.cases in
    subst (λ (t : List ℕ). false ≡ formed t) w.same (no-header _ (ap length w.same ∙ w.long) (sym c.header_formed.ensures ∙ c.if-not-header_formed.true))

pub totals_formed-requires : goal.totals_formed-requires
totals_formed-requires c = given _ _ c.of-head.ensures c.if-table-gt64.false _ c.header_formed.ensures c.if-not-header_formed.false

pub edges_formed-requires : goal.edges_formed-requires
edges_formed-requires c = given _ _ c.of-head.ensures c.if-table-gt64.false _ c.header_formed.ensures c.if-not-header_formed.false

pub sending_formed-requires : goal.sending_formed-requires
sending_formed-requires c = given _ _ c.of-head.ensures c.if-table-gt64.false _ c.header_formed.ensures c.if-not-header_formed.false

pub streams_formed-requires : goal.streams_formed-requires
streams_formed-requires c = given _ _ c.of-head.ensures c.if-table-gt64.false _ c.header_formed.ensures c.if-not-header_formed.false

pub returns : goal.returns
returns c =
    let w = c.in-Some.ensures.cases in
    let t = c.in-Some.table.now in
    behind-header t (ap length w.same ∙ w.long) (sym c.header_formed.ensures ∙ c.if-not-header_formed.false) _ _ _ _
    c.totals_formed.ensures c.edges_formed.ensures c.sending_formed.ensures c.streams_formed.ensures
    ∙ ap formed w.same
