use Rattle.std.proofs.Common.{sym, ◌∙◌, arith, rules}
use Rattle.streams.proofs.Sources.{port_below, port-is}
use Rattle.fanin.proofs.Addresses.{no-failure, shared-failure, brings-in, kept_out_lem}
use Rattle.fanin.proofs.common_failure.Goals as goal

pub returns-in_err-t : goal.returns-in_err-t
returns-in_err-t c =
    let h = no-failure _ c.args.k c.requires.0 (sym c.source.ensures ∙ c.in_err-t.was) in
    search rules

pub returns-then-taken : goal.returns-then-taken
returns-then-taken c =
    shared-failure _ c.args.k c.requires.0 _ (sym c.source.ensures ∙ c.in_ok-t.was) _ c.requires.2 c.if-taken.true

pub may_bring-requires : goal.may_bring-requires
may_bring-requires c =
    let e = port-is _ _ (sym c.source.ensures ∙ c.in_ok-t.was) in
    (c.requires.0.laid, omega (arith, e, port_below _ _ c.requires.0), c.requires.1)

pub returns-then-may_bring : goal.returns-then-may_bring
returns-then-may_bring c =
    brings-in _ c.args.k c.requires.0 _ (sym c.source.ensures ∙ c.in_ok-t.was) _ c.requires.2 c.if-taken.false _ c.may_bring.ensures c.if-may_bring.true

pub returns : goal.returns
returns c =
    kept_out_lem _ c.args.k c.requires.0 _ (sym c.source.ensures ∙ c.in_ok-t.was) _ c.requires.2 c.if-taken.false _ c.may_bring.ensures c.if-may_bring.false
