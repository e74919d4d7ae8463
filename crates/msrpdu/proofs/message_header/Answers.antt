use Rattle.std.proofs.Common.{Ok, rules, arith, sym, ap, ◌∙◌}
use Rattle.msrpdu.proofs.Laws.{from-refused, skip-long, skip, from-length, list-long, list_read_lem}
use Rattle.msrpdu.proofs.message_header.Goals as goal

pub returns-in_err-type_read : goal.returns-in_err-type_read
returns-in_err-type_read c =
    let h = from-refused c.args.pdu.now c.args.at _ _ c.get-list.ensures.0 _ (sym c.type_read.ensures ∙ c.in_err-type_read.was) in
    search rules

pub returns-then-left-list : goal.returns-then-left-list
returns-then-left-list c =
    sym (skip-long _ _ _ _ c.get-list.ensures.0 (sym c.type_read.ensures ∙ (c.in_ok-type_read.was ∙ ap Ok c.in-None.is)) (omega arith))

pub returns-else-left-list : goal.returns-else-left-list
returns-else-left-list c =
    sym (skip _ _ _ _ c.get-list.ensures.0 (sym c.type_read.ensures ∙ (c.in_ok-type_read.was ∙ ap Ok c.in-None.is)) (omega arith))

pub returns-then-pdu-at : goal.returns-then-pdu-at
returns-then-pdu-at c =
    sym (from-length _ _ _ _ c.get-list.ensures.0 _ _ (sym c.type_read.ensures ∙ (c.in_ok-type_read.was ∙ ap Ok c.in-Some.is)) c.if-pdu-at.true)

pub returns-then-left-list-2 : goal.returns-then-left-list-2
returns-then-left-list-2 c =
    sym (list-long _ _ _ _ c.get-list.ensures.0 _ _ (sym c.type_read.ensures ∙ (c.in_ok-type_read.was ∙ ap Ok c.in-Some.is)) c.if-pdu-at.false (omega arith))

pub returns-else-left-list-2 : goal.returns-else-left-list-2
returns-else-left-list-2 c =
    sym (list_read_lem _ _ _ _ c.get-list.ensures.0 _ _ (sym c.type_read.ensures ∙ (c.in_ok-type_read.was ∙ ap Ok c.in-Some.is)) c.if-pdu-at.false (omega arith))
