use Rattle.std.proofs.Common.{rules, arith, sym}
use Rattle.mmrpdu.proofs.Laws.{message-done, message-short, message-mark, message-refused, message-list}
use Rattle.mmrpdu.proofs.message.Goals as goal

pub returns-then-at-n : goal.returns-then-at-n
returns-then-at-n c = sym (message-done _ _ _ c.if-at-n.true)

pub returns-then-n-lt2 : goal.returns-then-n-lt2
returns-then-n-lt2 c = sym (message-short _ _ _ c.if-at-n.false (omega arith))

pub returns-then-n-at : goal.returns-then-n-at
returns-then-n-at c = sym (message-short _ _ _ c.if-at-n.false (omega arith))

pub returns-then-get-eq0 : goal.returns-then-get-eq0
returns-then-get-eq0 c = sym (message-mark _ _ _ c.if-at-n.false (omega arith) _ c.get.ensures.0 c.if-get-eq0.true)

pub returns-in_err-check_header : goal.returns-in_err-check_header
returns-in_err-check_header c =
    let h = message-refused c.args.version c.args.pdu.now c.args.at c.if-at-n.false (omega arith) _ c.get.ensures.0 c.if-get-eq0.false _ c.check_header.ensures _ c.in_err-check_header.was in
    search rules

pub returns : goal.returns
returns c =
    sym (message-list _ _ _ c.if-at-n.false (omega arith) _ c.get.ensures.0 c.if-get-eq0.false _ c.check_header.ensures c.in_ok-check_header.was)
