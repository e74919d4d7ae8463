use Rattle.std.proofs.Common.{◌∙◌, arith, length}
use mathlib.Core.Path.{ap₂}
use lib.Seq.{take_all}
use Rattle.std.proofs.lemmas.List.{length_push}
use Rattle.std.proofs.lemmas.Slice.Zip.{zip_turn, zip_end}
use Rattle.form.specs.Asks.{all_pairs}
use Rattle.form.proofs.Ports.{pairs-more}
use Rattle.form.proofs.every_pair.Goals as goal

pub loop-part-preserved : goal.loop-part-preserved
loop-part-preserved g c = λ test h.
    let l = c.loop-part in
    let at = zip_turn c.args.parts.now c.args.others.now l.yielded c.into_iter-part-iterator.result l.part-iterator c.next.new.self c.next.result (cc) (cc) l.yielded_by _ c.in-Some.is c.next.ensures.steps in
    let e = pairs-more test c.args.parts.now c.args.others.now (length l.yielded) c.in-Some.part.now c.in-Some.other.now at.0 at.1 in
    let a = at.2 c.in-Some.part.now in
    let b = at.3 c.in-Some.other.now in
    let n = length_push l.yielded (c.in-Some.part, c.in-Some.other) in
    let k = l.invariant test h in
    let r = h _ _ _ record { met = c.rule-ok.ensures } in
    cc

pub returns : goal.returns
returns g c = λ test h.
    let l = c.loop-part in
    let n = zip_end c.args.parts.now c.args.others.now l.yielded c.into_iter-part-iterator.result l.part-iterator c.next.new.self c.next.result (cc) (cc) l.yielded_by c.in-None.is c.next.ensures.steps in
    l.invariant test h ∙ ap₂ (all_pairs test) (take_all _ _ (omega (arith, n, c.requires.same))) (take_all _ _ (omega (arith, n, c.requires.same)))
