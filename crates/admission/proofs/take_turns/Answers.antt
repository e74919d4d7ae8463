use Rattle.std.proofs.Common.{arith}
use Rattle.admission.proofs.Turns.{turns-start, next-stands, turns_next, turns-done}
use Rattle.admission.proofs.take_turns.Goals as goal

pub loop-number-init : goal.loop-number-init
loop-number-init c = turns-start _ _ _ _ _ c.requires.0.laid

pub turn-used-requires : goal.turn-used-requires
turn-used-requires c =
    let l = c.loop-number in
    let w = l.invariant in
    (next-stands _ _ _ _ _ _ _ l.number-index w c.requires.0 c.requires.1 (omega arith), w.within)

pub loop-number-preserved : goal.loop-number-preserved
loop-number-preserved c =
    let l = c.loop-number in
    turns_next _ _ _ _ _ _ _ l.number-index l.invariant c.requires.0 c.requires.1 (omega arith) _ _ c.turn-used.ensures

pub returns : goal.returns
returns c = let l = c.loop-number in turns-done _ _ _ _ _ _ _ l.number-index l.invariant (omega arith)
