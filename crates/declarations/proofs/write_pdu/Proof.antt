-- `declarations::write_pdu` meets its contract. Assumes nothing.
use mathlib.Core.Path.{refl}
use Prim.Native.Nat.{◌≤◌}
use native.Mathlib.Omega.{arith}
use lib.ListN.{length}
use lib.ListN.{length-set}
use Rattle.model.specs.Registrations.{advertises, faileds, listeners}
use Rattle.model.specs.Frames.{registers, domain_type}
use Rattle.model.specs.Writing.{leaves_all}
use Rattle.model.specs.Table.{decode}
use Rattle.declarations.specs.Passes.{earlier, later, begun}
use Rattle.declarations.proofs.Written.{first-room, next-pass, pdu-answer}
use Rattle.declarations.proofs.write_pdu.Statement.{statement}
use Rattle.declarations.proofs.write_pdu.Tie as tie

pass-requires : tie.Need-pass-a-requires
unfolding earlier
pass-requires c κs =
    let start = c.before.before.before in
    let a = start.args in
    record {
      message = record {
        port = start.requires.port;
        after = omega arith;
        room = first-room (leaves_all (decode a.table.now) a.p);
        buffer = omega (arith, length-set a.buffer.now 0 0, start.requires.buffer);
      };
      end = omega (arith, start.requires.within);
    }

pass-requires-2 : tie.Need-pass-f-requires
unfolding earlier later
pass-requires-2 c κs =
    let start = c.before.before.before.before.before.before.before in
    let a = start.args in
    let first = c.pass-a.ensures in
    next-pass a.table.now a.p (registers advertises) (registers faileds) start.requires.port (omega arith) refl first (omega (arith, first.end, start.requires.within)) (omega (arith, length-set a.buffer.now 0 0, start.requires.buffer))

pass-requires-3 : tie.Need-pass-l-requires
unfolding earlier later
pass-requires-3 c κs =
    let start = c.before.before.before.before.before.before.before.before.before.before.before in
    let a = start.args in
    let second = c.pass-f.ensures in
    next-pass a.table.now a.p (registers faileds) (registers listeners) start.requires.port refl refl second (omega (arith, second.end, c.pass-a.ensures.end, start.requires.within)) (omega (arith, length-set a.buffer.now 0 0, start.requires.buffer))

pass-requires-4 : tie.Need-pass-d-requires
unfolding earlier later
pass-requires-4 c κs =
    let start = c.before.before.before.before.before.before.before.before.before.before.before.before.before.before.before in
    let a = start.args in
    let third = c.pass-l.ensures in
    next-pass a.table.now a.p (registers listeners) domain_type start.requires.port refl (omega arith) third
    (omega (arith, third.end, c.pass-f.ensures.end, c.pass-a.ensures.end, start.requires.within)) (omega (arith, length-set a.buffer.now 0 0, start.requires.buffer))

put-requires : tie.Need-put-requires
put-requires c κs =
    let start = c.before.before.before.before.before.before.before.before.before.before.before.before.before.before.before.before.before.before.before in
    omega (arith, length-set start.args.buffer.now 0 0, start.requires.buffer, c.pass-d.ensures.room)

same_length : tie.Need-shape_of-buffer
same_length c = omega (arith, length-set c.args.buffer.now 0 0)

returns : tie.Need-returns
unfolding begun
returns c =
    let start = c.before.before.before.before.before.before.before.before.before.before.before.before.before.before.before.before.before.before.before.before.before.before.before in
    let a = start.args in
    let some : 1 ≤ length a.buffer.now = omega (arith, start.requires.buffer) in
    pdu-answer a.table.now a.p a.place some c.pass-a.ensures c.pass-f.ensures c.pass-l.ensures c.pass-d.ensures c.put.ensures c.leaves_all.ensures

pub write_pdu_spec : {M : Type 1} → statement M
write_pdu_spec = tie.close (tie.spec (λ c. omega (arith, c.requires.buffer)) pass-requires pass-requires-2 pass-requires-3 pass-requires-4 put-requires (λ c. omega (arith, c.pass-d.ensures.room)) (λ c κs. c.requires.port) same_length returns)
