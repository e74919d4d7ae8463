use Rattle.std.proofs.Common.{arith}
use Rattle.model.proofs.FoundVectors.{id-split}
use Rattle.msrpdu.proofs.stream_id.Goals as goal

pub overflow_add-result : goal.overflow_add-result
overflow_add-result c = omega (arith, id-split c.args.first.now)
