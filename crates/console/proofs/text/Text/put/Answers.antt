-- The part that fits is copied behind the end.
use Rattle.std.proofs.Common.{arith, refl}
use Rattle.console.proofs.Laws.{put-made}
use Rattle.console.proofs.text.Text.put.Goals as goal

pub returns : goal.returns
returns c = record { same = refl; put = put-made _ _ _ _ _ _ (omega (arith, c.args.self.now.within)) c.min-n.ensures c.copy_from_slice.ensures.after }
