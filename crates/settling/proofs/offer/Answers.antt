use Rattle.std.proofs.Common.{◌∙◌, ap}
use Rattle.octets.specs.Parts.{part, patch}
use Rattle.model.specs.State.{result_at, stream_at}
use Rattle.model.specs.Table.{decode}
use Rattle.table.proofs.ReadOctets.{result-is}
use Rattle.settling.proofs.Declared.{offered-put}
use Rattle.settling.proofs.offer.Goals as goal

pub returns : goal.returns
unfolding part patch
returns c =
    let a = c.args in
    let x = stream_at a.k (decode a.table.now) in
    offered-put x.settled (result_at x a.p) a.values.now _ _ c.requires.1 (c.copy_from_slice.ensures.after ∙ c.settled_at-settled.ensures.laid)
    (c.copy_from_slice-2.ensures.after ∙ ap (part 1 13) (result-is c.result_at-result.ensures))
