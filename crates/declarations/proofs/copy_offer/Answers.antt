use Rattle.std.proofs.Common.{◌∙◌, ap, ℕ, length}
use Rattle.octets.specs.Parts.{part}
use Rattle.octets.proofs.Parts.{lent-part}
use Rattle.declarations.proofs.Vectors.{sends-is}
use Rattle.declarations.proofs.copy_offer.Goals as goal

pub returns : goal.returns
returns c =
    let a = c.args in
    let n : ℕ = length a.out.now in
    c.copy_from_slice.ensures.after ∙ lent-part a.from n _ ∙ ap (part a.from n) (sends-is c.sends_at-sends.ensures)
