use Rattle.std.proofs.Common.{arith, ◌/◌, length, ◌∙◌, ap, take}
use Rattle.form.proofs.Parts.{first-parts}
use Rattle.form.proofs.split_parts.Goals as goal

pub returns-clause-parts : goal.returns-clause-parts
returns-clause-parts g c =
    ap (take c.args.count) c.as_chunks.ensures.front
    ∙ first-parts g.row.SIZE c.args.count (length c.args.s.now / g.row.SIZE) c.args.s.now (grind arith)
