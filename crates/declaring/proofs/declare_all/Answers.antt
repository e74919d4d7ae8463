use Rattle.octets.specs.Parts.{part, patch}
use Rattle.declaring.proofs.Sent.{all-decided}
use Rattle.declaring.proofs.declare_all.Goals as goal

pub returns : goal.returns
unfolding part patch
returns c =
    let a = c.args in
    λ f r o. all-decided a.sends.now c.requires.0 a.values.now a.column a.listener f r o _ _ _ c.decide.ensures c.decide-2.ensures c.decide-3.ensures
