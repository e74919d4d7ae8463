use mathlib.Core.Path.{sym, ◌∙◌}
use Rattle.octets.specs.Parts.{part}
use Rattle.declaring.proofs.Sent.{all-steady}
use Rattle.declaring.proofs.stays.Goals as goal
use Rattle.declaring.proofs.stays.Goals.{then-is_steady, else-is_steady}

pub returns-then-is_steady-2 : goal.returns-then-is_steady-2
unfolding part
returns-then-is_steady-2 c =
    let a = c.args in
    λ e f x o. elim c.if-is_steady.branch [
      | then-is_steady w ↦
          all-steady a.settled.now a.res.now c.requires.fixed c.requires.decided a.sends.now c.requires.laid f x o
          (c.is_steady.ensures w.if-is_steady.true)
          (w.is_steady-then-is_steady.ensures (sym w.value-is ∙ c.if-is_steady-2.true))
          (c.is_steady-then-is_steady-2.ensures e)
      | else-is_steady w ↦ cc
    ]
