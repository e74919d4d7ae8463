use Rattle.std.proofs.Common.{ap, ◌∙◌, ◌&&◌, not, leb, eqb, Bool}
use Rattle.form.proofs.Sent.{standing-none, standing-decided, standing-other}
use Rattle.form.proofs.standing_formed.Goals as goal

pub returns-then-state-eq0 : goal.returns-then-state-eq0
returns-then-state-eq0 g c = λ k z hk hz.
    let a = c.args in
    ap (λ (b : Bool). b && not a.decided) (hz _ record { met = c.zero.ensures }) ∙ standing-none a.state z k a.decided c.if-state-eq0.true

pub returns-then-decided : goal.returns-then-decided
returns-then-decided g c = λ k z hk hz.
    let a = c.args in
    ap (λ (b : Bool). leb a.state 5 && b) (hk _ record { met = c.kept.ensures }) ∙ standing-decided a.state z k a.decided c.if-state-eq0.false c.if-decided.true

pub returns : goal.returns
returns g c = λ k z hk hz.
    let a = c.args in
    ap (λ (b : Bool). eqb a.state 6 && b) (hk _ record { met = c.kept-2.ensures }) ∙ standing-other a.state z k a.decided c.if-state-eq0.false c.if-decided.false
