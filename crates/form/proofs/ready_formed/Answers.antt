use Rattle.std.proofs.Common.{◌≡◌, ◌&&◌, ◌∙◌, drop, get_or, leb, eqb, rules}
use Rattle.model.specs.Lists.{all_zero}
use Rattle.model.specs.Sending.{ready_formed}
use Rattle.form.proofs.Sent.{as-standing, ready-none, ready-kinds}
use Rattle.form.proofs.ready_formed.Goals as goal

pub returns : goal.returns
returns c =
    let s = c.args.ready.now in
    c.standing_formed.ensures (ready_formed (drop 1 s)) (all_zero (drop 1 s))
    (λ r h. let e : r ≡ (leb 1 (get_or s 1 0) && leb (get_or s 1 0) 3) = search rules in e ∙ ready-kinds s c.requires)
    (λ r h. let e : r ≡ eqb (get_or s 1 0) 0 = search rules in e ∙ ready-none s c.requires)
    ∙ as-standing ready_formed s c.args.decided
