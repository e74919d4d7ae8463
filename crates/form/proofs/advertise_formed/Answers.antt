use Rattle.std.proofs.Common.{◌≡◌, ◌%◌, ◌∙◌, drop, get_or, eqb, rules}
use Rattle.octets.specs.Parts.{part}
use Rattle.model.specs.Layout.{applicant_size, offer_size}
use Rattle.model.specs.Lists.{all_zero}
use Rattle.model.specs.Sending.{offer_formed}
use Rattle.form.proofs.Sent.{as-standing, behind-state, offer-octet}
use Rattle.form.proofs.advertise_formed.Goals as goal

pub returns : goal.returns
returns c =
    let s = c.args.offer.now in
    c.standing_formed.ensures (offer_formed (drop 1 s)) (all_zero (drop 1 s))
    (λ r h. let e : r ≡ eqb (get_or s 13 0 % 16) 0 = search rules in e ∙ offer-octet s)
    (λ r h. let e : r ≡ all_zero (part applicant_size offer_size s) = search rules in e ∙ behind-state offer_size s c.requires)
    ∙ as-standing offer_formed s c.args.decided
