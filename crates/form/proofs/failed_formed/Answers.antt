use Rattle.std.proofs.Common.{◌≡◌, ◌&&◌, ◌%◌, ◌∙◌, sym, drop, get_or, eqb, rules}
use Rattle.octets.specs.Parts.{part}
use Rattle.model.specs.Layout.{advertising_size, applicant_size, failed_size, failure_size, offer_size}
use Rattle.model.specs.Lists.{all_zero}
use Rattle.model.specs.Sending.{failed_formed}
use Rattle.form.proofs.Zeros.{zero-parts}
use Rattle.form.proofs.Sent.{as-standing, behind-state, offer-octet, failed-octet}
use Rattle.form.proofs.failed_formed.Goals as goal

pub returns : goal.returns
returns c =
    let s = c.args.offer.now in
    c.standing_formed.ensures (failed_formed (drop 1 s)) (all_zero (drop 1 s))
    (λ r h. let e : r ≡ eqb (get_or s 13 0 % 16) 0 = search rules in e ∙ offer-octet s ∙ sym (failed-octet (drop 1 s)))
    (λ r h. let e : r ≡ (all_zero (part applicant_size offer_size s) && all_zero (part advertising_size failure_size s)) = search rules in e ∙ zero-parts 1 offer_size failure_size s ∙ behind-state failed_size s c.requires)
    ∙ as-standing failed_formed s c.args.decided
