-- The values that an advance decides, as the octets of a settled stream and of a result have them; and other content is other octets.
use mathlib.Core.Path.{◌≡◌, refl, sym}
use mathlib.Core.List.{[], ◌∷◌, append_assoc}
use mathlib.Core.Bool.{true, ◌&&◌}
use native.Mathlib.Omega.{arith}
use lib.ListN.{length, take}
use lib.Seq.{take_at}
use lib.Dec.{eqb}
use borrow.Author.Tests.{eq-eqb, eqb-true}
use Rattle.octets.specs.Parts.{part}
use Rattle.octets.specs.Fields.{packed, width, Fit}
use Rattle.octets.proofs.Fields.{packed-append, part-run}
use Rattle.model.specs.Layout.{failure_widths, fixed_widths, in_result, offer_size, result_widths, varying_widths}
use Rattle.model.specs.State.{Fixed, Ready, Result, Offer, Failure, ready_number}
use Rattle.model.specs.Registrations.{same_fixed}
use Rattle.model.specs.Settling.{same_offer, same_failed, same_ready}
use Rattle.model.specs.WrittenFrames.{priority_octet, fixed_numbers}
use Rattle.model.specs.Table.{column_bridge, column_code, result_numbers, result_octets}
use Rattle.model.specs.Sending.{both_octets, to_both, offer_numbers, offer_octets, to_offer, failure_octets, to_failure, ready_octets, ready_in}
use Rattle.model.specs.Laid.{FitResult}
use Rattle.model.proofs.Lists.{and_left, and_right, and_both}
use Rattle.model.proofs.Valid.{ValidFixed, ValidOffer, ValidFailure, ValidFailed}
use Rattle.model.proofs.ApplicantOctets.{both_values}
use Rattle.model.proofs.SendsOctets.{AnyReady, offer-values, failure-values, ready-values}
use Rattle.declaring.specs.Octets.{same_octets, offered_octets}
use Rattle.declaring.proofs.Comparing.{same-octets}

-- Other content.

fixed_self : (f : Fixed) → same_fixed f f ≡ true
unfolding same_fixed
fixed_self f =
    rw (
      eq-eqb f.destination f.destination refl,
      eq-eqb f.vlan f.vlan refl,
      eq-eqb f.size f.size refl,
      eq-eqb f.frames f.frames refl,
      eq-eqb f.priority f.priority refl,
      eq-eqb f.rank f.rank refl,
    )

fixed_alike : (f g : Fixed) → same_fixed f g ≡ true → fixed_numbers f ≡ fixed_numbers g
unfolding same_fixed fixed_numbers priority_octet
fixed_alike f g e =
    let d = eqb f.destination g.destination in
    let v = eqb f.vlan g.vlan in
    let z = eqb f.size g.size in
    let n = eqb f.frames g.frames in
    let q = eqb f.priority g.priority in
    let e₅ : (d && v && z && n && q) ≡ true = and_left (d && v && z && n && q) (eqb f.rank g.rank) e in
    let e₄ : (d && v && z && n) ≡ true = and_left (d && v && z && n) q e₅ in
    let e₃ : (d && v && z) ≡ true = and_left (d && v && z) n e₄ in
    let e₂ : (d && v) ≡ true = and_left (d && v) z e₃ in
    rw (
      eqb-true f.destination g.destination (and_left d v e₂),
      eqb-true f.vlan g.vlan (and_right d v e₂),
      eqb-true f.size g.size (and_right (d && v) z e₃),
      eqb-true f.frames g.frames (and_right (d && v && z) n e₄),
      eqb-true f.priority g.priority (and_right (d && v && z && n) q e₅),
      eqb-true f.rank g.rank (and_right (d && v && z && n && q) (eqb f.rank g.rank) e),
    )

offer-self : (x : Offer) → same_offer x x ≡ true
unfolding same_offer
offer-self x = and_both (same_fixed x.fixed x.fixed) _ (fixed_self x.fixed) (eq-eqb x.latency x.latency refl)

offer-alike : (x y : Offer) → same_offer x y ≡ true → offer_octets x ≡ offer_octets y
unfolding same_offer offer_octets offer_numbers
offer-alike x y e =
    rw (
      fixed_alike x.fixed y.fixed (and_left (same_fixed x.fixed y.fixed) _ e),
      eqb-true x.latency y.latency (and_right (same_fixed x.fixed y.fixed) _ e),
    )

failed-self : (x : Offer × Failure) → same_failed x x ≡ true
unfolding same_failed
failed-self x =
    and_both (same_offer x.0 x.0) _ (offer-self x.0)
    (and_both (eqb x.1.bridge x.1.bridge) _ (eq-eqb x.1.bridge x.1.bridge refl) (eq-eqb x.1.code x.1.code refl))

failed-alike : (x y : Offer × Failure) → same_failed x y ≡ true → both_octets offer_octets failure_octets x ≡ both_octets offer_octets failure_octets y
unfolding same_failed both_octets failure_octets
failed-alike x y e =
    let e₁ = and_right (same_offer x.0 y.0) _ e in
    rw (
      offer-alike x.0 y.0 (and_left (same_offer x.0 y.0) _ e),
      eqb-true x.1.bridge y.1.bridge (and_left (eqb x.1.bridge y.1.bridge) _ e₁),
      eqb-true x.1.code y.1.code (and_right (eqb x.1.bridge y.1.bridge) _ e₁),
    )

ready-self : (r : Ready) → same_ready r r ≡ true
unfolding same_ready
ready-self r = eq-eqb (ready_number r) (ready_number r) refl

ready-alike : (r q : Ready) → same_ready r q ≡ true → ready_octets r ≡ ready_octets q
unfolding same_ready ready_octets
ready-alike r q e = rw (eqb-true (ready_number r) (ready_number q) e)

pub offer-compared : (x y : Offer) → ValidOffer x → ValidOffer y → same_octets (offer_octets x) (offer_octets y) ≡ same_offer x y
offer-compared = same-octets offer_octets to_offer ValidOffer same_offer offer-values.back offer-self offer-alike

pub failed-compared : (x y : Offer × Failure) → ValidFailed x → ValidFailed y
    → same_octets (both_octets offer_octets failure_octets x) (both_octets offer_octets failure_octets y) ≡ same_failed x y
failed-compared =
    same-octets (both_octets offer_octets failure_octets) (to_both offer_size to_offer to_failure) ValidFailed same_failed (both_values offer-values failure-values).back
    failed-self failed-alike

pub ready-compared : (r q : Ready) → AnyReady r → AnyReady q → same_octets (ready_octets r) (ready_octets q) ≡ same_ready r q
ready-compared = same-octets ready_octets ready_in AnyReady same_ready ready-values.back ready-self ready-alike

-- What is decided of a Talker on a port.

abbrev pub offer_of : Fixed → Result → Offer
offer_of f r = record { fixed = f; latency = r.latency }

abbrev pub failure_of : Result → Failure
failure_of r = record { bridge = column_bridge r.column; code = column_code r.column }

module _ (f : Fixed) (r : Result) (v : ValidFixed f) (w : FitResult r) where
  pub offer-valid : ValidOffer (offer_of f r)
  unfolding Fit result_numbers
  offer-valid = record { fixed = v; latency = w.1.0 }

  pub failure-valid : ValidFailure (failure_of r)
  unfolding Fit result_numbers
  failure-valid = record { bridge = w.1.1.0; code = w.1.1.1.0 }

-- the octets of a result from its latency to its code
result-fields : (r : Result) → part in_result.latency 13 (result_octets r) ≡ packed varying_widths (r.latency ∷ column_bridge r.column ∷ column_code r.column ∷ [])
unfolding width result_octets result_numbers part
result-fields r = part-run result_widths (result_numbers r) 1 3 refl (omega arith)

module _ (f : Fixed) (r : Result) where
  pub offered-both : offered_octets f r ≡ both_octets offer_octets failure_octets (offer_of f r, failure_of r)
  unfolding offered_octets both_octets offer_octets failure_octets offer_numbers
  offered-both =
      let five : length (fixed_numbers f) ≡ length fixed_widths = unfold fixed_numbers in refl in
      rw (
        result-fields r,
        packed-append (4 ∷ []) failure_widths (r.latency ∷ []) (column_bridge r.column ∷ column_code r.column ∷ []) refl,
        packed-append fixed_widths (4 ∷ []) (fixed_numbers f) (r.latency ∷ []) five,
      )
      (sym (append_assoc (packed fixed_widths (fixed_numbers f)) (packed (4 ∷ []) (r.latency ∷ [])) (packed failure_widths (column_bridge r.column ∷ column_code r.column ∷ []))))

  pub offered-first : ValidFixed f → FitResult r → take offer_size (offered_octets f r) ≡ offer_octets (offer_of f r)
  unfolding both_octets
  offered-first v w = rw offered-both (take_at (offer_octets (offer_of f r)) (failure_octets (failure_of r)) offer_size (offer-values.size (offer_of f r) (offer-valid f r v w)))
