-- What fits its fields still does after a stream's turn, and after the admission of a port and class.
use Prim.Native.Nat.{ℕ, ◌-◌, ◌^◌, ◌≤◌, ◌<◌}
use mathlib.Core.Path.{◌≡◌, refl, ◌∙◌}
use mathlib.Core.List.{List, map}
use mathlib.Core.Bool.{Bool, not, ◌&&◌}
use native.Mathlib.Omega.{arith}
use lib.ListN.{set, length-set}
use lib.Dec.{leb}
use Rattle.octets.specs.Fields.{Fit}
use Rattle.octets.proofs.Fields.{fit_at}
use Rattle.model.specs.Layout.{port_widths, result_in}
use Rattle.model.specs.State.{Settings, Class, no_class, class_a, class_b, Result, Stream, Totals, Bridge, no_totals, totals_at, port_at, result_at, in_force}
use Rattle.model.specs.Registrations.{holding}
use Rattle.model.specs.Bandwidth.{Claim, sort, admitted, total}
use Rattle.model.specs.Table.{port_numbers, result_numbers, column_number, column_bridge, column_code, entry_number}
use Rattle.model.specs.Laid.{FitResult, FitStream, FitSettings, FitTotals, FitBridge}
use Rattle.model.proofs.Lists.{all_get_or, all_set}
use Rattle.model.proofs.SettingsOctets.{limit-b-fits}
use Rattle.model.proofs.Parts.{◌also◌}
use Rattle.model.proofs.Refusals.{cond_either}
use Rattle.model.proofs.Admission.{within}
use Rattle.table.proofs.Header.{port-fits}
use Rattle.table.proofs.StreamParts.{result_fits}
use Rattle.table.proofs.Fitting.{set-result-fits, map-fits, totalled-fits, no-totals-fit}
use Rattle.columns.specs.Stages.{waits, claim_shown, claims_shown, limit_shown, lacking, with_result, admit, with_total, admission}
use Rattle.admission.specs.Sharing.{demand_in, after_turn}

-- One result, one stream.

lacking-fits : (st : Settings) → FitSettings st → (r : Result) → FitResult r → FitResult (lacking st r)
unfolding Fit result_numbers lacking column_number column_bridge column_code entry_number
lacking-fits st w r f =
    let n : 1 < 256 ^ 1 = omega arith in
    let k : 2 < 256 ^ 1 = omega arith in
    k also f.1.0 also w.bridge_id also n also n also f.1.1.1.1.1

module _ (st : Settings) (p : ℕ) (c : Class) where
  -- a stream that fails, or not
  abbrev failing : Stream → Stream
  failing x = with_result p (lacking st (result_at x p)) x

  abbrev lacks : ℕ → List Claim → Stream → Bool
  lacks limit cs x = waits st p c x && not (admitted limit cs (claim_shown st p x))

  abbrev fits : ℕ → ℕ → Stream → Bool
  fits limit used x = leb (demand_in st p c x) (limit - used)

  module _ (w : FitSettings st) (h : p < 8) (x : Stream) (f : FitStream x) where
    failed-fits : FitStream (failing x)
    unfolding with_result
    failed-fits = set-result-fits p (lacking st (result_at x p)) (lacking-fits st w (result_at x p) (result_fits x f p (result_in p) h refl)) x f

    pub turn-fits : (limit used : ℕ) → FitStream (after_turn st p c limit used x)
    unfolding after_turn
    turn-fits limit used = cond_either FitStream (fits limit used x) x (failing x) f failed-fits

    admit-fits : (limit : ℕ) (cs : List Claim) → FitStream (admit st p c limit cs x)
    unfolding admit
    admit-fits limit cs = cond_either FitStream (lacks limit cs x) (failing x) x failed-fits f

  pub turn-id : (limit used : ℕ) (x : Stream) → (after_turn st p c limit used x).id ≡ x.id
  unfolding after_turn with_result
  turn-id limit used x = cond_either (λ (y : Stream). y.id ≡ x.id) (fits limit used x) x (failing x) refl refl

  admit-id : (limit : ℕ) (cs : List Claim) (x : Stream) → (admit st p c limit cs x).id ≡ x.id
  unfolding admit with_result
  admit-id limit cs x = cond_either (λ (y : Stream). y.id ≡ x.id) (lacks limit cs x) (failing x) x refl refl

-- Totals.

-- a class total that is at most its limit in force has room where it stands
limit-fits : (b : Bridge) → FitBridge b → (p : ℕ) (c : Class) (n : ℕ) → n ≤ limit_shown b.settings b p c → (t : Totals) → FitTotals t → FitTotals (with_total c n t)
unfolding limit_shown port_numbers with_total in_force
limit-fits b w p c n h t f = go c h
  where
    limit-a : (port_at b.settings p).limit_a < 256 ^ 5
    limit-a = fit_at port_widths (port_numbers (port_at b.settings p)) (port-fits b.settings w.settings p) 3

    limit-b : (port_at b.settings p).limit_b < 256 ^ 5
    limit-b = fit_at port_widths (port_numbers (port_at b.settings p)) (port-fits b.settings w.settings p) 4

    go : (d : Class) → n ≤ in_force (port_at b.settings p) (totals_at p b).total_a d → FitTotals (with_total d n t)
    go no_class h = f
    go class_a h = (omega (arith, limit-a), f.1)
    go class_b h = (f.0, omega (arith, limit-b-fits (port_at b.settings p) limit-a limit-b (totals_at p b).total_a))

-- The admission of a port and class.

module _ (b : Bridge) (w : FitBridge b) (p : ℕ) (h : p < 8) (c : Class) where
  abbrev l : ℕ
  l = limit_shown b.settings b p c

  abbrev cs : List Claim
  cs = claims_shown b.settings p c b.streams

  pub admitted-fits : FitBridge (holding b (map (admit b.settings p c l cs) b.streams))
  admitted-fits =
      map-fits b w (admit b.settings p c l cs) (λ x f. admit-fits b.settings p c w.settings h x f l cs) (admit-id b.settings p c l cs)

  pub admission-fits : FitBridge (admission p c b)
  unfolding admission holding
  admission-fits =
      let t = with_total c (total l cs) (totals_at p b) in
      totalled-fits (holding b (map (admit b.settings p c l cs) b.streams)) admitted-fits (set b.totals p t)
      (length-set b.totals p t ∙ w.eight_totals)
      (all_set FitTotals b.totals p t w.totals
      (limit-fits b w p c (total l cs) (unfold total in within l (sort cs)) (totals_at p b) (all_get_or FitTotals b.totals w.totals no_totals no-totals-fit p)))
