-- The turns of the streams that wait, by their sorted numbers, and the total stored after them make the admission of the port
-- and class.
use Prim.Native.Nat.{ℕ, ◌%◌, ◌^◌, ◌<◌}
use mathlib.Core.Path.{◌≡◌, ap, ◌∙◌}
use mathlib.Core.List.{List, [], ◌∷◌, map}
use lib.ListN.{length}
use Rattle.model.specs.Lists.{All}
use Rattle.model.specs.State.{Class, Stream, Bridge}
use Rattle.model.specs.Registrations.{ids, holding}
use Rattle.model.specs.Bandwidth.{Claim, total}
use Rattle.model.specs.Table.{decode, encode}
use Rattle.model.specs.Laid.{FitStream, FitBridge}
use Rattle.model.proofs.Fits.{id-fits, laid-fits}
use Rattle.table.specs.Updates.{totals_at, with_totals}
use Rattle.table.specs.Places.{PortIn}
use Rattle.table.proofs.ByPlace.{encoded-laid, encoded-read}
use Rattle.columns.specs.Stages.{claims_shown, limit_shown, admit, with_total, admission}
use Rattle.sorting.specs.Sort.{sorted}
use Rattle.sorting.proofs.Laws.{all-sorted}
use Rattle.admission.specs.Sharing.{orders_on, used_on, turns_on}
use Rattle.admission.specs.Numbers.{Numbered}
use Rattle.admission.proofs.ByImportance.{orders-placed, by-importance}
use Rattle.admission.proofs.FitKept.{admitted-fits}

pub ids-small : (s : List Stream) → All FitStream s → All (λ i. i < 2 ^ 64) (ids s)
unfolding ids
ids-small [] a = tt
ids-small (x ∷ s) a = (id-fits x a.0, ids-small s a.1)

module _ {t : List ℕ} {p : ℕ} (s : PortIn t p) (c : Class) where
  abbrev b : Bridge
  b = decode t

  w : FitBridge b
  w = laid-fits t s.laid

  module _ (numbers : List ℕ) (in_order : numbers ≡ sorted (orders_on p c b)) where
    pub sorted-numbered : Numbered t numbers
    sorted-numbered = record {
      laid = s.laid;
      placed =
          rw in_order (all-sorted (λ m. m % 64 < length b.streams) (orders_on p c b) (orders-placed b.settings p c b.streams w.at_most_64));
    }

    module _ (limit used : ℕ) (g : limit ≡ limit_shown b.settings b p c) (after : List ℕ)
        (h : used ≡ used_on p c limit numbers 0 b) (i : after ≡ encode (turns_on p c limit numbers 0 b)) where
      abbrev l : ℕ
      l = limit_shown b.settings b p c

      abbrev cs : List Claim
      cs = claims_shown b.settings p c b.streams

      abbrev admitted : Bridge
      admitted = holding b (map (admit b.settings p c l cs) b.streams)

      taken : (used ≡ total l cs) × (after ≡ encode admitted)
      taken =
          let both = by-importance b.settings p c l b.streams w.at_most_64 w.ascending (ids-small b.streams w.streams) in (
            (rw (g, in_order) at h) ∙ both.0,
            (rw (g, in_order) at i) ∙ ap (λ (m : List Stream). encode (holding b m)) both.1,
          )

      pub after-in : PortIn after p
      after-in = record { laid = encoded-laid admitted (admitted-fits b w p s.port c) after taken.1; port = s.port }

      pub whole : (u : List ℕ) → u ≡ encode (with_totals p (with_total c used (totals_at p (decode after))) (decode after)) → u ≡ encode (admission p c b)
      unfolding admission holding
      whole u q = q ∙ rw (encoded-read admitted (admitted-fits b w p s.port c) after taken.1, taken.0)
