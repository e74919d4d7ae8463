-- The stages of settling, one after another, are what advance decides before anything is sent.
use mathlib.Core.Path.{◌≡◌, refl, ◌∙◌, ap}
use mathlib.Core.List.{List, [], ◌∷◌, map}
use mathlib.Core.Bool.{Bool, true, false, cond}
use Prim.Native.Nat.{ℕ, ◌≤◌, ◌<◌}
use native.Mathlib.Omega.{arith}
use lib.ListN.{length}
use Rattle.model.specs.Lists.{tabulate}
use Rattle.model.specs.State.{nothing, Result, Stream, Bridge, unsettled, cell_at, result_at}
use Rattle.model.specs.Settling.{Scene, inbounds_of, source_of, is_source, registered, column_of, passed, merge_all, merged, decide_at, decide, decide_owns, remain, totals_on, deciding}
use Rattle.model.specs.Registrations.{holding, owning}
use Rattle.model.proofs.ColumnRule.{at_place, tabulate-same}
use Rattle.columns.specs.Stages.{shown_as, early_all, admissions, merged_shown, declaring, merged_at, merging}
use Rattle.admission.proofs.Admissions.{showing, admissions-decide}
use Rattle.settling.specs.Removed.{removed}

-- A stream with its decided columns, and the merged Listener at its Talker port.

module _ (sc : Scene) (now : ℕ) (s : List Stream) (x : Stream) where
  shown : Stream
  shown = showing sc.settings now (column_of sc now s) x

  shown-at : (q : ℕ) → q < 8 → result_at shown q ≡ shown_as sc.settings now x q (column_of sc now s q x)
  unfolding shown showing result_at
  shown-at q h = at_place (λ q. shown_as sc.settings now x q (column_of sc now s q x)) q unsettled h

  shown-column : (q : ℕ) → q < 8 → (result_at shown q).column ≡ column_of sc now s q x
  unfolding shown_as
  shown-column q h = ap (λ (r : Result). r.column) (shown-at q h)

  shown-cell : (q : ℕ) → cell_at shown q ≡ cell_at x q
  unfolding shown showing cell_at
  shown-cell q = refl

  merged-same : merged_shown shown ≡ merged sc now s x
  unfolding merged_shown merged
  merged-same =
      ap merge_all
      (tabulate-same (λ q. passed (result_at shown q).column (registered (cell_at shown q))) (λ q. passed (column_of sc now s q x) (registered (cell_at x q))) 8 0
      (λ q a b. rw (shown-column q (omega arith), shown-cell q)))

  same_source : source_of shown ≡ source_of x
  unfolding shown showing source_of
  same_source = refl

  decided-at : (q : ℕ) → q < 8 → merged_at shown q ≡ decide_at sc now s x q
  unfolding merged_at decide_at
  decided-at q h = rw (shown-at q h, merged-same, same_source) (go (is_source (source_of x) q))
    where
      go : (t : Bool) → cond t (declaring (merged sc now s x) (shown_as sc.settings now x q (column_of sc now s q x))) (shown_as sc.settings now x q (column_of sc now s q x))
          ≡ record {
            column = (decide_at sc now s x q).column;
            latency = (decide_at sc now s x q).latency;
            entry = (decide_at sc now s x q).entry;
            age = (decide_at sc now s x q).age;
            declares = cond t (merged sc now s x) nothing;
          }
      go true = unfold declaring shown_as in refl
      go false = unfold shown_as in refl

  decided-stream : merging shown ≡ decide sc now s x
  unfolding merging decide
  decided-stream =
      ap (λ (r : List Result). record { id = shown.id; settled = shown.settled; cells = shown.cells; results = r; sends = shown.sends })
      (tabulate-same (merged_at shown) (decide_at sc now s x) 8 0 (λ q a b. decided-at q (omega arith)))
      ∙ (unfold shown showing in refl)

abbrev pub merging-all : Bridge → Bridge
merging-all b = holding b (map merging b.streams)

decided-all : (sc : Scene) (now : ℕ) (s l : List Stream) → map merging (map (showing sc.settings now (column_of sc now s)) l) ≡ map (decide sc now s) l
unfolding shown
decided-all sc now s [] = refl
decided-all sc now s (x ∷ l) = rw (decided-stream sc now s x, decided-all sc now s l)

-- After removal: the steps before h, then bandwidth shared out on each port, then the Listeners merged.
pub stages-decide : (now : ℕ) (b : Bridge) → length b.settings.ports ≤ 8 →
    merging-all (admissions (length b.settings.ports) 0 (early_all now (removed now b))) ≡ deciding now b
unfolding deciding holding owning early_all
stages-decide now b h =
    let st = b.settings in
    let s = remain st now b.streams in
    let sc : Scene = record { settings = st; owns = decide_owns st now b.owns; inbound = inbounds_of s } in
    ap merging-all (admissions-decide sc now s now b.senders h)
    ∙ ap (λ (l : List Stream). record { settings = st; clock = now; totals = tabulate 8 0 (totals_on sc now s); owns = sc.owns; senders = b.senders; streams = l })
    (decided-all sc now s s)
