-- A stream on its way through stage 1: the settled values taken over, and the places decided so far.
use mathlib.Core.Path.{◌≡◌, refl, ap, ◌∙◌}
use mathlib.Core.List.{List, ◌++◌}
use Prim.Native.Nat.{ℕ, ◌+◌, ◌^◌, ◌≤◌, ◌<◌}
use native.Mathlib.Numerals.{add-one}
use native.Mathlib.Omega.{arith}
use lib.ListN.{length, drop}
use Rattle.model.specs.Lists.{tabulate}
use Rattle.model.specs.State.{Fixed, Result, Stream, result_at, cell_at, unsettled}
use Rattle.model.specs.Settling.{Scene, source_of, fixed_of, steps, latency_out, stream_class}
use Rattle.model.specs.Laid.{FitResult, FitStream}
use Rattle.model.proofs.ColumnRule.{tabulate-same}
use Rattle.table.specs.Updates.{settled_as}
use Rattle.table.proofs.EachPort.{up-to-length, up-to-here, up-to-next, up-to-eight, up-to-keep}
use Rattle.columns.specs.Stages.{shown_as, early_column, early_at, early}
use Rattle.columns.specs.Places.{early_one, early_to}
use Rattle.columns.proofs.EarlyFits.{early-result-fits}

-- What is shown on a port hangs on the cells and on the result that the port had.

same-early : (sc : Scene) (now : ℕ) (x : Stream) (f : Fixed) (rs : List Result) (p : ℕ)
    → result_at record { id = x.id; settled = f; cells = x.cells; results = rs; sends = x.sends } p ≡ result_at x p
    → early_at sc now record { id = x.id; settled = f; cells = x.cells; results = rs; sends = x.sends } p ≡ early_at sc now x p
unfolding early_at shown_as early_column steps latency_out stream_class source_of cell_at
same-early sc now x f rs p e = rw e

module _ (sc : Scene) (now : ℕ) (x : Stream) where
  pub none-decided : early_to 0 now sc x ≡ x
  unfolding early_to tabulate
  none-decided = refl

  pub next-decided : (n : ℕ) → n < length x.results → early_one n now sc (early_to n now sc x) ≡ early_to (n + 1) now sc x
  unfolding early_one early_to result_at
  next-decided n h =
      let rs = tabulate n 0 (early_at sc now x) ++ drop n x.results in
      let e = same-early sc now x x.settled rs n (up-to-here (early_at sc now x) x.results n unsettled) in
      rw (add-one n, e, up-to-next (early_at sc now x) x.results n unsettled h)

  pub all-decided : length x.results ≡ 8 → early_to 8 now sc (settled_as (fixed_of (source_of x)) x) ≡ early sc now x
  unfolding early_to early result_at
  all-decided l =
      let f = fixed_of (source_of x) in
      ap (λ (rs : List Result). record { id = x.id; settled = f; cells = x.cells; results = rs; sends = x.sends })
      (up-to-eight (early_at sc now (settled_as f x)) x.results l
      ∙ tabulate-same (early_at sc now (settled_as f x)) (early_at sc now x) 8 0 (λ q h k. same-early sc now x f x.results q refl))

  pub decided-fits : sc.settings.bridge_id < 2 ^ 64 → now < 2 ^ 32 → FitStream x → (n : ℕ) → n ≤ 8 → FitStream (early_to n now sc x)
  unfolding early_to
  decided-fits named soon w n h = record {
    name = w.name;
    rank = w.rank;
    eight_cells = w.eight_cells;
    cells = w.cells;
    eight_results = up-to-length (early_at sc now x) x.results n (omega (arith, w.eight_results)) ∙ w.eight_results;
    results = up-to-keep (early_at sc now x) x.results FitResult (early-result-fits sc named now soon x w) w.results n;
    eight_sends = w.eight_sends;
    sends = w.sends;
  }
