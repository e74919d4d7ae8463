-- What stage 1 writes fits its fields: a stream whose numbers fit keeps that, and so does a bridge.
use Prim.Native.Nat.{ℕ, ◌/◌, ◌^◌, ◌<◌}
use native.Mathlib.Omega.{arith}
use mathlib.Core.Path.{refl}
use Rattle.octets.specs.Fields.{Fit}
use Rattle.model.specs.State.{Result, Stream, Bridge, Column, none, advertise, failed, Entry, no_entry, filters, forwards, cell_at, result_at, unsettled}
use Rattle.model.specs.Settling.{Scene, scene_of, source_of, age_of, latency_out, entry_of, age_kept, registered}
use Rattle.model.specs.Table.{result_numbers, column_number, column_bridge, column_code, entry_number, declared_number}
use Rattle.model.specs.Laid.{FitResult, FitStream, FitBridge}
use Rattle.model.proofs.Lists.{all_get_or, all-tabulate}
use Rattle.model.proofs.Parts.{◌also◌}
use Rattle.model.proofs.Fits.{latest, longest, id-fits}
use Rattle.model.proofs.AdvanceKeepsForm.{length-tabulate, type-valid, ValidFailure, steps-valid, capped_fits, latency-fits}
use Rattle.table.proofs.Fitting.{unsettled-fits, map-fits}
use Rattle.streams.proofs.Fixed.{source_fits}
pub use Rattle.streams.proofs.Fixed.{settled-values}
use Rattle.columns.specs.Stages.{shown_as, early_column, early_at, early, early_all}

-- Numbers of a result.

age-fits : (e : Entry) (a : ℕ) → a < 2 ^ 32 → age_kept e a < 2 ^ 32
unfolding age_kept
age-fits no_entry a h = omega arith
age-fits filters a h = h
age-fits forwards a h = h

pub began-fits : (now : ℕ) (r : Result) → now < 2 ^ 32 → r.age < 2 ^ 32 → age_of now r < 2 ^ 32
unfolding age_of
began-fits now r h k = go r.entry
  where
    go : (e : Entry) → elim e [ no_entry ↦ now / 100 | filters ↦ r.age | forwards ↦ r.age ] < 2 ^ 32
    go no_entry = omega arith
    go filters = k
    go forwards = k

entry-few : (e : Entry) → entry_number e < 256
unfolding entry_number
entry-few no_entry = omega arith
entry-few filters = omega arith
entry-few forwards = omega arith

column-numbers : (c : Column) → ValidFailure c → (column_number c < 256) × (column_bridge c < 2 ^ 64) × (column_code c < 256)
unfolding column_number column_bridge column_code
column-numbers none w = (omega arith, omega arith, omega arith)
column-numbers advertise w = (omega arith, omega arith, omega arith)
column-numbers (failed b c) w = (omega arith, w.0, w.1)

pub age-of-result : (r : Result) → FitResult r → r.age < 2 ^ 32
unfolding Fit result_numbers
age-of-result r w = w.1.1.1.1.1.0

-- Streams.

module _ (sc : Scene) (named : sc.settings.bridge_id < 2 ^ 64) (now : ℕ) (soon : now < 2 ^ 32) (x : Stream) (w : FitStream x) where
  early-column-fits : (p : ℕ) → ValidFailure (early_column sc p x)
  unfolding early_column
  early-column-fits p = steps-valid sc named p x advertise (type-valid latest longest (source_of x) (source_fits x w)) tt

  pub early-result-fits : (p : ℕ) → FitResult (early_at sc now x p)
  unfolding Fit result_numbers early_at shown_as latency_out declared_number result_at
  early-result-fits p =
      let c = early_column sc p x in
      let e = entry_of c (registered (cell_at x p)) in
      let r = all_get_or FitResult x.results w.results unsettled unsettled-fits p in
      let n = column-numbers c (early-column-fits p) in
      n.0 also latency-fits c _ (capped_fits _) also n.1 also n.2 also entry-few e
      also age-fits e _ (began-fits now (result_at x p) soon (age-of-result (result_at x p) r)) also omega arith also tt

  pub early-fits : FitStream (early sc now x)
  unfolding Fit early
  early-fits = record {
    name = id-fits x w also (settled-values x w).numbers;
    rank = (settled-values x w).rank;
    eight_cells = w.eight_cells;
    cells = w.cells;
    eight_results = length-tabulate 8 0 (early_at sc now x);
    results = all-tabulate FitResult 8 0 (early_at sc now x) early-result-fits;
    eight_sends = w.eight_sends;
    sends = w.sends;
  }

pub early-all-fits : (b : Bridge) → FitBridge b → (now : ℕ) → now < 2 ^ 32 → FitBridge (early_all now b)
unfolding early_all early
early-all-fits b w now soon = map-fits b w (early (scene_of b) now) (early-fits (scene_of b) w.settings.bridge_id now soon) (λ x. refl)
