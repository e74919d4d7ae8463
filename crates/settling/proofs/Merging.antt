-- The merged Listener: as numbers, and as the Talker port's result declares it.
use mathlib.Core.Path.{◌≡◌, refl, sym, ◌∙◌, ap}
use mathlib.Core.List.{List, ◌++◌}
use mathlib.Core.Bool.{Bool, true, false, cond}
use Prim.Native.Nat.{ℕ, suc, ◌+◌, ◌-◌, ◌≤◌, ◌<◌}
use native.Mathlib.Omega.{arith}
use lib.ListN.{length, get_or, set, take, drop, length-set}
use lib.Seq.{ext_get_or, get_or-set_same, get_or-set_other}
use lib.Dec.{eqb}
use borrow.Author.Tests.{eqb-true, eqb-false}
use Rattle.octets.specs.Be.{be}
use Rattle.octets.specs.Parts.{patch}
use Rattle.octets.specs.Fields.{Fit, width}
use Rattle.octets.proofs.Fields.{put-field}
use Rattle.model.specs.Layout.{in_result, result_place, result_size, result_widths}
use Rattle.model.specs.Lists.{tabulate}
use Rattle.model.specs.State.{Ready, asking_failed, ready_failed, Column, none, advertise, failed, Declared, nothing, tells, Result, Stream, unsettled, cell_at, result_at, stream_at, ready_number}
use Rattle.model.specs.Settling.{Source, nowhere, from, source_of, is_source, registered, passed, same_ready, merge, merge_all}
use Rattle.model.specs.Table.{column_number, declared_number, result_numbers, result_octets, to_result, encode, decode}
use Rattle.model.specs.Laid.{FitResult, FitStream, LaidResult}
use Rattle.model.proofs.Lists.{all_get_or, all-tabulate}
use Rattle.model.proofs.Parts.{◌also◌}
use Rattle.model.proofs.Results.{declared-few}
use Rattle.model.proofs.AdvanceKeepsForm.{length-tabulate}
use Rattle.model.proofs.ColumnRule.{at_place}
use Rattle.model.proofs.Fits.{laid-result-is}
use Rattle.model.specs.Listeners.{ready_of}
use Rattle.model.specs.declared.listener.Listener.{Listener}
use Rattle.model.specs.declared.listener.Listener.TheVariants as code
use Rattle.model.specs.contracts.listener.Listener.{the_type}
use denote.Enum.Bare.{sameb}
use Rattle.table.specs.Places.{Stands, StandsOn}
use Rattle.table.specs.Updates.{resulting, with_stream}
use Rattle.table.proofs.Fitting.{unsettled-fits}
use Rattle.table.proofs.ByPlace.{stands_on, stream-fits, stream-same, changed-result-at}
use Rattle.streams.specs.Answers.{source_port}
use Rattle.std.specs.Prelude.{Some, None}
use Rattle.streams.proofs.Sources.{port_bound, port-is}
use Rattle.columns.specs.Stages.{merged_shown, declaring, merged_at, merging}

-- What a port passes on, by its column's number.

pub nothing-passes : (c : Column) (d : Declared) → 0 ≡ column_number c → nothing ≡ passed c d
unfolding column_number passed
nothing-passes none d e = refl
nothing-passes advertise d e = absurd (omega arith)
nothing-passes (failed b k) d e = absurd (omega arith)

pub advertise-passes : (c : Column) (d : Declared) → 1 ≡ column_number c → d ≡ passed c d
unfolding column_number passed
advertise-passes none d e = absurd (omega arith)
advertise-passes advertise d e = refl
advertise-passes (failed b k) d e = absurd (omega arith)

module _ (n : ℕ) (some : n ≡ 0 → ⊥) (fails : n ≡ 1 → ⊥) (c : Column) (e : n ≡ column_number c) where
  pub unheard-passes : nothing ≡ passed c nothing
  unfolding column_number passed
  unheard-passes = go c e
    where
      go : (c : Column) → n ≡ column_number c → nothing ≡ passed c nothing
      go none e = refl
      go advertise e = refl
      go (failed b k) e = refl

  pub heard-passes : (r : Ready) → tells asking_failed ≡ passed c (tells r)
  unfolding column_number passed
  heard-passes r = go c e
    where
      go : (c : Column) → n ≡ column_number c → tells asking_failed ≡ passed c (tells r)
      go none e = absurd (some e)
      go advertise e = absurd (fails e)
      go (failed b k) e = refl

pub ruleset passes = (nothing-passes, advertise-passes, unheard-passes, heard-passes)

-- Two Listeners merged.

module _ (r q : Listener) where
  both-merged : merge (tells (ready_of r)) (tells (ready_of q)) ≡ cond (sameb the_type r q) (tells (ready_of r)) (tells ready_failed)
  unfolding merge same_ready ready_number
  both-merged = go r q
    where
      go : (r q : Listener) → cond (same_ready (ready_of r) (ready_of q)) (tells (ready_of r)) (tells ready_failed) ≡ cond (sameb the_type r q) (tells (ready_of r)) (tells ready_failed)
      go code.AskingFailed code.AskingFailed = refl
      go code.AskingFailed code.Ready = refl
      go code.AskingFailed code.ReadyFailed = refl
      go code.Ready code.AskingFailed = refl
      go code.Ready code.Ready = refl
      go code.Ready code.ReadyFailed = refl
      go code.ReadyFailed code.AskingFailed = refl
      go code.ReadyFailed code.Ready = refl
      go code.ReadyFailed code.ReadyFailed = refl

  pub merge-alike : sameb the_type r q ≡ true → tells (ready_of r) ≡ merge (tells (ready_of r)) (tells (ready_of q))
  merge-alike e = sym (rw e at both-merged)

  pub merge-unlike : sameb the_type r q ≡ false → tells ready_failed ≡ merge (tells (ready_of r)) (tells (ready_of q))
  merge-unlike e = sym (rw e at both-merged)

pub ruleset merges = (merge-alike, merge-unlike)

-- The places from 8 down: what is merged of those from p on.

abbrev pub passed_from : Stream → ℕ → Declared
passed_from x q = passed (result_at x q).column (registered (cell_at x q))

unfoldable pub merged_from : Stream → ℕ → Declared
merged_from x p = merge_all (tabulate (8 - p) p (passed_from x))

pub merged-none : (x : Stream) → nothing ≡ merged_from x 8
unfolding merged_from tabulate merge_all
merged-none x = refl

pub merged-more : (x : Stream) (p q : ℕ) → p ≡ suc q → p ≤ 8 → merge (passed_from x q) (merged_from x p) ≡ merged_from x q
unfolding merged_from
merged-more x p q e h =
    let n : 8 - q ≡ suc (8 - p) = omega arith in
    rw (n, e) (unfold tabulate merge_all in refl)

pub merged-all : (x : Stream) → merged_from x 0 ≡ merged_shown x
unfolding merged_from merged_shown
merged-all x = refl

-- The declared Listener's octet.

pub declaring-octets : (s : List ℕ) → LaidResult s → (d : Declared) → patch in_result.declared 1 (be 1 (declared_number d)) s ≡ result_octets (declaring d (to_result s))
unfolding result_octets result_numbers width declaring
declaring-octets s l d =
    let r = to_result s in
    ap (patch in_result.declared 1 (be 1 (declared_number d))) (laid-result-is s l)
    ∙ put-field result_widths (result_numbers r) 6 (declared_number d) refl

-- The stream with the merged Listener at its Talker port.

declaring-fits : (d : Declared) (r : Result) → FitResult r → FitResult (declaring d r)
unfolding Fit result_numbers declaring
declaring-fits d r f =
    f.0 also f.1.0 also f.1.1.0 also f.1.1.1.0 also f.1.1.1.1.0 also f.1.1.1.1.1.0 also omega (arith, declared-few d) also tt

merged-at-fits : (x : Stream) → FitStream x → (p : ℕ) → FitResult (merged_at x p)
unfolding merged_at result_at
merged-at-fits x w p = go (is_source (source_of x) p)
  where
    r : FitResult (result_at x p)
    r = all_get_or FitResult x.results w.results unsettled unsettled-fits p

    go : (t : Bool) → FitResult (cond t (declaring (merged_shown x) (result_at x p)) (result_at x p))
    go true = declaring-fits (merged_shown x) (result_at x p) r
    go false = r

pub merging-fits : (x : Stream) → FitStream x → FitStream (merging x)
unfolding merging
merging-fits x w = record {
  name = w.name;
  rank = w.rank;
  eight_cells = w.eight_cells;
  cells = w.cells;
  eight_results = length-tabulate 8 0 (merged_at x);
  results = all-tabulate FitResult 8 0 (merged_at x) (merged-at-fits x w);
  eight_sends = w.eight_sends;
  sends = w.sends;
}

pub merging-id : (x : Stream) → (merging x).id ≡ x.id
unfolding merging
merging-id x = refl

-- eight results, each as a place has it
eight-of : (l : List Result) (f : ℕ → Result) → length l ≡ 8 → ((q : ℕ) → q < 8 → get_or l q unsettled ≡ f q) → tabulate 8 0 f ≡ l
eight-of l f n h =
    let m : length (tabulate 8 0 f) ≡ 8 = length-tabulate 8 0 f in
    ext_get_or unsettled (tabulate 8 0 f) l (m ∙ sym n) (λ q b. at_place f q unsettled (omega arith) ∙ sym (h q (omega arith)))

module _ (x : Stream) (w : FitStream x) where
  pub merging-nowhere : source_of x ≡ nowhere → merging x ≡ x
  unfolding merging
  merging-nowhere e =
      ap (λ (r : List Result). record { id = x.id; settled = x.settled; cells = x.cells; results = r; sends = x.sends })
      (eight-of x.results (merged_at x) w.eight_results (λ q b. unfold merged_at is_source result_at in rw e))

  module _ (t : ℕ) (h : t < 8) (e : (q : ℕ) → is_source (source_of x) q ≡ eqb t q) where
    abbrev r : Result
    r = declaring (merged_shown x) (result_at x t)

    placed : (q : ℕ) → q < 8 → get_or (set x.results t r) q unsettled ≡ merged_at x q
    unfolding merged_at
    placed q b = rw (e q) (go (eqb t q) refl)
      where
        go : (v : Bool) → eqb t q ≡ v → get_or (set x.results t r) q unsettled ≡ cond v (declaring (merged_shown x) (result_at x q)) (result_at x q)
        go true f =
            let s = eqb-true t q f in
            rw (← s) (get_or-set_same x.results t r unsettled (omega (arith, w.eight_results)))
        go false f = get_or-set_other x.results t q r unsettled (λ g. eqb-false t q f (sym g)) ∙ (unfold result_at in refl)

    pub merging-at : merging x ≡ resulting (λ l. set l t r) x
    unfolding merging
    merging-at =
        ap (λ (r : List Result). record { id = x.id; settled = x.settled; cells = x.cells; results = r; sends = x.sends })
        (eight-of (set x.results t r) (merged_at x) (length-set x.results t r ∙ w.eight_results) placed)

-- What a stream is left as: without a Talker port as it was, else with the result there declaring the merged Listener.

source-nowhere : (r : Source) → source_port r ≡ None → r ≡ nowhere
unfolding source_port
source-nowhere nowhere e = refl
source-nowhere (from o) e = let z : ◌≡◌ {A = ℕ} 0 1 = cc in absurd (omega arith)

source-port : (r : Source) (t : ℕ) → source_port r ≡ Some t → (q : ℕ) → is_source r q ≡ eqb t q
unfolding source_port is_source
source-port nowhere t e q = let z : ◌≡◌ {A = ℕ} 0 1 = cc in absurd (omega arith)
source-port (from o) t e q = let z : o.port ≡ t = cc in rw z

module _ {t : List ℕ} {k : ℕ} (s : Stands t k) where
  abbrev x : Stream
  x = stream_at k (decode t)

  pub left_alone : source_port (source_of x) ≡ None → t ≡ encode (with_stream k (merging x) (decode t))
  left_alone e =
      stream-same s
      ∙ ap (λ (y : Stream). encode (with_stream k y (decode t))) (sym (merging-nowhere x (stream-fits s) (source-nowhere (source_of x) e)))

  module _ (p : ℕ) (e : source_port (source_of x) ≡ Some p) where
    pub talker-on : StandsOn t k p
    talker-on = stands_on s p (omega (arith, port-is (source_of x) p e, port_bound x (stream-fits s).eight_cells))

    pub left-merged : (a : ℕ) → a ≡ result_place k p → (y : List ℕ)
        → y ≡ result_octets (declaring (merged_shown x) (to_result (take (a + result_size - a) (drop a t))))
        → take a t ++ (y ++ drop (a + result_size - a) (drop a t)) ≡ encode (with_stream k (merging x) (decode t))
    left-merged a q y r =
        changed-result-at talker-on a q (declaring (merged_shown x)) y r
        ∙ ap (λ (y : Stream). encode (with_stream k y (decode t))) (sym (merging-at x (stream-fits s) p talker-on.port (source-port (source_of x) p e)))
