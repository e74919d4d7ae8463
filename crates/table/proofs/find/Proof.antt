-- `table::find` meets its contract. The invariant: all before low are lower than id, and all from high on are higher. Assumes
-- nothing.
use Prim.Native.Nat.{ℕ, ◌+◌, ◌-◌, ◌/◌, ◌≤◌, ◌<◌}
use mathlib.Core.Path.{◌≡◌, refl, sym, ◌∙◌}
use mathlib.Core.List.{List}
use native.Mathlib.Omega.{arith}
use lib.ListN.{length, get_or}
use Rattle.model.specs.Layout.{record_place, table_length}
use Rattle.model.specs.Registrations.{ids}
use Rattle.model.specs.Table.{decode}
use Rattle.model.proofs.Fits.{laid-fits}
use Rattle.table.proofs.Header.{laid-length}
use Rattle.table.proofs.Finding.{Between, between-all, between-low, between-high, between-found, between_none, record-id, length_ids}
use Rattle.table.proofs.find.Statement.{statement}
use Rattle.table.proofs.find.Tie as tie

record Halving (t : List ℕ) (id low high : ℕ) : Type 0 where
  size : length t ≡ table_length
  few : length (ids (decode t).streams) ≤ 64
  between : Between id (ids (decode t).streams) low high

abbrev invariant-loop-low : tie.invariant-loop-low
invariant-loop-low table id low₀ high₀ low high = Halving table id low high

abbrev decreases-loop-low : tie.decreases-loop-low
decreases-loop-low table id low₀ high₀ low high = high - low

loop-holds : tie.Need-loop-low-init invariant-loop-low decreases-loop-low
loop-holds c =
    let e = length_ids (decode c.args.table.now).streams in
    record { size = laid-length _ c.requires; few = omega arith; between = between-all _ _ _ (c.count-high.ensures.0 ∙ sym e) }

-- the StreamID that was read is the one in the middle
read : (c : tie.After-get-x invariant-loop-low decreases-loop-low)
    → c.get-x.result ≡ get_or (ids (decode c.args.table.now).streams)
    (c.loop-low.low + (c.loop-low.high - c.loop-low.low) / 2) 0
read c =
    let l = c.loop-low in
    let t = c.args.table.now in
    let m = l.low + (l.high - l.low) / 2 in
    let h : m < length (decode t).streams = omega (arith, length_ids (decode t).streams) in
    c.get-x.ensures.0 ∙ record-id t c.requires m (record_place m) h refl

returns : tie.Need-returns-then-x-id invariant-loop-low decreases-loop-low
returns c =
    let l = c.loop-low in
    let w = laid-fits _ c.requires in
    between-found _ _ w.ascending (l.low + (l.high - l.low) / 2) (omega arith) (sym (read c.before) ∙ c.if-x-id.true)

loop-again : tie.Need-loop-low-preserved-then-x-id-2 invariant-loop-low decreases-loop-low
loop-again c =
    let l = c.loop-low in
    let w = laid-fits _ c.requires in
    let e = read c.before.before in
    record {
      size = l.invariant.size;
      few = l.invariant.few;
      between = between-high _ _ w.ascending _ _ (l.low + (l.high - l.low) / 2) l.invariant.between (omega arith) (omega arith) (omega arith);
    }

loop-again-2 : tie.Need-loop-low-preserved invariant-loop-low decreases-loop-low
loop-again-2 c =
    let l = c.loop-low in
    let w = laid-fits _ c.requires in
    let e = read c.before.before in
    record {
      size = l.invariant.size;
      few = l.invariant.few;
      between = between-low _ _ w.ascending _ _ (l.low + (l.high - l.low) / 2) l.invariant.between (omega arith) (omega arith) (omega arith);
    }

returns-2 : tie.Need-returns invariant-loop-low decreases-loop-low
returns-2 c = between_none _ _ _ _ c.loop-low.invariant.between c.loop-low-test.false

pub find_spec : {M : Type 1} → statement M
find_spec =
    tie.close
    (tie.spec invariant-loop-low decreases-loop-low (λ c κs. c.requires) loop-holds (λ c. omega arith) (λ c. omega arith) (λ c. omega arith)
    (λ c. omega arith) (λ c κs. omega arith) returns (λ c. omega arith) (λ c. omega arith) loop-again (λ c. omega arith) loop-again-2
    returns-2)
