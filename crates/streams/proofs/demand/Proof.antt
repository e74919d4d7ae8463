-- `streams::demand` meets its contract. Assumes nothing.
use Prim.Native.Nat.{◌+◌, ◌*◌, ◌≤◌}
use native.Mathlib.Omega.{arith}
use borrow.Author.Rules.{rules}
use Rattle.streams.proofs.Demands.{demand-twice, demand-once, once-bound}
use Rattle.streams.proofs.demand.Statement.{statement}
use Rattle.streams.proofs.demand.Tie as tie

-- the octets of frames that are sent once
once : (c : tie.After-get-flags) → (c.get-size.result + c.get-overhead.result + 1) * c.get-frames.result ≤ 65791 * 65535
once c =
    once-bound c.get-size.result c.get-overhead.result c.get-frames.result c.get-size.ensures.1
    c.get-overhead.ensures.1 c.get-frames.ensures.1

returns : tie.Need-returns-then-flags-eq1
returns c =
    let size = c.get-size.ensures.0 in
    let frames = c.get-frames.ensures.0 in
    (demand-twice _ _ _ _ _ _ size frames c.get-overhead.ensures.0 c.get-flags.ensures.0 c.if-flags-eq1.true, omega (arith, once c.before))

returns-2 : tie.Need-returns-else-flags-eq1
returns-2 c =
    let size = c.get-size.ensures.0 in
    let frames = c.get-frames.ensures.0 in
    (demand-once _ _ _ _ _ _ size frames c.get-overhead.ensures.0 c.get-flags.ensures.0 c.if-flags-eq1.false, omega (arith, once c.before))

pub demand_spec : {M : Type 1} → statement M
demand_spec =
    tie.close
    (tie.spec (λ c κs. search rules) (λ c κs. search rules) (λ c κs. search rules) (λ c κs. search rules) (λ c. search rules) (λ c. search rules)
    (λ c. omega (arith, once c)) (λ c. omega (arith, once c.before)) returns returns-2)
