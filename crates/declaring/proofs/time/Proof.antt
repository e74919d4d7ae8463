-- `declaring::time` meets its contract. Assumes nothing.
use mathlib.Core.Path.{◌∙◌, ap}
use mathlib.Core.List.{List}
use Prim.Native.Nat.{ℕ, ◌+◌, ◌≤◌, ◌<◌}
use native.Mathlib.Omega.{arith}
use borrow.Author.Rules.{rules}
use Rattle.octets.specs.Be.{be_at, be}
use Rattle.octets.specs.Parts.{patch}
use Rattle.declaring.proofs.Timers.{not-run, has-run}
use Rattle.declaring.proofs.time.Statement.{statement}
use Rattle.declaring.proofs.time.Tie as tie

returns : tie.Need-returns-then-start-clock
returns c =
    let first = c.before.before.before.before.before.before.before.before.before.before.before in
    let s = first.args.sender.now in
    let due : be_at 4 s 17 + 1000 ≤ first.args.clock = omega (arith, c.get-start.ensures.0) in
    let e₁ = c.put.ensures in
    let e₂ = c.put-then-start-clock.ensures in
    e₂ ∙ ap (λ (t : List ℕ). patch 17 4 (be 4 first.args.clock) t) e₁ ∙ has-run first.args.clock s first.requires.0 due

returns-2 : tie.Need-returns-else-start-clock
returns-2 c =
    let first = c.before.before.before in
    let s = first.args.sender.now in
    let early : first.args.clock < be_at 4 s 17 + 1000 = omega (arith, c.get-start.ensures.0) in
    not-run first.args.clock s first.requires.0 early

pub time_spec : {M : Type 1} → statement M
time_spec =
    tie.close
    (tie.spec (λ c κs. search rules) (λ c. search rules) (λ c κs. search rules) (λ c κs. search rules) (λ c. search rules) returns (λ c. search rules) returns-2)
