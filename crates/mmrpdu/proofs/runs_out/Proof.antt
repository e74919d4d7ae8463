-- `mmrpdu::runs_out` meets its contract. Assumes nothing.
use mathlib.Core.Path.{◌≡◌, sym}
use native.Mathlib.Omega.{arith}
use borrow.Author.Rules.{rules}
use lib.ListN.{length}
use Rattle.model.specs.AddressFrames.{first_octets, overruns}
use Rattle.mmrpdu.specs.Reader.{list_named}
use Rattle.mmrpdu.proofs.Laws.{none_out, some_out, other-out}
use Rattle.mmrpdu.proofs.runs_out.Statement.{statement}
use Rattle.mmrpdu.proofs.runs_out.Tie as tie

returns : tie.Need-returns-then-values-eq0
returns c = sym (none_out _ _ _ c.if-values-eq0.true)

get-requires : tie.Need-get-requires
unfolding first_octets list_named
get-requires c κs =
    let e : length c.args.first.now ≡ 1 = rw c.in-1.is at c.requires.1 in
    (omega arith, omega arith)

get-requires-2 : tie.Need-get-requires-in-2
unfolding first_octets list_named
get-requires-2 c κs =
    let e : length c.args.first.now ≡ 6 = rw c.in-2.is at c.requires.1 in
    (omega arith, omega arith)

returns-2 : tie.Need-returns-in-1
unfolding overruns list_named
returns-2 c = rw c.in-1.is (sym (some_out 1 _ _ _ c.if-values-eq0.false c.get.ensures.0))

returns-3 : tie.Need-returns-in-2
unfolding overruns list_named
returns-3 c = rw c.in-2.is (sym (some_out 6 _ _ _ c.if-values-eq0.false c.get-in-2.ensures.0))

returns-4 : tie.Need-returns-in_default
returns-4 c = sym (other-out c.args.kind _ _ _ (λ e. omega arith) (λ e. omega arith))

pub runs_out_spec : {M : Type 1} → statement M
runs_out_spec =
    tie.close
    (tie.spec returns get-requires (λ c. search rules) (λ c. search rules) get-requires-2 (λ c. search rules) (λ c. search rules)
    returns-2 returns-3 returns-4)
