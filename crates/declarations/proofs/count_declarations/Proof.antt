-- `declarations::count_declarations` meets its contract. Assumes nothing.
use native.Mathlib.Omega.{arith}
use mathlib.Core.List.{◌++◌}
use lib.ListN.{length-append}
use Rattle.model.specs.State.{sender_at}
use Rattle.model.specs.Registrations.{advertises, faileds, listeners}
use Rattle.model.specs.Table.{decode}
use Rattle.model.specs.Declarations.{of_kind, domain_values, declarations}
use Rattle.declarations.specs.Passes.{all_of}
use borrow.Author.Rules.{rules}
use Rattle.declarations.proofs.count_declarations.Statement.{statement}
use Rattle.declarations.proofs.count_declarations.Tie as tie

returns : tie.Need-returns
unfolding declarations all_of
returns c =
    let a = c.args in
    let b = decode a.table.now in
    let f = of_kind faileds a.p b.streams in
    let l = of_kind listeners a.p b.streams in
    let d = domain_values b.settings 0 (sender_at b.senders a.p).domains in (
      omega (
        arith,
        length-append (of_kind advertises a.p b.streams) (f ++ (l ++ d)),
        length-append f (l ++ d),
        length-append l d,
        c.count_of-advertise.ensures.0,
        c.count_of-failed.ensures.0,
        c.count_of-listener.ensures.0,
        c.count_of-domain.ensures.0,
      ),
      omega arith,
    )

pub count_declarations_spec : {M : Type 1} → statement M
count_declarations_spec = tie.close (tie.spec (λ c κs. search rules) (λ c κs. search rules) (λ c κs. search rules) (λ c κs. search rules) (λ c. search rules) (λ c. search rules) (λ c. search rules) returns)
