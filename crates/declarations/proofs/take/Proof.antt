-- `declarations::take` meets its contract. Assumes nothing.
use Rattle.model.specs.Attributes.{type_of}
use mathlib.Core.Path.{◌≡◌, refl}
use mathlib.Core.Logic.{◌⊎◌, ⊎_elim}
use Rattle.model.specs.declared.attribute.Attribute.{Attribute}
use Rattle.model.specs.declared.attribute.Attribute.TheVariants.{Advertise, Failed, Domain}
use Rattle.declarations.specs.Passes.{Single}
use borrow.Author.Rules.{rules}
use Rattle.declarations.proofs.take.Statement.{statement}
use Rattle.declarations.proofs.take.Tie as tie

-- the types of the last arm
single : (a : Attribute) → (a ≡ Advertise) ⊎ ((a ≡ Failed) ⊎ (a ≡ Domain)) → Single (type_of a)
single a = ⊎_elim (λ (e : a ≡ Advertise). rw e tt) (⊎_elim (λ (e : a ≡ Failed). rw e tt) (λ (e : a ≡ Domain). rw e tt))

take-listeners-requires : tie.Need-take_listeners-requires
take-listeners-requires c κs =
    let pre = c.requires in
    let told = c.in-Listener.is in
    (rw told at pre.0, pre.1, told, refl)

returns : tie.Need-returns-in-Listener
returns c = rw c.in-Listener.is c.take_listeners.ensures

take-run-requires : tie.Need-take_run-requires
take-run-requires c κs = let pre = c.requires in (pre.0, pre.1, single _ c.in-Advertise.is)

pub take_spec : {M : Type 1} → statement M
take_spec = tie.close (tie.spec (λ c. search rules) (λ c. search rules) take-listeners-requires (λ c. search rules) returns take-run-requires (λ c. search rules) (λ c. c.take_run.ensures))
