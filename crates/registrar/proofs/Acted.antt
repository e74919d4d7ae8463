-- What an act does to a stream: to its cell on a port, or to what is sent of it there.
use Prim.Native.Nat.{ℕ}
use mathlib.Core.Path.{◌≡◌, ap, fun_ext}
use mathlib.Core.List.{List}
use Rattle.model.specs.State.{Cell, Sends}
use Rattle.model.specs.Registrations.{Act, does, moves, at, change}
use Rattle.model.proofs.Commute.{acted}
use Rattle.registrar.proofs.Changed.{at_none}

module _ (now p : ℕ) (a : Act) where
  pub acted-cell : ((y : Sends) → moves a y ≡ y) → acted now p a ≡ change (at p (does now a)) (λ m. m)
  unfolding change
  acted-cell k =
      fun_ext (λ x. ap (λ (l : List Sends). record { id = x.id; settled = x.settled; cells = at p (does now a) x.cells; results = x.results; sends = l })
      (at_none p (moves a) k x.sends))

  pub acted-sends : ((c : Cell) → does now a c ≡ c) → acted now p a ≡ change (λ l. l) (at p (moves a))
  unfolding change
  acted-sends k =
      fun_ext (λ x. ap (λ (l : List Cell). record { id = x.id; settled = x.settled; cells = l; results = x.results; sends = at p (moves a) x.sends })
      (at_none p (does now a) k x.cells))
