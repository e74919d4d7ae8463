-- What holds of each step of a list by its name, computed: so that it needs no word for a step that is added.
use mathlib.Core.Path.{◌≡◌, refl}
use mathlib.Core.List.{List, [], ◌∷◌}
use mathlib.Core.Bool.{Bool, true, false, not, ◌&&◌, false≢true}
use Rattle.model.specs.Lists.{All}
use Rattle.model.specs.Settling.{Outcome, column_none, as_registered, as_advertise, own_failure, StepName, Step}
use Rattle.model.proofs.Lists.{and_left, and_right}

unfoldable pub every_step : (StepName → Bool) → List Step → Bool
every_step f [] = true
every_step f (s ∷ l) = f s.name && every_step f l

pub every-all : (f : StepName → Bool) (l : List Step) → every_step f l ≡ true → All (λ s. f s.name ≡ true) l
unfolding every_step
every-all f [] h = tt
every-all f (s ∷ l) h = (and_left (f s.name) (every_step f l) h, every-all f l (and_right (f s.name) (every_step f l) h))

pub every-not : (f : StepName → Bool) (l : List Step) → every_step (λ n. not (f n)) l ≡ true → All (λ s. f s.name ≡ false) l
unfolding every_step
every-not f [] h = tt
every-not f (s ∷ l) h = (go (f s.name) (and_left (not (f s.name)) _ h), every-not f l (and_right (not (f s.name)) _ h))
  where
    go : (b : Bool) → not b ≡ true → b ≡ false
    go true e = absurd (false≢true e)
    go false e = refl

-- an outcome is an own failure; it is the registered one; it is not Advertise
unfoldable pub is_own : Outcome → Bool
is_own column_none = false
is_own as_registered = false
is_own as_advertise = false
is_own (own_failure code) = true

unfoldable pub is_registered : Outcome → Bool
is_registered column_none = false
is_registered as_registered = true
is_registered as_advertise = false
is_registered (own_failure code) = false

unfoldable pub not_admitted : Outcome → Bool
not_admitted column_none = true
not_admitted as_registered = true
not_admitted as_advertise = false
not_admitted (own_failure code) = true
