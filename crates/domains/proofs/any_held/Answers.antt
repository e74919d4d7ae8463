use Rattle.std.proofs.Common.{◌∙◌, ℕ, ◌+◌, not, eqb, get_or, refl, rules}
use Rattle.std.proofs.lemmas.Iterator.{YieldsList-from_range}
use Rattle.std.proofs.lemmas.Iterator.Search.{any_from_yields_List}
use Rattle.model.specs.Layout.{slot_in, slot_index}
use Rattle.domains.proofs.Ports.{any-those}
use Rattle.domains.proofs.any_held.Goals as goal

pub returns : goal.returns
returns c =
    let a = c.args in
    let test = λ (q : ℕ). not (eqb (get_or a.own.now (slot_in (a.«from» + q) + slot_index.registered) 0) 0) in
    any_from_yields_List test _ _ _ c.any.ensures.ran (YieldsList-from_range 0 8 8 refl refl) (λ x b q k. search rules)
    ∙ any-those a.own.now a.«from» c.requires 8 0 refl
