-- What the code's events ask of a Registrar.
use Rattle.std.specs.Prelude.{Option, Some, None}
use Rattle.model.specs.declared.event.Event.{Event}
use Rattle.model.specs.declared.event.Event.TheVariants.{New, JoinIn, In, JoinMt, Mt, Lv}
use Rattle.model.specs.declared.event.Asked.{Asked}
use Rattle.model.specs.declared.event.Asked.TheVariants.{Join, Leave}

-- "New, JoinIn, JoinMt register"; "Ignore, In and Mt do nothing"
abbrev pub asked_by : Event → Option Asked
asked_by New = Some Join
asked_by JoinIn = Some Join
asked_by In = None
asked_by JoinMt = Some Join
asked_by Mt = None
asked_by Lv = Some Leave
