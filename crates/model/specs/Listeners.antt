-- The Listeners of the code as the definitions have them.
use Rattle.std.specs.Prelude.{Option, Some, None}
use Rattle.model.specs.State.{Ready, asking_failed, ready, ready_failed, Declared, nothing, tells}
use Rattle.model.specs.declared.listener.Listener.{Listener}
use Rattle.model.specs.declared.listener.Listener.TheVariants as listener

abbrev pub ready_of : Listener → Ready
ready_of listener.AskingFailed = asking_failed
ready_of listener.Ready = ready
ready_of listener.ReadyFailed = ready_failed

-- or that of none
abbrev pub declared_of : Option Listener → Declared
declared_of None = nothing
declared_of (Some l) = tells (ready_of l)
