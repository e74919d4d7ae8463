use Rattle.std.proofs.Common.{rules, sym, ◌∙◌}
use Rattle.mmrp.proofs.Reading.{asked-read, event-missed}
use Rattle.mmrp.proofs.ask.Goals as goal

-- a value has an event
pub returns-in_err-event_of : goal.returns-in_err-event_of
returns-in_err-event_of c = absurd (event-missed c.args.events.now c.args.n c.requires (sym c.event_of.ensures ∙ c.in_err-event_of.was))

pub returns : goal.returns
returns c = c.asked.ensures ∙ asked-read c.args.events.now c.args.n _ c.requires (sym c.event_of.ensures ∙ c.in_ok-event_of.was)
