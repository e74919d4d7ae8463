-- The parts of a line as the code has them, in the words of the definitions, with any number beside them. Assumes nothing.
use Rattle.std.specs.Prelude.{ℕ, List}
use Rattle.model.specs.Settling.{no_step}
use Rattle.model.specs.Calls.{WhyCall}
use Rattle.model.specs.Reports.{Report}
use Rattle.columns.specs.Steps.{step_or}
use Rattle.reports.specs.declared.Reported.{Reported}
use Rattle.reports.specs.Shown.{shown}
use Rattle.answers.specs.declared.WhyParts.{WhyParts}

abbrev pub report_of : ℕ → Reported → Report
report_of n r = record (shown r) { number = n }

abbrev pub why_of : ℕ → WhyParts → List ℕ → WhyCall
why_of n w buffer = record { number = n; step = step_or w.step no_step; count = w.count; limit = w.limit; shortfall = w.shortfall; buffer = buffer }
