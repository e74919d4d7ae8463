-- The answer of the code in the words of the definitions, with the buffer that it leaves.
use Rattle.std.specs.Prelude.{List, ℕ, Result, Ok, Err}
use Rattle.model.specs.Numbers.{refusal_number}
use Rattle.model.specs.declared.refusal.Refusal.{Refusal}
use Rattle.model.specs.Calls.{WhyCall, refused_why}
use Rattle.columns.specs.Steps.{step_shown}
use Rattle.why.specs.declared.Why.{Why}

unfoldable pub why_shown : Why → List ℕ → WhyCall
why_shown r buffer = record {
  number = 0;
  step = step_shown r.step;
  count = r.count;
  limit = r.limit;
  shortfall = r.shortfall;
  buffer = buffer;
}

-- the answer, or why there is none: zero or none beside the number
unfoldable pub why_answered : Result Why Refusal → List ℕ → WhyCall
why_answered (Ok r) buffer = why_shown r buffer
why_answered (Err e) buffer = refused_why (refusal_number e) buffer
