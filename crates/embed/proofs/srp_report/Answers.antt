-- The parts are those of the report, or zeros.
use Rattle.std.proofs.Common.{refl}
use Rattle.model.specs.Numbers.{refusal_number}
use Rattle.model.specs.Reports.{refused_report}
use Rattle.model.specs.Table.{declared_number, entry_number}
use Rattle.reports.specs.Shown.{shown, answered}
use Rattle.embed.specs.Boundary.{word_number, parts_of}
use Rattle.embed.proofs.Parts.{parts-put}
use Rattle.embed.proofs.srp_report.Goals as goal

pub returns-in-Ok : goal.returns-in-Ok
unfolding answered
returns-in-Ok c = record {
  answer = shown c.in-Ok.report;
  reports = c.in-Ok.ensures;
  number_is = unfold shown in refl;
  parts_are = parts-put c.in-Ok.report;
}

pub returns-in-Err : goal.returns-in-Err
unfolding answered
returns-in-Err c = record {
  answer = refused_report (refusal_number c.in-Err.refusal);
  reports = c.in-Err.ensures;
  number_is = unfold refused_report in c.into.ensures;
  parts_are = unfold parts_of refused_report word_number declared_number entry_number in refl;
}
