-- Each part is read from the stream's result.
use Rattle.std.proofs.Common.{◌∙◌}
use Rattle.reports.proofs.Showing.{column-shown, code-shown, listener-shown, entry-shown}
use Rattle.reports.proofs.stream_shown.Goals as goal

pub returns : goal.returns
returns c =
    let w = c.result_at-result.ensures in
    record {
      id = c.id_at.ensures;
      column = c.into.ensures ∙ column-shown w;
      code = code-shown w;
      listener = c.into-2.ensures ∙ listener-shown w;
      entry = c.into-3.ensures ∙ entry-shown w;
    }
