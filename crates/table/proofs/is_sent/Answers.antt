use Rattle.std.proofs.Common.{rules, tests, ◌∙◌}
use Rattle.std.proofs.lemmas.Iterator.{YieldsList-from_slice}
use Rattle.std.proofs.lemmas.Iterator.Search.{any_from_yields_List}
use Rattle.table.proofs.HeldRecords.{sending, sent_any}
use Rattle.table.proofs.is_sent.Goals as goal

pub returns : goal.returns
returns c =
    any_from_yields_List sending _ _ _ c.any.ensures.ran (YieldsList-from_slice c.as_chunks.result.0.now cc) (λ x b q k. search (rules, tests))
    ∙ sent_any c.args.rec.now c.requires _ c.as_chunks.ensures.front
