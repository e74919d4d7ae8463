-- The test of each octet.
use Rattle.std.proofs.Common.{rules, tests, nat_eq}
use Rattle.std.proofs.lemmas.Iterator.{YieldsList-from_slice}
use Rattle.std.proofs.lemmas.Iterator.Search.{all_from_yields_List}
use Rattle.answers.proofs.is_kept.Goals as goal

pub returns : goal.returns
returns c =
    all_from_yields_List (λ octet. nat_eq octet 165) _ _ _ c.all.ensures.ran (YieldsList-from_slice c.args.octets.now cc) (λ x b q k. search (rules, tests))
