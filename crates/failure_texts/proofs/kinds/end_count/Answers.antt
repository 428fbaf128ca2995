use Rattle.std.proofs.Common.{rules, tests, ◌∙◌}
use Rattle.std.proofs.lemmas.Iterator.{YieldsList-from_slice}
use Rattle.std.proofs.lemmas.Iterator.Consumers.{YieldsList-from_filter, count_from_yields_List}
use Rattle.std.proofs.lemmas.List.Sums.{length-filter}
use Rattle.failure_texts.specs.LinkVerdicts.{is_ended}
use Rattle.failure_texts.specs.declared.verdict.FailedLink.{FailedLink}
use Rattle.failure_texts.proofs.kinds.end_count.Goals as goal

pub returns : goal.returns
returns c =
    count_from_yields_List c.filter.result c.count.result c.count.ensures.ran
    (YieldsList-from_filter _ (λ (x : FailedLink). is_ended x.verdict) (YieldsList-from_slice c.args.failed.now cc) c.filter.ensures.closure
    (λ x b q k. search (rules, tests)))
    ∙ length-filter (λ (x : FailedLink). is_ended x.verdict) c.args.failed.now
