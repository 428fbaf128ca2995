use Rattle.std.proofs.Common.{◌≡◌, ℕ, List, [], ◌∷◌, ◌++◌, codes, decimal, length, ◌∙◌}
use Rattle.std.proofs.lemmas.Result.{IfOk-weaker}
use Rattle.failure_texts.specs.FailureTexts.{failure_counts}
use Rattle.failure_texts.specs.LinkVerdicts.{break_count, end_count, withstood_count}
use Rattle.failure_texts.proofs.CountFacts.{pairs_line}
use Rattle.failure_texts.proofs.lines.failure_counts.Goals as goal

pub returns : goal.returns
returns c =
    let failed = c.args.failed.now in
    let all : c.in_ok-ended.ended ++ 10 ∷ [] ≡ failure_counts failed =
    rw (
      c.in_ok-ended.ensures,
      c.in_ok-broken.ensures,
      c.in_ok-withstood.ensures,
      c.in_ok-links.ensures,
      c.in_ok-start.ensures,
      c.withstood_count.ensures,
      c.break_count.ensures,
      c.end_count.ensures,
    )
    (pairs_line (codes "failures") (decimal (length failed)) (codes "links") (decimal (withstood_count failed)) (codes "withstood")
    (decimal (break_count failed)) (codes "break") (decimal (end_count failed)) (codes "ends")) in
    IfOk-weaker c.finish.result (λ (text : List ℕ). text ≡ c.in_ok-ended.ended ++ 10 ∷ []) (λ (text : List ℕ). text ≡ failure_counts failed)
    (λ text h. h ∙ all) c.finish.ensures
