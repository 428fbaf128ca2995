-- The law of the counts of links.
use Rattle.std.specs.Prelude.{◌≡◌, ◌+◌, List, length}
use Rattle.failure_texts.specs.LinkVerdicts.{break_count, end_count, withstood_count}
use Rattle.failure_texts.specs.declared.verdict.FailedLink.{FailedLink}

-- each link is withstood, breaks the list, or has ends that no list helps
abbrev pub CountsAddUp : Type 0
CountsAddUp = (failed : List FailedLink) → withstood_count failed + break_count failed + end_count failed ≡ length failed
