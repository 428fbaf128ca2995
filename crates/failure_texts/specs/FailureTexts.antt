-- What is printed of links that go down: a line for each that the list doesn't withstand, and the counts.
use Rattle.std.specs.Prelude.{ℕ, List, [], ◌∷◌, ◌++◌, codes, decimal, length}
use Rattle.std.specs.List.{flat_map}
use Rattle.net_addr.specs.Addresses.{Block}
use Rattle.plan_theory.specs.Plans.{fault_told}
use Rattle.printed_lines.specs.Texts.{line}
use Rattle.printed_lines.specs.Words.{prefix_word}
use Rattle.refused_texts.specs.Texts.{network_text}
use Rattle.migration_report.specs.EndTexts.{unsound_text}
use Rattle.migration_report.specs.Texts.{unsafe_text, waves_unsafe_text}
use Rattle.migration_report.specs.declared.ends.End.TheVariants.{Old, New}
use Rattle.failure_texts.specs.LinkVerdicts.{break_count, end_count, withstood_count}
use Rattle.failure_texts.specs.declared.verdict.FailedLink.{FailedLink}
use Rattle.failure_texts.specs.declared.verdict.LinkVerdict.{LinkVerdict}
use Rattle.failure_texts.specs.declared.verdict.LinkVerdict.TheVariants.{Withstood, Breaks, BreaksWave, UnsoundOld, UnsoundNew, Refused}

-- what stands before the line of what is wrong: a word, and the link
abbrev pub link_front : List ℕ → Block → List ℕ
link_front word p = word ++ 32 ∷ prefix_word p ++ 32 ∷ []

-- the line of a link: what `check` says there, or what is wrong of an end, or why there is no network
abbrev pub link_line : List (List ℕ) → Block → LinkVerdict → List ℕ
link_line names p Withstood = []
link_line names p (Breaks state fault) = link_front (codes "breaks") p ++ unsafe_text names state (fault_told fault)
link_line names p (BreaksWave wave fault) = link_front (codes "breaks") p ++ waves_unsafe_text names wave (fault_told fault)
link_line names p (UnsoundOld fault) = link_front (codes "ends") p ++ unsound_text Old names (fault_told fault)
link_line names p (UnsoundNew fault) = link_front (codes "ends") p ++ unsound_text New names (fault_told fault)
link_line names p (Refused refusal) = link_front (codes "ends") p ++ network_text refusal

-- the last line: how many links there are, and how many of each kind
abbrev pub failure_counts : List FailedLink → List ℕ
failure_counts failed =
    line (codes "failures")
    (decimal (length failed) ∷ codes "links" ∷ decimal (withstood_count failed) ∷ codes "withstood" ∷ decimal (break_count failed)
    ∷ codes "break" ∷ decimal (end_count failed) ∷ codes "ends" ∷ [])

-- the whole text
abbrev pub failures_text : List (List ℕ) → List FailedLink → List ℕ
failures_text names failed = flat_map (λ (x : FailedLink). link_line names x.link x.verdict) failed ++ failure_counts failed
