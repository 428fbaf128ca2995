-- What a list comes to with a link down: kinds of verdicts, and how many there are of each.
use Rattle.std.specs.Prelude.{◌≢◌, ℕ, Bool, true, false, List, count_by}
use Rattle.net_model.specs.declared.refusal.NetRefusal.TheVariants.{OutOfMemory}
use Rattle.migration_report.specs.EndTexts.{EndFaultBelow}
use Rattle.failure_texts.specs.declared.verdict.FailedLink.{FailedLink}
use Rattle.failure_texts.specs.declared.verdict.LinkVerdict.{LinkVerdict}
use Rattle.failure_texts.specs.declared.verdict.LinkVerdict.TheVariants.{Withstood, Breaks, BreaksWave, UnsoundOld, UnsoundNew, Refused}

-- the list withstands it
abbrev pub is_withstood : LinkVerdict → Bool
is_withstood Withstood = true
is_withstood _ = false

-- it breaks the list, where both ends are sound
abbrev pub is_break : LinkVerdict → Bool
is_break (Breaks state fault) = true
is_break (BreaksWave wave fault) = true
is_break _ = false

-- no list helps: an end isn't sound, or there is no network
abbrev pub is_ended : LinkVerdict → Bool
is_ended (UnsoundOld fault) = true
is_ended (UnsoundNew fault) = true
is_ended (Refused refusal) = true
is_ended _ = false

-- how many links are withstood, how many break the list, and without how many none helps
abbrev pub withstood_count : List FailedLink → ℕ
withstood_count failed = count_by (λ (x : FailedLink). is_withstood x.verdict) failed

abbrev pub break_count : List FailedLink → ℕ
break_count failed = count_by (λ (x : FailedLink). is_break x.verdict) failed

abbrev pub end_count : List FailedLink → ℕ
end_count failed = count_by (λ (x : FailedLink). is_ended x.verdict) failed

-- a verdict that can be told: its routers are below the count, and nothing is refused for want of memory
abbrev pub IsToldVerdict : ℕ → LinkVerdict → Type 0
IsToldVerdict count Withstood = Unit {0}
IsToldVerdict count (Breaks state fault) = EndFaultBelow count fault
IsToldVerdict count (BreaksWave wave fault) = EndFaultBelow count fault
IsToldVerdict count (UnsoundOld fault) = EndFaultBelow count fault
IsToldVerdict count (UnsoundNew fault) = EndFaultBelow count fault
IsToldVerdict count (Refused refusal) = refusal ≢ OutOfMemory
