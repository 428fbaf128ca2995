-- What a step of a call gave.
use Rattle.std.specs.Prelude.{◌≡◌, ℕ, List, [], ◌++◌, Result, Ok, Err, string_bytes}
use Rattle.std.specs.declared.alloc.AllocError.{AllocError}
use Rattle.store_edge.specs.Files.{ReadsSoFar}
use Rattle.net_model.specs.Network.{Network}
use Rattle.design_file.specs.declared.refusal.DesignRefusal.{DesignRefusal}
use Rattle.design_file.specs.declared.refusal.DesignRefusal.TheVariants.{Bad, OutOfMemory as NoMemoryForDesign}
use Rattle.design_file.specs.declared.settled.SettledRouter.{SettledRouter}
use Rattle.migrate_words.specs.declared.refusal.WordsRefused.{WordsRefused}
use Rattle.migrate_words.specs.declared.refusal.WordsRefused.TheVariants.{Words as NotTaken, Number, OutOfMemory as NoMemoryForWords}
use Rattle.migration_report.specs.Outcomes.{status_of}
use Rattle.migration_report.specs.declared.decision.Decision.{Decision}
use Rattle.migration_report.specs.declared.decision.Decision.TheVariants.{BadDesign}
use Rattle.migration_report.specs.declared.outcome.Outcome.{Outcome}
use Rattle.migration_report.specs.declared.outcome.Outcome.TheVariants.{Refused}
use Rattle.migration_report.specs.declared.refusal.Refusal.TheVariants as refusal
use Rattle.migrate_cli.specs.Answers.{IsAnswer, MayAsk, MayFail, ReadsAgree}
use Rattle.migrate_cli.specs.Calls.{Call}
use Rattle.migrate_cli.specs.Reading.{NamedText}
use Rattle.migrate_cli.specs.SettledDesigns.{IsSettledBy, RefusesDesignFile}
use Rattle.migrate_cli.specs.declared.reading.Stop.{Stop}
use Rattle.migrate_cli.specs.declared.reading.Stop.TheVariants.{Fault, Long, Total, OutOfMemory}

-- what is decided where a design is refused
abbrev pub RefusesDesignSo : List ℕ → DesignRefusal → Result (List SettledRouter) Decision → Type 0
RefusesDesignSo file (Bad kind path) answer = answer ≡ Err (BadDesign file path kind)
RefusesDesignSo file NoMemoryForDesign answer = ⊥

-- what a design file comes to for a network: what is settled, or what is decided where it is refused
abbrev pub IsSettledOrRefused : NamedText → Network → Result (List SettledRouter) Decision → Type 0
IsSettledOrRefused design net (Ok settled) = IsSettledBy design.text net settled
IsSettledOrRefused design net (Err decision) = RefusesDesignFile design net decision

-- what a call comes to where reading stopped
abbrev pub StopsSo : Stop → Outcome → Type 0
StopsSo (Fault file) outcome = outcome ≡ Refused (refusal.Read file.now)
StopsSo (Long file) outcome = outcome ≡ Refused (refusal.Length file.now)
StopsSo (Total number) outcome = outcome ≡ Refused (refusal.Total number)
StopsSo OutOfMemory outcome = ⊥

-- what a call comes to, or want of memory
abbrev pub AnswersWith : Call → List (List ℕ) → Result Outcome AllocError → Type 0
AnswersWith call asked (Ok outcome) = IsAnswer call asked outcome
AnswersWith call asked (Err _) = MayAsk call asked

-- the reads agree with what a call comes to, or with want of memory
abbrev pub ReadsEnd : Result Outcome AllocError → ReadsSoFar → ReadsSoFar → Type 0
ReadsEnd (Ok outcome) before after = ReadsAgree (status_of outcome) before after
ReadsEnd (Err _) before after = MayFail before after

-- some names were asked for besides those before, and this is the answer
pub record HasAnswer (call : Call) (asked_before asked_after : List (List ℕ)) (answer : Result Outcome AllocError) : Type 0 where
  pub asked : List (List ℕ)
  pub asked_is : asked_after ≡ asked_before ++ asked
  pub answers : AnswersWith call asked answer

-- what words come to that are refused: more is said of them only where the command line doesn't take them
abbrev pub RefusesSo : WordsRefused → Outcome → Type 0
RefusesSo (NotTaken detail) outcome = outcome ≡ Refused (refusal.Words (string_bytes detail))
RefusesSo Number outcome = outcome ≡ Refused (refusal.Words [])
RefusesSo NoMemoryForWords outcome = ⊥
