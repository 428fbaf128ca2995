-- Where the files that an answer asks for are told, it is the one answer of the call besides a read fault.
use Rattle.std.proofs.Common.{◌≡◌, ◌≢◌, ◌⊎◌, inl, inr, ℕ, ◌<◌, ◌≤◌, List, [], ◌∷◌, ◌++◌, length, All, refl, sym, subst, ap, ◌∙◌, arith}
use Rattle.migrate_words.specs.Asked.{Asks}
use Rattle.migrate_words.specs.declared.command.Command.{Command}
use Rattle.migrate_words.proofs.OneCommand.{one_command}
use Rattle.migrate_words.proofs.TakenLaws.{numbers}
use Rattle.migration_report.specs.Outcomes.{status_of}
use Rattle.migration_report.specs.declared.outcome.Outcome.{Outcome}
use Rattle.migration_report.specs.declared.outcome.Outcome.TheVariants.{Refused}
use Rattle.migration_report.specs.declared.refusal.Refusal.TheVariants.{Words, Files}
use Rattle.migration_report.specs.declared.status.Status.TheVariants.{ReadFault}
use Rattle.migrate_cli.specs.AnswerLaws.{IsFileTold, MayEnd, TellTheSame}
use Rattle.migrate_cli.specs.AnswerLaws.TellTheSame.{same_outcome, words_refused}
use Rattle.migrate_cli.specs.AnswerLaws.MayEnd.{as_answered, by_read_fault}
use Rattle.migrate_cli.specs.Answers.{IsAnswer}
use Rattle.migrate_cli.specs.Answers.IsAnswer.{refused_words, many_files, read_fault, long_file, long_files, judged}
use Rattle.migrate_cli.specs.Calls.{Call}
use Rattle.migrate_cli.specs.CallWords.{AreRefused}
use Rattle.migrate_cli.specs.CallWords.AreRefused.{not_taken, value_off}
use Rattle.migrate_cli.specs.CommandFiles.{config_texts, files_of, own_texts, given_texts}
use Rattle.migrate_cli.specs.Outcomes.{IsOutcome}
use Rattle.migrate_cli.specs.Reading.{Contents, File, AreRead, AreWithin, file_names}
use Rattle.migrate_cli.proofs.OutcomeLaws.{one_outcome}
use Rattle.migrate_cli.proofs.ReadingFacts.{AreRead-length}
use Rattle.migrate_cli.proofs.StopLaws.{StopsAfter, IsBrokenSo, broken_at, IsToldOf, long_breaks, total_breaks, told_with, told_files, told_up_to, one_list}
use Rattle.migrate_cli.proofs.StopLaws.{none_past, same_place, same_limit}
use Rattle.migrate_cli.proofs.StopLaws.IsBrokenSo.{too_long, too_many}

-- two answers to the same question tell the same
abbrev SameAnswer : List (List ℕ) → List (List ℕ) → Outcome → Outcome → Type 0
SameAnswer asked other_asked one other = (asked ≡ other_asked) × (status_of one ≡ status_of other) × TellTheSame one other

-- so do answers with the same outcome
same_answer : {p q : List (List ℕ)} {one other : Outcome} → p ≡ q → one ≡ other → SameAnswer p q one other
same_answer {one = one} asked same = (asked, ap status_of same, subst (TellTheSame one) same same_outcome)

-- ---- the files of a command ----

-- a command, and what is told of the files
pub record Question : Type 0 where
  pub content : Contents
  pub command : Command

abbrev pub question : Contents → Command → Question
question content command = record { content = content; command = command }

pub data OfFiles (q : Question) : List (List ℕ) → Outcome → Type 0 where
  above : 200 < length q.command.configs → OfFiles q [] (Refused (Files (length q.command.configs)))
  stopped : {asked : List (List ℕ)} {outcome : Outcome} (before : List File) (file : File) (texts : List (List ℕ)) (text : List ℕ)
      → length q.command.configs ≤ 200 → asked ≡ file_names before ++ file.name ∷ []
      → StopsAfter q.content (files_of q.command) (broken_at before file texts text)
      → IsBrokenSo (broken_at before file texts text) outcome → OfFiles q asked outcome
  all_read : {outcome : Outcome} (texts : List (List ℕ)) → length q.command.configs ≤ 200
      → AreRead q.content (files_of q.command) texts → AreWithin (files_of q.command) texts
      → IsOutcome q.command (given_texts (own_texts q.command texts) (config_texts q.command texts)) outcome
      → OfFiles q (file_names (files_of q.command)) outcome

module _ (content : Contents) (command : Command) where
  pub few_or_many : 200 < length command.configs → length command.configs ≤ 200 → ⊥
  few_or_many many few = omega (arith, many, few)

  same_stop : {p q : List (List ℕ)} {first second : Outcome} (b c : List File) (n m : File) (ts ss : List (List ℕ)) (x y : List ℕ)
      → All (IsFileTold content) p → p ≡ file_names b ++ n.name ∷ [] → q ≡ file_names c ++ m.name ∷ []
      → StopsAfter content (files_of command) (broken_at b n ts x)
      → StopsAfter content (files_of command) (broken_at c m ss y) → IsBrokenSo (broken_at b n ts x) first → IsBrokenSo (broken_at c m ss y) second
      → SameAnswer p q first second
  same_stop {p} b c n m ts ss x y tell asked also one other here there =
      let tells = told_up_to content b n p asked tell in
      let place = same_place content (files_of command) b c n m tells ts ss x y one other in
      let names : file_names b ++ n.name ∷ [] ≡ file_names c ++ m.name ∷ [] = λ i. file_names (place.0 i) ++ (place.1 i).name ∷ [] in
      same_answer (asked ∙ names ∙ sym also) (same_limit content (files_of command) b c n m tells ts ss x y one other here there)

  pub stop_or_all : (before : List File) (file : File) (texts : List (List ℕ)) (text : List ℕ) (all : List (List ℕ))
      → All (IsToldOf content) (before ++ file ∷ []) → StopsAfter content (files_of command) (broken_at before file texts text)
      → AreRead content (files_of command) all
      → AreWithin (files_of command) all → ⊥
  stop_or_all before file texts text all tell stop read within =
      none_past content (files_of command) before file texts text stop.after all stop tell
      (subst (λ files. AreRead content files all) stop.files_are read) (subst (λ files. AreWithin files all) stop.files_are within)

  one_of_files : {p q : List (List ℕ)} {one other : Outcome} → All (IsFileTold content) p → OfFiles (question content command) p one →
      OfFiles (question content command) q other → SameAnswer p q one other
  one_of_files tell (above _) (above _) = same_answer refl refl
  one_of_files tell (above many) (stopped _ _ _ _ few _ _ _) = absurd (few_or_many many few)
  one_of_files tell (above many) (all_read _ few _ _ _) = absurd (few_or_many many few)
  one_of_files tell (stopped _ _ _ _ few _ _ _) (above many) = absurd (few_or_many many few)
  one_of_files tell (stopped b n ts x _ asked one here) (stopped c m ss y _ also other there) =
      same_stop b c n m ts ss x y tell asked also one other here there
  one_of_files {p} tell (stopped b n ts x _ asked stop _) (all_read ss _ read within _) =
      absurd (stop_or_all b n ts x ss (told_up_to content b n p asked tell) stop read within)
  one_of_files tell (all_read _ few _ _ _) (above many) = absurd (few_or_many many few)
  one_of_files tell (all_read ss _ read within _) (stopped b n ts x _ _ stop _) =
      absurd (stop_or_all b n ts x ss
      (told_with content b n stop.after (subst (All (IsToldOf content)) stop.files_are (told_files content (files_of command) tell))) stop read within)
  one_of_files {other = other} tell (all_read ts _ read _ is) (all_read ss _ reads _ its) =
      let texts : ts ≡ ss = one_list content (files_of command) ts ss (told_files content (files_of command) tell) read reads in
      same_answer refl (one_outcome command (given_texts (own_texts command ts) (config_texts command ts)) is
      (subst (λ some. IsOutcome command (given_texts (own_texts command some) (config_texts command some)) other) (sym texts) its))

-- ---- the words of a call ----

pub data OfWords (call : Call) : List (List ℕ) → Outcome → Type 0 where
  refused : (detail : List ℕ) → AreRefused call.words detail → OfWords call [] (Refused (Words detail))
  asks : {asked : List (List ℕ)} {outcome : Outcome} (command : Command) → Asks call.words command
      → OfFiles (question call.content command) asked outcome → OfWords call asked outcome

-- each answer, step by step
pub steps_of : {call : Call} {asked : List (List ℕ)} {outcome : Outcome} → status_of outcome ≢ ReadFault → IsAnswer call asked outcome
    → OfWords call asked outcome
steps_of read (refused_words detail are) = refused detail are
steps_of read (many_files command ask many) = asks command ask (above many)
steps_of read (read_fault _ _ _ _ _ _) = absurd (read refl)
steps_of {call} read (long_file command asked texts file ask up long) =
    asks command ask.asked (stopped up.before file texts long.text ask.few up.asked_are (record {
      after = up.after;
      files_are = up.files_are;
      read = up.read;
      next = long.read;
      within = up.within;
      broken = long_breaks up.before texts file long.text (AreRead-length call.content up.before texts up.read) long.long;
    }) (too_long long.long))
steps_of read (long_files command asked texts file number ask up passes) =
    asks command ask.asked (stopped up.before file texts passes.text ask.few up.asked_are (record {
      after = up.after;
      files_are = up.files_are;
      read = up.read;
      next = passes.read;
      within = up.within;
      broken = total_breaks up.before texts file passes.text number up.within.each passes.number_is passes.passed;
    }) (too_many number passes.short passes.number_is))
steps_of read (judged command texts _ ask reads within is) = asks command ask.asked (all_read texts ask.few reads within is)

-- words that are refused ask for nothing
pub refused_or_asks : (words : List (List ℕ)) (detail : List ℕ) (command : Command) → AreRefused words detail → Asks words command → ⊥
refused_or_asks words detail command (not_taken _ none) ask = none ask.taken
refused_or_asks words detail command (value_off off) ask = (numbers words).none off command ask

one_of_words : (call : Call) {p q : List (List ℕ)} {one other : Outcome} → All (IsFileTold call.content) p → OfWords call p one
    → OfWords call q other → SameAnswer p q one other
one_of_words call tell (refused t one) (refused w other) = (refl, refl, words_refused t w)
one_of_words call tell (refused t one) (asks command ask _) = absurd (refused_or_asks call.words t command one ask)
one_of_words call tell (asks command ask _) (refused w other) = absurd (refused_or_asks call.words w command other ask)
one_of_words call {q = q} {other = outcome} tell (asks one ask files) (asks other again also) =
    let one_thing = one_command call.words one other ask again in
    one_of_files call.content one tell files (subst (λ command. OfFiles (question call.content command) q outcome) (sym one_thing) also)

-- a call has one answer
pub one_answer : (call : Call) (p q : List (List ℕ)) (one other : Outcome) → All (IsFileTold call.content) p → status_of one ≢ ReadFault →
    status_of other ≢ ReadFault → IsAnswer call p one → IsAnswer call q other → SameAnswer p q one other
one_answer call p q one other tell no_fault no_other is its = one_of_words call tell (steps_of no_fault is) (steps_of no_other its)

-- and ends with it, or by a read fault
pub ends_so : (call : Call) (p q : List (List ℕ)) (one other : Outcome) → All (IsFileTold call.content) p → status_of one ≢ ReadFault
    → IsAnswer call p one → IsAnswer call q other → (status_of other ≡ ReadFault) ⊎ (status_of other ≢ ReadFault) → MayEnd (status_of one) (status_of other)
ends_so call p q one other tell no_fault is its (inl fault) = subst (MayEnd (status_of one)) (sym fault) by_read_fault
ends_so call p q one other tell no_fault is its (inr no_other) =
    subst (MayEnd (status_of one)) (one_answer call p q one other tell no_fault no_other is its).1 as_answered
