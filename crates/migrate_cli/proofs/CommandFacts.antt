-- The files of a command's own, by their names and their texts.
use Rattle.std.proofs.lemmas.Grind.{common_steps}
use Rattle.std.proofs.Common.{◌≡◌, ◌<◌, ◌≤◌, ◌∙◌, ℕ, zero, suc, List, [], ◌∷◌, ap, arith, get_or, length, map, subst, sym}
use Rattle.std.proofs.lemmas.List.{length-map}
use Rattle.std.specs.Prelude.{slice_index_or}
use Rattle.migrate_words.specs.Asked.{IsInRange}
use Rattle.migrate_words.specs.Usages.{usage_of}
use Rattle.migrate_words.specs.declared.command.Command.{Command}
use Rattle.migrate_words.specs.declared.command.CommandKind.{CommandKind}
use Rattle.migrate_words.specs.declared.command.CommandKind.TheVariants.{Delta, Prepare}
use Rattle.net_model.specs.Network.{Network}
use Rattle.migration_report.specs.declared.decision.Decision.{Decision}
use Rattle.migrate_cli.specs.CommandFiles.{given_texts, own_file, own_files, own_most}
use Rattle.migrate_cli.specs.Decisions.{Input, IsDecision, input_of}
use Rattle.migrate_cli.specs.Reading.{AreShort, named_text, named_texts}
use Rattle.migrate_cli.specs.steps.FilesRead.{kept_texts}
use Rattle.migrate_cli.proofs.FileFacts.{most_small, short_length}

-- one name and one text are one file
one_named : (names texts : List (List ℕ)) → length names ≡ 1 → length texts ≡ 1 →
    named_texts names texts ≡ named_text (slice_index_or names 0 []) (slice_index_or texts 0 []) ∷ []
one_named names texts one also = grind (arith, common_steps)

-- two names and two texts are two files
two_named : (names texts : List (List ℕ)) → length names ≡ 2 → length texts ≡ 2 →
    named_texts names texts ≡ named_text (slice_index_or names 0 []) (slice_index_or texts 0 []) ∷
    named_text (slice_index_or names 1 []) (slice_index_or texts 1 []) ∷ []
two_named names texts two also = grind (arith, common_steps)

-- a text of files that are short enough is
pub place_short : (command : Command) (own : List (List ℕ)) (i : ℕ) (text : List ℕ) → AreShort (own_files command) own → i < length own →
    text ≡ get_or own i text → length text ≤ 16777216
place_short command own i text short within at = by_files command.own own i short within at
  where
    by_files : (names texts : List (List ℕ)) (k : ℕ) → AreShort (map (own_file command.kind) names) texts → k < length texts →
        text ≡ get_or texts k text → length text ≤ 16777216
    by_files [] [] k s w e = absurd (omega (arith, w))
    by_files [] (t ∷ texts) k s w e = absurd s
    by_files (n ∷ names) [] k s w e = absurd s
    by_files (n ∷ names) (t ∷ texts) zero s w e =
        let first : length t ≤ own_most command.kind = s.0 in
        let most = most_small command.kind in
        let same = ap length e in
        omega (arith, first, most, same)
    by_files (n ∷ names) (t ∷ texts) (suc k) s w e = by_files names texts k s.1 (omega (arith, w)) e

-- what a command decides of the texts that it keeps it decides of all
pub by_kept : (command : Command) (own texts : List (List ℕ)) (net : Network) (decision : Decision) →
    IsDecision command.kind (input_of command (given_texts own (kept_texts command.kind texts)) net []) decision →
    IsDecision command.kind (input_of command (given_texts own texts) net []) decision
by_kept command own texts net decision is = by_kind command.kind is
  where
    input : List (List ℕ) → Input
    input configs = input_of command (given_texts own configs) net []

    by_kind : (kind : CommandKind) → IsDecision kind (input (kept_texts kind texts)) decision → IsDecision kind (input texts) decision
    by_kind Prepare so = so
    by_kind Delta so = so
    by_kind _ so = so

module _ (command : Command) (own : List (List ℕ)) (kind : CommandKind) (is : command.kind ≡ kind) (range : IsInRange command)
    (short : AreShort (own_files command) own) where
  -- a command has as many names and texts of its own as its usage line says
  pub name_count : length command.own ≡ length (usage_of kind).own
  name_count = subst (λ (k : CommandKind). length command.own ≡ length (usage_of k).own) is range.own

  pub text_count : length own ≡ length (usage_of kind).own
  text_count = short_length (own_files command) own short ∙ length-map command.own (own_file command.kind) ∙ name_count

  pub one_own : (file text : List ℕ) → length (usage_of kind).own ≡ 1 → file ≡ slice_index_or command.own 0 [] → text ≡ slice_index_or own 0 [] →
      named_texts command.own own ≡ named_text file text ∷ []
  one_own file text one file_is text_is =
      one_named command.own own (name_count ∙ one) (text_count ∙ one) ∙ (λ i. named_text (sym file_is i) (sym text_is i) ∷ [])

  pub two_own : (file text more : List ℕ) → length (usage_of kind).own ≡ 2 → file ≡ slice_index_or command.own 0 [] → text ≡ slice_index_or own 0 [] →
      more ≡ slice_index_or own 1 [] → named_texts command.own own ≡ named_text file text ∷ named_text (slice_index_or command.own 1 []) more ∷ []
  two_own file text more two file_is text_is more_is =
      two_named command.own own (name_count ∙ two) (text_count ∙ two)
      ∙ (λ i. named_text (sym file_is i) (sym text_is i) ∷ named_text (slice_index_or command.own 1 []) (sym more_is i) ∷ [])
