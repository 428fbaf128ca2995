-- The files of `observe`, read: what their texts come to.
use Rattle.std.proofs.Common.{◌≡◌, ◌∙◌, ◌<◌, ◌≤◌, ◌+◌, ℕ, List, [], ◌∷◌, Result, Ok, Err, IfErr, IfOk, length, map, take, drop, ap, arith, refl, subst, sym}
use Rattle.std.specs.Borrow.{Bor}
use Rattle.std.specs.Prelude.{slice_index_or}
use Rattle.std.specs.declared.alloc.AllocError.{AllocError}
use Rattle.std.proofs.lemmas.List.{length-map}
use Rattle.ios_reader.specs.Texts.{ReadsText}
use Rattle.isis_writer.specs.ReadTexts.{ReadsTexts}
use Rattle.net_model.specs.Configuration.{Configuration}
use Rattle.net_model.specs.Network.{Network, HasConfiguration}
use Rattle.net_model.specs.OffStarts.{IsLowestOffStart}
use Rattle.net_model.specs.Refusals.{MakeNetwork}
use Rattle.migrate_words.specs.Asked.{IsInRange}
use Rattle.migrate_words.specs.Usages.{usage_of}
use Rattle.migrate_words.specs.declared.command.Command.{Command}
use Rattle.migrate_words.specs.declared.command.CommandKind.{CommandKind}
use Rattle.migrate_words.specs.declared.command.CommandKind.TheVariants.{Observe}
use Rattle.migration_report.specs.declared.outcome.Outcome.{Outcome}
use Rattle.migration_report.specs.declared.outcome.Outcome.TheVariants.{Refused}
use Rattle.migration_report.specs.declared.refusal.Refusal.TheVariants.{Config, OffStart}
use Rattle.migrate_cli.specs.CommandFiles.{config_texts, files_of, given_texts, names_for, own_file, own_files, own_texts, text_names}
use Rattle.migrate_cli.specs.Configurations.{GiveNetwork}
use Rattle.migrate_cli.specs.Configurations.IsFirstRefused.{here}
use Rattle.migrate_cli.specs.ObserveDecision.{ConfigTexts, IsNightOutcome, NightTexts, RefusesTexts, config_texts_of, night_texts}
use Rattle.migrate_cli.specs.ObserveDecision.IsNightOutcome.{off_before}
use Rattle.migrate_cli.specs.ObserveDecision.RefusesTexts.{faulty_line, no_net}
use Rattle.migrate_cli.specs.Outcomes.{IsOutcome}
use Rattle.migrate_cli.specs.Outcomes.IsOutcome.{observed}
use Rattle.migrate_cli.specs.Reading.{AreShort, named_text, named_texts}
use Rattle.migrate_cli.specs.declared.configurations.Unread.{Unread}
use Rattle.migrate_cli.specs.declared.configurations.Unread.TheVariants.{Bad, OutOfMemory as NoMemoryToRead}
use Rattle.migrate_cli.specs.steps.FilesRead.{AreTextsApart, ReadsFiles}
use Rattle.migrate_cli.specs.steps.NightFiles.{RefusesConfigs}
use Rattle.migrate_cli.specs.steps.Unread.{IsUnread, IsUnreadText, RefusesUnread}
use Rattle.migrate_cli.proofs.CommandFacts.{place_short, two_own}
use Rattle.migrate_cli.proofs.FileFacts.{short_length, split_count, split_texts}
use Rattle.migrate_cli.proofs.GroupLaws.{one_read}
use Rattle.migrate_cli.proofs.StopFacts.{element}

-- why texts aren't read is the outcome
pub unread_refusal : (files : ConfigTexts) (unread : Unread) (outcome : Outcome) → IsUnread files.names files.texts unread →
    RefusesUnread unread outcome → RefusesTexts files outcome
unread_refusal files (Bad file line kind) outcome is so = subst (RefusesTexts files) (sym so) (faulty_line file.now line kind is)
unread_refusal files NoMemoryToRead outcome is so = absurd so

-- and so it is of one text
pub unread_text_refusal : (name text : List ℕ) (unread : Unread) (outcome : Outcome) → IsUnreadText name text unread → RefusesUnread unread outcome →
    RefusesTexts (config_texts_of (name ∷ []) (text ∷ [])) outcome
unread_text_refusal name text (Bad file line kind) outcome is so =
    subst (RefusesTexts (config_texts_of (name ∷ []) (text ∷ []))) (sym so)
    (subst (λ (told : List ℕ). RefusesTexts (config_texts_of (name ∷ []) (text ∷ [])) (Refused (Config told line kind))) (sym is.0)
    (faulty_line name line kind (here is.1)))
unread_text_refusal name text NoMemoryToRead outcome is so = absurd so

-- configurations that were read and make no network
pub refused_texts : (files : ConfigTexts) (all : List Configuration) (outcome : Outcome) → ReadsTexts files.texts all → RefusesConfigs all outcome →
    RefusesTexts files outcome
refused_texts files all outcome reads refused = subst (RefusesTexts files) (sym refused.is) (no_net all refused.refusal reads refused.refuses refused.told)

-- a text alone
pub one_gives : (text : List ℕ) (all : List Configuration) (net : Network) → ReadsText text all → MakeNetwork all net → GiveNetwork (text ∷ []) net
one_gives text all net reads make = record { configs = all; read = one_read text all reads; make = make }

-- a router that isn't where a migration starts is the outcome
pub off_outcome : (texts : NightTexts) (net : Network) (router : ℕ) (r : Result Outcome AllocError) → GiveNetwork texts.before.texts net →
    IsLowestOffStart net router →
    IfOk r (λ outcome. (config : Configuration) → HasConfiguration net router config → outcome ≡ Refused (OffStart config.name)) →
    IfOk r (IsNightOutcome texts)
off_outcome texts net router (Ok outcome) gives lowest so =
    let off = lowest.holds in
    subst (IsNightOutcome texts) (sym (so off.config off.router)) (off_before net router off.config gives lowest off.router)
off_outcome texts net router (Err e) gives lowest so = tt

-- ---- the texts of the command ----

module _ (command : Command) (texts : List (List ℕ)) (is : command.kind ≡ Observe) (range : IsInRange command)
    (short : AreShort (files_of command) texts) where
  pub two_named : length command.own ≡ 2
  two_named = subst (λ (kind : CommandKind). length command.own ≡ length (usage_of kind).own) is range.own

  reads : ReadsFiles command.kind
  reads = subst ReadsFiles (sym is) tt

  names_are : text_names command ≡ command.configs
  names_are = ap (λ (kind : CommandKind). names_for kind command.configs) is

  pub two_texts : 2 + length (text_names command) ≡ length texts
  two_texts =
      let all = split_count command texts reads short in
      let two = two_named in
      omega (arith, all, two)

  module _ (own configs : List (List ℕ)) (front : own ≡ take 2 texts) (rest : configs ≡ drop 2 texts) where
    pub parts : AreTextsApart command texts own configs
    parts = split_texts command texts reads short own configs 2 two_texts front rest

    pub own_two : length own ≡ 2
    own_two = short_length (own_files command) own parts.own_short ∙ length-map command.own (own_file command.kind) ∙ two_named

    -- a text of its own has at most 16 MiB
    pub own_short : (i : ℕ) (text : List ℕ) → i < 2 → text ≡ slice_index_or own i [] → length text ≤ 16777216
    own_short i text within at =
        let two = own_two in
        let inside : i < length own = omega (arith, within, two) in
        place_short command own i text parts.own_short inside (at ∙ element own i [] text inside)

    pub names_each : (names : List (Bor (List ℕ))) → map (λ (name : Bor (List ℕ)). name.now) names ≡ command.configs → length names ≡ length configs
    names_each names told =
        sym (length-map names (λ (name : Bor (List ℕ)). name.now)) ∙ ap length told ∙ sym (ap length names_are) ∙ parts.each

    -- what the files come to is the outcome
    pub night_outcome : (file order before_file before : List ℕ) (names : List (List ℕ)) (outcome : Outcome) → file ≡ slice_index_or command.own 0 [] →
        order ≡ slice_index_or own 0 [] → before_file ≡ slice_index_or command.own 1 [] → before ≡ slice_index_or own 1 [] →
        names ≡ command.configs →
        IsNightOutcome (night_texts (named_text file order) (config_texts_of (before_file ∷ []) (before ∷ [])) (config_texts_of names configs)) outcome →
        IsOutcome command (given_texts (own_texts command texts) (config_texts command texts)) outcome
    night_outcome file order before_file before names outcome file_is order_is second_is before_is told night =
        let both = two_own command own Observe is range parts.own_short file order before refl file_is order_is before_is in
        let named : named_texts command.own own ≡ named_text file order ∷ named_text before_file before ∷ [] =
        both ∙ ap (λ (name : List ℕ). named_text file order ∷ named_text name before ∷ []) (sym second_is) in
        let whole : IsOutcome command (given_texts own configs) outcome =
        observed (named_text file order) (named_text before_file before) outcome is named
        (subst (λ (some : List (List ℕ)). IsNightOutcome
        (night_texts (named_text file order) (config_texts_of (before_file ∷ []) (before ∷ [])) (config_texts_of some configs)) outcome) told night) in
        subst (λ (some : List (List ℕ)). IsOutcome command (given_texts some (config_texts command texts)) outcome) parts.own_are
        (subst (λ (some : List (List ℕ)). IsOutcome command (given_texts own some) outcome) parts.configs_are whole)

-- ---- what holds of the two results of a reading ----

pub given_weaker : {A B E : Type 0} (P Q : A → Type 0) (r : Result (Result A B) E) → ((a : A) → P a → Q a) →
    IfOk r (λ read. IfOk read P) → IfOk r (λ read. IfOk read Q)
given_weaker P Q (Ok (Ok a)) weaker holds = weaker a holds
given_weaker P Q (Ok (Err b)) weaker holds = tt
given_weaker P Q (Err e) weaker holds = tt

pub refused_weaker : {A B E : Type 0} (P Q : B → Type 0) (r : Result (Result A B) E) → ((b : B) → P b → Q b) →
    IfOk r (λ read. IfErr read P) → IfOk r (λ read. IfErr read Q)
refused_weaker P Q (Ok (Ok a)) weaker holds = tt
refused_weaker P Q (Ok (Err b)) weaker holds = weaker b holds
refused_weaker P Q (Err e) weaker holds = tt
