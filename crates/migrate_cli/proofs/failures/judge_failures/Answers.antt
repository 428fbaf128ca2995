use Rattle.std.proofs.Common.{◌≡◌, ◌≤◌, ◌∙◌, [], ℕ, All, List, ap, arith, length, refl, subst, sym}
use Rattle.std.specs.Borrow.{Bor}
use Rattle.std.specs.Prelude.{slice_index_or}
use Rattle.std.proofs.lemmas.List.{length-map}
use Rattle.std.proofs.lemmas.Result.{IfOk-weaker}
use Rattle.isis_writer.specs.ReadTexts.{ReadsTexts}
use Rattle.migrate_words.specs.declared.command.CommandKind.TheVariants.{Failures}
use Rattle.migrate_cli.specs.CommandFiles.{given_texts, groups_of, own_files, text_names as names_of}
use Rattle.migrate_cli.specs.Configurations.{GiveNetwork, RefusesFirst}
use Rattle.migrate_cli.specs.Configurations.RefusesFirst.{here}
use Rattle.migrate_cli.specs.Outcomes.{IsOutcome}
use Rattle.migrate_cli.specs.Reading.{AreShort, named_text}
use Rattle.migrate_cli.specs.steps.StandingNetworks.{IsStandingOutcome}
use Rattle.migrate_cli.specs.steps.Unread.{IsUnread}
use Rattle.migrate_cli.proofs.AnswerFacts.{refused_network, split_outcome, unread_outcome}
use Rattle.migrate_cli.proofs.CommandFacts.{name_count, one_own, text_count}
use Rattle.migrate_cli.proofs.FailureFacts.{asks_networks, first_short, one_network_alone, standing_outcome}
use Rattle.migrate_cli.proofs.GroupLaws.{gives_one, one_group}
use Rattle.migrate_cli.proofs.NetworkFacts.{net_has_router}
use Rattle.migrate_cli.proofs.failures.judge_failures.Goals as goal

pub read_all-requires-clause-lengths : goal.read_all-requires-clause-lengths
read_all-requires-clause-lengths g c =
    let bytes : Bor (List ℕ) → List ℕ = λ name. name.now in
    sym (length-map c.text_names.result.now bytes) ∙ ap length c.text_names.ensures ∙ c.in_ok-own.ensures.each ∙ ap length (sym c.as_slice.ensures.value)

pub read_all-requires-clause-short : goal.read_all-requires-clause-short
read_all-requires-clause-short g c =
    subst (All (λ (text : List ℕ). length text ≤ 16777216)) (sym c.as_slice.ensures.value) c.in_ok-own.ensures.configs_short

pub returns-in-Err : goal.returns-in-Err
returns-in-Err g c =
    let command = c.args.command.now in
    let own = c.in_ok-own.own.items in
    let configs = c.in_ok-own.configs.items in
    let unread = c.in-Err.unread in
    let of_slice = subst (λ names. IsUnread names c.as_slice.result.now unread) c.text_names.ensures c.in-Err.ensures.err in
    split_outcome command c.refuse_unread.result c.in_ok-own.ensures
    (unread_outcome command (given_texts own configs) unread c.refuse_unread.result (asks_networks command c.requires.kind)
    (subst (λ (some : List (List ℕ)). IsUnread (names_of command) some unread) c.as_slice.ensures.value of_slice) c.refuse_unread.ensures)

pub first_own-requires-clause-some : goal.first_own-requires-clause-some
first_own-requires-clause-some g c =
    let count : length c.args.command.now.own ≡ 1 =
    name_count c.args.command.now c.in_ok-own.own.items Failures c.requires.kind c.requires.range c.in_ok-own.ensures.own_short in
    omega (arith, count)

pub first_own-requires-clause-texts : goal.first_own-requires-clause-texts
first_own-requires-clause-texts g c =
    let count : length c.in_ok-own.own.items ≡ 1 =
    text_count c.args.command.now c.in_ok-own.own.items Failures c.requires.kind c.requires.range c.in_ok-own.ensures.own_short in
    let same = ap length c.as_slice-in-Ok-build.ensures.value in
    omega (arith, count, same)

pub judge_standing-requires-clause-short : goal.judge_standing-requires-clause-short
judge_standing-requires-clause-short g c =
    let own = c.as_slice-in-Ok-build.result.now in
    let short = subst (AreShort (own_files c.args.command.now)) (sym c.as_slice-in-Ok-build.ensures.value) c.in_ok-own.ensures.own_short in
    let count : length own ≡ 1 = text_count c.args.command.now own Failures c.requires.kind c.requires.range short in
    first_short c.args.command.now own c.first_own.result.1.now short (omega (arith, count)) c.first_own.ensures.text

pub judge_standing-requires-clause-some : goal.judge_standing-requires-clause-some
judge_standing-requires-clause-some g c =
    let read = subst (λ (some : List (List ℕ)). ReadsTexts some c.in-Ok.read) c.as_slice.ensures.value c.in-Ok.ensures.ok in
    net_has_router c.args.command.now c.in_ok-own.configs.items c.in-Ok.read c.in-Ok-build.net c.requires.range c.in_ok-own.ensures.each
    read c.in-Ok-build.ensures.ok

pub returns-in-Ok-build : goal.returns-in-Ok-build
returns-in-Ok-build g c =
    let command = c.args.command.now in
    let own = c.in_ok-own.own.items in
    let configs = c.in_ok-own.configs.items in
    let net = c.in-Ok-build.net in
    let file = c.first_own.result.0.now in
    let text = c.first_own.result.1.now in
    let read = subst (λ (some : List (List ℕ)). ReadsTexts some c.in-Ok.read) c.as_slice.ensures.value c.in-Ok.ensures.ok in
    let gives : GiveNetwork configs net = record { configs = c.in-Ok.read; read = read; make = c.in-Ok-build.ensures.ok } in
    let groups = gives_one command.kind configs net (asks_networks command c.requires.kind) (one_network_alone command c.requires.kind) gives in
    let first = subst (λ (some : List (List ℕ)). text ≡ slice_index_or some 0 []) c.as_slice-in-Ok-build.ensures.value c.first_own.ensures.text in
    let one = one_own command own Failures c.requires.kind c.requires.range c.in_ok-own.ensures.own_short file text refl c.first_own.ensures.name first in
    split_outcome command c.judge_standing.result c.in_ok-own.ensures
    (IfOk-weaker c.judge_standing.result (IsStandingOutcome (named_text file text) net) (IsOutcome command (given_texts own configs))
    (λ outcome is. standing_outcome command (given_texts own configs) (named_text file text) net c.requires.kind one groups is)
    c.judge_standing.ensures)

pub returns : goal.returns
returns g c =
    let command = c.args.command.now in
    let own = c.in_ok-own.own.items in
    let configs = c.in_ok-own.configs.items in
    let refusal = c.in-Err-build.refusal in
    let read = subst (λ (some : List (List ℕ)). ReadsTexts some c.in-Ok.read) c.as_slice.ensures.value c.in-Ok.ensures.ok in
    let first : RefusesFirst refusal (groups_of command.kind configs) =
    subst (RefusesFirst refusal)
    (sym (one_group command.kind configs (asks_networks command c.requires.kind) (one_network_alone command c.requires.kind)))
    (here c.in-Ok.read read c.in-Err-build.ensures.err) in
    split_outcome command c.refuse_network.result c.in_ok-own.ensures
    (refused_network command (given_texts own configs) c.in-Ok.read refusal c.refuse_network.result read first c.refuse_network.ensures.told
    c.refuse_network.ensures.outcome)
