use Rattle.std.proofs.Common.{arith}
use Rattle.std.proofs.lemmas.Grind.{common_steps}
use Rattle.std.proofs.Common.{◌∙◌, ◌≤◌, ℕ, All, List, length, sym, subst}
use Rattle.std.proofs.lemmas.List.{length-map}
use Rattle.std.proofs.lemmas.Result.{IfOk-weaker}
use Rattle.isis_writer.specs.ReadTexts.{ReadsTexts}
use Rattle.migrate_cli.specs.CommandFiles.{given_texts, groups_of, text_names as names_of}
use Rattle.migrate_cli.specs.Configurations.{GiveNetwork, RefusesFirst}
use Rattle.migrate_cli.specs.Configurations.RefusesFirst.{here}
use Rattle.migrate_cli.specs.Outcomes.{IsOutcome}
use Rattle.migrate_cli.specs.steps.Unread.{IsUnread}
use Rattle.design_writer.proofs.TextNames.{text_names}
use Rattle.migrate_cli.proofs.AnswerFacts.{refused_network, unread_outcome}
use Rattle.migrate_cli.proofs.FileFacts.{kept_short}
use Rattle.migrate_cli.proofs.GroupLaws.{one_group}
use Rattle.migrate_cli.proofs.NetworkFacts.{net_has_router}
use Rattle.migrate_cli.proofs.judging.judge_texts.Goals as goal

pub read_all-requires-clause-lengths : goal.read_all-requires-clause-lengths
read_all-requires-clause-lengths c = grind (arith, common_steps, length-map, text_names)

pub read_all-requires-clause-short : goal.read_all-requires-clause-short
read_all-requires-clause-short c = subst (All (λ (text : List ℕ). length text ≤ 16777216)) (sym c.as_slice.ensures.value) c.requires.short

pub returns-in-Err : goal.returns-in-Err
returns-in-Err c =
    let command = c.args.command.now in
    let texts = c.args.texts.items in
    let unread = c.in-Err.unread in
    let of_slice = subst (λ names. IsUnread names c.as_slice.result.now unread) c.text_names.ensures c.in-Err.ensures.err in
    unread_outcome command (given_texts c.args.own.now texts) unread c.refuse_unread.result c.requires.networks
    (subst (λ (some : List (List ℕ)). IsUnread (names_of command) some unread) c.as_slice.ensures.value of_slice) c.refuse_unread.ensures

pub judge_network-requires-clause-some : goal.judge_network-requires-clause-some
judge_network-requires-clause-some c =
    let read = subst (λ (some : List (List ℕ)). ReadsTexts some c.in-Ok.configs) c.as_slice.ensures.value c.in-Ok.ensures.ok in
    net_has_router c.args.command.now c.args.texts.items c.in-Ok.configs c.in-Ok-build.net c.requires.range c.requires.each read c.in-Ok-build.ensures.ok

pub judge_network-requires-clause-names : goal.judge_network-requires-clause-names
judge_network-requires-clause-names c =
    text_names c.as_slice.result.now c.in-Ok.configs c.in-Ok-build.net c.in-Ok.ensures.ok c.in-Ok-build.ensures.ok

pub judge_network-requires-clause-configs : goal.judge_network-requires-clause-configs
judge_network-requires-clause-configs c =
    subst (All (λ (text : List ℕ). length text ≤ 16777216)) (sym (c.as_slice-in-Ok-build.ensures.value ∙ c.kept_texts-kept.ensures))
    (kept_short c.args.command.now.kind c.args.texts.items c.requires.short)

pub returns-in-Ok-build : goal.returns-in-Ok-build
returns-in-Ok-build c =
    let command = c.args.command.now in
    let texts = c.args.texts.items in
    let net = c.in-Ok-build.net in
    let given = given_texts c.args.own.now texts in
    let read = subst (λ (some : List (List ℕ)). ReadsTexts some c.in-Ok.configs) c.as_slice.ensures.value c.in-Ok.ensures.ok in
    let gives : GiveNetwork texts net = record { configs = c.in-Ok.configs; read = read; make = c.in-Ok-build.ensures.ok } in
    IfOk-weaker c.judge_network.result (λ outcome. GiveNetwork texts net → IsOutcome command given outcome) (IsOutcome command given)
    (λ outcome is. is gives) (c.judge_network.ensures texts (c.as_slice-in-Ok-build.ensures.value ∙ c.kept_texts-kept.ensures))

pub returns : goal.returns
returns c =
    let command = c.args.command.now in
    let texts = c.args.texts.items in
    let refusal = c.in-Err-build.refusal in
    let read = subst (λ (some : List (List ℕ)). ReadsTexts some c.in-Ok.configs) c.as_slice.ensures.value c.in-Ok.ensures.ok in
    let first : RefusesFirst refusal (groups_of command.kind texts) =
    subst (RefusesFirst refusal) (sym (one_group command.kind texts c.requires.networks c.requires.one))
    (here c.in-Ok.configs read c.in-Err-build.ensures.err) in
    refused_network command (given_texts c.args.own.now texts) c.in-Ok.configs refusal c.refuse_network.result
    read first c.refuse_network.ensures.told c.refuse_network.ensures.outcome
