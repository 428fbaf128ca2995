use Rattle.std.proofs.Common.{arith}
use Rattle.std.proofs.lemmas.Grind.{common_steps}
use Rattle.std.proofs.Common.{◌≤◌, ◌∙◌, ◌∷◌, [], ℕ, All, List, ap, length, sym, subst}
use Rattle.std.proofs.lemmas.List.{length-map}
use Rattle.std.proofs.lemmas.Result.{IfOk-weaker}
use Rattle.migrate_cli.specs.CommandFiles.{given_texts, groups_of, text_names as names_of}
use Rattle.migrate_cli.specs.Configurations.{GiveNetworks}
use Rattle.migrate_cli.specs.Outcomes.{IsOutcome}
use Rattle.migrate_cli.specs.steps.Unread.{IsUnread, ReadsBoth}
use Rattle.migrate_cli.proofs.AnswerFacts.{refused_network, unread_outcome}
use Rattle.migrate_cli.proofs.GroupLaws.{both_read, first_refuses, gives_two, over_asks, second_refuses}
use Rattle.migrate_cli.proofs.NetworkFacts.{first_has_router, names_two}
use Rattle.migrate_cli.proofs.judging.judge_networks.Goals as goal

pub read_two-requires-clause-names : goal.read_two-requires-clause-names
read_two-requires-clause-names c = grind (arith, common_steps, length-map, names_two)

pub read_two-requires-clause-texts : goal.read_two-requires-clause-texts
read_two-requires-clause-texts c =
    ap length c.as_slice.ensures.value ∙ sym c.requires.each ∙ names_two c.args.command.now c.requires.over c.requires.range

pub read_two-requires-clause-short : goal.read_two-requires-clause-short
read_two-requires-clause-short c = subst (All (λ (text : List ℕ). length text ≤ 16777216)) (sym c.as_slice.ensures.value) c.requires.short

pub returns-in-Err : goal.returns-in-Err
returns-in-Err c =
    let command = c.args.command.now in
    let texts = c.args.texts.items in
    let unread = c.in-Err.unread in
    let of_slice = subst (λ names. IsUnread names c.as_slice.result.now unread) c.text_names.ensures c.in-Err.ensures.err in
    unread_outcome command (given_texts c.args.own.now texts) unread c.refuse_unread.result (over_asks command.kind c.requires.over)
    (subst (λ (some : List (List ℕ)). IsUnread (names_of command) some unread) c.as_slice.ensures.value of_slice) c.refuse_unread.ensures

pub returns-in-Err-build : goal.returns-in-Err-build
returns-in-Err-build c =
    let command = c.args.command.now in
    let texts = c.args.texts.items in
    let both = subst (λ (some : List (List ℕ)). ReadsBoth some c.in-Ok.both.0 c.in-Ok.both.1) c.as_slice.ensures.value c.in-Ok.ensures.ok in
    refused_network command (given_texts c.args.own.now texts) _ c.in-Err-build.refusal c.refuse_network.result (both_read texts _ _ both)
    (first_refuses texts _ _ both command.kind c.requires.over c.in-Err-build.refusal c.in-Err-build.ensures.err)
    c.refuse_network.ensures.told c.refuse_network.ensures.outcome

pub returns-in-Err-build-2 : goal.returns-in-Err-build-2
returns-in-Err-build-2 c =
    let command = c.args.command.now in
    let texts = c.args.texts.items in
    let refusal = c.in-Err-build-2.refusal in
    let both = subst (λ (some : List (List ℕ)). ReadsBoth some c.in-Ok.both.0 c.in-Ok.both.1) c.as_slice.ensures.value c.in-Ok.ensures.ok in
    refused_network command (given_texts c.args.own.now texts) _ refusal c.refuse_network-in-Err-build-2.result (both_read texts _ _ both)
    (second_refuses texts _ _ both command.kind c.requires.over c.in-Ok-build.old refusal c.in-Ok-build.ensures.ok c.in-Err-build-2.ensures.err)
    c.refuse_network-in-Err-build-2.ensures.told c.refuse_network-in-Err-build-2.ensures.outcome

pub judge_two-requires-clause-some : goal.judge_two-requires-clause-some
judge_two-requires-clause-some c =
    first_has_router c.in-Ok.ensures.ok.old c.in-Ok.both.0 c.in-Ok-build.old c.in-Ok.ensures.ok.reads_old c.in-Ok-build.ensures.ok

pub returns-in-Ok-build-2 : goal.returns-in-Ok-build-2
returns-in-Ok-build-2 c =
    let command = c.args.command.now in
    let texts = c.args.texts.items in
    let given = given_texts c.args.own.now texts in
    let old = c.in-Ok-build.old in
    let new = c.in-Ok-build-2.new in
    let both = subst (λ (some : List (List ℕ)). ReadsBoth some c.in-Ok.both.0 c.in-Ok.both.1) c.as_slice.ensures.value c.in-Ok.ensures.ok in
    let gives = gives_two texts _ _ both command.kind c.requires.over old new c.in-Ok-build.ensures.ok c.in-Ok-build-2.ensures.ok in
    IfOk-weaker c.judge_two.result (λ outcome. GiveNetworks (groups_of command.kind texts) (old ∷ new ∷ []) → IsOutcome command given outcome)
    (IsOutcome command given) (λ outcome is. is gives) (c.judge_two.ensures texts)
