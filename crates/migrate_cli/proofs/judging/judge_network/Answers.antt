use Rattle.std.proofs.Common.{[], subst}
use Rattle.migrate_cli.specs.CommandFiles.{given_texts}
use Rattle.migrate_cli.specs.Decisions.{IsDecision, input_of}
use Rattle.migrate_cli.specs.Outcomes.{IsOutcome}
use Rattle.migrate_cli.specs.Outcomes.IsOutcome.{decided}
use Rattle.migrate_cli.proofs.AnswerFacts.{start_refused, under_premise}
use Rattle.migrate_cli.proofs.CommandFacts.{by_kept}
use Rattle.migrate_cli.proofs.GroupLaws.{gives_one}
use Rattle.migrate_cli.proofs.judging.judge_network.Goals as goal

pub returns-in-Some : goal.returns-in-Some
returns-in-Some c = λ texts kept.
    let command = c.args.command.now in
    let given = given_texts c.args.own.now texts in
    under_premise (IsOutcome command given) c.refuse_start.result (λ gives. start_refused command given c.args.net [] c.in-Some.router c.refuse_start.result
    (gives_one command.kind texts c.args.net c.requires.networks c.requires.one gives)
    c.in-Some.ensures.0 c.in-Some.ensures.1 c.refuse_start.ensures)

pub returns : goal.returns
returns c = λ texts kept gives.
    let command = c.args.command.now in
    let own = c.args.own.now in
    let net = c.args.net in
    let decision = c.in_ok-decision.decision in
    let groups = gives_one command.kind texts net c.requires.networks c.requires.one gives in
    let of_kept = subst (λ some. IsDecision command.kind (input_of command (given_texts own some) net []) decision) kept c.in_ok-decision.ensures in
    decided net [] decision groups c.in_default.ensures (by_kept command own texts net decision of_kept)
