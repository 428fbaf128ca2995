use Rattle.std.proofs.Common.{◌≡◌, ◌∙◌, [], ◌∷◌, ap, subst, sym}
use Rattle.net_model.specs.Network.{Network}
use Rattle.ospf_pair.specs.NetworkPairs.{NetworkPair, network_pair}
use Rattle.ospf_pair.specs.PairRefusals.{MakePair}
use Rattle.migration_report.specs.declared.outcome.Outcome.TheVariants.{Decided}
use Rattle.migrate_cli.specs.CommandFiles.{given_texts}
use Rattle.migrate_cli.specs.Decisions.{IsDecision, input_of}
use Rattle.migrate_cli.specs.Outcomes.{IsOutcome}
use Rattle.migrate_cli.specs.Outcomes.IsOutcome.{decided}
use Rattle.migrate_cli.proofs.AnswerFacts.{pair_refused, start_refused, under_premise}
use Rattle.migrate_cli.proofs.PairLaws.{bad_pair}
use Rattle.migrate_cli.proofs.judging.judge_two.Goals as goal

pub returns-in-Some : goal.returns-in-Some
returns-in-Some c = λ configs.
    let command = c.args.command.now in
    let texts = given_texts c.args.own.now configs in
    under_premise (IsOutcome command texts) c.refuse_start.result
    (λ gives. start_refused command texts c.args.nets.0 (c.args.nets.1 ∷ []) c.in-Some.router c.refuse_start.result
    gives c.in-Some.ensures.0 c.in-Some.ensures.1 c.refuse_start.ensures)

pub judge_pair-requires-clause-make : goal.judge_pair-requires-clause-make
judge_pair-requires-clause-make c = subst MakePair (sym c.new-pair.ensures) c.in-Ok.ensures.ok

pub returns-in_ok-decision-in-Ok : goal.returns-in_ok-decision-in-Ok
returns-in_ok-decision-in-Ok c = λ configs gives.
    let command = c.args.command.now in
    let texts = given_texts c.args.own.now configs in
    let decision = c.in_ok-decision-in-Ok.decision in
    let pair : c.new-pair.result ≡ network_pair c.args.nets.0 c.args.nets.1 = c.new-pair.ensures in
    let is = subst (λ (nets : NetworkPair). IsDecision command.kind (input_of command texts nets.old (nets.new ∷ [])) decision) pair
    (c.in_ok-decision-in-Ok.ensures configs) in
    subst (λ (net : Network). IsOutcome command texts (Decided net decision))
    (sym (c.into_old-net.ensures ∙ ap (λ (nets : NetworkPair). nets.old) pair))
    (decided c.args.nets.0 (c.args.nets.1 ∷ []) decision gives c.in_default.ensures is)

pub returns-in-Err : goal.returns-in-Err
returns-in-Err c = λ configs.
    let command = c.args.command.now in
    let texts = given_texts c.args.own.now configs in
    let old = c.args.nets.0 in
    let new = c.args.nets.1 in
    under_premise (IsOutcome command texts) c.refuse_pair.result
    (λ gives. pair_refused command texts old new c.in-Err.refusal c.refuse_pair.result gives c.in_default.ensures
    (λ told. bad_pair command c.args.own.now configs old new c.in-Err.refusal c.requires.over c.requires.range c.requires.own
    c.in-Err.ensures.err told) c.refuse_pair.ensures.told c.refuse_pair.ensures.outcome)
