use Rattle.std.proofs.Common.{List, ℕ, IfOk, subst, sym}
use Rattle.migrate_cli.specs.CommandFiles.{given_texts, own_files}
use Rattle.migrate_cli.specs.Outcomes.{IsOutcome}
use Rattle.migrate_cli.specs.Reading.{AreShort}
use Rattle.migrate_cli.proofs.AnswerFacts.{split_outcome}
use Rattle.migrate_cli.proofs.judging.judge_read.Goals as goal

pub judge_networks-requires-clause-own : goal.judge_networks-requires-clause-own
judge_networks-requires-clause-own c =
    let same = c.as_slice.ensures.value in
    subst (AreShort (own_files c.args.command.now)) (sym same) c.in_ok-own.ensures.own_short

pub returns-then-over_networks : goal.returns-then-over_networks
returns-then-over_networks c =
    let command = c.args.command.now in
    let configs = c.in_ok-own.configs.items in
    let r = c.judge_networks.result in
    let same = c.as_slice.ensures.value in
    let is = subst (λ (own : List (List ℕ)). IfOk r (IsOutcome command (given_texts own configs))) same c.judge_networks.ensures in
    split_outcome command r c.in_ok-own.ensures is

pub judge_texts-requires-clause-own : goal.judge_texts-requires-clause-own
judge_texts-requires-clause-own c =
    let same = c.as_slice-else-over_networks.ensures.value in
    subst (AreShort (own_files c.args.command.now)) (sym same) c.in_ok-own.ensures.own_short

pub returns : goal.returns
returns c =
    let command = c.args.command.now in
    let configs = c.in_ok-own.configs.items in
    let r = c.judge_texts.result in
    let same = c.as_slice-else-over_networks.ensures.value in
    let is = subst (λ (own : List (List ℕ)). IfOk r (IsOutcome command (given_texts own configs))) same c.judge_texts.ensures in
    split_outcome command r c.in_ok-own.ensures is
