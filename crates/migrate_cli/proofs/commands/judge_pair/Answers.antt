use Rattle.std.proofs.lemmas.Grind.{common_steps}
use Rattle.std.proofs.Common.{◌≡◌, ◌∙◌, ◌<◌, [], ◌∷◌, arith, length, refl, subst, sym}
use Rattle.std.proofs.lemmas.Result.{IfOk-weaker}
use Rattle.std.specs.Prelude.{slice_index_or}
use Rattle.migrate_words.specs.declared.command.CommandKind.{CommandKind}
use Rattle.migrate_words.specs.declared.command.CommandKind.TheVariants.{PairCheck, PairRefute, PairScripts}
use Rattle.migrate_cli.specs.CheckDecision.{IsCheckOver}
use Rattle.migrate_cli.specs.CommandFiles.{given_texts}
use Rattle.migrate_cli.specs.Decisions.{Input, IsDecision, input_of}
use Rattle.migrate_cli.specs.PairDecision.{IsScriptOfPair}
use Rattle.migrate_cli.specs.PairDecision.IsPairDecision.{of_pair}
use Rattle.migrate_cli.specs.PlanDecision.{IsPlanOver}
use Rattle.migrate_cli.specs.Reading.{named_text}
use Rattle.migrate_cli.specs.RefuteDecision.{IsTreeDecision}
use Rattle.migrate_cli.specs.steps.Tables.{NetworkMove, move_of}
use Rattle.migrate_cli.proofs.CommandFacts.{one_own, place_short, text_count}
use Rattle.migrate_cli.proofs.StopFacts.{element}
use Rattle.migrate_cli.proofs.commands.judge_pair.Goals as goal

pub first_own-requires-clause-texts : goal.first_own-requires-clause-texts
first_own-requires-clause-texts c = grind (arith, common_steps, text_count)

pub first_own-requires-in-PairCheck-clause-texts : goal.first_own-requires-in-PairCheck-clause-texts
first_own-requires-in-PairCheck-clause-texts c = grind (arith, common_steps, text_count)

pub bounds-own-0 : goal.bounds-own-0
bounds-own-0 c = grind (arith, common_steps, text_count)

pub refute_over-requires : goal.refute_over-requires
refute_over-requires c = grind (arith, common_steps, place_short, text_count)

pub returns-in-PairScripts : goal.returns-in-PairScripts
returns-in-PairScripts c = λ configs.
    let command = c.args.command.now in
    let nets = c.args.pair.now in
    let input : Input = input_of command (given_texts c.args.own.now configs) nets.old (nets.new ∷ []) in
    let file = c.first_own.result.0.now in
    let order = c.first_own.result.1.now in
    let one = one_own command c.args.own.now PairScripts c.in-PairScripts.is c.requires.range c.requires.own file order refl c.first_own.ensures.name
    c.first_own.ensures.text in
    IfOk-weaker c.judge_pair_scripts.result (IsScriptOfPair nets (named_text file order)) (IsDecision command.kind input)
    (λ d is. subst (λ (kind : CommandKind). IsDecision kind input d) (sym c.in-PairScripts.is)
    (nets.new, refl, named_text file order, one, of_pair d c.requires.make is)) c.judge_pair_scripts.ensures

pub returns-in-PairCheck : goal.returns-in-PairCheck
returns-in-PairCheck c = λ configs.
    let command = c.args.command.now in
    let nets = c.args.pair.now in
    let input : Input = input_of command (given_texts c.args.own.now configs) nets.old (nets.new ∷ []) in
    let file = c.first_own-in-PairCheck.result.0.now in
    let order = c.first_own-in-PairCheck.result.1.now in
    let one = one_own command c.args.own.now PairCheck c.in-PairCheck.is c.requires.range c.requires.own file order refl
    c.first_own-in-PairCheck.ensures.name c.first_own-in-PairCheck.ensures.text in
    IfOk-weaker c.check_over.result (IsCheckOver (move_of c.to_ospf-of.result) (named_text file order)) (IsDecision command.kind input)
    (λ d is. subst (λ (kind : CommandKind). IsDecision kind input d) (sym c.in-PairCheck.is) (
      nets.new,
      refl,
      named_text file order,
      one,
      of_pair d c.requires.make
          (subst (λ (of : NetworkMove). IsCheckOver (move_of of) (named_text file order) d) c.to_ospf-of.ensures is),
    )) c.check_over.ensures

pub returns-in-PairRefute : goal.returns-in-PairRefute
returns-in-PairRefute c = λ configs.
    let command = c.args.command.now in
    let own = c.args.own.now in
    let nets = c.args.pair.now in
    let text = c.index-own-0.result in
    let input : Input = input_of command (given_texts own configs) nets.old (nets.new ∷ []) in
    let count : length own ≡ 1 = text_count command own PairRefute c.in-PairRefute.is c.requires.range c.requires.own in
    let here : 0 < length own = omega (arith, count) in
    let text_is : text ≡ slice_index_or own 0 [] = c.index-own-0.is ∙ element own 0 text [] here in
    let file = slice_index_or command.own 0 [] in
    let one = one_own command own PairRefute c.in-PairRefute.is c.requires.range c.requires.own file text refl refl text_is in
    IfOk-weaker c.refute_over.result (IsTreeDecision (move_of c.to_ospf-of.result) text) (IsDecision command.kind input)
    (λ d is. subst (λ (kind : CommandKind). IsDecision kind input d) (sym c.in-PairRefute.is) (
      nets.new,
      refl,
      named_text file text,
      one,
      of_pair d c.requires.make
          (subst (λ (of : NetworkMove). IsTreeDecision (move_of of) text d) c.to_ospf-of.ensures is),
    )) c.refute_over.ensures

pub returns-in-Pair : goal.returns-in-Pair
returns-in-Pair c = λ configs.
    let command = c.args.command.now in
    let nets = c.args.pair.now in
    let input : Input = input_of command (given_texts c.args.own.now configs) nets.old (nets.new ∷ []) in
    IfOk-weaker c.plan_over.result (IsPlanOver (move_of c.to_ospf-of.result) command.number) (IsDecision command.kind input)
    (λ d is. subst (λ (kind : CommandKind). IsDecision kind input d) (sym c.in-Pair.is) (
      nets.new,
      refl,
      of_pair d c.requires.make
          (subst (λ (of : NetworkMove). IsPlanOver (move_of of) command.number d) c.to_ospf-of.ensures is),
    )) c.plan_over.ensures
