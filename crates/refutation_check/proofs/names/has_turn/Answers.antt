use Rattle.std.proofs.Common.{arith}
use Rattle.std.proofs.lemmas.Grind.{common_steps}
use Rattle.std.proofs.Common.{◌≢◌, List, All, subst}
use Rattle.std.proofs.lemmas.Bool.{false≢true}
use Rattle.std.proofs.lemmas.List.{take_all}
use Rattle.std.proofs.lemmas.List.Elements.{All-more, All-contains}
use Rattle.net_model.proofs.Members.{Contains-map}
use Rattle.order_core.specs.declared.turn.Turn.{Turn}
use Rattle.refutation_check.proofs.names.has_turn.Goals as goal

pub loop-turn-preserved : goal.loop-turn-preserved
loop-turn-preserved c = grind (arith, common_steps, All-more)

pub returns : goal.returns
returns c = (
  λ e. absurd (false≢true e),
  λ has.
      let none : All (λ (t : Turn). t.router ≢ c.args.router) c.args.turns.now =
      subst (λ (l : List Turn). All (λ (t : Turn). t.router ≢ c.args.router) l) (take_all c.loop-turn.turn-index c.args.turns.now c.loop-turn-test.false)
      c.loop-turn.invariant in
      let given = Contains-map (λ (t : Turn). t.router) c.args.turns.now c.args.router has in
      absurd (All-contains (λ (t : Turn). t.router ≢ c.args.router) c.args.turns.now given.item none given.among given.gives),
)
