use Rattle.plan_theory.specs.Ranked.{ranked}
use Rattle.plan_theory.specs.WavesMeaning.{night_meaning}
use Rattle.plan_theory.proofs.Decided.{rankings_decided, rankings_pick_one}
use Rattle.plan_theory.proofs.ItemsServe.{items_ask, items_serve}
use Rattle.plan_theory.proofs.laws.rankings_are_decided.Goals as goal

pub returns : goal.returns
returns g c =
    let move = g.T.AnyMigration.migration in
    record {
      decisive = λ items can.
          rankings_decided move (ranked items move) (items_serve items move can) (night_meaning items move) (items_ask items move);
      one = λ items can. rankings_pick_one move (ranked items move) (items_serve items move can) (night_meaning items move) (items_ask items move);
    }
