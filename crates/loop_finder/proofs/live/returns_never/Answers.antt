use Rattle.std.proofs.Common.{arith}
use Rattle.std.proofs.lemmas.Grind.{common_steps}
use Rattle.std.proofs.lemmas.List.Elements.{All-contains}
use Rattle.loop_finder.proofs.LiveLaws.{returns_never}
use Rattle.loop_finder.proofs.OnFalse.{on_true}
use Rattle.loop_finder.proofs.Peeling.{bounded_first}
use Rattle.loop_finder.proofs.live.returns_never.Goals as goal

pub peel_all-requires-clause-bounded : goal.peel_all-requires-clause-bounded
peel_all-requires-clause-bounded g c = grind (arith, common_steps, All-contains, bounded_first)

pub returns : goal.returns
returns g c = on_true c.none_marked.result c.none_marked.ensures
    (returns_never (g.G.StepGraph.step c.args.graph.now) c.peel_all.new.live c.peel_all.ensures)
