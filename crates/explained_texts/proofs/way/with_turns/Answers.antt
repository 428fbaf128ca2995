use Rattle.std.proofs.Common.{List, ℕ}
use Rattle.igp_theory.specs.Migrations.{listed_migration}
use Rattle.order_core.specs.declared.turn.Tag.TheVariants.{Old}
use Rattle.order_core.specs.declared.turn.Turn.{Turn}
use Rattle.explained_texts.specs.FaultPlaces.{span_of}
use Rattle.explained_texts.specs.WayTexts.{IsUseLine, turn_phase}
use Rattle.explained_texts.proofs.ToldTexts.{tells_next, tells_none, tells_whole}
use Rattle.explained_texts.proofs.way.with_turns.Goals as goal

pub loop-turn-init : goal.loop-turn-init
loop-turn-init g c =
    let T : Turn → List ℕ → Type 0 = λ turn. IsUseLine (listed_migration c.args.sources.now.net.now
    (g.O.RouteSource.table c.args.sources.now.old.now) (g.N.RouteSource.table c.args.sources.now.new.now)) c.args.told.1 turn.router
    (turn_phase (span_of c.args.told.0) turn) in
    tells_none T c.args.text

pub loop-turn-preserved : goal.loop-turn-preserved
loop-turn-preserved g c =
    let T : Turn → List ℕ → Type 0 = λ turn. IsUseLine (listed_migration c.args.sources.now.net.now
    (g.O.RouteSource.table c.args.sources.now.old.now) (g.N.RouteSource.table c.args.sources.now.new.now)) c.args.told.1 turn.router
    (turn_phase (span_of c.args.told.0) turn) in
    tells_next T c.args.turns.now c.loop-turn.turn-index (record { router = 0; tag = Old }) c.args.text c.loop-turn.text
    c.in_ok-text.text c.loop-turn-test.true c.loop-turn.invariant c.in_ok-text.ensures

pub returns : goal.returns
returns g c =
    let T : Turn → List ℕ → Type 0 = λ turn. IsUseLine (listed_migration c.args.sources.now.net.now
    (g.O.RouteSource.table c.args.sources.now.old.now) (g.N.RouteSource.table c.args.sources.now.new.now)) c.args.told.1 turn.router
    (turn_phase (span_of c.args.told.0) turn) in
    tells_whole T c.args.turns.now c.loop-turn.turn-index c.args.text c.loop-turn.text c.loop-turn-test.false c.loop-turn.invariant
