use Rattle.std.proofs.Common.{take}
use Rattle.order_core.specs.declared.turn.Turn.{Turn}
use Rattle.igp_theory.specs.Migrations.{listed_migration}
use Rattle.explained_texts.specs.FaultPlaces.{span_of}
use Rattle.explained_texts.specs.WayTexts.{IsUseLine, turn_phase}
use Rattle.explained_texts.specs.ToldItems.{TellsAll}
use Rattle.explained_texts.proofs.way.with_turns.Given as goal

abbrev pub invariant-loop-turn : goal.invariant-loop-turn
invariant-loop-turn g l =
    TellsAll (λ (turn : Turn). IsUseLine (listed_migration l.sources.net.now (g.O.RouteSource.table l.sources.old.now)
    (g.N.RouteSource.table l.sources.new.now)) l.told.1 turn.router (turn_phase (span_of l.told.0) turn)) (take l.turn-index l.turns)
    l.initial.text l.text
