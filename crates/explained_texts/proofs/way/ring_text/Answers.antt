use Rattle.std.proofs.Common.{◌∙◌, ◌++◌, ◌∷◌, [], List, ℕ, ap, subst, sym}
use Rattle.net_addr.specs.Addresses.{Block}
use Rattle.net_model.specs.Network.{Network}
use Rattle.order_core.specs.declared.turn.Turn.{Turn}
use Rattle.igp_theory.specs.Forwarding.{IsTarget}
use Rattle.igp_theory.specs.Loops.{loop}
use Rattle.igp_theory.specs.Migrations.{listed_migration}
use Rattle.explained_texts.specs.FaultPlaces.{span_of}
use Rattle.explained_texts.specs.WayTexts.{IsTargetLine, IsUseLine, IsWayText, turn_phase}
use Rattle.explained_texts.specs.ToldItems.{TellsAll}
use Rattle.explained_texts.proofs.Ways.{ring_inside, ring_target, ring_way}
use Rattle.explained_texts.proofs.way.ring_text.Goals as goal

pub target_line-requires : goal.target_line-requires
target_line-requires g c =
    let move = listed_migration c.args.sources.now.net.now (g.O.RouteSource.table c.args.sources.now.old.now)
    (g.N.RouteSource.table c.args.sources.now.new.now) in
    subst (λ (n : Network). (p : Block) × IsTarget n c.args.told.1 p) (sym c.requires.net)
    (ring_target move (span_of c.args.told.0) c.requires.ring)

pub with_turns-requires-clause-inside : goal.with_turns-requires-clause-inside
with_turns-requires-clause-inside g c =
    let move = listed_migration c.args.sources.now.net.now (g.O.RouteSource.table c.args.sources.now.old.now)
    (g.N.RouteSource.table c.args.sources.now.new.now) in
    ring_inside move (span_of c.args.told.0) c.requires.ring

pub returns : goal.returns
returns g c =
    let move = listed_migration c.args.sources.now.net.now (g.O.RouteSource.table c.args.sources.now.old.now)
    (g.N.RouteSource.table c.args.sources.now.new.now) in
    let span = span_of c.args.told.0 in
    let a = c.args.told.1 in
    let ring = c.args.ring.now in
    let line = c.in_ok-target_line.field-0 in
    let text = c.in_ok-with_turns.field-0 in
    subst (IsWayText move span (loop a ring)) (sym c.finish.ensures)
    (ring_way move c.promise.ensures span a ring c.requires.ring (line ++ 10 ∷ []) text
    (subst (λ (n : Network). IsTargetLine n a (line ++ 10 ∷ [])) c.requires.net c.in_ok-target_line.ensures)
    (subst (λ (l : List ℕ). TellsAll (λ (turn : Turn). IsUseLine move a turn.router (turn_phase span turn)) ring l text)
    (c.in_ok-text.ensures ∙ ap (λ (l : List ℕ). l ++ line ++ 10 ∷ []) c.new.ensures) c.in_ok-with_turns.ensures))
