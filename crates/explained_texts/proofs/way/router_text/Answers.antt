use Rattle.std.proofs.Common.{◌≡◌, ◌∙◌, ◌++◌, ◌∷◌, [], List, ℕ, ap, append_assoc, subst, sym}
use Rattle.net_addr.specs.Addresses.{Block}
use Rattle.net_model.specs.Network.{Network}
use Rattle.igp_theory.specs.Forwarding.{IsTarget, MustForward}
use Rattle.igp_theory.specs.Loops.{missing}
use Rattle.igp_theory.specs.Migrations.{listed_migration}
use Rattle.explained_texts.specs.FaultPlaces.{span_of}
use Rattle.explained_texts.specs.WayTexts.{IsTargetLine, IsWayText, of_router}
use Rattle.explained_texts.proofs.Ways.{lack_of, lacking_back, step_back}
use Rattle.explained_texts.proofs.way.router_text.Goals as goal

pub target_line-requires : goal.target_line-requires
target_line-requires g c =
    let move = listed_migration c.args.sources.now.net.now (g.O.RouteSource.table c.args.sources.now.old.now)
    (g.N.RouteSource.table c.args.sources.now.new.now) in
    let must = (lack_of move (span_of c.args.told.0) c.requires.router).must in
    subst (λ (n : Network). (p : Block) × IsTarget n c.args.told.1 p) (sym c.requires.net) (must.target, must.is_target)

pub first_lacking-phase-requires-clause-must : goal.first_lacking-phase-requires-clause-must
first_lacking-phase-requires-clause-must g c =
    let move = listed_migration c.args.sources.now.net.now (g.O.RouteSource.table c.args.sources.now.old.now)
    (g.N.RouteSource.table c.args.sources.now.new.now) in
    subst (λ (n : Network). MustForward n c.args.told.1 c.args.router) (sym c.requires.net)
    (lack_of move (span_of c.args.told.0) c.requires.router).must

pub first_lacking-phase-requires-clause-some : goal.first_lacking-phase-requires-clause-some
first_lacking-phase-requires-clause-some g c =
    let sources = c.args.sources.now in
    let mixed = c.args.mixed.now in
    let old = g.O.RouteSource.table sources.old.now in
    let new = g.N.RouteSource.table sources.new.now in
    let some = (lack_of (listed_migration sources.net.now old new) (span_of c.args.told.0) c.requires.router).some in (
      some.0,
      some.1,
      λ has. some.2 (step_back sources.net.now mixed.net old new (g.O.RouteSource.table mixed.old)
          (g.N.RouteSource.table mixed.new) c.requires.net c.requires.same c.args.router c.args.told.1 some.0 has),
    )

pub returns : goal.returns
returns g c =
    let sources = c.args.sources.now in
    let mixed = c.args.mixed.now in
    let old = g.O.RouteSource.table sources.old.now in
    let new = g.N.RouteSource.table sources.new.now in
    let move = listed_migration sources.net.now old new in
    let span = span_of c.args.told.0 in
    let a = c.args.told.1 in
    let u = c.args.router in
    let phase = c.first_lacking-phase.result in
    let first = c.in_ok-target_line.field-0 ++ 10 ∷ [] in
    let rest = c.in_ok-line.line ++ 10 ∷ [] in
    let text_is : c.finish.result ≡ first ++ rest = c.finish.ensures ∙ c.in_ok-line-2.ensures
    ∙ append_assoc c.in_ok-text.text c.in_ok-line.line (10 ∷ []) ∙ ap (λ (l : List ℕ). l ++ rest)
    (c.in_ok-text.ensures ∙ ap (λ (l : List ℕ). l ++ c.in_ok-target_line.field-0 ++ 10 ∷ []) c.new.ensures) in
    subst (IsWayText move span (missing a u)) (sym text_is) (of_router a u phase first rest
    (subst (λ (n : Network). IsTargetLine n a first) c.requires.net c.in_ok-target_line.ensures)
    (lacking_back sources.net.now mixed.net old new (g.O.RouteSource.table mixed.old) (g.N.RouteSource.table mixed.new) c.requires.net
    c.requires.same span a u phase c.first_lacking-phase.ensures) c.in_ok-line.ensures)
