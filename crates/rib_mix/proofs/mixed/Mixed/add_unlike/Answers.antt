use Rattle.std.proofs.Common.{arith}
use Rattle.std.proofs.lemmas.Grind.{common_steps}
use Rattle.std.proofs.Common.{◌<◌, ℕ, Option, IfSome, length, refl, sym, subst}
use Rattle.std.proofs.lemmas.Result.{on_ok_weaker}
use Rattle.rib_mix.specs.Answers.{AddsAllBut, IsAlikeToKnown}
use Rattle.rib_mix.specs.Mixture.{Mixture, migration_of}
use Rattle.rib_mix.proofs.MixedLaws.{adds_alike, adds_routers, atom_along, has_cells}
use Rattle.rib_mix.proofs.mixed.Mixed.add_unlike.Goals as goal

pub add_unlike_cells-requires-clause-one : goal.add_unlike_cells-requires-clause-one
add_unlike_cells-requires-clause-one g c =
    has_cells _ _ _ c.self.inside.columns c.as_slice.result.now c.args.atom c.in-Some.both.0 c.self.invariant.forwarding
    refl c.as_slice.ensures.value (atom_along _ _ c.args.atom c.self.view_is c.requires.atom)
    c.in-Some.ensures.one_is

pub add_unlike_cells-requires-clause-other : goal.add_unlike_cells-requires-clause-other
add_unlike_cells-requires-clause-other g c =
    let known = subst (λ (o : Option ℕ). IfSome o (λ k. k < length c.args.self.now.classes.samples)) c.in-Some.ensures.known_is
    c.requires.known in
    has_cells _ _ _ c.self.inside.columns c.as_slice.result.now c.in-Some.ensures.other c.in-Some.both.1
    c.self.invariant.forwarding refl c.as_slice.ensures.value
    (atom_along _ _ c.in-Some.ensures.other c.self.view_is known) c.in-Some.ensures.other_is

pub returns-in-Some : goal.returns-in-Some
returns-in-Some g c = on_ok_weaker c.add_unlike_cells.result (λ added. subst
    (λ (x : Mixture g.row.O.Denot g.row.N.Denot). AddsAllBut
    (IsAlikeToKnown (migration_of g.O.RouteSource.table g.N.RouteSource.table x) x.classes c.args.known c.args.atom)
    (length x.net) c.args.unlike.now.items c.add_unlike_cells.new.unlike.items) c.self.view_is
    (adds_alike _ _ _ c.self.inside.columns c.as_slice.result.now c.args.known c.args.atom c.in-Some.both
    c.args.unlike.now.items c.add_unlike_cells.new.unlike.items c.self.invariant.forwarding refl
    c.as_slice.ensures.value (atom_along _ _ c.args.atom c.self.view_is c.requires.atom)
    (subst (λ (x : Mixture g.row.O.Denot g.row.N.Denot). IfSome c.args.known (λ k. k < length x.classes.samples))
    (sym c.self.view_is) c.requires.known) c.in-Some.ensures added)) c.add_unlike_cells.ensures

pub returns-in-None : goal.returns-in-None
returns-in-None g c = grind (arith, common_steps, adds_routers, on_ok_weaker)
