use Rattle.std.proofs.Common.{refl, subst, ◌∙◌}
use Rattle.std.proofs.lemmas.Bool.{OnTrue_at, OnTrue_from}
use Rattle.rib_mix.specs.Answers.{IsAlikeAt}
use Rattle.rib_mix.specs.Mixture.{Mixture, migration_of}
use Rattle.rib_mix.proofs.ClassUses.{alike_cells}
use Rattle.rib_mix.proofs.MixedLaws.{atom_along, cell_read, router_along, some_home, sort_read}
use Rattle.rib_mix.proofs.mixed.Mixed.is_alike_at.Goals as goal

pub cell_of-requires-clause-sort : goal.cell_of-requires-clause-sort
cell_of-requires-clause-sort g c =
    sort_read _ _ _ c.self.inside.columns c.as_slice-sorts.result.now c.args.router c.args.atom c.self.invariant.forwarding
    refl c.as_slice-sorts.ensures.value (router_along _ _ c.args.router c.self.view_is c.requires.router)
    (atom_along _ _ c.args.atom c.self.view_is c.requires.atom)

pub cell_of-requires-2-clause-sort : goal.cell_of-requires-2-clause-sort
cell_of-requires-2-clause-sort g c =
    sort_read _ _ _ c.self.inside.columns c.as_slice-sorts.result.now c.args.router c.args.other c.self.invariant.forwarding
    refl c.as_slice-sorts.ensures.value (router_along _ _ c.args.router c.self.view_is c.requires.router)
    (atom_along _ _ c.args.other c.self.view_is c.requires.other)

pub returns : goal.returns
returns g c =
    OnTrue_from c.is_same.result _ (λ holds.
    let router = router_along _ _ c.args.router c.self.view_is c.requires.router in
    let atom = atom_along _ _ c.args.atom c.self.view_is c.requires.atom in
    let other = atom_along _ _ c.args.other c.self.view_is c.requires.other in
    let here = some_home _ _ _ c.args.router c.self.invariant.forwarding router in
    subst
    (λ (x : Mixture g.row.O.Denot g.row.N.Denot). IsAlikeAt (migration_of g.O.RouteSource.table g.N.RouteSource.table x)
    x.classes c.args.router c.args.atom c.args.other)
    c.self.view_is
    (alike_cells _ c.args.atom c.args.other c.cell_of.result here.1.place atom other
    (cell_read _ _ _ _ c.self.inside.columns c.as_slice-sorts.result.now c.args.router c.args.atom c.cell_of.result
    c.self.invariant.forwarding here.1
    refl c.as_slice-sorts.ensures.value atom c.cell_of.ensures)
    (cell_read _ _ _ _ c.self.inside.columns c.as_slice-sorts.result.now c.args.router c.args.other c.cell_of.result
    c.self.invariant.forwarding here.1
    refl c.as_slice-sorts.ensures.value other (OnTrue_at holds c.is_same.ensures
    ∙ c.cell_of-2.ensures))))
