use Rattle.std.proofs.Common.{◌<◌, ◌^◌, get_or, refl, subst, sym}
use Rattle.igp_theory.specs.declared.phase.Phase.{Phase}
use Rattle.rib_mix.specs.Answers.{IsNextAtAnEnd, IsNextOf}
use Rattle.rib_mix.specs.Mixture.{Mixture, migration_of}
use Rattle.rib_mix.specs.Cells.{IsKeptUse, use_in}
use Rattle.rib_mix.specs.steps.Uses.{ShowsUse}
use Rattle.rib_mix.specs.declared.used.Used.{Used}
use Rattle.rib_mix.proofs.ClassUses.{answer_of, middle_answer}
use Rattle.rib_mix.proofs.MixedLaws.{atom_along, cell_read, home, router_along, sort_read}
use Rattle.rib_mix.proofs.mixed.Mixed.hops.Goals as goal

pub cell_of-cell-requires-clause-sort : goal.cell_of-cell-requires-clause-sort
cell_of-cell-requires-clause-sort g c =
    sort_read _ _ _ c.self.inside.columns c.as_slice.result.now c.args.router c.args.atom c.self.invariant.forwarding
    refl
    c.as_slice.ensures.value (router_along _ _ c.args.router c.self.view_is c.requires.router)
    (atom_along _ _ c.args.atom c.self.view_is c.requires.atom)

pub next_of-requires : goal.next_of-requires
next_of-requires g c =
    let router = router_along _ _ c.args.router c.self.view_is c.requires.router in
    let atom = atom_along _ _ c.args.atom c.self.view_is c.requires.atom in
    let here = home _ _ _ c.args.router c.index-tables.result.now c.self.invariant.forwarding router c.index-tables.ensures in
    let cell = cell_read _ _ _ _ c.self.inside.columns c.as_slice.result.now c.args.router c.args.atom c.cell_of-cell.result
    c.self.invariant.forwarding here
    refl
    c.as_slice.ensures.value atom c.cell_of-cell.ensures in
    subst (λ (way : Used). IsKeptUse c.index-tables.result.now.old.entries.now c.index-tables.result.now.new.entries.now way) (sym c.used.ensures)
    (cell c.args.phase).within

pub returns : goal.returns
returns g c =
    let router = router_along _ _ c.args.router c.self.view_is c.requires.router in
    let atom = atom_along _ _ c.args.atom c.self.view_is c.requires.atom in
    let here = home _ _ _ c.args.router c.index-tables.result.now c.self.invariant.forwarding router c.index-tables.ensures in
    let cell = cell_read _ _ _ _ c.self.inside.columns c.as_slice.result.now c.args.router c.args.atom c.cell_of-cell.result
    c.self.invariant.forwarding here
    refl
    c.as_slice.ensures.value atom c.cell_of-cell.ensures in
    let shows : ShowsUse c.index-tables.result.now.old.entries.now c.index-tables.result.now.new.entries.now
    (use_in c.cell_of-cell.result c.args.phase)
    c.next_of.result =
    subst (λ (way : Used). ShowsUse c.index-tables.result.now.old.entries.now c.index-tables.result.now.new.entries.now way c.next_of.result)
    c.used.ensures c.next_of.ensures in
    record {
      next = subst
          (λ (x : Mixture g.row.O.Denot g.row.N.Denot). IsNextOf (migration_of g.O.RouteSource.table g.N.RouteSource.table x)
          x.classes c.args.router c.args.atom c.args.phase c.next_of.result)
          c.self.view_is
          (answer_of _ c.args.atom c.args.phase (use_in c.cell_of-cell.result c.args.phase) c.next_of.result here.place
          (cell c.args.phase) shows);
      least = record {
        class = c.requires.atom;
        address = subst (λ (x : Mixture g.row.O.Denot g.row.N.Denot). get_or x.classes.samples c.args.atom 0 < 2 ^ 32) c.self.view_is
            (here.place.classes.classing.samples.addresses c.args.atom 0 atom);
        alike = λ p member. (λ h. h, λ h. h);
      };
      middle = λ same. subst
          (λ (x : Mixture g.row.O.Denot g.row.N.Denot). IsNextAtAnEnd (migration_of g.O.RouteSource.table g.N.RouteSource.table x)
          x.classes c.args.router c.args.atom c.next_of.result)
          c.self.view_is
          (middle_answer _ c.args.atom c.cell_of-cell.result c.next_of.result here.place cell
          (subst (λ (p : Phase). ShowsUse c.index-tables.result.now.old.entries.now c.index-tables.result.now.new.entries.now
          (use_in c.cell_of-cell.result p) c.next_of.result) same shows));
    }
