use Rattle.std.proofs.Common.{◌+◌, length, arith, refl}
use Rattle.igp_theory.specs.Migrations.{Migration, started}
use Rattle.igp_theory.specs.Phases.{State}
use Rattle.rib_mix.specs.Mixture.{migration_of}
use Rattle.plan_theory.specs.Numbers.{turn_of}
use Rattle.plan_theory.proofs.NumberLaws.{change_below, change_ring, first_names, router_below, router_names, router_ring, second_names}
use Rattle.plan_theory.proofs.numbers.number_at.Goals as goal

pub returns-in-Routers : goal.returns-in-Routers
returns-in-Routers g c =
    let move : State → Migration = λ start. started start (migration_of g.O.RouteSource.table g.N.RouteSource.table c.args.mixed.now) in
    record {
      names = λ start a tag class must. router_names c.args.items c.in-Routers.is (move start) a (turn_of c.args.router tag);
      router = λ start tag. router_ring c.args.items c.in-Routers.is (move start) c.args.router tag;
      below = router_below c.args.items c.in-Routers.is (length c.args.mixed.now.net) c.args.router c.requires.router;
    }

pub returns-then-middle_is_new : goal.returns-then-middle_is_new
returns-then-middle_is_new g c =
    let move : State → Migration = λ start. started start (migration_of g.O.RouteSource.table g.N.RouteSource.table c.args.mixed.now) in
    let u = c.args.router in
    record {
      names = λ start a tag class must. first_names c.args.items c.in-Changes.is (move start) a u (u + u) tag refl
          (rw c.if-middle_is_new.true at (c.middle_is_new.ensures start a class must));
      router = λ start tag. change_ring c.args.items c.in-Changes.is (move start) u (u + u) tag (omega arith);
      below = change_below c.args.items c.in-Changes.is (length c.args.mixed.now.net) (u + u) (let below = c.requires.router in omega (arith, below));
    }

pub returns-else-middle_is_new : goal.returns-else-middle_is_new
returns-else-middle_is_new g c =
    let move : State → Migration = λ start. started start (migration_of g.O.RouteSource.table g.N.RouteSource.table c.args.mixed.now) in
    let u = c.args.router in
    record {
      names = λ start a tag class must.
          let both = rw c.if-middle_is_new.false at (c.middle_is_new.ensures start a class must) in
          second_names c.args.items c.in-Changes.is (move start) a u (u + u + 1) tag refl both.0 both.1;
      router = λ start tag. change_ring c.args.items c.in-Changes.is (move start) u (u + u + 1) tag (omega arith);
      below = change_below c.args.items c.in-Changes.is (length c.args.mixed.now.net) (u + u + 1) (let below = c.requires.router in omega (arith, below));
    }
