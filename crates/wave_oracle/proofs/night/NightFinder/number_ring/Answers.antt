use Rattle.std.proofs.Common.{List, subst}
use Rattle.order_core.specs.declared.turn.Turn.{Turn}
use Rattle.igp_theory.specs.Migrations.{started}
use Rattle.rib_mix.specs.Mixture.{migration_of}
use Rattle.plan_theory.specs.Numbers.{AreNumbered}
use Rattle.wave_oracle.specs.Nights.{Night, night_move, night_start}
use Rattle.wave_oracle.proofs.night.NightFinder.number_ring.Goals as goal

pub returns-clause-numbered : goal.returns-clause-numbered
returns-clause-numbered g c =
    let start = night_start c.self.inside.items c.self.inside.start.items in
    subst (λ (x : Night g.row.O.Denot g.row.N.Denot). AreNumbered x.items (night_move g.O.RouteSource.table g.N.RouteSource.table x) c.args.address x.ring
    c.number_turns.new.numbered.items) c.self.view_is
    (subst (λ (ts : List Turn). AreNumbered c.self.inside.items
    (started start (migration_of g.O.RouteSource.table g.N.RouteSource.table c.self.inside.mixed.now)) c.args.address ts c.number_turns.new.numbered.items)
    c.ring.ensures (c.number_turns.ensures.numbered start))
