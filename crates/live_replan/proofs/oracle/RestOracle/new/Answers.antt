use Rattle.std.proofs.Common.{List, sym, subst}
use Rattle.igp_theory.specs.declared.phase.Phase.{Phase}
use Rattle.rib_mix.specs.Mixture.{Mixture}
use Rattle.wave_oracle.specs.Nights.{Night}
use Rattle.live_replan.specs.RestNights.{MeansRest}
use Rattle.live_replan.proofs.NightFacts.{means_rest}
use Rattle.live_replan.proofs.oracle.RestOracle.new.Goals as goal

pub invariant_of-result : goal.invariant_of-result
invariant_of-result g c =
    let old = g.O.RouteSource.table in
    let new = g.N.RouteSource.table in
    subst (λ (m : Mixture g.row.O.Denot g.row.N.Denot). MeansRest old new m c.into_night-start.result.0.items c.new-night.result) (sym c.mixed-mixed.ensures)
    (subst (λ (s : List Phase). MeansRest old new c.args.finder.mixture s c.new-night.result) (sym c.into_night-start.ensures.start)
    (subst (λ (x : Night g.row.O.Denot g.row.N.Denot). MeansRest old new c.args.finder.mixture c.args.finder.start x) (sym c.new-night.ensures)
    (means_rest old new c.args.finder.mixture c.args.finder.start c.into_night-start.result.1 c.into_night-start.ensures.night)))
