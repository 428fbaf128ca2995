use Rattle.std.proofs.Common.{sym, subst}
use Rattle.rib_mix.specs.Mixture.{Mixture}
use Rattle.wave_oracle.specs.Nights.{Night}
use Rattle.two_pass.specs.ChangeNights.{MeansChanges}
use Rattle.two_pass.proofs.ChangeLaws.{means_changes}
use Rattle.two_pass.proofs.oracle.TwoOracle.new.Goals as goal

pub invariant_of-result : goal.invariant_of-result
invariant_of-result g c =
    let old = g.O.RouteSource.table in
    let new = g.N.RouteSource.table in
    subst (λ (m : Mixture g.row.O.Denot g.row.N.Denot). MeansChanges old new m c.new-night.result) (sym c.mixed-mixed.ensures)
    (subst (λ (x : Night g.row.O.Denot g.row.N.Denot). MeansChanges old new c.args.finder.mixture x) (sym c.new-night.ensures)
    (means_changes old new c.args.finder.mixture c.into_night.result c.into_night.ensures))
