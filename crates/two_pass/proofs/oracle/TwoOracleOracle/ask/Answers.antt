use Rattle.std.proofs.Common.{subst}
use Rattle.rib_mix.specs.Mixture.{migration_of}
use Rattle.order_search.specs.Meanings.{Break}
use Rattle.plan_theory.specs.WavesMeaning.{changes_meaning, night_meaning}
use Rattle.wave_oracle.specs.Nights.{night_move}
use Rattle.two_pass.specs.ChangeNights.{ChangeNight}
use Rattle.two_pass.proofs.ChangeLaws.{breaks_too}
use Rattle.two_pass.proofs.oracle.TwoOracleOracle.ask.Goals as goal

pub returns-clause-breaks : goal.returns-clause-breaks
returns-clause-breaks g c address answer =
    let old = g.O.RouteSource.table in
    let new = g.N.RouteSource.table in
    let night = c.self.inside.night in
    subst (λ (x : ChangeNight g.row.O.Denot g.row.N.Denot).
    Break (changes_meaning (migration_of old new x.mixture)) c.args.ranks.now address c.ask.new.self.numbered) c.self.view_is
    (breaks_too (changes_meaning (migration_of old new c.self.inside.mixed.now))
    (night_meaning night.items (night_move old new night)) c.self.invariant
    c.args.ranks.now address c.ask.new.self.numbered (c.ask.ensures.breaks address answer))
