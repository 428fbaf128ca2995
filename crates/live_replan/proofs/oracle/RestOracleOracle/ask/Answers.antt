use Rattle.std.proofs.Common.{subst}
use Rattle.order_search.specs.Meanings.{Break}
use Rattle.plan_theory.specs.WavesMeaning.{night_meaning, waves_meaning}
use Rattle.wave_oracle.specs.Nights.{night_move}
use Rattle.live_replan.specs.RestNights.{RestNight, rest_move}
use Rattle.live_replan.proofs.NightFacts.{breaks_first}
use Rattle.live_replan.proofs.oracle.RestOracleOracle.ask.Goals as goal

pub returns-clause-breaks : goal.returns-clause-breaks
returns-clause-breaks g c address answer =
    let old = g.O.RouteSource.table in
    let new = g.N.RouteSource.table in
    let night = c.self.inside.night in
    subst (λ (x : RestNight g.row.O.Denot g.row.N.Denot).
    Break (waves_meaning (rest_move old new x)) c.args.ranks.now address c.ask.new.self.numbered) c.self.view_is
    (breaks_first (waves_meaning (rest_move old new
    (record { mixture = c.self.inside.mixed.now; start = c.self.inside.start.items; turns = night.numbered })))
    (night_meaning night.items (night_move old new night)) c.self.invariant
    c.args.ranks.now address c.ask.new.self.numbered (c.ask.ensures.breaks address answer))
