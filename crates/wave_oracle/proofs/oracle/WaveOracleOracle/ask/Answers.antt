use Rattle.std.proofs.Common.{◌≡◌, ℕ, ap, ◌∙◌, subst}
use Rattle.rib_mix.specs.Mixture.{migration_of}
use Rattle.loop_finder.specs.Faults.{Finding}
use Rattle.order_search.specs.Meanings.{Break}
use Rattle.plan_theory.specs.WavesMeaning.{waves_meaning}
use Rattle.loop_finder.specs.declared.fault.Fault.TheVariants.{Loop}
use Rattle.wave_oracle.proofs.Told.{told_is_loop, told_breaks}
use Rattle.wave_oracle.proofs.oracle.WaveOracleOracle.ask.Goals as goal

pub loop_address-address-requires : goal.loop_address-address-requires
loop_address-address-requires g c =
    told_is_loop (migration_of g.O.RouteSource.table g.N.RouteSource.table c.self.inside.finder.mixture) c.args.ranks.now c.in-Some._wave c.in-Some.fault
    c.waves_fault.new.self.ring c.self.invariant.ends c.in-Some.ensures.fault

pub returns-in-Some-clause-breaks : goal.returns-in-Some-clause-breaks
returns-in-Some-clause-breaks g c address answer =
    let same : c.loop_address-address.result ≡ address = cc in
    let is : c.in-Some.fault ≡ Loop address = c.loop_address-address.ensures ∙ ap (λ (a : ℕ). Loop a) same in
    subst (λ (x : Finding g.row.O.Denot g.row.N.Denot).
    Break (waves_meaning (migration_of g.O.RouteSource.table g.N.RouteSource.table x.mixture)) c.args.ranks.now address c.waves_fault.new.self.ring)
    c.self.view_is
    (told_breaks (migration_of g.O.RouteSource.table g.N.RouteSource.table c.self.inside.finder.mixture) c.args.ranks.now c.in-Some._wave
    c.in-Some.fault address c.waves_fault.new.self.ring c.self.invariant.ends c.in-Some.ensures.fault is)
