use Rattle.std.proofs.Common.{sym, ap, ◌∙◌, subst}
use Rattle.igp_theory.specs.Phases.{all_old, state_in}
use Rattle.igp_theory.specs.Timetables.{router_times}
use Rattle.igp_theory.proofs.Switches.{routers_have_times}
use Rattle.rib_mix.specs.Mixture.{migration_of}
use Rattle.std.proofs.Common.{length}
use Rattle.loop_finder.specs.Mixes.{mix_of}
use Rattle.loop_finder.specs.Times.{times_in}
use Rattle.loop_finder.specs.steps.Times.{IsInOrder}
use Rattle.loop_finder.proofs.Started.{begun_old}
use Rattle.loop_finder.proofs.WaveListFacts.{none_seamless}
use Rattle.loop_finder.proofs.WavePhases.{rank_fits}
use Rattle.loop_finder.proofs.WaveSteps.{begun_from}
use Rattle.loop_finder.proofs.finder.Finder.waves_fault.Goals as goal

pub rank_waves-requires-clause-few : goal.rank_waves-requires-clause-few
rank_waves-requires-clause-few g c u = rank_fits (length c.self.inside.subject.mixed.now.net) c.args.ranks.now u
    (rw (← c.self.view_is) at c.requires) c.self.invariant.few

pub times_fault-requires-clause-begun : goal.times_fault-requires-clause-begun
times_fault-requires-clause-begun g c =
    rw (ap times_in c.as_slice-asked.ensures.value ∙ c.rank_waves.ensures.times)
    (begun_from (mix_of g.O.RouteSource.table g.N.RouteSource.table c.self.inside.subject.mixed.now) (router_times all_old c.args.ranks.now) all_old
    c.is_old_begun-begun.result (routers_have_times (length c.self.inside.subject.mixed.now.net) all_old c.args.ranks.now)
    (rw c.is_old_begun-begun.ensures (begun_old (mix_of g.O.RouteSource.table g.N.RouteSource.table
    c.self.inside.subject.mixed.now) (state_in c.self.inside.start.items)
    c.self.inside.begun c.self.inside.from_old c.self.invariant.begun_is c.self.invariant.old_is)))

pub times_fault-requires-clause-order : goal.times_fault-requires-clause-order
times_fault-requires-clause-order g c =
    subst IsInOrder (sym (ap times_in c.as_slice-asked.ensures.value ∙ c.rank_waves.ensures.times))
    (routers_have_times (length c.self.inside.subject.mixed.now.net) all_old c.args.ranks.now).in_order

pub returns-clause-seamless : goal.returns-clause-seamless
returns-clause-seamless g c =
    rw (← c.self.view_is) (none_seamless (migration_of g.O.RouteSource.table g.N.RouteSource.table c.self.inside.subject.mixed.now)
    c.args.ranks.now c.times_fault.result c.times_fault.new.work.room.ring.items (rw (← c.self.view_is) at c.requires)
    (rw (ap times_in c.as_slice-asked.ensures.value ∙ c.rank_waves.ensures.times) at c.times_fault.ensures.sound)
    (rw (ap times_in c.as_slice-asked.ensures.value ∙ c.rank_waves.ensures.times) at c.times_fault.ensures.fault))

pub returns-clause-fault : goal.returns-clause-fault
returns-clause-fault g c =
    rw (← c.self.view_is) (rw (ap times_in c.as_slice-asked.ensures.value ∙ c.rank_waves.ensures.times) at c.times_fault.ensures.fault)
