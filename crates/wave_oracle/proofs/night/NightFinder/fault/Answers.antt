use Rattle.std.proofs.Common.{◌↔◌, List, IfSome, IsNone, length, sym, ap, ◌∙◌, subst}
use Rattle.order_core.specs.Rankings.{IsRanking, KeepsPairs}
use Rattle.igp_theory.specs.Timetables.{IsSoundThroughout}
use Rattle.igp_theory.specs.WaveFaults.{IsTimesFault}
use Rattle.igp_theory.specs.declared.phase.Phase.{Phase}
use Rattle.loop_finder.specs.Faults.{told_fault}
use Rattle.igp_theory.specs.Phases.{state_in}
use Rattle.loop_finder.specs.Times.{times_in}
use Rattle.plan_theory.specs.Ranked.{base_of, size_of}
use Rattle.wave_oracle.specs.Nights.{Night, night_move, night_times}
use Rattle.wave_oracle.specs.steps.RankedTimes.{times_from}
use Rattle.wave_oracle.proofs.NightLaws.{night_rank_fits, over_ranking, table_here}
use Rattle.wave_oracle.proofs.night.NightFinder.fault.Goals as goal

pub fill_times-requires-clause-few : goal.fill_times-requires-clause-few
fill_times-requires-clause-few g c = λ k.
    night_rank_fits (size_of c.self.inside.items (length c.self.inside.mixed.now.net)) c.args.ranks.now k c.self.invariant.few
    (subst (λ (x : Night g.row.O.Denot g.row.N.Denot). IsRanking (size_of x.items (length x.mixture.net)) c.args.ranks.now) (sym c.self.view_is)
    c.requires.waves)

pub times_fault-requires-clause-table : goal.times_fault-requires-clause-table
times_fault-requires-clause-table g c =
    table_here g.O.RouteSource.table g.N.RouteSource.table _ c.self.invariant c.args.ranks.now c.as_slice-2.result.now
    (ap times_in c.as_slice-2.ensures.value ∙ c.fill_times.ensures.times
    ∙ ap (λ (s : List Phase). times_from c.self.inside.items (state_in s) c.args.ranks.now) c.as_slice.ensures.value)
    (subst (λ (x : Night g.row.O.Denot g.row.N.Denot). IsRanking (size_of x.items (length x.mixture.net)) c.args.ranks.now) (sym c.self.view_is)
    c.requires.waves)
    (subst (λ (x : Night g.row.O.Denot g.row.N.Denot). KeepsPairs c.args.ranks.now (base_of x.items (length x.mixture.net))) (sym c.self.view_is)
    c.requires.keeps)

pub returns-clause-sound : goal.returns-clause-sound
returns-clause-sound g c =
    subst (λ (x : Night g.row.O.Denot g.row.N.Denot). IsNone c.times_fault.result
    ↔ IsSoundThroughout (night_move g.O.RouteSource.table g.N.RouteSource.table x) (night_times g.O.RouteSource.table g.N.RouteSource.table x c.args.ranks.now))
    c.self.view_is
    (over_ranking g.O.RouteSource.table g.N.RouteSource.table _ c.self.invariant c.args.ranks.now c.as_slice-2.result.now
    (ap times_in c.as_slice-2.ensures.value ∙ c.fill_times.ensures.times
    ∙ ap (λ (s : List Phase). times_from c.self.inside.items (state_in s) c.args.ranks.now) c.as_slice.ensures.value)
    (λ m t. IsNone c.times_fault.result ↔ IsSoundThroughout m t) c.times_fault.ensures.sound)

pub returns-clause-fault : goal.returns-clause-fault
returns-clause-fault g c =
    subst (λ (x : Night g.row.O.Denot g.row.N.Denot). IfSome c.times_fault.result (λ found.
    IsTimesFault (night_move g.O.RouteSource.table g.N.RouteSource.table x) (night_times g.O.RouteSource.table g.N.RouteSource.table x c.args.ranks.now) found.0
    (told_fault found.1 c.times_fault.new.self.ring))) c.self.view_is
    (over_ranking g.O.RouteSource.table g.N.RouteSource.table _ c.self.invariant c.args.ranks.now c.as_slice-2.result.now
    (ap times_in c.as_slice-2.ensures.value ∙ c.fill_times.ensures.times
    ∙ ap (λ (s : List Phase). times_from c.self.inside.items (state_in s) c.args.ranks.now) c.as_slice.ensures.value)
    (λ m t. IfSome c.times_fault.result (λ found. IsTimesFault m t found.0 (told_fault found.1 c.times_fault.new.self.ring))) c.times_fault.ensures.fault)
