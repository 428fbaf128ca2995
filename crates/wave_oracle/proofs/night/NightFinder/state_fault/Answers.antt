use Rattle.std.proofs.Common.{◌↔◌, IfSome, IsNone, sym, subst}
use Rattle.igp_theory.specs.LoopLaws.{IsFromStart}
use Rattle.igp_theory.specs.Loops.{IsFault}
use Rattle.igp_theory.specs.States.{IsSound}
use Rattle.loop_finder.specs.Faults.{told_fault}
use Rattle.igp_theory.specs.Phases.{state_in}
use Rattle.wave_oracle.specs.Nights.{Night, night_move}
use Rattle.wave_oracle.proofs.NightLaws.{over_found, over_start}
use Rattle.wave_oracle.proofs.night.NightFinder.state_fault.Goals as goal

pub night_fault-requires-clause-from : goal.night_fault-requires-clause-from
night_fault-requires-clause-from g c =
    over_found g.O.RouteSource.table g.N.RouteSource.table _ c.self.invariant (λ m. IsFromStart m (state_in c.args.phases.now))
    (subst (λ (x : Night g.row.O.Denot g.row.N.Denot). IsFromStart (night_move g.O.RouteSource.table g.N.RouteSource.table x) (state_in c.args.phases.now))
    (sym c.self.view_is) c.requires.from)

pub returns-clause-sound : goal.returns-clause-sound
returns-clause-sound g c =
    subst (λ (x : Night g.row.O.Denot g.row.N.Denot). IsNone c.night_fault.result
    ↔ IsSound (night_move g.O.RouteSource.table g.N.RouteSource.table x) (state_in c.args.phases.now)) c.self.view_is
    (over_start g.O.RouteSource.table g.N.RouteSource.table _ c.self.invariant
    (λ m. IsNone c.night_fault.result ↔ IsSound m (state_in c.args.phases.now)) c.night_fault.ensures.sound)

pub returns-clause-fault : goal.returns-clause-fault
returns-clause-fault g c =
    subst (λ (x : Night g.row.O.Denot g.row.N.Denot). IfSome c.night_fault.result (λ fault.
    IsFault (night_move g.O.RouteSource.table g.N.RouteSource.table x) (state_in c.args.phases.now) (told_fault fault c.night_fault.new.self.ring)))
    c.self.view_is
    (over_start g.O.RouteSource.table g.N.RouteSource.table _ c.self.invariant
    (λ m. IfSome c.night_fault.result (λ fault. IsFault m (state_in c.args.phases.now) (told_fault fault c.night_fault.new.self.ring)))
    c.night_fault.ensures.fault)
