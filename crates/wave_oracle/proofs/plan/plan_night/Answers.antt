use Rattle.std.proofs.Common.{length, sym, ap, ◌∙◌, subst}
use Rattle.igp_theory.specs.Loops.{IsFault}
use Rattle.igp_theory.specs.Phases.{state_in}
use Rattle.plan_theory.specs.Plans.{fault_told}
use Rattle.wave_oracle.specs.Nights.{night_move}
use Rattle.wave_oracle.proofs.PlanNight.{IsNightOf, found_is_planned, from_last, from_start, last_is_planned_night, night_again, night_ends, none_told, some_told, start_is_planned}
use Rattle.wave_oracle.proofs.plan.plan_night.Goals as goal

pub end_fault-requires-clause-from : goal.end_fault-requires-clause-from
end_fault-requires-clause-from g c =
    from_start g.O.RouteSource.table g.N.RouteSource.table c.args.mixed.now c.args.items c.args.start.now c.requires.ranks c.in_ok-night.night
    (record { mixture_is = c.in_ok-night.ensures.mixture; items_are = c.in_ok-night.ensures.items; start_is = c.in_ok-night.ensures.start })

pub end_fault-requires-2-clause-from : goal.end_fault-requires-2-clause-from
end_fault-requires-2-clause-from g c =
    let first : IsNightOf c.args.mixed.now c.args.items c.args.start.now c.in_ok-night.night =
    record { mixture_is = c.in_ok-night.ensures.mixture; items_are = c.in_ok-night.ensures.items; start_is = c.in_ok-night.ensures.start } in
    let second = night_again c.args.mixed.now c.args.items c.args.start.now c.in_ok-night.night c.end_fault.new.night first
    c.in_ok-fault.ensures.mixture c.in_ok-fault.ensures.items c.in_ok-fault.ensures.start in
    from_last g.O.RouteSource.table g.N.RouteSource.table c.args.mixed.now c.args.items c.args.start.now c.requires.ranks c.in_ok-last.last.items
    c.as_slice.result.now c.routers.result (c.routers.ensures.count ∙ ap length c.net.ensures) c.in_ok-last.ensures.each c.as_slice.ensures.value
    c.end_fault.new.night second

pub returns-in-Some : goal.returns-in-Some
returns-in-Some g c =
    let first : IsNightOf c.args.mixed.now c.args.items c.args.start.now c.in_ok-night.night =
    record { mixture_is = c.in_ok-night.ensures.mixture; items_are = c.in_ok-night.ensures.items; start_is = c.in_ok-night.ensures.start } in
    record {
      planned = start_is_planned g.O.RouteSource.table g.N.RouteSource.table c.args.mixed.now c.args.items c.args.start.now c.requires.ranks
          c.in_ok-night.night first c.args.budget c.in-Some.fault
          (some_told (λ whole. IsFault (night_move g.O.RouteSource.table g.N.RouteSource.table c.in_ok-night.night) (state_in c.args.start.now)
          (fault_told whole)) c.in_ok-fault.field-0 c.in-Some.fault c.in-Some.is c.in_ok-fault.ensures.fault);
    }

pub returns-in-Some-2 : goal.returns-in-Some-2
returns-in-Some-2 g c =
    let first : IsNightOf c.args.mixed.now c.args.items c.args.start.now c.in_ok-night.night =
    record { mixture_is = c.in_ok-night.ensures.mixture; items_are = c.in_ok-night.ensures.items; start_is = c.in_ok-night.ensures.start } in
    let second = night_again c.args.mixed.now c.args.items c.args.start.now c.in_ok-night.night c.end_fault.new.night first
    c.in_ok-fault.ensures.mixture c.in_ok-fault.ensures.items c.in_ok-fault.ensures.start in
    record {
      planned = last_is_planned_night g.O.RouteSource.table g.N.RouteSource.table c.args.mixed.now c.args.items c.args.start.now c.requires.ranks
          c.in_ok-last.last.items c.as_slice.result.now c.routers.result (c.routers.ensures.count ∙ ap length c.net.ensures) c.in_ok-last.ensures.each
          c.as_slice.ensures.value c.in_ok-night.night c.end_fault.new.night first second c.args.budget c.in-Some-2.fault
          (none_told c.in_ok-fault.field-0 c.in_default.not-Some c.in_ok-fault.ensures.sound)
          (some_told (λ whole. IsFault (night_move g.O.RouteSource.table g.N.RouteSource.table c.end_fault.new.night) (state_in c.as_slice.result.now)
          (fault_told whole)) c.in_ok-fault-2.field-0 c.in-Some-2.fault c.in-Some-2.is c.in_ok-fault-2.ensures.fault);
    }

pub new-oracle-requires : goal.new-oracle-requires
new-oracle-requires g c =
    let first : IsNightOf c.args.mixed.now c.args.items c.args.start.now c.in_ok-night.night =
    record { mixture_is = c.in_ok-night.ensures.mixture; items_are = c.in_ok-night.ensures.items; start_is = c.in_ok-night.ensures.start } in
    let second = night_again c.args.mixed.now c.args.items c.args.start.now c.in_ok-night.night c.end_fault.new.night first
    c.in_ok-fault.ensures.mixture c.in_ok-fault.ensures.items c.in_ok-fault.ensures.start in
    let third = night_again c.args.mixed.now c.args.items c.args.start.now c.end_fault.new.night c.end_fault-2.new.night second
    c.in_ok-fault-2.ensures.mixture c.in_ok-fault-2.ensures.items c.in_ok-fault-2.ensures.start in
    night_ends g.O.RouteSource.table g.N.RouteSource.table c.args.mixed.now c.args.items c.args.start.now c.requires.ranks
    c.in_ok-last.last.items c.as_slice.result.now c.routers.result (c.routers.ensures.count ∙ ap length c.net.ensures) c.in_ok-last.ensures.each
    c.as_slice.ensures.value c.in_ok-night.night c.end_fault.new.night first second
    (none_told c.in_ok-fault.field-0 c.in_default.not-Some c.in_ok-fault.ensures.sound)
    (none_told c.in_ok-fault-2.field-0 c.in_default-2.not-Some c.in_ok-fault-2.ensures.sound) c.end_fault-2.new.night third

pub returns : goal.returns
returns g c =
    let first : IsNightOf c.args.mixed.now c.args.items c.args.start.now c.in_ok-night.night =
    record { mixture_is = c.in_ok-night.ensures.mixture; items_are = c.in_ok-night.ensures.items; start_is = c.in_ok-night.ensures.start } in
    let second = night_again c.args.mixed.now c.args.items c.args.start.now c.in_ok-night.night c.end_fault.new.night first
    c.in_ok-fault.ensures.mixture c.in_ok-fault.ensures.items c.in_ok-fault.ensures.start in
    let third = night_again c.args.mixed.now c.args.items c.args.start.now c.end_fault.new.night c.end_fault-2.new.night second
    c.in_ok-fault-2.ensures.mixture c.in_ok-fault-2.ensures.items c.in_ok-fault-2.ensures.start in
    let ends = night_ends g.O.RouteSource.table g.N.RouteSource.table c.args.mixed.now c.args.items c.args.start.now c.requires.ranks
    c.in_ok-last.last.items c.as_slice.result.now c.routers.result (c.routers.ensures.count ∙ ap length c.net.ensures) c.in_ok-last.ensures.each
    c.as_slice.ensures.value c.in_ok-night.night c.end_fault.new.night first second
    (none_told c.in_ok-fault.field-0 c.in_default.not-Some c.in_ok-fault.ensures.sound)
    (none_told c.in_ok-fault-2.field-0 c.in_default-2.not-Some c.in_ok-fault-2.ensures.sound) c.end_fault-2.new.night third in
    record {
      planned = found_is_planned g.O.RouteSource.table g.N.RouteSource.table c.args.mixed.now c.args.items c.args.start.now c.requires.ranks
          c.new-oracle.result c.end_fault-2.new.night
          (subst (IsNightOf c.args.mixed.now c.args.items c.args.start.now) (sym c.new-oracle.ensures) third) third c.args.budget c.in_ok-found.found ends
          c.in_ok-found.ensures.found;
    }
