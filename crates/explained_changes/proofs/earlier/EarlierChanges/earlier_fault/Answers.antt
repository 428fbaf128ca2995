use Rattle.std.proofs.Common.{◌∙◌, IfNone, IfSome, Option, ap, arith, length, subst, sym}
use Rattle.loop_finder.specs.Faults.{told_fault}
use Rattle.loop_finder.specs.Times.{times_in}
use Rattle.loop_finder.specs.declared.fault.Fault.{Fault}
use Rattle.rib_mix.specs.Mixture.{migration_of}
use Rattle.explained_texts.specs.AskedLists.{AskedList}
use Rattle.explained_texts.proofs.ReasonLines.{written}
use Rattle.explained_changes.specs.ChangeReasons.{ChangeMayBeEarlier}
use Rattle.explained_changes.specs.steps.Asked.{HasFaultEarlier, IsAskable}
use Rattle.explained_changes.proofs.AskedLists.{few_waves, free_told, have_table, kept_told}
use Rattle.explained_changes.proofs.earlier.EarlierChanges.earlier_fault.Goals as goal

pub earlier_waves-requires-clause-waves : goal.earlier_waves-requires-clause-waves
earlier_waves-requires-clause-waves g c =
    few_waves (length c.self.inside.mixed.now.net) c.self.inside.ranks.now c.self.invariant.safe.few c.self.invariant.safe.waves

pub times_fault-found-requires-clause-table : goal.times_fault-found-requires-clause-table
times_fault-found-requires-clause-table g c =
    have_table g.O.RouteSource.table g.N.RouteSource.table _ c.self.inside.finder _ c.self.invariant c.as_slice.result.now c.args.item
    (subst (λ (list : AskedList g.row.O.Denot g.row.N.Denot). IsAskable list.ranks c.args.item) (sym c.self.view_is) c.requires)
    (ap times_in (c.as_slice.ensures.value ∙ written c.self.inside.times.len c.earlier_waves.new.times c.self.inside.times.items
    (omega (arith, c.earlier_waves.auto.times, c.self.inside.times.ok.0, c.deref_mut.ensures))) ∙ c.earlier_waves.ensures)

pub returns-clause-free : goal.returns-clause-free
returns-clause-free g c =
    subst (λ (list : AskedList g.row.O.Denot g.row.N.Denot). IfNone c.fault_alone.result
    (ChangeMayBeEarlier (migration_of g.O.RouteSource.table g.N.RouteSource.table list.mixture) list.ranks c.args.item)) c.self.view_is
    (subst (λ (o : Option Fault). IfNone o (ChangeMayBeEarlier
    (migration_of g.O.RouteSource.table g.N.RouteSource.table c.self.inside.mixed.now) c.self.inside.ranks.now c.args.item))
    (sym c.fault_alone.ensures)
    (free_told g.O.RouteSource.table g.N.RouteSource.table _ c.self.inside.finder _ c.self.invariant c.as_slice.result.now c.args.item
    (subst (λ (list : AskedList g.row.O.Denot g.row.N.Denot). IsAskable list.ranks c.args.item) (sym c.self.view_is) c.requires)
    (ap times_in (c.as_slice.ensures.value ∙ written c.self.inside.times.len c.earlier_waves.new.times c.self.inside.times.items
    (omega (arith, c.earlier_waves.auto.times, c.self.inside.times.ok.0, c.deref_mut.ensures))) ∙ c.earlier_waves.ensures)
    c.times_fault-found.result c.times_fault-found.ensures.sound))

pub returns-clause-kept : goal.returns-clause-kept
returns-clause-kept g c =
    subst (λ (list : AskedList g.row.O.Denot g.row.N.Denot). IfSome c.fault_alone.result (λ fault. HasFaultEarlier
    (migration_of g.O.RouteSource.table g.N.RouteSource.table list.mixture) list.ranks c.args.item
    (told_fault fault c.times_fault-found.new.self.ring))) c.self.view_is
    (subst (λ (o : Option Fault). IfSome o (λ fault. HasFaultEarlier
    (migration_of g.O.RouteSource.table g.N.RouteSource.table c.self.inside.mixed.now) c.self.inside.ranks.now c.args.item
    (told_fault fault c.times_fault-found.new.self.ring)))
    (sym c.fault_alone.ensures)
    (kept_told g.O.RouteSource.table g.N.RouteSource.table _ c.self.inside.finder _ c.self.invariant c.as_slice.result.now c.args.item
    (subst (λ (list : AskedList g.row.O.Denot g.row.N.Denot). IsAskable list.ranks c.args.item) (sym c.self.view_is) c.requires)
    (ap times_in (c.as_slice.ensures.value ∙ written c.self.inside.times.len c.earlier_waves.new.times c.self.inside.times.items
    (omega (arith, c.earlier_waves.auto.times, c.self.inside.times.ok.0, c.deref_mut.ensures))) ∙ c.earlier_waves.ensures)
    c.times_fault-found.result c.times_fault-found.new.self.ring c.times_fault-found.ensures.fault))
