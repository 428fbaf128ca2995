use Rattle.std.proofs.Common.{refl, subst}
use Rattle.loop_finder.specs.Faults.{told_fault}
use Rattle.loop_finder.specs.declared.fault.Fault.{Fault}
use Rattle.rib_mix.specs.Mixture.{migration_of}
use Rattle.explained_changes.specs.steps.Asked.{HasFaultEarlier}
use Rattle.explained_changes.proofs.AskedLists.{none_missing}
use Rattle.explained_changes.proofs.lines.fault_line.Goals as goal

pub loop_line-requires-clause-kept : goal.loop_line-requires-clause-kept
loop_line-requires-clause-kept g c =
    let move = migration_of g.O.RouteSource.table g.N.RouteSource.table c.args.mixed.now in
    subst (λ (f : Fault). HasFaultEarlier move c.args.ranks.now c.args.told.0 (told_fault f c.args.ring.now)) c.in-Loop.is c.requires.kept

pub unreachable-requires : goal.unreachable-requires
unreachable-requires g c =
    let move = migration_of g.O.RouteSource.table g.N.RouteSource.table c.args.mixed.now in
    none_missing move (λ u. refl) c.args.ranks.now c.args.told.0 c.requires.list c.requires.item _ _
    (subst (λ (f : Fault). HasFaultEarlier move c.args.ranks.now c.args.told.0 (told_fault f c.args.ring.now)) c.in-Missing.is c.requires.kept)
