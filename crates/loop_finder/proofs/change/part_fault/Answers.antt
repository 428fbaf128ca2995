use Rattle.loop_finder.proofs.WatchLaws.{stays_where_kept, stays_where_never, stays_where_told}
use Rattle.loop_finder.specs.Mixes.{mix_of}
use Rattle.loop_finder.proofs.change.part_fault.Goals as goal

pub returns-then-keeps_hops-clause-sound : goal.returns-then-keeps_hops-clause-sound
returns-then-keeps_hops-clause-sound g c = stays_where_kept (mix_of g.O.RouteSource.table g.N.RouteSource.table c.args.mixed.now) c.args.part.now _
    c.requires.part c.if-keeps_hops.ensures.moves c.if-keeps_hops.ensures.hops

pub returns-then-passes_part_never-clause-sound : goal.returns-then-passes_part_never-clause-sound
returns-then-passes_part_never-clause-sound g c = stays_where_never (mix_of g.O.RouteSource.table g.N.RouteSource.table c.args.mixed.now) c.args.part.now _
    c.requires.part c.if-passes_part_never.ensures.moves c.if-passes_part_never.ensures.never

pub returns-clause-sound : goal.returns-clause-sound
returns-clause-sound g c = stays_where_told (mix_of g.O.RouteSource.table g.N.RouteSource.table c.args.mixed.now) _ c.args.part.now.atom
    c.class_fault.result c.class_fault.new.room.ring.items c.class_fault.ensures.told
