use Rattle.std.proofs.Common.{take}
use Rattle.zone_graph.specs.steps.LinkLists.{AreLinksOf}
use Rattle.zone_graph.proofs.links.Links.among.Given as goal

abbrev pub invariant-loop-interface : goal.invariant-loop-interface
invariant-loop-interface l = AreLinksOf l.zone (take l.interface-index l.interfaces) l.all.items
