use Rattle.std.proofs.Common.{arith}
use Rattle.link_trail.proofs.MoveLemmas.{length-lists_before}
use Rattle.link_trail.proofs.WholeLemmas.{ShowsLists-apart}
use Rattle.link_trail.proofs.links.Links.mark.Goals as goal

pub returns-clause-count : goal.returns-clause-count
returns-clause-count c = rw (← c.self.view_is, length-lists_before) (omega arith)

pub returns-clause-apart : goal.returns-clause-apart
returns-clause-apart c =
    rw (← c.self.view_is) (ShowsLists-apart c.self.inside.nodes.items c.self.inside.ends.items _ c.self.invariant.links.shown)
