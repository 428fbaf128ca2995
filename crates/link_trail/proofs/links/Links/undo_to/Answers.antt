use Rattle.std.proofs.Common.{arith}
use Rattle.link_trail.proofs.UndoLemmas.{undone-trail}
use Rattle.link_trail.proofs.links.Links.undo_to.Goals as goal

pub returns-clause-trail : goal.returns-clause-trail
returns-clause-trail c =
    undone-trail c.args.self.now c.loop-self.self c.args.mark c.loop-self.invariant.1
    (omega (arith, c.loop-self.invariant.0, c.loop-self-test.false, c.mark.ensures.count))
