use Rattle.std.proofs.Common.{arith}
use Rattle.std.specs.Prelude.{is_ok}
use Rattle.link_trail.proofs.WholeLemmas.{links-resized}
use Rattle.link_trail.proofs.links.Links.widen.Goals as goal

pub invariant_of-self : goal.invariant_of-self
invariant_of-self c = record {
  links = links-resized c.self.inside.nodes.items c.resize.new.self.items c.self.inside.ends.items c.self.inside.moves.items
      c.max-count.result c.self.inside.nodes.len (is_ok c.resize.result) c.resize.ensures.items (omega arith) c.self.invariant.links;
  within = c.self.invariant.within;
  reserved = c.self.invariant.reserved;
  bound = c.self.invariant.bound;
}
