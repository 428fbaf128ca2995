use Rattle.std.proofs.Common.{[], drop, take}
use Rattle.drawn_network.specs.LinkEnds.{link_begun}
use Rattle.drawn_network.proofs.Numbered.{numbered_more}
use Rattle.drawn_network.proofs.links.links_among.Goals as goal

pub loop-place-preserved : goal.loop-place-preserved
loop-place-preserved c =
    let ends = c.args.ends.now in
    numbered_more (λ k. link_begun (take k ends) (drop k ends)) [] c.loop-place.links.items c.push_link.new.links.items
    c.loop-place.place
    c.in_ok-push_link.ensures c.loop-place.invariant
