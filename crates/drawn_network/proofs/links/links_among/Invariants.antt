use Rattle.std.proofs.Common.{◌≡◌, take, drop}
use Rattle.std.specs.List.{flat_map}
use Rattle.order_core.specs.Rankings.{numbers_below}
use Rattle.drawn_network.specs.LinkEnds.{link_begun}
use Rattle.drawn_network.proofs.links.links_among.Given as goal

abbrev pub invariant-loop-place : goal.invariant-loop-place
invariant-loop-place l = l.links.items ≡ flat_map (λ k. link_begun (take k l.ends) (drop k l.ends)) (numbers_below l.place)
