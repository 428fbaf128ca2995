use Rattle.net_model.specs.RouterNames.{names_of}
use Rattle.drawn_network.specs.RingLines.{red_line_at}
use Rattle.drawn_network.proofs.Numbered.{numbered_more}
use Rattle.drawn_network.proofs.ring_part.with_ring.Goals as goal

pub loop-place-preserved : goal.loop-place-preserved
loop-place-preserved c =
    numbered_more (red_line_at (names_of c.args.net.now) c.args.turns.now) c.args.drawing c.loop-place.drawing
    c.in_ok-drawing.drawing
    c.loop-place.place c.in_ok-drawing.ensures c.loop-place.invariant
