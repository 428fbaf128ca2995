use Rattle.drawn_network.specs.Legends.{area_table}
use Rattle.drawn_network.proofs.Numbered.{numbered_more}
use Rattle.drawn_network.proofs.legend.with_area_rows.Goals as goal

pub loop-place-preserved : goal.loop-place-preserved
loop-place-preserved c =
    numbered_more (area_table c.args.columns c.args.areas.now) c.args.drawing c.loop-place.drawing c.in_ok-drawing.drawing
    c.loop-place.place
    c.in_ok-drawing.ensures c.loop-place.invariant
