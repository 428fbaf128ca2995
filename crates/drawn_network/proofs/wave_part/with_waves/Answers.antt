use Rattle.drawn_network.specs.Marks.{fault_marked}
use Rattle.drawn_network.specs.RouterLines.{wave_nodes}
use Rattle.drawn_network.proofs.Numbered.{numbered_more}
use Rattle.drawn_network.proofs.wave_part.with_waves.Goals as goal

pub loop-wave-preserved : goal.loop-wave-preserved
loop-wave-preserved c =
    let told = c.args.told.now in
    numbered_more (wave_nodes told.net.now (fault_marked told.mark) told.target c.args.waves.now) c.args.drawing
    c.loop-wave.drawing
    c.in_ok-drawing.drawing c.loop-wave.wave c.in_ok-drawing.ensures c.loop-wave.invariant
