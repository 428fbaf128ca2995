use Rattle.drawn_network.specs.Legends.{wave_part}
use Rattle.drawn_network.proofs.Numbered.{numbered_more}
use Rattle.drawn_network.proofs.legend.with_wave_rows.Goals as goal

pub loop-wave-preserved : goal.loop-wave-preserved
loop-wave-preserved c =
    numbered_more (wave_part c.args.columns c.args.waves) c.args.drawing c.loop-wave.drawing c.in_ok-drawing.drawing
    c.loop-wave.wave
    c.in_ok-drawing.ensures c.loop-wave.invariant
