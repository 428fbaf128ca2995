use Rattle.std.proofs.Common.{arith}
use Rattle.std.proofs.lemmas.Grind.{common_steps}
use Rattle.step_scripts.proofs.TextFacts.{text_more, wave_below}
use Rattle.step_scripts.proofs.waves_writing.with_waves.Goals as goal

pub named_line-requires : goal.named_line-requires
named_line-requires c = grind (arith, common_steps, wave_below)

pub loop-wave-preserved : goal.loop-wave-preserved
loop-wave-preserved c = grind (arith, common_steps, text_more)
