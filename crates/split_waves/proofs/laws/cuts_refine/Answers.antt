use Rattle.split_waves.proofs.CutWaves.{cuts_refine}
use Rattle.split_waves.proofs.laws.cuts_refine.Goals as goal

pub returns : goal.returns
returns c = cuts_refine
