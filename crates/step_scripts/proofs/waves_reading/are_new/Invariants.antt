use Rattle.std.proofs.Common.{◌++◌, take}
use Rattle.order_core.specs.Orders.{AreDistinct}
use Rattle.step_scripts.specs.WaveFiles.{all_in}
use Rattle.step_scripts.proofs.waves_reading.are_new.Given as goal

abbrev pub invariant-loop-place : goal.invariant-loop-place
invariant-loop-place l = AreDistinct (all_in l.seats ++ take l.place l.routers)
