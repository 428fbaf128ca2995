use Rattle.std.proofs.Common.{arith}
use Rattle.std.proofs.lemmas.Grind.{common_steps}
use Rattle.igp_theory.proofs.FlatOrders.{flat_is_seamless}
use Rattle.igp_theory.proofs.OnesRuns.{order_is_seamless}
use Rattle.igp_theory.proofs.wave_laws.seamless_waves_are_orders.Goals as goal

pub returns : goal.returns
returns g c = grind (arith, common_steps, flat_is_seamless, order_is_seamless)
