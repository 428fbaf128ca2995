use Rattle.std.proofs.lemmas.Grind.{common_steps}
use Rattle.std.proofs.Common.{arith}
use Rattle.std.proofs.lemmas.List.{map_more, take_all}
use Rattle.rib_mix.proofs.UpLaws.{top_within}
use Rattle.rib_mix.proofs.mixed.class_sorts.Goals as goal

pub sort_at-requires : goal.sort_at-requires
sort_at-requires c = grind (arith, common_steps, top_within)

pub loop-top-preserved : goal.loop-top-preserved
loop-top-preserved c = grind (arith, common_steps, map_more)

pub returns : goal.returns
returns c = grind (arith, common_steps, take_all)
