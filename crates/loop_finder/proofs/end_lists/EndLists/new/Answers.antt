use Rattle.std.proofs.Common.{refl}
use Rattle.loop_finder.proofs.PartRows.{none_in}
use Rattle.loop_finder.specs.steps.EndPairs.{new_hops, old_hops}
use Rattle.loop_finder.proofs.end_lists.EndLists.new.Goals as goal

pub returns : goal.returns
returns c = rw (c.in_ok-all.ensures.items_if_clones_equal (λ y is. is))
    (record { olds = none_in old_hops _ c.args.routers refl; news = none_in new_hops _ c.args.routers refl })
