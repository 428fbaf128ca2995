use Rattle.std.proofs.Common.{List, IsPermutation, sym, subst}
use Rattle.shown_tables.specs.declared.places.Placed.{Placed}
use Rattle.shown_tables.proofs.Sorting.{AreApart}
use Rattle.shown_tables.proofs.TableEntries.{in_prefix_order, placed_apart}
use Rattle.shown_tables.proofs.places.prefix_order.Goals as goal

pub sort_by_prefix-requires : goal.sort_by_prefix-requires
sort_by_prefix-requires c =
    subst AreApart (sym c.in_ok-all.ensures) (placed_apart c.args.igp c.args.prefixes.now c.requires)

pub returns : goal.returns
returns c =
    in_prefix_order c.args.igp c.args.prefixes.now _
    (subst (λ (l : List Placed). IsPermutation l c.sort_by_prefix.new.all.items) c.in_ok-all.ensures
    c.sort_by_prefix.ensures.same)
    c.sort_by_prefix.ensures.ascending
