use Rattle.std.proofs.Common.{◌≡◌, ◌++◌, take}
use Rattle.std.specs.List.{filter_map}
use Rattle.route_core.specs.Rows.{kept_in}
use Rattle.prefix_atoms.specs.steps.Lists.{seen_prefix, unseen_place}
use Rattle.prefix_atoms.proofs.collect.add_table.Given as goal

abbrev pub invariant-loop-place : goal.invariant-loop-place
invariant-loop-place l = record {
  seen : l.prefixes.items ≡ l.initial.prefixes.items ++ filter_map (seen_prefix (kept_in l.table)) (take l.place-index l.unseen);
  left : l.left.items ≡ filter_map (unseen_place (kept_in l.table)) (take l.place-index l.unseen);
}
