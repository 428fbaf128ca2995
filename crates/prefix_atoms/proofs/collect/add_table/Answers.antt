use Rattle.std.proofs.Common.{◌≡◌, ◌++◌, ◌∙◌, ℕ, List, ap, arith, take}
use Rattle.std.specs.List.{filter_map}
use Rattle.std.proofs.lemmas.Grind.{common_steps}
use Rattle.std.proofs.lemmas.List.Elements.{filter_map-append}
use Rattle.route_core.specs.Rows.{kept_in}
use Rattle.prefix_atoms.specs.steps.Lists.{seen_prefix, unseen_place}
use Rattle.prefix_atoms.proofs.CutSteps.{take_whole}
use Rattle.prefix_atoms.proofs.Unseen.{rows_gained, unseen_more}
use Rattle.prefix_atoms.proofs.collect.add_table.Goals as goal

pub loop-place-preserved : goal.loop-place-preserved
loop-place-preserved c = record { seen = grind (arith, common_steps, filter_map-append); left = grind (arith, common_steps, filter_map-append) }

pub returns-clause-gains : goal.returns-clause-gains
returns-clause-gains c =
    let all : take c.loop-place.place-index c.args.unseen.now ≡ c.args.unseen.now = take_whole c.args.unseen.now c.loop-place.place-index (omega arith) in
    rows_gained (kept_in c.args.table) c.args.unseen.now c.args.prefixes.now.items c.loop-place.prefixes.items c.requires.unseen
    (c.loop-place.invariant.seen
    ∙ ap (λ (xs : List ℕ). c.args.prefixes.now.items ++ filter_map (seen_prefix (kept_in c.args.table)) xs) all)

pub returns-clause-unseen : goal.returns-clause-unseen
returns-clause-unseen c =
    let all : take c.loop-place.place-index c.args.unseen.now ≡ c.args.unseen.now = take_whole c.args.unseen.now c.loop-place.place-index (omega arith) in
    unseen_more (kept_in c.args.table) c.args.unseen.now c.loop-place.left.items c.args.prefixes.now.items c.loop-place.prefixes.items c.requires.unseen
    (c.loop-place.invariant.seen
    ∙ ap (λ (xs : List ℕ). c.args.prefixes.now.items ++ filter_map (seen_prefix (kept_in c.args.table)) xs) all)
    (c.loop-place.invariant.left ∙ ap (filter_map (unseen_place (kept_in c.args.table))) all)
