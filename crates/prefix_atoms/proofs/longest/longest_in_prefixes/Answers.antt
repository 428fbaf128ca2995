use Rattle.std.proofs.Common.{◌≡◌, ◌<◌, Some, length, refl, rules, slice_get}
use Rattle.std.proofs.lemmas.Option.{slice_get_read}
use Rattle.prefix_atoms.proofs.LongestSteps.{kept_next, blocks_next}
use Rattle.prefix_atoms.proofs.longest.longest_in_prefixes.Goals as goal

pub loop-place-preserved : goal.loop-place-preserved
loop-place-preserved c =
    let within : c.loop-place.place < length c.args.prefixes.now = search rules in
    let at : slice_get c.args.prefixes.now c.loop-place.place ≡ Some c.index-prefixes-place.result =
    slice_get_read c.args.prefixes.now (length c.args.prefixes.now) c.loop-place.place c.index-prefixes-place.result refl within
    c.index-prefixes-place.is in
    record {
      longest = kept_next c.args.prefixes.now (λ place. place) c.loop-place.place c.index-prefixes-place.result c.loop-place.place
          c.args.addresses.now _ _ at refl c.take_prefix-near.ensures.longest c.loop-place.invariant.longest;
      blocks = blocks_next c.args.prefixes.now c.loop-place.place c.index-prefixes-place.result at c.loop-place.invariant.blocks
          c.take_prefix-near.ensures.block;
    }
