use Rattle.std.proofs.Common.{◌≡◌, Some, length, arith, refl, rules, slice_get}
use Rattle.std.proofs.lemmas.Option.{slice_get_read}
use Rattle.rib_mix.proofs.SpotLaws.{spot_next}
use Rattle.rib_mix.proofs.spots.find_spots.Goals as goal

pub loop-spot-preserved : goal.loop-spot-preserved
loop-spot-preserved c =
    let many : c.in-Ok.count ≡ length c.args.list.now = search rules in
    let at : slice_get c.args.list.now c.loop-spot.spot ≡ Some c.index-list-spot.result =
    slice_get_read c.args.list.now (length c.args.list.now) c.loop-spot.spot c.index-list-spot.result refl
    (omega (arith, c.loop-spot-test.true)) c.index-list-spot.is in
    spot_next c.args.prefixes.now c.args.list.now c.loop-spot.spot c.index-list-spot.result c.place_near-place.result
    c.loop-spot.spots.items c.put_spot.new.spots.items c.requires at c.place_near-place.ensures.found
    (c.place_near-place.ensures.missed c.requires) c.in_ok-put_spot.ensures c.loop-spot.invariant
