use Rattle.std.proofs.Common.{◌≡◌, ◌∙◌, ℕ, arith, length, subst, sym}
use Rattle.loop_finder.specs.Watches.{AreFirstPlaces}
use Rattle.loop_finder.proofs.WatchLaws.{AreFirstPlaces-more, no_places}
use Rattle.loop_finder.proofs.watch.Places.of_router.Goals as goal

pub loop-place-preserved : goal.loop-place-preserved
loop-place-preserved c =
    AreFirstPlaces-more c.args.parts.now c.args.router c.loop-place.place c.index-parts-place.result c.loop-place.room.items
    c.add_place.new.places.items (omega arith) c.index-parts-place.is c.loop-place.invariant c.in_ok-add_place.ensures

pub loop-place-init : goal.loop-place-init
loop-place-init c = no_places c.args.parts.now c.args.router c.clear.new.self.items c.clear.ensures.items

pub returns : goal.returns
returns c =
    let all : c.loop-place.place ≡ length c.args.parts.now =
    omega (arith, c.loop-place-test.false, c.loop-place.auto.place-end, c.in-Ok.ensures.1) in
    subst (λ (n : ℕ). AreFirstPlaces c.args.parts.now c.args.router n c.in_ok-all.all.items) all
    (subst (AreFirstPlaces c.args.parts.now c.args.router c.loop-place.place)
    (sym (c.in_ok-all.ensures.items ∙ c.as_slice.ensures.value)) c.loop-place.invariant)
