use Rattle.std.proofs.Common.{◌≡◌, ◌+◌, ◌-◌, ◌<◌, false, length, set, vec_len, ap, ◌∙◌, arith}
use Rattle.std.proofs.lemmas.Grind.{common_steps}
use Rattle.std.proofs.lemmas.List.{length_push, length-set, length-take}
use Rattle.order_core.specs.Marks.{marked_count}
use Rattle.loop_finder.proofs.LiveLaws.{marked_below}
use Rattle.loop_finder.proofs.Peeling.{marked_count-set}
use Rattle.loop_finder.proofs.WalkSteps.{IsLast, last_read, last_marked, on_way_short, IsOnWay-more, IsOnWay-back, IsOnWay-end}
use Rattle.loop_finder.proofs.ring.walk.Goals as goal

pub returns-in-Some-place_of-clause-end : goal.returns-in-Some-place_of-clause-end
returns-in-Some-place_of-clause-end g c =
    let last : IsLast c.loop-path.path.items c.index-last.result.now = grind (arith, common_steps, last_read) in
    IsOnWay-end _ c.args.live.now c.loop-path.live c.args.start c.loop-path.path.items c.as_slice.result.now c.index-last.result.now c.in-Some.next
    c.in-Some-place_of.place c.loop-path.invariant.way last c.in-Some.ensures c.as_slice.ensures.value c.in-Some-place_of.ensures

pub visit-requires-in-Some : goal.visit-requires-in-Some
visit-requires-in-Some g c =
    let short : length c.loop-path.path.items < length c.loop-path.live =
    on_way_short _ c.args.live.now c.loop-path.live c.args.start c.loop-path.path.items c.as_slice.result.now c.in-Some.next c.loop-path.invariant.way
    c.in-Some.ensures.marked c.as_slice.ensures.value c.in_default.ensures in
    omega (arith, short, c.loop-path.path.ok.0, c.loop-path.invariant.room)

pub loop-path-smaller-in-Some : goal.loop-path-smaller-in-Some
loop-path-smaller-in-Some g c =
    let short : length c.loop-path.path.items < length c.loop-path.live =
    on_way_short _ c.args.live.now c.loop-path.live c.args.start c.loop-path.path.items c.as_slice.result.now c.in-Some.next c.loop-path.invariant.way
    c.in-Some.ensures.marked c.as_slice.ensures.value c.in_default.ensures in
    let more : length c.visit-in-Some.new.path.items ≡ length c.loop-path.path.items + 1 =
    ap length c.visit-in-Some.ensures.items ∙ length_push c.loop-path.path.items c.in-Some.next in
    omega (arith, short, more, c.loop-path.path.ok.0, c.visit-in-Some.new.path.ok.0)

pub loop-path-preserved-in-Some : goal.loop-path-preserved-in-Some
loop-path-preserved-in-Some g c =
    let last : IsLast c.loop-path.path.items c.index-last.result.now = grind (arith, common_steps, last_read) in
    record {
      way = rw c.visit-in-Some.ensures.items (IsOnWay-more _ c.args.live.now c.loop-path.live c.args.start c.loop-path.path.items c.as_slice.result.now
          c.index-last.result.now c.in-Some.next c.loop-path.invariant.way last c.in-Some.ensures c.as_slice.ensures.value c.in_default.ensures);
      room = omega (arith, c.loop-path.invariant.room, c.visit-in-Some.ensures.capacity);
      capacity = omega (arith, c.loop-path.invariant.capacity, c.visit-in-Some.ensures.capacity);
    }

pub loop-path-smaller : goal.loop-path-smaller
loop-path-smaller g c =
    let last : IsLast c.loop-path.path.items c.index-last.result.now = grind (arith, common_steps, last_read) in
    let marked = last_marked _ c.args.live.now c.loop-path.live c.args.start c.loop-path.path.items c.index-last.result.now c.loop-path.invariant.way last in
    let fewer : marked_count (set c.loop-path.live c.index-last.result.now false) + 1 ≡ marked_count c.loop-path.live =
    marked_count-set c.loop-path.live c.index-last.result.now (marked_below c.loop-path.live c.index-last.result.now marked) marked in
    omega (
      arith,
      fewer,
      last.some,
      length-set c.loop-path.live c.index-last.result.now false,
      ap length c.pop.ensures.rest,
      length-take (vec_len c.loop-path.path - 1) c.loop-path.path.items,
      c.loop-path.path.ok.0,
      c.pop.new.self.ok.0,
    )

pub loop-path-preserved : goal.loop-path-preserved
loop-path-preserved g c =
    let last : IsLast c.loop-path.path.items c.index-last.result.now = grind (arith, common_steps, last_read) in
    record {
      way = rw (c.pop.ensures.rest, c.loop-path.path.ok.0) (IsOnWay-back _ c.args.live.now c.loop-path.live c.args.start c.loop-path.path.items
          c.index-last.result.now c.loop-path.invariant.way last c.in-None.ensures);
      room = omega (arith, c.loop-path.invariant.room, c.pop.ensures.capacity, length-set c.loop-path.live c.index-last.result.now false);
      capacity = omega (arith, c.loop-path.invariant.capacity, c.pop.ensures.capacity);
    }
