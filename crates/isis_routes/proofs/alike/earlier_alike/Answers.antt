use Rattle.isis_routes.proofs.AlikeFacts.{named_more}
use Rattle.isis_routes.proofs.DestinationFacts.{pushed_count}
use Rattle.isis_routes.proofs.alike.earlier_alike.Goals as goal

pub loop-place-preserved : goal.loop-place-preserved
loop-place-preserved c = record {
  count = pushed_count c.loop-place.all.items c.push.new.self.items c.loop-place.place c.alike_before.result c.loop-place.invariant.count
      c.in_ok-push.ensures.items;
  alike = named_more c.args.destinations.now c.loop-place.all.items c.push.new.self.items c.loop-place.place c.alike_before.result
      c.loop-place.invariant.count c.in_ok-push.ensures.items c.loop-place.invariant.alike c.alike_before.ensures;
}
