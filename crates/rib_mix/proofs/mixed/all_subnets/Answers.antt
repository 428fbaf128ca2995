use Rattle.std.proofs.Common.{ℕ, List}
use Rattle.net_addr.specs.Addresses.{Block}
use Rattle.rib_mix.specs.Rows.{AreSubnets}
use Rattle.prefix_atoms.proofs.Pushed.{count_more, each_more}
use Rattle.rib_mix.proofs.mixed.all_subnets.Goals as goal

pub loop-router-preserved : goal.loop-router-preserved
loop-router-preserved c = record {
  count = count_more c.loop-router.all.items c.push.new.self.items c.in_ok-subnets.subnets c.loop-router.router c.loop-router.invariant.count
      c.in_ok-push.ensures.items;
  each = each_more (λ (u : ℕ) (ps : List Block). AreSubnets c.args.net.now u ps) c.loop-router.all.items c.push.new.self.items
      c.in_ok-subnets.subnets c.loop-router.router c.loop-router.invariant.count c.loop-router.invariant.each c.in_ok-push.ensures.items
      c.in_ok-subnets.ensures;
}
