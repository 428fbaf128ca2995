use Rattle.std.proofs.Common.{ℕ, List, length, sym, subst}
use Rattle.order_core.specs.Orders.{IsOrder}
use Rattle.order_core.specs.Rankings.{IsRanking, flat_of}
use Rattle.order_core.proofs.WaveLists.{flat_is_order}
use Rattle.migrate_bench.proofs.faults.find.Goals as goal

pub order_fault-requires : goal.order_fault-requires
order_fault-requires g c =
    subst (λ (order : List ℕ). IsOrder (length c.args.finder.now.mixture.net) order) (sym c.flat.ensures)
    (subst (λ (n : ℕ). IsOrder n (flat_of c.args.waves.now)) c.requires (flat_is_order c.args.waves.now))

pub waves_fault-requires : goal.waves_fault-requires
waves_fault-requires g c =
    subst (λ (ranks : List ℕ). IsRanking (length c.args.finder.now.mixture.net) ranks) (sym c.ranks.ensures.ranks)
    (subst (λ (n : ℕ). IsRanking n c.args.waves.now) c.requires c.ranks.ensures.ranking)
