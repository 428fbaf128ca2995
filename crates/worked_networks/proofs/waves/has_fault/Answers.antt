use Rattle.std.proofs.Common.{ℕ, List, length, sym, subst}
use Rattle.order_core.specs.Rankings.{IsRanking}
use Rattle.worked_networks.proofs.waves.has_fault.Goals as goal

pub waves_fault-requires : goal.waves_fault-requires
waves_fault-requires g c =
    subst (λ (ranks : List ℕ). IsRanking (length c.args.finder.now.mixture.net) ranks) (sym c.ranks.ensures.ranks)
    (subst (λ (n : ℕ). IsRanking n c.args.waves.now) c.requires c.ranks.ensures.ranking)
