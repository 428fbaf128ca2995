-- How much IS-IS costs at most: the sum that a network is refused by, which is at most the greatest metric of a path.
use Rattle.std.specs.Prelude.{ℕ, ◌≤◌, List}
use Rattle.net_addr.specs.Addresses.{Block}
use Rattle.net_model.specs.Conditions.{isis_metric_sum}
use Rattle.net_model.specs.Configuration.{Configuration}
use Rattle.net_model.specs.Network.{Network}
use Rattle.net_model.specs.Refusals.{MakeNetwork}
use Rattle.net_model.specs.declared.bounds.TheConstants.{MOST_PATH_METRIC}
use Rattle.igp_theory.specs.Isis.{LevelOneCost, LevelTwoCost, DownCost, DefaultCost}

-- no cost of IS-IS is above this one: neither of a level, nor down, nor of a default
pub record IsisCostsAreAtMost (net : Network) (most : ℕ) : Type 0 where
  pub level_one : (p : Block) (u cost : ℕ) → LevelOneCost net p u cost → cost ≤ most
  pub level_two : (p : Block) (u cost : ℕ) → LevelTwoCost net p u cost → cost ≤ most
  pub down : (p : Block) (u cost : ℕ) → DownCost net p u cost → cost ≤ most
  pub default_route : (u cost : ℕ) → DefaultCost net u cost → cost ≤ most

-- in any network no cost is above the sum of all IS-IS metrics
abbrev pub IsisCostsAreAtMostSum : Type 0
IsisCostsAreAtMostSum = (net : Network) → IsisCostsAreAtMost net (isis_metric_sum net)

-- in a network that configurations make no cost is above the greatest metric of a path (RFC 5305, section 3)
abbrev pub IsisCostsArePathMetrics : Type 0
IsisCostsArePathMetrics =
    (configs : List Configuration) (net : Network) → MakeNetwork configs net → IsisCostsAreAtMost net MOST_PATH_METRIC
