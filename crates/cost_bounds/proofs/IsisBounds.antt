-- IS-IS costs are at most the sum of all IS-IS metrics.
use Rattle.std.proofs.Common.{◌≡◌, ℕ, ◌+◌, ◌≤◌, get_or, ◌⊎◌, inl, inr, arith}
use Rattle.net_addr.specs.Addresses.{Block}
use Rattle.net_model.specs.Conditions.{isis_metric_sum}
use Rattle.net_model.specs.Network.{Network, Adjacent}
use Rattle.net_model.specs.declared.zone.Zone.TheVariants.{One, Two}
use Rattle.walk_core.specs.Walks.{LeastCost}
use Rattle.igp_theory.specs.Isis.{OffersLevelOne, LevelOneCost, OffersLevelTwo, LevelTwoAnnouncement, own, of_level_one}
use Rattle.igp_theory.specs.Isis.{LevelTwoCost, DownAnnouncement, DownCost, DefaultCost}
use Rattle.cost_bounds.specs.IsisCosts.{IsisCostsAreAtMost}
use Rattle.cost_bounds.proofs.SimpleWalks.{Reaches, offered_has_best}
use Rattle.cost_bounds.proofs.ZoneSums.{weights, zone_sum, levels_fit, interface_weight}
use Rattle.cost_bounds.proofs.ZoneCosts.{ZoneCost, cost_of_best, cost_of_walk, cost_of_offer, within_zone, both_within_zone}

module _ (net : Network) where
  one_cost : (p : Block) (u c : ℕ) (costs : LevelOneCost net p u c) → ZoneCost net One costs.best.at c
  one_cost p u c costs =
      cost_of_best net One (OffersLevelOne net p) u c costs.best
      (λ at asks offered. omega (arith, offered.costs, interface_weight net One at offered.interface offered.up offered.level))

  one_fits : (p : Block) (u c : ℕ) → LevelOneCost net p u c → c ≤ zone_sum net One
  one_fits p u c costs = within_zone net One costs.best.at c (one_cost p u c costs)

  two_offered : (p : Block) (b asks : ℕ) → OffersLevelTwo net p b asks → asks ≤ get_or (weights net Two) b 0
  two_offered p b asks offered =
      omega (arith, offered.costs, interface_weight net Two b offered.interface offered.up offered.level)

  -- a level 2 cost that is one of a walk in level 2 and one in level 1 from where it ends
  record OverLevelOne (p : Block) (c : ℕ) : Type 0 where
    from : ℕ
    walk : ℕ
    rest : ℕ
    over : walk ≤ zone_sum net Two
    costs : LevelOneCost net p from rest
    sum : walk + rest ≡ c

  two_by : (p : Block) (u c : ℕ) → LevelTwoCost net p u c → (c ≤ zone_sum net Two) ⊎ OverLevelOne p c
  two_by p u c costs = let at = costs.best.attained in by costs.best.at at.walk at.asks at.reached at.offered.offered at.costs
    where
      by : (b walk asks : ℕ) → LeastCost (Adjacent net Two) u b walk → LevelTwoAnnouncement net p b asks → walk + asks ≡ c →
          (c ≤ zone_sum net Two) ⊎ OverLevelOne p c
      by b walk asks reached (own runs offered) sum =
          let cost = cost_of_offer net Two u b walk asks reached (two_offered p b asks offered) in
          inl (omega (arith, sum, within_zone net Two b (walk + asks) cost))
      by b walk asks reached (of_level_one runs one) sum = inr (record {
        from = b;
        walk = walk;
        rest = asks;
        over = within_zone net Two b walk (cost_of_walk net Two u b walk reached);
        costs = one;
        sum = sum;
      })

  two_fits : (p : Block) (u c : ℕ) → LevelTwoCost net p u c → c ≤ isis_metric_sum net
  two_fits p u c costs = elim (two_by p u c costs) [
    | inl alone ↦ omega (arith, alone, levels_fit net)
    | inr mixed ↦ omega (arith, mixed.over, mixed.sum, one_fits p mixed.from mixed.rest mixed.costs, levels_fit net)
  ]

  -- a walk in level 1 to a router that leaks, and what it announces: level 1 leads from it to no router that offers the prefix
  leaked_fits : (p : Block) (b d c : ℕ) → ZoneCost net One b d → DownAnnouncement net p b c → d + c ≤ isis_metric_sum net
  leaked_fits p b d c walk down = elim (two_by p b c down.costs) [
    | inl alone ↦ omega (arith, alone, within_zone net One b d walk, levels_fit net)
    | inr mixed ↦
        let v = mixed.costs.best.at in
        let end = mixed.costs.best.attained in
        let apart : Reaches (Adjacent net One) b v → ⊥ = λ way.
        offered_has_best (Adjacent net One) (OffersLevelOne net p) b v end.asks way end.offered
        (λ cost best.
        down.without_level_one (record { cost = cost; costs = record { runs = down.leaks.runs_level_one; best = best } })) in
        let both = both_within_zone net One b d v mixed.rest walk (one_cost p mixed.from mixed.rest mixed.costs) apart in
        omega (arith, both, mixed.over, mixed.sum, levels_fit net)
  ]

  down_fits : (p : Block) (u c : ℕ) → DownCost net p u c → c ≤ isis_metric_sum net
  down_fits p u c costs =
      let b = costs.best.at in
      let at = costs.best.attained in
      omega (arith, at.costs, leaked_fits p b at.walk at.asks (cost_of_walk net One u b at.walk at.reached) at.offered.offered)

  default_fits : (u c : ℕ) → DefaultCost net u c → c ≤ isis_metric_sum net
  default_fits u c costs =
      let at = costs.best.attained in
      omega (
        arith,
        at.costs,
        at.offered.costs,
        within_zone net One costs.best.at at.walk (cost_of_walk net One u costs.best.at at.walk at.reached),
        levels_fit net,
      )

  pub isis_costs_at_most : (most : ℕ) → isis_metric_sum net ≤ most → IsisCostsAreAtMost net most
  isis_costs_at_most most fits = record {
    level_one = λ p u c costs. omega (arith, fits, one_fits p u c costs, levels_fit net);
    level_two = λ p u c costs. omega (arith, fits, two_fits p u c costs);
    down = λ p u c costs. omega (arith, fits, down_fits p u c costs);
    default_route = λ u c costs. omega (arith, fits, default_fits u c costs);
  }
