use Rattle.std.proofs.Common.{ℕ, ◌<◌, length, arith, below_more, subst}
use Rattle.std.proofs.lemmas.Option.{slice_get_within}
use Rattle.net_model.specs.Configuration.{Configuration}
use Rattle.net_model.specs.Network.{HasConfiguration}
use Rattle.net_model.proofs.Adjacency.{HasConfiguration-unique}
use Rattle.net_model.proofs.RouterFacts.{IsLowest-from}
use Rattle.ospf_pair.specs.NetworkPairs.{NetworkPair, network_pair}
use Rattle.ospf_pair.specs.steps.Places.{MeetsAt}
use Rattle.ospf_pair.proofs.MetConditions.{within_new}
use Rattle.ospf_pair.proofs.least.first_meeting.Goals as goal

-- what holds of the configurations of a number, of which there is one in each network
meets_by : (P : Configuration → Configuration → Type 0) (nets : NetworkPair) (u : ℕ) (m : MeetsAt P nets u) (c d : Configuration) →
    HasConfiguration nets.old u c → HasConfiguration nets.new u d → P c d
meets_by P nets u m c d old new =
    subst (λ (x : Configuration). P x d) (HasConfiguration-unique nets.old u m.one c m.old old)
    (subst (λ (x : Configuration). P m.one x) (HasConfiguration-unique nets.new u m.other d m.new new) m.holds)

pub config-requires-in-loop-router : goal.config-requires-in-loop-router
config-requires-in-loop-router g c =
    within_new (network_pair c.args.old.now c.args.new.now) c.loop-router.router c.requires
    (let l : c.loop-router.router < length c.args.old.now = omega arith in l)

pub returns-then-is_met-clause-found : goal.returns-then-is_met-clause-found
returns-then-is_met-clause-found g c =
    let nets = network_pair c.args.old.now c.args.new.now in
    IsLowest-from (MeetsAt g.C.PairCondition.condition nets) c.loop-router.router
    (record {
      one = c.config.result.now;
      other = c.config-in-loop-router.result.now;
      old = c.config.ensures.router;
      new = c.config-in-loop-router.ensures.router;
      holds = c.is_met.ensures.0 c.if-is_met.true;
    }) c.loop-router.invariant

pub loop-router-preserved : goal.loop-router-preserved
loop-router-preserved g c = below_more _ _ c.loop-router.invariant (λ m.
    let met = c.is_met.ensures.1 (meets_by g.C.PairCondition.condition (network_pair c.args.old.now c.args.new.now) c.loop-router.router m
    c.config.result.now c.config-in-loop-router.result.now c.config.ensures.router c.config-in-loop-router.ensures.router) in
    let not = c.if-is_met.false in
    cc)

pub returns-clause-found : goal.returns-clause-found
returns-clause-found g c = λ u m.
    let within = slice_get_within c.args.old.now u m.one m.old in
    c.loop-router.invariant u (omega arith) m
