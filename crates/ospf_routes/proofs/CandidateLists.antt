-- The candidates, router by router.
use Rattle.std.proofs.Common.{◌≡◌, ℕ, ◌+◌, ◌<◌, inl, inr, List, [], ◌∷◌, length, refl, sym, subst, arith}
use Rattle.std.specs.List.{Contains, Any}
use Rattle.std.proofs.lemmas.Bool.{cases_lt}
use Rattle.net_addr.specs.Addresses.{Block, default_prefix}
use Rattle.net_model.proofs.Adjacency.{HasConfiguration-unique}
use Rattle.net_model.proofs.NetworkFacts.{HasConfiguration-within, UpInterface-within}
use Rattle.net_model.specs.Configuration.{Configuration}
use Rattle.net_model.specs.Network.{Network, HasConfiguration, UpInterface}
use Rattle.net_model.specs.declared.interface.Interface.{Interface}
use Rattle.net_addr.proofs.SomeElement.{any_of}
use Rattle.route_tables.specs.Lists.{Adds, Exactly}
use Rattle.ospf_routes.specs.steps.Candidates.{HasOspfSubnet, IsRangeOver, IsSubnetUnder, IsOspfCandidate, all, subnet, range}
use Rattle.ospf_routes.specs.steps.Subnets.{IsUpSubnet}
use Rattle.ospf_routes.specs.declared.subnets.Subnet.{Subnet}

-- the candidates of the routers below n are there
pub record AreCandidatesBelow (net : Network) (given : List Subnet) (n : ℕ) (dests : List Block) : Type 0 where
  pub all : Contains dests default_prefix
  pub subnets : (w : ℕ) (i : Interface) (p : Block) → w < n → UpInterface net w i → HasOspfSubnet p i → Contains dests p
  pub ranges : (w : ℕ) (config : Configuration) (p : Block) → w < n → HasConfiguration net w config → Any (IsRangeOver given p) config.ranges →
      Contains dests p

pub candidates_none : (net : Network) (subnets : List Subnet) (dests : List Block) → dests ≡ default_prefix ∷ [] →
    AreCandidatesBelow net subnets 0 dests
candidates_none net subnets dests is = record {
  all = subst (λ (l : List Block). Contains l default_prefix) (sym is) (0, omega arith, refl);
  subnets = λ w i q below. absurd (omega arith);
  ranges = λ w i q below. absurd (omega arith);
}

-- one more router: its subnets first, then its ranges
pub candidates_more : (net : Network) (subnets : List Subnet) (n : ℕ) (config : Configuration) (old mid new : List Block) →
    HasConfiguration net n config → AreCandidatesBelow net subnets n old → Adds old mid (λ p. Any (HasOspfSubnet p) config.interfaces) →
    Adds mid new (λ p. Any (IsRangeOver subnets p) config.ranges) → AreCandidatesBelow net subnets (n + 1) new
candidates_more net subnets n config old mid new router before first second =
    let keep : (p : Block) → Contains old p → Contains new p = λ p has. (second p).1 (inl ((first p).1 (inl has))) in
    record {
      all = keep default_prefix before.all;
      subnets = λ w i p below up has. elim (cases_lt w n) [
        | inl less ↦ keep p (before.subnets w i p less up has)
        | inr last ↦
            let same : w ≡ n = omega arith in
            let up_here : UpInterface net n i = subst (λ (k : ℕ). UpInterface net k i) same up in
            let is : up_here.config ≡ config = HasConfiguration-unique net n up_here.config config up_here.router router in
            (second p).1 (inl ((first p).1 (inr (any_of (HasOspfSubnet p) config.interfaces i
            (subst (λ (c : Configuration). Contains c.interfaces i) is up_here.among) has))))
      ];
      ranges = λ w other p below has have. elim (cases_lt w n) [
        | inl less ↦ keep p (before.ranges w other p less has have)
        | inr last ↦
            let same : w ≡ n = omega arith in
            let is : other ≡ config = HasConfiguration-unique net n other config (subst (λ (k : ℕ). HasConfiguration net k other) same has) router in
            (second p).1 (inr (subst (λ (c : Configuration). Any (IsRangeOver subnets p) c.ranges) is have))
      ];
    }

-- all candidates are there
pub candidates_all : (net : Network) (subnets : List Subnet) (n : ℕ) (dests : List Block) → length net ≡ n →
    Exactly (IsUpSubnet net) subnets →
    AreCandidatesBelow net subnets n dests → (p : Block) → IsOspfCandidate net p → Contains dests p
candidates_all net subnets n dests count up are p (all same) = subst (λ (x : Block). Contains dests x) (sym same) are.all
candidates_all net subnets n dests count up are p (subnet is) =
    let within : is.router < length net = UpInterface-within net is.router is.interface is.up in
    are.subnets is.router is.interface p (omega arith) is.up is.has
candidates_all net subnets n dests count up are p (range is) =
    let within : is.router < length net = HasConfiguration-within net is.router is.config is.has_config in
    are.ranges is.router is.config p (omega arith) is.has_config
    (any_of (IsRangeOver subnets p) is.config.ranges is.range is.among (record {
      dest = is.dest;
      over = any_of (IsSubnetUnder is.range) subnets is.subnet ((up is.subnet).1 is.up) is.under;
    }))
