-- The candidates, router by router.
use Rattle.std.proofs.Common.{◌≡◌, ℕ, ◌+◌, ◌<◌, inl, inr, List, [], ◌∷◌, length, refl, sym, subst, arith}
use Rattle.std.specs.List.{Contains, Any}
use Rattle.std.proofs.lemmas.Bool.{cases_lt}
use Rattle.net_addr.specs.Addresses.{Block, default_prefix}
use Rattle.net_model.proofs.Adjacency.{HasConfiguration-unique}
use Rattle.net_model.proofs.NetworkFacts.{UpInterface-within}
use Rattle.net_model.specs.Configuration.{Configuration}
use Rattle.net_model.specs.Network.{Network, HasConfiguration, UpInterface}
use Rattle.net_model.specs.declared.interface.Interface.{Interface}
use Rattle.net_addr.proofs.SomeElement.{any_of}
use Rattle.route_tables.specs.Lists.{Adds}
use Rattle.isis_routes.specs.steps.Candidates.{HasIsisSubnet, IsIsisCandidate}

-- the candidates of the routers below n are there
pub record AreCandidatesBelow (net : Network) (n : ℕ) (dests : List Block) : Type 0 where
  pub all : Contains dests default_prefix
  pub subnets : (w : ℕ) (i : Interface) (p : Block) → w < n → UpInterface net w i → HasIsisSubnet p i → Contains dests p

pub candidates_none : (net : Network) (dests : List Block) → dests ≡ default_prefix ∷ [] → AreCandidatesBelow net 0 dests
candidates_none net dests is = record {
  all = subst (λ (l : List Block). Contains l default_prefix) (sym is) (0, omega arith, refl);
  subnets = λ w i q below. absurd (omega arith);
}

-- one more router
pub candidates_more : (net : Network) (n : ℕ) (config : Configuration) (old new : List Block) → HasConfiguration net n config →
    AreCandidatesBelow net n old → Adds old new (λ p. Any (HasIsisSubnet p) config.interfaces) → AreCandidatesBelow net (n + 1) new
candidates_more net n config old new router before adds = record {
  all = (adds default_prefix).1 (inl before.all);
  subnets = λ w i p below up has. elim (cases_lt w n) [
    | inl less ↦ (adds p).1 (inl (before.subnets w i p less up has))
    | inr last ↦
        let same : w ≡ n = omega arith in
        let up_here : UpInterface net n i = subst (λ (k : ℕ). UpInterface net k i) same up in
        let is : up_here.config ≡ config = HasConfiguration-unique net n up_here.config config up_here.router router in
        (adds p).1 (inr (any_of (HasIsisSubnet p) config.interfaces i (subst (λ (c : Configuration). Contains c.interfaces i) is up_here.among) has))
  ];
}

-- all candidates are there
pub candidates_all : (net : Network) (n : ℕ) (dests : List Block) → length net ≡ n → AreCandidatesBelow net n dests → (p : Block) → IsIsisCandidate net p →
    Contains dests p
candidates_all net n dests count are p (inl same) = subst (λ (x : Block). Contains dests x) (sym same) are.all
candidates_all net n dests count are p (inr is) =
    let within : is.router < length net = UpInterface-within net is.router is.interface is.up in
    are.subnets is.router is.interface p (omega arith) is.up is.has
