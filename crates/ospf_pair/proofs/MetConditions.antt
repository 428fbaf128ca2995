-- Routers that meet a condition, by their names and by their numbers.
use Rattle.std.proofs.Common.{◌≡◌, ℕ, ◌<◌, List, [], ◌∷◌, length, get_or, refl, ap, subst, ◌∙◌, arith}
use Rattle.std.proofs.lemmas.Option.{slice_get-get_or}
use Rattle.net_model.specs.Configuration.{Configuration}
use Rattle.net_model.specs.Least.{IsLowest}
use Rattle.net_model.specs.Lookups.{IsNamed}
use Rattle.net_model.specs.Network.{Network, HasConfiguration}
use Rattle.net_model.specs.Refusals.{NamesAscend}
use Rattle.net_model.proofs.Adjacency.{HasConfiguration-unique}
use Rattle.net_model.proofs.Names.{named_within}
use Rattle.net_model.proofs.NetworkFacts.{IsNamed-unique}
use Rattle.ospf_pair.specs.NetworkPairs.{NetworkPair, HaveSameRouters, RouterMeets, NoRouterMeets}
use Rattle.ospf_pair.specs.PairRefusals.{IsLeastName}
use Rattle.ospf_pair.specs.steps.Places.{MeetsAt}
use Rattle.ospf_pair.proofs.MissingNames.{named_lower}

-- each number below the count of routers is one of a router
pub configuration_at : (net : Network) (u : ℕ) → u < length net → (c : Configuration) × HasConfiguration net u c
configuration_at [] u l = absurd (omega arith)
configuration_at (c ∷ net) u l = (get_or (c ∷ net) u c, slice_get-get_or (c ∷ net) u c l)

pub named_by : (net : Network) (u : ℕ) (c : Configuration) → HasConfiguration net u c → IsNamed net c.name u
named_by net u c at = record { config = c; router = at; name_is = refl }

-- a number of one network is one of the other
pub within_new : (nets : NetworkPair) (u : ℕ) → HaveSameRouters nets → u < length nets.old → u < length nets.new
within_new nets u same l =
    let at = configuration_at nets.old u l in
    named_within nets.new at.0.name u ((same at.0.name u).0 (named_by nets.old u at.0 at.1))

pub within_old : (nets : NetworkPair) (u : ℕ) → HaveSameRouters nets → u < length nets.new → u < length nets.old
within_old nets u same l =
    let at = configuration_at nets.new u l in
    named_within nets.old at.0.name u ((same at.0.name u).1 (named_by nets.new u at.0 at.1))

-- the configurations of one number are of one name
pub one_name : (nets : NetworkPair) (u : ℕ) (c d : Configuration) → HaveSameRouters nets → HasConfiguration nets.old u c →
    HasConfiguration nets.new u d → d.name ≡ c.name
one_name nets u c d same old new =
    let its = (same c.name u).0 (named_by nets.old u c old) in
    ap (λ (e : Configuration). e.name) (HasConfiguration-unique nets.new u d its.config new its.router) ∙ its.name_is

module _ (P : Configuration → Configuration → Type 0) (nets : NetworkPair) (same : HaveSameRouters nets) where
  pub RouterMeets-from : (u : ℕ) (m : MeetsAt P nets u) → RouterMeets P nets m.one.name
  RouterMeets-from u m = record {
    old_router = u;
    new_router = u;
    old = record { config = m.one; router = m.old; name_is = refl };
    new = record { config = m.other; router = m.new; name_is = one_name nets u m.one m.other same m.old m.new };
    holds = m.holds;
  }

  module _ (old_up : NamesAscend nets.old) where
    pub MeetsAt-from : (name : List ℕ) (m : RouterMeets P nets name) → MeetsAt P nets m.old_router
    MeetsAt-from name m =
        let e : m.new_router ≡ m.old_router =
        IsNamed-unique nets.old name m.new_router m.old_router old_up ((same name m.new_router).1 m.new) m.old in
        record {
          one = m.old.config;
          other = m.new.config;
          old = m.old.router;
          new = subst (λ (v : ℕ). HasConfiguration nets.new v m.new.config) e m.new.router;
          holds = m.holds;
        }

    pub NoRouterMeets-from : ((u : ℕ) → MeetsAt P nets u → ⊥) → NoRouterMeets P nets
    NoRouterMeets-from none name m = none m.old_router (MeetsAt-from name m)

    -- the lowest number has the least name
    pub IsLeastName-from_lowest : (u : ℕ) (name : List ℕ) → IsNamed nets.old name u → IsLowest (MeetsAt P nets) u →
        IsLeastName (RouterMeets P nets) name
    IsLeastName-from_lowest u name named lowest =
        let is : lowest.holds.one.name ≡ name =
        ap (λ (e : Configuration). e.name) (HasConfiguration-unique nets.old u lowest.holds.one named.config lowest.holds.old named.router)
        ∙ named.name_is in
        record {
          holds = subst (RouterMeets P nets) is (RouterMeets-from u lowest.holds);
          least = λ its m below.
              let lower : m.old_router < u = named_lower nets.old name its u m.old_router old_up named m.old below in
              let least = lowest.least m.old_router (MeetsAt-from its m) in
              absurd (omega arith);
        }
