-- What border routers give, by the list of them.
use Rattle.std.proofs.Common.{◌≡◌, ℕ, ◌<◌, Bool, List, length, get_or, refl, sym, subst}
use Rattle.std.proofs.lemmas.List.Elements.{Contains-get_or}
use Rattle.net_model.proofs.NetworkFacts.{InArea-within}
use Rattle.net_model.specs.Network.{Network, IsBorderRouter}
use Rattle.route_tables.proofs.ListFacts.{AnyBelow}
use Rattle.ospf_routes.specs.steps.AreaReach.{IsThisBorder}
use Rattle.ospf_routes.specs.steps.Areas.{IsArea}
use Rattle.ospf_routes.specs.declared.areas.AreaWalks.{AreaWalks}
use Rattle.ospf_routes.specs.Lists.{Exactly}
use Rattle.ospf_routes.specs.steps.Members.{AreMembersBelow, IsBorderIn, IsThisBorderAmong}

-- a border router is a router
pub border_is_router : (net : Network) (b : ℕ) → IsBorderRouter net b → b < length net
border_is_router net b border = InArea-within net b border.one border.in_one

pub listed_is_border : (net : Network) (borders : List ℕ) (i d : ℕ) → Exactly (IsBorderRouter net) borders → i < length borders →
    IsBorderRouter net (get_or borders i d)
listed_is_border net borders i d are within = (are (get_or borders i d)).0 (Contains-get_or borders i d within)

pub listed_is_router : (net : Network) (borders : List ℕ) (i d : ℕ) → Exactly (IsBorderRouter net) borders → i < length borders →
    get_or borders i d < length net
listed_is_router net borders i d are within =
    border_is_router net (get_or borders i d) (listed_is_border net borders i d are within)

-- a border router is one of those below the count
pub border_below_count : (net : Network) (n : ℕ) → length net ≡ n → (v : ℕ) → IsBorderRouter net v → AnyBelow (IsThisBorder net) n v
border_below_count net n count v border =
    record { source = v; below = subst (λ m. v < m) count (border_is_router net v border); given = record { this = refl; border = border } }

-- and a border router in an area
pub inner_below_count : (net : Network) (area : ℕ) (members : List Bool) (n : ℕ) → AreMembersBelow net area (length net) members → length net ≡ n →
    (v : ℕ) → IsBorderIn net area v → AnyBelow (IsThisBorderAmong net members) n v
inner_below_count net area members n are count v is =
    let below = border_is_router net v is.border in record {
      source = v;
      below = subst (λ m. v < m) count below;
      given = record { this = refl; member = (are.each v below).1 is.inside; border = is.border };
    }

-- a border router among the members of an area
pub inner_is : (net : Network) (area : ℕ) (members : List Bool) (u v : ℕ) → AreMembersBelow net area (length net) members →
    IsThisBorderAmong net members u v → IsBorderIn net area v
inner_is net area members u v are is = record { inside = (are.each v (border_is_router net v is.border)).0 is.member; border = is.border }

-- the border routers of an area, one by one
pub inner_at : (net : Network) (area : AreaWalks) (given : List ℕ) (i d : ℕ) → IsArea net area → given ≡ area.borders → i < length given →
    IsBorderIn net area.number (get_or given i d)
inner_at net area given i d is same within =
    (subst (Exactly (IsBorderIn net area.number)) (sym same) is.borders (get_or given i d)).0 (Contains-get_or given i d within)

pub inner_is_router : (net : Network) (area : AreaWalks) (given : List ℕ) (i d : ℕ) → IsArea net area → given ≡ area.borders → i < length given →
    get_or given i d < length net
inner_is_router net area given i d is same within = border_is_router net (get_or given i d) (inner_at net area given i d is same within).border
