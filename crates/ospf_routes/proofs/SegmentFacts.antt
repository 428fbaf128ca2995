-- The segments of all areas join the routers that are adjacent in some area.
use Rattle.std.proofs.Common.{ℕ, inl, inr, List, [], ◌∷◌, ◌++◌, subst, sym}
use Rattle.std.proofs.lemmas.List.Quantifiers.{Any-push}
use Rattle.net_model.proofs.NetworkFacts.{Adjacent-in_area}
use Rattle.net_model.specs.Network.{Network, Adjacent, InArea}
use Rattle.net_model.specs.declared.zone.Zone.TheVariants.{Area}
use Rattle.walk_core.specs.declared.segment.Port.{Port}
use Rattle.zone_graph.specs.Segments.{AreZoneSegments}
use Rattle.igp_theory.specs.Laws.{IsOspfNeighbor}
use Rattle.route_tables.specs.Entries.{AreJoinedBy}
use Rattle.route_tables.proofs.JoinedLaws.{joined_both}
use Rattle.net_addr.proofs.SomeElement.{any_cases, any_in, any_left, any_of}
use Rattle.ospf_routes.specs.steps.Areas.{HasArea, IsAdjacentIn, JoinAreas}
use Rattle.ospf_routes.specs.declared.areas.AreaWalks.{AreaWalks}

-- one more area, with its segments
pub joined_more : (net : Network) (areas : List AreaWalks) (a : AreaWalks) (segments own : List (List Port)) → JoinAreas net areas segments →
    AreZoneSegments net (Area a.number) own → JoinAreas net (areas ++ a ∷ []) (segments ++ own)
joined_more net areas a segments own before are u v = (
  λ joined. elim ((joined_both segments own u v).0 joined) [
    | inl earlier ↦ any_left (IsAdjacentIn net u v) areas a ((before u v).0 earlier)
    | inr now ↦ Any-push (IsAdjacentIn net u v) areas a (record { cost = now.cost; adjacent = (are.exact u v now.cost).0 now.sends })
  ],
  λ any. (joined_both segments own u v).1 (elim (any_cases (IsAdjacentIn net u v) areas a any) [
    | inl earlier ↦ inl ((before u v).1 earlier)
    | inr now ↦ inr (record { cost = now.cost; sends = (are.exact u v now.cost).1 now.adjacent })
  ]),
)

-- all areas
pub joined_all : (net : Network) (areas : List AreaWalks) (segments : List (List Port)) → ((u n : ℕ) → InArea net u n → HasArea areas n) →
    JoinAreas net areas segments → AreJoinedBy (IsOspfNeighbor net) segments
joined_all net areas segments every join u v = (
  λ joined.
      let f = any_in (IsAdjacentIn net u v) areas ((join u v).0 joined) in
      record { area = f.item.number; cost = f.holds.cost; adjacent = f.holds.adjacent },
  λ is.
      let has : HasArea areas is.area = every u is.area (Adjacent-in_area net is.area u v is.cost is.adjacent).0 in
      (join u v).1 (any_of (IsAdjacentIn net u v) areas has.area has.among
      (record { cost = is.cost; adjacent = subst (λ (n : ℕ). Adjacent net (Area n) u v is.cost) (sym has.number) is.adjacent })),
)
