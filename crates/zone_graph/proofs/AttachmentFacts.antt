-- Links of all routers, their groups, and what the segments that they make stand for.
use Rattle.std.proofs.lemmas.Grind.{common_steps}
use Rattle.std.proofs.Common.{◌≡◌, ◌≢◌, ℕ, ◌+◌, ◌<◌, ◌≤◌, ◌↔◌, List, [], ◌∷◌, ◌++◌, Some, length, take, refl, sym, ap, subst, ◌∙◌, inl, inr, arith}
use Rattle.std.specs.List.{Contains, Any}
use Rattle.std.proofs.lemmas.Bool.{cases_lt}
use Rattle.std.proofs.lemmas.List.Elements.{All-contains, Contains-append_left, Contains-push, Contains-push_cases}
use Rattle.net_addr.specs.Addresses.{Block}
use Rattle.net_model.specs.Configuration.{Configuration, IsInterface}
use Rattle.net_model.specs.Network.{Network, HasConfiguration, MayJoin, Adjacent, cost_in}
use Rattle.net_model.specs.Refusals.{IsNetwork}
use Rattle.net_model.specs.declared.interface.Interface.{Interface}
use Rattle.net_model.specs.declared.zone.Zone.{Zone}
use Rattle.net_model.proofs.Adjacency.{HasConfiguration-unique}
use Rattle.net_model.proofs.NetworkFacts.{HasConfiguration-keeps, Adjacent-from_within, Adjacent-to_within}
use Rattle.walk_core.specs.Segments.{IsPort, SendsAcross}
use Rattle.walk_core.specs.declared.segment.Port.{Port}
use Rattle.zone_graph.specs.Segments.{AreZoneSegments}
use Rattle.zone_graph.specs.steps.Attachments.{IsGroup, IsAttachment, AreAttachments, IsOfLinks, AddsLinks, IsPortOf}
use Rattle.zone_graph.specs.steps.Attachments.{HasBoth, AreTheSegments}
use Rattle.zone_graph.specs.steps.LinkLists.{IsLinkOf, AreRouterLinks}
use Rattle.zone_graph.specs.declared.attachments.Attachment.{Attachment}
use Rattle.zone_graph.specs.declared.links.Link.{Link}

-- what a zone may join is an equivalence
pub joins_on : (z : Zone) (c d e : Configuration) → MayJoin z c d → MayJoin z d e → MayJoin z c e
joins_on z c d e one other = grind (arith, common_steps)

pub joins_back : (z : Zone) (c d : Configuration) → MayJoin z c d → MayJoin z d c
joins_back z c d h = grind (arith, common_steps)

pub joins_itself : (z : Zone) (c : Configuration) → MayJoin z c c
joins_itself z c = grind (arith, common_steps)

-- routers of one group may be joined
pub same_group_joins : (net : Network) (z : Zone) (u v g h : ℕ) (c d : Configuration) → IsGroup net z u g → IsGroup net z v h → g ≡ h →
    HasConfiguration net u c → HasConfiguration net v d → MayJoin z c d
same_group_joins net z u v g h c d one other same c_is d_is =
    grind (arith, common_steps, HasConfiguration-unique, joins_back, joins_on)

-- the group of a router is no later than that of one that it may be joined with
group_no_later : (net : Network) (z : Zone) (u v g h : ℕ) → (one : IsGroup net z u g) → (other : IsGroup net z v h) → MayJoin z one.own other.own → g < h → ⊥
group_no_later net z u v g h one other join less = grind (arith, common_steps, joins_on)

-- routers that may be joined are of one group
pub joined_are_one_group : (net : Network) (z : Zone) (u v g h : ℕ) (c d : Configuration) → IsGroup net z u g → IsGroup net z v h →
    HasConfiguration net u c → HasConfiguration net v d → MayJoin z c d → g ≡ h
joined_are_one_group net z u v g h c d one other c_is d_is join =
    grind (arith, common_steps, HasConfiguration-unique, cases_lt, group_no_later, joins_back)

-- one more link of a router
pub adds_no_links : (all : List Attachment) (links : List Link) (group router : ℕ) → AddsLinks all all (take 0 links) group router
adds_no_links all links group router a = grind (arith, common_steps)

pub adds_link : (old mid : List Attachment) (front : List Link) (a : Attachment) (group router : ℕ) → AddsLinks old mid front group router →
    a.group ≡ group → a.router ≡ router → AddsLinks old (mid ++ a ∷ []) (front ++ a.link ∷ []) group router
adds_link old mid front a group router adds group_is router_is b = (
  λ has. elim (Contains-push_cases mid a b has) [
    | inl earlier ↦ elim ((adds b).0 earlier) [
      | inl older ↦ inl older
      | inr is ↦ inr (record { among = Contains-append_left front (a.link ∷ []) b.link is.among; in_group = is.in_group; of_router = is.of_router })
    ]
    | inr same ↦ inr (subst (λ (x : Attachment). IsOfLinks (front ++ a.link ∷ []) group router x) same
        (record { among = Contains-push front a.link; in_group = group_is; of_router = router_is }))
  ],
  λ either. elim either [
    | inl older ↦ Contains-append_left mid (a ∷ []) b ((adds b).1 (inl older))
    | inr is ↦ elim (Contains-push_cases front a.link b.link is.among) [
      | inl earlier ↦ Contains-append_left mid (a ∷ []) b ((adds b).1 (inr (record { among = earlier; in_group = is.in_group; of_router = is.of_router })))
      | inr same ↦
          let whole : a ≡ b = ap (λ (l : Link). record { link = l; group = a.group; router = a.router }) same
          ∙ ap (λ (n : ℕ). record { link = b.link; group = n; router = a.router }) (group_is ∙ sym is.in_group)
          ∙ ap (λ (n : ℕ). record { link = b.link; group = b.group; router = n }) (router_is ∙ sym is.of_router)
          in
          subst (λ (x : Attachment). Contains (mid ++ a ∷ []) x) whole (Contains-push mid a)
    ]
  ],
)

-- of no routers there are no links
pub no_attachments : (net : Network) (z : Zone) → AreAttachments net z 0 []
no_attachments net z = grind (arith, common_steps)

-- the links of one more router
pub attachments_more : (net : Network) (z : Zone) (n group : ℕ) (old new : List Attachment) (links : List Link) →
    AreAttachments net z n old → AreRouterLinks net z n links → IsGroup net z n group → AddsLinks old new links group n →
    AreAttachments net z (n + 1) new
attachments_more net z n group old new links are links_are is_group adds = record {
  each = λ a has. elim ((adds a).0 has) [
    | inl earlier ↦ let is = are.each a earlier in record {
      config = is.config;
      interface = is.interface;
      below = omega (arith, is.below);
      router = is.router;
      among = is.among;
      link = is.link;
      group = is.group;
    }
    | inr now ↦ let any : Any (λ i. IsLinkOf z i a.link) is_group.own.interfaces = (links_are is_group.own is_group.own_is a.link).0 now.among in record {
      config = is_group.own;
      interface = any.1;
      below = omega (arith, now.of_router);
      router = subst (λ (m : ℕ). HasConfiguration net m is_group.own) (sym now.of_router) is_group.own_is;
      among = (any.0, any.2, any.3);
      link = any.4;
      group = subst (λ (m : ℕ). IsGroup net z m a.group) (sym now.of_router) (subst (λ (m : ℕ). IsGroup net z n m) (sym now.in_group) is_group);
    }
  ];
  every = λ u config i link below at among is. elim (cases_lt u n) [
    | inl earlier ↦ let has = are.every u config i link earlier at among is in record {
      attachment = has.attachment;
      among = (adds has.attachment).1 (inl has.among);
      link_is = has.link_is;
      router_is = has.router_is;
    }
    | inr past ↦
        let same : u ≡ n = omega (arith, below, past) in
        let here : HasConfiguration net n config = subst (λ (m : ℕ). HasConfiguration net m config) same at in
        let listed : Contains links link = (links_are config here link).1 (among.0, i, among.1, among.2, is) in
        let a : Attachment = record { link = link; group = group; router = n } in
        record {
          attachment = a;
          among = (adds a).1 (inr (record { among = listed; in_group = refl; of_router = refl }));
          link_is = refl;
          router_is = sym same;
        }
  ];
}

-- attachments in another order are the same ones
pub attachments_same : (net : Network) (z : Zone) (n : ℕ) (old new : List Attachment) → ((a : Attachment) → Contains new a ↔ Contains old a) →
    AreAttachments net z n old → AreAttachments net z n new
attachments_same net z n old new same are = record {
  each = λ a has. are.each a ((same a).0 has);
  every = λ u config i link below at among is. let has = are.every u config i link below at among is in record {
    attachment = has.attachment;
    among = (same has.attachment).1 has.among;
    link_is = has.link_is;
    router_is = has.router_is;
  };
}

-- what an interface costs in a zone is within its range
cost_range : (z : Zone) (i : Interface) → IsInterface i → (1 ≤ cost_in z i) × (cost_in z i ≤ 16777214)
cost_range z i h = grind (arith, common_steps)

-- the ports of the segments are of routers of the network, at costs in their range
port_range : (net : Network) (z : Zone) (a : Attachment) (port : Port) → IsNetwork net → IsAttachment net z (length net) a → IsPortOf a port →
    IsPort (length net) port
port_range net z a port kept is port_is =
    let keeps =
    All-contains IsInterface is.config.interfaces is.interface (HasConfiguration-keeps net a.router is.config kept is.router).interfaces is.among in
    let range = cost_range z is.interface keeps in
    record {
      vertex = omega (arith, is.below, port_is.vertex);
      cost = omega (arith, range.0, is.link.costs, port_is.cost);
      most = omega (arith, range.1, is.link.costs, port_is.cost);
    }

-- two attachments of one segment make their routers adjacent
one_segment_adjacent : (net : Network) (z : Zone) (a b : Attachment) → IsAttachment net z (length net) a → IsAttachment net z (length net) b →
    a.link.subnet ≡ b.link.subnet → a.group ≡ b.group → a.router ≢ b.router → Adjacent net z a.router b.router a.link.cost
one_segment_adjacent net z a b one other subnet group apart = record {
  apart = apart;
  subnet = a.link.subnet;
  near = one.interface;
  far = other.interface;
  near_up = record { config = one.config; router = one.router; among = one.among; up = one.link.is.up };
  far_up = record { config = other.config; router = other.router; among = other.among; up = other.link.is.up };
  near_subnet = one.link.subnet;
  far_subnet = other.link.subnet ∙ ap (λ (p : Block). Some p) (sym subnet);
  near_link = one.link.is.link;
  far_link = other.link.is.link;
  near_runs = one.link.is.runs;
  far_runs = other.link.is.runs;
  joined = same_group_joins net z a.router b.router a.group b.group one.config other.config one.group other.group group one.router other.router;
  costs = one.link.costs;
}

-- segments over the links of all routers stand for the adjacencies
pub are_zone_segments : (net : Network) (z : Zone) (all : List Attachment) (segments : List (List Port)) → IsNetwork net →
    AreAttachments net z (length net) all → AreTheSegments all segments → AreZoneSegments net z segments
are_zone_segments net z all segments kept are of = record {
  ports = λ segment among port has.
      let made = (of.sound segment among).each port has in
      port_range net z made.attachment port kept (are.each made.attachment made.among) made.port_is;
  exact = λ u v cost. (there u v cost, back u v cost);
}
  where
    there : (u v cost : ℕ) → SendsAcross segments u v cost → Adjacent net z u v cost
    there u v cost arc =
        let of_one = of.sound arc.over.segment arc.over.among in
        let near = of_one.each arc.over.over.near arc.over.over.near_among in
        let far = of_one.each arc.over.over.far arc.over.over.far_among in
        let a : Attachment = near.attachment in
        let b : Attachment = far.attachment in
        let u_is : a.router ≡ u = sym near.port_is.vertex ∙ arc.over.over.from in
        let v_is : b.router ≡ v = sym far.port_is.vertex ∙ arc.over.over.to in
        let cost_is : a.link.cost ≡ cost = sym near.port_is.cost ∙ arc.over.over.costs in
        let apart : a.router ≢ b.router = λ same. arc.apart (sym u_is ∙ same ∙ v_is) in
        let adjacent : Adjacent net z a.router b.router a.link.cost =
        one_segment_adjacent net z a b (are.each a near.among) (are.each b far.among) (near.same.subnet ∙ sym far.same.subnet)
        (near.same.group ∙ sym far.same.group) apart
        in
        subst (λ (n : ℕ). Adjacent net z n v cost) u_is (subst (λ (n : ℕ). Adjacent net z a.router n cost) v_is
        (subst (λ (n : ℕ). Adjacent net z a.router b.router n) cost_is adjacent))

    link_at : (i : Interface) (p : Block) → Link
    link_at i p = record { subnet = p; cost = cost_in z i }

    back : (u v cost : ℕ) → Adjacent net z u v cost → SendsAcross segments u v cost
    back u v cost adjacent =
        let near : Link = link_at adjacent.near adjacent.subnet in
        let far : Link = link_at adjacent.far adjacent.subnet in
        let one = are.every u adjacent.near_up.config adjacent.near near (Adjacent-from_within net z u v cost adjacent) adjacent.near_up.router
        adjacent.near_up.among (record {
          is = record { up = adjacent.near_up.up; link = adjacent.near_link; runs = adjacent.near_runs };
          subnet = adjacent.near_subnet;
          costs = refl;
        }) in
        let two = are.every v adjacent.far_up.config adjacent.far far (Adjacent-to_within net z u v cost adjacent) adjacent.far_up.router
        adjacent.far_up.among (record {
          is = record { up = adjacent.far_up.up; link = adjacent.far_link; runs = adjacent.far_runs };
          subnet = adjacent.far_subnet;
          costs = refl;
        }) in
        let a : Attachment = one.attachment in
        let b : Attachment = two.attachment in
        let group : a.group ≡ b.group = joined_are_one_group net z a.router b.router a.group b.group adjacent.near_up.config adjacent.far_up.config
        (are.each a one.among).group (are.each b two.among).group
        (subst (λ (n : ℕ). HasConfiguration net n adjacent.near_up.config) (sym one.router_is) adjacent.near_up.router)
        (subst (λ (n : ℕ). HasConfiguration net n adjacent.far_up.config) (sym two.router_is) adjacent.far_up.router) adjacent.joined in
        let subnet : a.link.subnet ≡ b.link.subnet = ap (λ (l : Link). l.subnet) one.link_is ∙ sym (ap (λ (l : Link). l.subnet) two.link_is) in
        let apart : a.router ≢ b.router = λ same. adjacent.apart (sym one.router_is ∙ same ∙ two.router_is) in
        let both : HasBoth segments a b = of.every a b one.among two.among (record { subnet = subnet; group = group }) apart in
        record {
          apart = adjacent.apart;
          over = record {
            segment = both.segment;
            among = both.among;
            over = record {
              near = both.one;
              far = both.two;
              near_among = both.one_among;
              far_among = both.two_among;
              from = both.one_is.vertex ∙ one.router_is;
              to = both.two_is.vertex ∙ two.router_is;
              costs = both.one_is.cost ∙ ap (λ (l : Link). l.cost) one.link_is ∙ adjacent.costs;
            };
          };
        }
