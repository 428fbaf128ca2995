-- The pairs of up interfaces that are unlike are those of the network that don't fit each other.
use Rattle.std.proofs.Common.{◌≡◌, ◌≢◌, ℕ, List, Any, ◌⊎◌, ⊎_elim, inl, inr, refl, subst}
use Rattle.std.proofs.lemmas.Bool.{cases_eq}
use Rattle.net_model.specs.Network.{Network, Connected}
use Rattle.net_model.specs.declared.zone.Zone.{Zone}
use Rattle.net_model.specs.declared.zone.Zone.TheVariants.{Area}
use Rattle.network_survey.specs.Pairs.{PortPair, IsPortPair, DifferInMask, AreUneven, AreUnevenInArea, ListsPairs}
use Rattle.network_survey.specs.Ports.{Port, IsUpPort, ListsUpPorts}
use Rattle.network_survey.specs.steps.Partners.{MissMasks, IsThird, MissCosts, MissCostsInArea, SelectsPairs}
use Rattle.network_survey.proofs.SharingFacts.{Any-at, Connected-port, slice_get-Contains}

module _ (net : Network) (ports : List Port) (lists : ListsUpPorts (IsUpPort net) ports) where
  chosen : (P : Port → Port → Type 0) (Q : PortPair → Type 0) →
      ((x : PortPair) → IsUpPort net x.one → IsUpPort net x.other → P x.one x.other → Q x) →
      ((x : PortPair) → Q x → IsPortPair net x) → ((x : PortPair) → Q x → P x.one x.other) →
      (found : List PortPair) → SelectsPairs P ports ports found → ListsPairs Q found
  chosen P Q into is back found s = record {
    exact = λ x. (
      λ c. let one = (s.exact x).0 c in into x ((lists.exact x.one).0 one.one) ((lists.exact x.other).0 one.other) one.holds,
      λ q. (s.exact x).1 (record { one = (lists.exact x.one).1 (is x q).one; other = (lists.exact x.other).1 (is x q).other; holds = back x q }),
    );
    ascending = s.ascending lists.ascending lists.ascending;
  }

  pub ListsPairs-masks : (found : List PortPair) → SelectsPairs MissMasks ports ports found → ListsPairs (DifferInMask net) found
  ListsPairs-masks found s =
      chosen MissMasks (DifferInMask net)
      (λ x one other m. record {
        ports = record { one = one; other = other; order = m.order };
        one_link = m.one_link;
        other_link = m.other_link;
        differ = m.differ;
        meet = m.meet;
      })
      (λ x d. d.ports)
      (λ x d. record { order = d.ports.order; one_link = d.one_link; other_link = d.other_link; differ = d.differ; meet = d.meet }) found s

  two_alone : (one other : Port) → (Any (IsThird one other) ports → ⊥) → (w : ℕ) → Connected net w one.subnet → (w ≡ one.router) ⊎ (w ≡ other.router)
  two_alone one other none w to =
      ⊎_elim inl (λ not_one. ⊎_elim inr (λ not_other. absurd (none (third not_one not_other))) (cases_eq w other.router)) (cases_eq w one.router)
    where
      third : w ≢ one.router → w ≢ other.router → Any (IsThird one other) ports
      third not_one not_other =
          let port : Port = record { router = w; place = to.up.among.0; subnet = one.subnet; interface = to.interface } in
          let is : IsUpPort net port = record {
            config = to.up.config;
            router = to.up.router;
            at = slice_get-Contains to.up.config.interfaces to.interface to.up.among;
            up = to.up.up;
            subnet = to.subnet;
          } in
          let is_third : IsThird one other port = record { subnet = refl; not_one = not_one; not_other = not_other } in
          Any-at (IsThird one other) ports port ((lists.exact port).1 is) is_third

  no_third : (one other : Port) → ((w : ℕ) → Connected net w one.subnet → (w ≡ one.router) ⊎ (w ≡ other.router)) → Any (IsThird one other) ports → ⊥
  no_third one other alone a =
      let is = (lists.exact a.1).0 (a.0, a.2, a.3) in
      let to = subst (Connected net a.1.router) a.4.subnet (Connected-port net a.1 is) in
      ⊎_elim a.4.not_one a.4.not_other (alone a.1.router to)

  uneven : (zone : Zone) (x : PortPair) → IsUpPort net x.one → IsUpPort net x.other → MissCosts ports zone x.one x.other → AreUneven net zone x
  uneven zone x one other m = record {
    ports = record { one = one; other = other; order = m.order };
    subnet = m.subnet;
    one_link = m.one_link;
    other_link = m.other_link;
    differ = m.differ;
    alone = two_alone x.one x.other m.alone;
  }

  miss : (zone : Zone) (x : PortPair) → AreUneven net zone x → MissCosts ports zone x.one x.other
  miss zone x u = record {
    order = u.ports.order;
    subnet = u.subnet;
    one_link = u.one_link;
    other_link = u.other_link;
    differ = u.differ;
    alone = no_third x.one x.other u.alone;
  }

  pub ListsPairs-uneven : (zone : Zone) (found : List PortPair) → SelectsPairs (MissCosts ports zone) ports ports found → ListsPairs (AreUneven net zone) found
  ListsPairs-uneven zone found s = chosen (MissCosts ports zone) (AreUneven net zone) (uneven zone) (λ x u. u.ports) (miss zone) found s

  pub ListsPairs-uneven_in_area : (found : List PortPair) → SelectsPairs (MissCostsInArea ports) ports ports found → ListsPairs (AreUnevenInArea net) found
  ListsPairs-uneven_in_area found s =
      chosen (MissCostsInArea ports) (AreUnevenInArea net)
      (λ x one other m. record { area = m.area; uneven = uneven (Area m.area) x one other m.miss })
      (λ x u. u.uneven.ports)
      (λ x u. record { area = u.area; miss = miss (Area u.area) x u.uneven }) found s
