-- The up interfaces of a network, place by place, and those of them that are selected.
use Rattle.std.proofs.Common.{◌≡◌, ℕ, ◌+◌, ◌<◌, ◌≤◌, ◌↔◌, Bool, true, false, List, [], ◌∷◌, ◌++◌, length, get_or, slice_get, Option, Some, None, IsTrue, Contains, AllPairs}
use Rattle.std.proofs.Common.{◌⊎◌, ⊎_elim, inl, inr, refl, sym, subst, ap, ◌∙◌, arith, if◌then◌else◌}
use Rattle.std.proofs.lemmas.List.Quantifiers.{all_pairs_push}
use Rattle.std.proofs.lemmas.List.Elements.{Contains-push, Contains-push_cases, Contains-append_left}
use Rattle.std.proofs.lemmas.List.{append-nil, get_or_append_left, get_or_push, length_push}
use Rattle.std.proofs.lemmas.Bool.{cases_lt}
use Rattle.std.proofs.lemmas.Option.{same_Some, slice_get_within}
use Rattle.net_addr.specs.Addresses.{Block}
use Rattle.net_model.specs.Configuration.{Configuration}
use Rattle.net_model.specs.Network.{Network, HasConfiguration}
use Rattle.net_model.specs.declared.interface.Interface.{Interface}
use Rattle.net_model.proofs.Adjacency.{HasConfiguration-unique}
use Rattle.net_model.proofs.Members.{Contains-none}
use Rattle.network_survey.specs.Ports.{Port, IsUpPort, StandsEarlier, ListsUpPorts}
use Rattle.network_survey.specs.Ports.StandsEarlier.{by_router, by_place}
use Rattle.network_survey.specs.steps.PortLists.{IsPortTo, Selects, port_at, port_where}
use Rattle.network_survey.proofs.ListingFacts.{Contains-at, ListsAll-none, ListsAll-push, ListsAll-same}

-- no port comes before the first router
pub ListsUpPorts-none : (net : Network) → ListsUpPorts (IsPortTo net 0 0) []
ListsUpPorts-none net = ListsAll-none StandsEarlier (IsPortTo net 0 0) (λ x p. ⊎_elim (λ l. omega (arith, l)) (λ e. omega (arith, e.1)) p.before)

module _ (net : Network) (u k : ℕ) (c : Configuration) (i : Interface) (router : HasConfiguration net u c) (at : slice_get c.interfaces k ≡ Some i) where
  is_at : (port : Port) → IsUpPort net port → port.router ≡ u → port.place ≡ k → port.interface ≡ i
  is_at port is e f =
      let same_config : is.config ≡ c = HasConfiguration-unique net u is.config c (subst (λ w. HasConfiguration net w is.config) e is.router) router in
      same_Some _ _ (sym (subst (λ w. slice_get c.interfaces w ≡ Some port.interface) f (subst (λ (d : Configuration). slice_get d.interfaces port.place ≡ Some port.interface) same_config is.at)) ∙ at)

  later : (port : Port) → IsPortTo net u (k + 1) port → IsPortTo net u k port ⊎ ((port.router ≡ u) × (port.place ≡ k))
  later port p = ⊎_elim (λ l. inl (record { is = p.is; before = inl l }))
      (λ e. ⊎_elim (λ l. inl (record { is = p.is; before = inr (e.0, l) })) (λ g. inr (e.0, omega (arith, e.1, g))) (cases_lt port.place k)) p.before

  wider : (port : Port) → IsPortTo net u k port → IsPortTo net u (k + 1) port
  wider port p = record { is = p.is; before = ⊎_elim inl (λ e. inr (e.0, omega (arith, e.1))) p.before }

  earlier : (port : Port) (other : Port) → other.router ≡ u → other.place ≡ k → IsPortTo net u k port → StandsEarlier port other
  earlier port other e f p = ⊎_elim (λ l. by_router (omega (arith, l, e))) (λ g. by_place (g.0 ∙ sym e) (omega (arith, g.1, f))) p.before

  -- no port is at the place
  passed : ((port : Port) → IsUpPort net port → port.interface ≡ i → ⊥) → (old : List Port) → ListsUpPorts (IsPortTo net u k) old →
      ListsUpPorts (IsPortTo net u (k + 1)) (old ++ [])
  passed none old lists =
      rw (append-nil old)
      (ListsAll-same StandsEarlier (IsPortTo net u k) (IsPortTo net u (k + 1)) old wider
      (λ x q. ⊎_elim (λ p. p) (λ e. absurd (none x q.is (is_at x q.is e.0 e.1))) (later x q)) lists)

  -- the port at the place
  reached : (p : Block) → IsTrue i.up → i.subnet ≡ Some p → (old : List Port) → ListsUpPorts (IsPortTo net u k) old →
      ListsUpPorts (IsPortTo net u (k + 1)) (old ++ record { router = u; place = k; subnet = p; interface = i } ∷ [])
  reached p up subnet old lists =
      ListsAll-push StandsEarlier (IsPortTo net u k) (IsPortTo net u (k + 1)) old one wider
      (λ x q. ⊎_elim inl (λ e. inr (same x q.is e.0 e.1)) (later x q))
      (record { is = record { config = c; router = router; at = at; up = up; subnet = subnet }; before = inr (refl, omega arith) })
      (λ x q. earlier x one refl refl q) lists
    where
      one : Port
      one = record { router = u; place = k; subnet = p; interface = i }

      same : (x : Port) → IsUpPort net x → x.router ≡ u → x.place ≡ k → one ≡ x
      same x is e f =
          let g = is_at x is e f in
          let h : p ≡ x.subnet = same_Some _ _ (sym subnet ∙ ap (λ (j : Interface). j.subnet) (sym g) ∙ is.subnet) in
          let made : one ≡ record { router = x.router; place = x.place; subnet = x.subnet; interface = x.interface } = cc in
          made

  added_as : (up : Bool) (subnet : Option Block) → i.up ≡ up → i.subnet ≡ subnet → (old : List Port) → ListsUpPorts (IsPortTo net u k) old →
      ListsUpPorts (IsPortTo net u (k + 1)) (old ++ port_where u k i up subnet)
  added_as true None e f old lists = passed (λ x is g. cc (is.subnet, f, ap (λ (j : Interface). j.subnet) g)) old lists
  added_as false None e f old lists = passed (λ x is g. cc (is.subnet, f, ap (λ (j : Interface). j.subnet) g)) old lists
  added_as true (Some p) e f old lists = reached p e f old lists
  added_as false (Some p) e f old lists = passed (λ x is g. cc (is.up, e, ap (λ (j : Interface). j.up) g)) old lists

  -- what the place adds
  pub ListsUpPorts-more : (old : List Port) → ListsUpPorts (IsPortTo net u k) old → ListsUpPorts (IsPortTo net u (k + 1)) (old ++ port_at u k i)
  ListsUpPorts-more old lists = added_as i.up i.subnet refl refl old lists

-- a router's interfaces that come before its end are those before the next router
pub ListsUpPorts-next : (net : Network) (u k : ℕ) (c : Configuration) → HasConfiguration net u c → length c.interfaces ≤ k →
    (ports : List Port) → ListsUpPorts (IsPortTo net u k) ports → ListsUpPorts (IsPortTo net (u + 1) 0) ports
ListsUpPorts-next net u k c router end ports =
    ListsAll-same StandsEarlier (IsPortTo net u k) (IsPortTo net (u + 1) 0) ports
    (λ x p. record { is = p.is; before = inl (⊎_elim (λ l. omega (arith, l)) (λ e. omega (arith, e.0)) p.before) })
    (λ x p. record {
      is = p.is;
      before = ⊎_elim
          (λ l. ⊎_elim inl (λ g. let e : x.router ≡ u = omega (arith, l, g) in inr (e, omega (arith, within x p.is e, end))) (cases_lt x.router u))
          (λ e. absurd (omega (arith, e.1))) p.before;
    })
  where
    within : (x : Port) → IsUpPort net x → x.router ≡ u → x.place < length c.interfaces
    within x is e =
        let same : is.config ≡ c = HasConfiguration-unique net u is.config c (subst (λ w. HasConfiguration net w is.config) e is.router) router in
        subst (λ (d : Configuration). x.place < length d.interfaces) same (slice_get_within is.config.interfaces x.place x.interface is.at)

-- the interfaces of all routers are those of the network
pub ListsUpPorts-all : (net : Network) (ports : List Port) → ListsUpPorts (IsPortTo net (length net) 0) ports → ListsUpPorts (IsUpPort net) ports
ListsUpPorts-all net ports =
    ListsAll-same StandsEarlier (IsPortTo net (length net) 0) (IsUpPort net) ports (λ x p. p.is)
    (λ x is. record { is = is; before = inl (slice_get_within net x.router is.config is.router) })

pub AllPairs-front : (xs : List Port) (y : Port) → AllPairs StandsEarlier (xs ++ y ∷ []) → AllPairs StandsEarlier xs
AllPairs-front xs y a i j d l m =
    subst (λ z. StandsEarlier z (get_or xs j d)) (get_or_append_left xs (y ∷ []) d i (omega arith))
    (subst (λ z. StandsEarlier (get_or (xs ++ y ∷ []) i d) z) (get_or_append_left xs (y ∷ []) d j m) (a i j d l (omega (arith, length_push xs y))))

pub StandsEarlier-last : (xs : List Port) (y : Port) → AllPairs StandsEarlier (xs ++ y ∷ []) → (x : Port) → Contains xs x → StandsEarlier x y
StandsEarlier-last xs y a x c =
    let pair = a c.0 (length xs) x c.1 (omega (arith, length_push xs y)) in
    subst (λ z. StandsEarlier z y) (get_or_append_left xs (y ∷ []) x c.0 c.1 ∙ c.2)
    (subst (StandsEarlier (get_or (xs ++ y ∷ []) c.0 x)) (get_or_push xs y x (length xs) refl) pair)

-- of no ports none is selected
pub Selects-none : (P : Port → Type 0) → Selects P [] []
Selects-none P = record {
  exact = λ x. (λ c. absurd (Contains-none x c), λ s. absurd (Contains-none x s.among));
  ascending = λ a. a;
}

-- one port more
pub Selects-more : (P : Port → Type 0) (xs old : List Port) (y : Port) (odd : Bool) → IsTrue odd ↔ P y → Selects P xs old →
    Selects P (xs ++ y ∷ []) (old ++ (if odd then y ∷ [] else []))
Selects-more P xs old y true says s = record {
  exact = λ x. (
    λ c. ⊎_elim (λ l. let one = (s.exact x).0 l in record { among = Contains-append_left xs _ x one.among; holds = one.holds })
        (λ e. record { among = subst (Contains (xs ++ y ∷ [])) e (Contains-push xs y); holds = subst P e (says.0 refl) }) (Contains-push_cases old y x c),
    λ q. ⊎_elim (λ l. Contains-append_left old _ x ((s.exact x).1 (record { among = l; holds = q.holds })))
        (λ e. subst (Contains (old ++ y ∷ [])) e (Contains-push old y)) (Contains-push_cases xs y x q.among),
  );
  ascending = λ a. all_pairs_push StandsEarlier old y (s.ascending (AllPairs-front xs y a)) (λ k d l. StandsEarlier-last xs y a _ ((s.exact _).0 (Contains-at old k d l)).among);
}
Selects-more P xs old y false says s = record {
  exact = λ x. (
    λ c. let one = (s.exact x).0 (subst (λ l. Contains l x) (append-nil old) c) in
        record { among = Contains-append_left xs _ x one.among; holds = one.holds },
    λ q. subst (λ l. Contains l x) (sym (append-nil old)) (⊎_elim (λ l. (s.exact x).1 (record { among = l; holds = q.holds }))
        (λ e. absurd (cc (says.1 (subst P (sym e) q.holds)))) (Contains-push_cases xs y x q.among)),
  );
  ascending = λ a. subst (AllPairs StandsEarlier) (sym (append-nil old)) (s.ascending (AllPairs-front xs y a));
}
