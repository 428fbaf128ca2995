-- The longest originated prefix, interface by interface.
use Rattle.std.proofs.Common.{◌≡◌, ◌∙◌, ◌↔◌, ℕ, zero, suc, ◌+◌, ◌<◌, ◌≤◌, ◌⊎◌, inl, inr, ⊎_elim, ◌&&◌, ◌||◌, Bool, true, false}
use Rattle.std.proofs.Common.{List, [], ◌∷◌, length, slice_get, Option, Some, None, IsSome, IsTrue, is_some}
use Rattle.std.proofs.Common.{ap, arith, refl, rules, subst, sym}
use Rattle.std.proofs.lemmas.Bool.{cases_lt}
use Rattle.std.proofs.lemmas.Option.{get_or_from_slice_get, same_Some, slice_get_read, slice_get_within}
use Rattle.net_addr.specs.Addresses.{Block, ContainsAddress}
use Rattle.net_addr.specs.LongestMatches.{IsBestMatch}
use Rattle.net_addr.proofs.LongestMatchLaws.{IsLongestMatch-same}
use Rattle.net_model.specs.Configuration.{Configuration}
use Rattle.net_model.specs.Network.{HasConfiguration, Network}
use Rattle.net_model.specs.declared.interface.Interface.{Interface}
use Rattle.igp_theory.specs.Forwarding.{IsOriginated}
use Rattle.drawn_network.specs.LinkEnds.{interfaces_at}
use Rattle.drawn_network.specs.steps.Originated.{IsBetter, IsOriginatedTo, OriginatesAt, is_running}
use Rattle.drawn_network.specs.steps.Originated.IsBetter.{kept, longer_of}

-- the best match of prefixes on offer is that of the same prefixes
same_best : (one two : Block → Type 0) (a : ℕ) (best : Option Block) → ((q : Block) → one q ↔ two q) → IsBestMatch one a best →
    IsBestMatch two a best
same_best one two a None same none = λ q offered contains. none q ((same q).1 offered) contains
same_best one two a (Some p) same match = IsLongestMatch-same one two a p same match

-- ---- before the first router ----

pub none_before : (net : Network) (a : ℕ) → IsBestMatch (IsOriginatedTo net 0 0) a None
none_before net a p o contains =
    ⊎_elim (λ (l : o.router < 0). omega (arith, l)) (λ h. let l = h.1 in omega (arith, l)) o.earlier

-- ---- one interface more ----

module _ (net : Network) (u k a : ℕ) (i : Interface) (at : slice_get (interfaces_at net u) k ≡ Some i) where
  wider : (p : Block) → IsOriginatedTo net u k p → IsOriginatedTo net u (k + 1) p
  wider p o = record {
    router = o.router;
    place = o.place;
    interface = o.interface;
    at = o.at;
    runs = o.runs;
    subnet = o.subnet;
    earlier = ⊎_elim inl (λ h. let l = h.1 in inr (h.0, omega (arith, l))) o.earlier;
  }

  -- the interface itself
  abbrev Here : Block → Type 0
  Here p = IsTrue (is_running i) × (i.subnet ≡ Some p)

  here : (p : Block) → Here p → IsOriginatedTo net u (k + 1) p
  here p h = record {
    router = u;
    place = k;
    interface = i;
    at = at;
    runs = h.0;
    subnet = h.1;
    earlier = inr (refl, omega arith);
  }

  earlier_or_here : (p : Block) → IsOriginatedTo net u (k + 1) p → IsOriginatedTo net u k p ⊎ Here p
  earlier_or_here p o =
      ⊎_elim
      (λ l. inl (record {
        router = o.router;
        place = o.place;
        interface = o.interface;
        at = o.at;
        runs = o.runs;
        subnet = o.subnet;
        earlier = inl l;
      }))
      (λ h. ⊎_elim
      (λ l. inl (record {
        router = o.router;
        place = o.place;
        interface = o.interface;
        at = o.at;
        runs = o.runs;
        subnet = o.subnet;
        earlier = inr (h.0, l);
      }))
      (λ g. let below = h.1 in inr (it h.0 (omega (arith, below, g))))
      (cases_lt o.place k))
      o.earlier
    where
      it : o.router ≡ u → o.place ≡ k → Here p
      it e f =
          let same : o.interface ≡ i = same_Some _ _ (sym o.at ∙ (λ j. slice_get (interfaces_at net (e j)) (f j)) ∙ at) in (
            subst (λ (x : Interface). IsTrue (is_running x)) same o.runs,
            subst (λ (x : Interface). x.subnet ≡ Some p) same o.subnet,
          )

  as_origin : (p q r : Block) → OriginatesAt a i p → p.len ≤ q.len → i.subnet ≡ Some r → r.len ≤ q.len
  as_origin p q r origin long is =
      let same : p ≡ r = same_Some _ _ (sym origin.subnet ∙ is) in
      subst (λ (x : Block). x.len ≤ q.len) same long

  pub better_here : (best result : Option Block) → IsBestMatch (IsOriginatedTo net u k) a best → IsBetter a best i result →
      IsBestMatch (IsOriginatedTo net u (k + 1)) a result
  better_here None _ none (kept nowhere) =
      λ p o contains. ⊎_elim (λ before. none p before contains)
      (λ h. nowhere p (record { runs = h.0; subnet = h.1; contains = contains })) (earlier_or_here p o)
  better_here (Some b) _ match (kept nowhere) = record {
    is_offered = wider b match.is_offered;
    contains = match.contains;
    longest = λ p o contains. ⊎_elim (λ before. match.longest p before contains)
        (λ h. absurd (nowhere p (record { runs = h.0; subnet = h.1; contains = contains }))) (earlier_or_here p o);
  }
  better_here None _ none (longer_of p q origin longer) =
      let same : q ≡ p = ⊎_elim (λ e. e) (λ e. absurd cc) longer.one in
      record {
        is_offered = subst (IsOriginatedTo net u (k + 1)) (sym same) (here p (origin.runs, origin.subnet));
        contains = subst (λ (x : Block). ContainsAddress x a) (sym same) origin.contains;
        longest = λ r o contains. ⊎_elim (λ before. absurd (none r before contains))
            (λ h. as_origin p q r origin longer.as_long h.1)
            (earlier_or_here r o);
      }
  better_here (Some b) _ match (longer_of p q origin longer) = record {
    is_offered = ⊎_elim (λ (same : q ≡ p). subst (IsOriginatedTo net u (k + 1)) (sym same) (here p (origin.runs, origin.subnet)))
        (λ same. subst (IsOriginatedTo net u (k + 1)) (same_Some _ _ same) (wider b match.is_offered)) longer.one;
    contains = ⊎_elim (λ (same : q ≡ p). subst (λ (x : Block). ContainsAddress x a) (sym same) origin.contains)
        (λ same. subst (λ (x : Block). ContainsAddress x a) (same_Some _ _ same) match.contains) longer.one;
    longest = λ r o contains. ⊎_elim
        (λ before. let one = match.longest r before contains in let other = longer.as_best in omega (arith, one, other))
        (λ h. as_origin p q r origin longer.as_long h.1) (earlier_or_here r o);
  }

-- ---- one router more ----

next_router : (net : Network) (u k : ℕ) → k ≡ length (interfaces_at net u) → (p : Block) →
    IsOriginatedTo net u k p ↔ IsOriginatedTo net (u + 1) 0 p
next_router net u k all p = (
  λ o. record {
    router = o.router;
    place = o.place;
    interface = o.interface;
    at = o.at;
    runs = o.runs;
    subnet = o.subnet;
    earlier = inl (⊎_elim (λ (l : o.router < u). omega (arith, l)) (λ h. let e = h.0 in omega (arith, e)) o.earlier);
  },
  λ o. record {
    router = o.router;
    place = o.place;
    interface = o.interface;
    at = o.at;
    runs = o.runs;
    subnet = o.subnet;
    earlier = ⊎_elim
        (λ (l : o.router < u + 1). ⊎_elim inl
        (λ g.
        let e : o.router ≡ u = omega (arith, l, g) in
        let within = slice_get_within (interfaces_at net o.router) o.place o.interface o.at in
        let there : o.place < length (interfaces_at net u) =
        subst (λ v. o.place < length (interfaces_at net v)) e within in
        inr (e, omega (arith, there, all)))
        (cases_lt o.router u))
        (λ h. let none = h.1 in absurd (omega (arith, none)))
        o.earlier;
  },
)

pub best_before_next : (net : Network) (u k a : ℕ) (best : Option Block) → k ≡ length (interfaces_at net u) →
    IsBestMatch (IsOriginatedTo net u k) a best → IsBestMatch (IsOriginatedTo net (u + 1) 0) a best
best_before_next net u k a best all match =
    same_best (IsOriginatedTo net u k) (IsOriginatedTo net (u + 1) 0) a best (next_router net u k all) match

-- ---- all routers ----

configured : (net : Network) (u : ℕ) (c : Configuration) → HasConfiguration net u c → interfaces_at net u ≡ c.interfaces
configured [] u c has = absurd cc
configured (d ∷ net) zero c has = ap (λ (x : Configuration). x.interfaces) (same_Some _ _ has)
configured (d ∷ net) (suc u) c has = configured net u c has

has_one : (net : Network) (u : ℕ) → u < length net → (c : Configuration) × HasConfiguration net u c
has_one [] u below = absurd (omega arith)
has_one (d ∷ net) zero below = (d, refl)
has_one (d ∷ net) (suc u) below = has_one net u (omega arith)

runs_as : (up : Bool) (area : Option ℕ) (one two : Bool) → IsTrue (up && (is_some area || (one || two))) →
    IsTrue up × (IsSome area ⊎ IsTrue one ⊎ IsTrue two)
runs_as false area one two runs = absurd cc
runs_as true (Some n) one two runs = (refl, inl (search rules))
runs_as true None true two runs = (refl, inr (inl refl))
runs_as true None false true runs = (refl, inr (inr refl))
runs_as true None false false runs = absurd cc

runs_by : (up : Bool) (area : Option ℕ) (one two : Bool) → IsTrue up → IsSome area ⊎ IsTrue one ⊎ IsTrue two →
    IsTrue (up && (is_some area || (one || two)))
runs_by false area one two is runs = absurd cc
runs_by true (Some n) one two is runs = refl
runs_by true None true two is runs = refl
runs_by true None false true is runs = refl
runs_by true None false false is runs = ⊎_elim (λ some. absurd (search rules))
    (λ other. ⊎_elim (λ e. absurd cc) (λ e. absurd cc) other) runs

all_routers : (net : Network) (u : ℕ) → u ≡ length net → (p : Block) → IsOriginatedTo net u 0 p ↔ IsOriginated net p
all_routers net u all p = (to, from)
  where
    to : IsOriginatedTo net u 0 p → IsOriginated net p
    to o =
        let below : o.router < length net =
        ⊎_elim (λ (l : o.router < u). omega (arith, l, all)) (λ h. let none = h.1 in absurd (omega (arith, none))) o.earlier in
        let has = has_one net o.router below in
        let at : slice_get has.0.interfaces o.place ≡ Some o.interface =
        subst (λ (is : List Interface). slice_get is o.place ≡ Some o.interface) (configured net o.router has.0 has.1) o.at in
        let runs = runs_as o.interface.up o.interface.area o.interface.level1 o.interface.level2 o.runs in
        record {
          router = o.router;
          interface = o.interface;
          up = record {
            config = has.0;
            router = has.1;
            among = (
              o.place,
              slice_get_within has.0.interfaces o.place o.interface at,
              get_or_from_slice_get has.0.interfaces o.place o.interface o.interface at,
            );
            up = runs.0;
          };
          subnet = o.subnet;
          runs = runs.1;
        }

    from : IsOriginated net p → IsOriginatedTo net u 0 p
    from o =
        let among = o.up.among in
        let at : slice_get o.up.config.interfaces among.0 ≡ Some o.interface =
        slice_get_read o.up.config.interfaces (length o.up.config.interfaces) among.0 o.interface refl among.1 (sym among.2) in
        let below = slice_get_within net o.router o.up.config o.up.router in
        record {
          router = o.router;
          place = among.0;
          interface = o.interface;
          at = subst (λ (is : List Interface). slice_get is among.0 ≡ Some o.interface)
              (sym (configured net o.router o.up.config o.up.router)) at;
          runs = runs_by o.interface.up o.interface.area o.interface.level1 o.interface.level2 o.up.up o.runs;
          subnet = o.subnet;
          earlier = inl (omega (arith, below, all));
        }

pub best_of_all : (net : Network) (u a : ℕ) (best : Option Block) → u ≡ length net → IsBestMatch (IsOriginatedTo net u 0) a best →
    IsBestMatch (IsOriginated net) a best
best_of_all net u a best all match = same_best (IsOriginatedTo net u 0) (IsOriginated net) a best (all_routers net u all) match
