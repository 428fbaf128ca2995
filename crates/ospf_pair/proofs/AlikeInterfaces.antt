-- Whether an interface has an alike one, and what the networks of a pair have in common.
use Rattle.std.proofs.Common.{◌≡◌, ℕ, ◌<◌, true, false, Bool, List, [], ◌∷◌, length, Option, Some, None, Contains, ◌⊎◌}
use Rattle.std.proofs.Common.{refl, sym, ap, subst, ◌∙◌, ⊎_elim, inl, inr, is_some, arith}
use Rattle.std.proofs.lemmas.Bool.{cases_Bool, cases_eq, cases_lt}
use Rattle.std.proofs.lemmas.Slice.Eq.{bytes_eq-Decides}
use Rattle.std.specs.Str.{bytes_eq}
use Rattle.std.proofs.lemmas.Option.{slice_get_within}
use Rattle.std.specs.List.{Any}
use Rattle.net_addr.specs.Addresses.{Block}
use Rattle.net_addr.proofs.SomeElement.{any_in, any_of, Found}
use Rattle.net_model.specs.Configuration.{Configuration}
use Rattle.net_model.specs.Network.{Connected, HasConfiguration, UpInterface}
use Rattle.net_model.specs.declared.interface.Interface.{Interface}
use Rattle.net_model.proofs.Members.{Contains-cases, Contains-first, Contains-none, Contains-rest}
use Rattle.ospf_pair.specs.NetworkPairs.{NetworkPair, HaveSameRouters, NoRouterMeets}
use Rattle.ospf_pair.specs.PairLaws.{AreOneNetwork, HasUpAlike}
use Rattle.ospf_pair.specs.PairRefusals.{MakePair}
use Rattle.ospf_pair.specs.RouterConditions.{HasNoneAlike, HaveOtherInterfaces, IsUpAlike}
use Rattle.ospf_pair.specs.steps.Places.{MeetsAt}
use Rattle.ospf_pair.proofs.MetConditions.{configuration_at, RouterMeets-from, within_new, within_old}

-- a fact holds or doesn't
abbrev Settled : Type 0 → Type 0
Settled P = P ⊎ (P → ⊥)

settled_both : (P Q : Type 0) → Settled P → Settled Q → Settled (P × Q)
settled_both P Q p q =
    ⊎_elim (λ a. ⊎_elim (λ b. inl (a, b)) (λ no. inr (λ h. no h.1)) q) (λ no. inr (λ h. no h.0)) p

settled_bool : (a b : Bool) → Settled (a ≡ b)
settled_bool true true = inl refl
settled_bool false false = inl refl
settled_bool true false = inr (λ (e : true ≡ false). cc)
settled_bool false true = inr (λ (e : false ≡ true). cc)

settled_name : (a b : List ℕ) → Settled (a ≡ b)
settled_name a b =
    let decides = bytes_eq-Decides a b in
    ⊎_elim (λ t. inl (decides.0 t)) (λ f. inr (λ e. let t = decides.1 e in cc)) (cases_Bool (bytes_eq a b))

settled_subnet : (a b : Option Block) → Settled (a ≡ b)
settled_subnet None None = inl refl
settled_subnet (Some p) None = inr (λ (e : Some p ≡ None). cc)
settled_subnet None (Some q) = inr (λ (e : None ≡ Some q). cc)
settled_subnet (Some p) (Some q) =
    ⊎_elim
    (λ (same : (p.base ≡ q.base) × (p.len ≡ q.len)). inl (λ i. Some (record { base = same.0 i; len = same.1 i })))
    (λ no. inr (λ (e : Some p ≡ Some q).
    let is : p ≡ q = cc in no (ap (λ (r : Block). r.base) is, ap (λ (r : Block). r.len) is)))
    (settled_both (p.base ≡ q.base) (p.len ≡ q.len) (cases_eq p.base q.base) (cases_eq p.len q.len))

-- two interfaces are alike or not
settled_alike : (i j : Interface) → Settled (IsUpAlike i j)
settled_alike i j =
    let parts : Settled ((((j.up ≡ true) × (i.name ≡ j.name)) × ((i.address ≡ j.address) × (i.subnet ≡ j.subnet))) × (is_some i.area ≡ is_some j.area)) =
    settled_both (((j.up ≡ true) × (i.name ≡ j.name)) × ((i.address ≡ j.address) × (i.subnet ≡ j.subnet))) (is_some i.area ≡ is_some j.area)
    (settled_both ((j.up ≡ true) × (i.name ≡ j.name)) ((i.address ≡ j.address) × (i.subnet ≡ j.subnet))
    (settled_both (j.up ≡ true) (i.name ≡ j.name) (settled_bool j.up true) (settled_name i.name j.name))
    (settled_both (i.address ≡ j.address) (i.subnet ≡ j.subnet) (cases_eq i.address j.address) (settled_subnet i.subnet j.subnet)))
    (settled_bool (is_some i.area) (is_some j.area)) in
    ⊎_elim
    (λ h. inl (record { up = h.0.0.0; name = h.0.0.1; address = h.0.1.0; subnet = h.0.1.1; runs = h.1 }))
    (λ no. inr (λ (a : IsUpAlike i j). no (((a.up, a.name), (a.address, a.subnet)), a.runs)))
    parts

-- some interface of a list is alike, or none is
settled_among : (i : Interface) (js : List Interface) → Found (IsUpAlike i) js ⊎ ((j : Interface) → Contains js j → IsUpAlike i j → ⊥)
settled_among i [] = inr (λ j c a. Contains-none j c)
settled_among i (j ∷ js) =
    ⊎_elim
    (λ (a : IsUpAlike i j). inl (record { item = j; among = Contains-first j js; holds = a }))
    (λ no. ⊎_elim
    (λ (f : Found (IsUpAlike i) js). inl (record { item = f.item; among = Contains-rest j js f.item f.among; holds = f.holds }))
    (λ none. inr (λ k c a. ⊎_elim (λ e. no (subst (IsUpAlike i) (sym e) a)) (λ r. none k r a) (Contains-cases j js k c)))
    (settled_among i js))
    (settled_alike i j)

-- where no up interface of the first list lacks an alike one in the second, each has one
alike_among : (ones others : List Interface) (i : Interface) → (Any (HasNoneAlike others) ones → ⊥) → Contains ones i → i.up ≡ true →
    Found (IsUpAlike i) others
alike_among ones others i none among up =
    ⊎_elim (λ f. f)
    (λ lacks. absurd (none (any_of (HasNoneAlike others) ones i among (
      up,
      λ any.
          let found = any_in (IsUpAlike i) others any in lacks found.item found.among found.holds,
    ))))
    (settled_among i others)

module _ (nets : NetworkPair) (same : HaveSameRouters nets) (none : NoRouterMeets HaveOtherInterfaces nets) where
  -- at a number the interfaces don't differ
  agree_at : (u : ℕ) (c d : Configuration) → HasConfiguration nets.old u c → HasConfiguration nets.new u d → HaveOtherInterfaces c d → ⊥
  agree_at u c d old new differ =
      let m : MeetsAt HaveOtherInterfaces nets u = record { one = c; other = d; old = old; new = new; holds = differ } in
      none c.name (RouterMeets-from HaveOtherInterfaces nets same u m)

  forth : (u : ℕ) (i : Interface) → UpInterface nets.old u i → HasUpAlike nets.new u i
  forth u i h =
      let at = configuration_at nets.new u (within_new nets u same (slice_get_within nets.old u h.config h.router)) in
      let found = alike_among h.config.interfaces at.0.interfaces i (λ any. agree_at u h.config at.0 h.router at.1 (inl any)) h.among h.up in
      record {
        interface = found.item;
        up = record { config = at.0; router = at.1; among = found.among; up = found.holds.up };
        alike = found.holds;
      }

  back : (u : ℕ) (i : Interface) → UpInterface nets.new u i → HasUpAlike nets.old u i
  back u i h =
      let at = configuration_at nets.old u (within_old nets u same (slice_get_within nets.new u h.config h.router)) in
      let found = alike_among h.config.interfaces at.0.interfaces i (λ any. agree_at u at.0 h.config at.1 h.router (inr any)) h.among h.up in
      record {
        interface = found.item;
        up = record { config = at.0; router = at.1; among = found.among; up = found.holds.up };
        alike = found.holds;
      }

  connected_forth : (u : ℕ) (p : Block) → Connected nets.old u p → Connected nets.new u p
  connected_forth u p h =
      let its = forth u h.interface h.up in record { interface = its.interface; up = its.up; subnet = sym its.alike.subnet ∙ h.subnet }

  connected_back : (u : ℕ) (p : Block) → Connected nets.new u p → Connected nets.old u p
  connected_back u p h =
      let its = back u h.interface h.up in record { interface = its.interface; up = its.up; subnet = sym its.alike.subnet ∙ h.subnet }

-- as many routers
same_count : (nets : NetworkPair) → HaveSameRouters nets → length nets.old ≡ length nets.new
same_count nets same =
    ⊎_elim
    (λ (l : length nets.old < length nets.new). absurd (let w = within_old nets (length nets.old) same l in omega arith))
    (λ g. ⊎_elim
    (λ (l : length nets.new < length nets.old). absurd (let w = within_new nets (length nets.new) same l in omega arith))
    (λ h. omega arith)
    (cases_lt (length nets.new) (length nets.old)))
    (cases_lt (length nets.old) (length nets.new))

-- the networks of a pair have the same routers, up interfaces and connected prefixes
pub AreOneNetwork-from : (nets : NetworkPair) → MakePair nets → AreOneNetwork nets
AreOneNetwork-from nets m =
    let same : HaveSameRouters nets = m.0.0.0.0 in
    let none : NoRouterMeets HaveOtherInterfaces nets = m.0.0.0.1 in
    record {
      routers = same_count nets same;
      forth = forth nets same none;
      back = back nets same none;
      connected = λ u p. (connected_forth nets same none u p, connected_back nets same none u p);
    }
