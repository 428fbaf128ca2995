-- The faults of a design for a network are those that are gathered.
use Rattle.std.proofs.Common.{arith}
use Rattle.std.proofs.lemmas.Grind.{common_steps}
use Rattle.std.proofs.Common.{◌≡◌, ℕ, zero, suc, Bool, true, false, cond, ◌+◌, List, [], ◌∷◌, ◌++◌}
use Rattle.std.proofs.Common.{append_assoc, drop, Option, Some, None, Contains, IsTrue, refl, sym, ap, subst, ◌∙◌, inl, ⊎_elim}
use Rattle.std.proofs.lemmas.Bool.{false≢true}
use Rattle.std.proofs.lemmas.Option.{same_Some}
use Rattle.net_model.specs.Configuration.{Configuration}
use Rattle.net_model.specs.Lookups.{IsNamed}
use Rattle.net_model.specs.Network.{Network, HasConfiguration}
use Rattle.net_model.specs.Refusals.{IsNetwork}
use Rattle.net_model.specs.declared.interface.Interface.{Interface}
use Rattle.net_model.proofs.Members.{Contains-cases, Contains-first, Contains-none, Contains-rest}
use Rattle.net_model.proofs.NetworkFacts.{IsNamed-unique}
use Rattle.design_file.specs.steps.FaultLists.{Among}
use Rattle.design_file.specs.Faults.{fault}
use Rattle.ios_lines.specs.Words.{Word}
use Rattle.design_file.specs.Keys.{below}
use Rattle.design_file.specs.NetworkFaults.{HasAddressed, IsNetworkFault, no_router, no_interface, has_isis, router_path, interfaces_path}
use Rattle.design_file.specs.steps.NetworkFaultLists.{config_named, fault_unless, has_addressed, interfaces_faults}
use Rattle.design_file.specs.steps.NetworkFaultLists.{router_faults, routers_faults, isis_fault, already_isis_faults, network_faults}
use Rattle.design_file.specs.declared.design.Design.{Design}
use Rattle.design_file.specs.declared.design.DesignRouter.{DesignRouter}
use Rattle.design_file.specs.declared.design.DesignInterface.{DesignInterface}
use Rattle.design_file.specs.declared.fault.Fault.{Fault}
use Rattle.design_file.specs.declared.refusal.DesignKind.{DesignKind}
use Rattle.design_file.specs.declared.refusal.DesignKind.TheVariants.{UnknownRouter, UnknownInterface, AlreadyIsis}
use Rattle.design_file.proofs.FaultListLaws.{Among-left, Among-one, Among-right, Among-split}
use Rattle.design_file.proofs.NetworkLookups.{drop_at, named_at, none_named, addressed_from, addressed_is}

-- an interface that a design names of a router, where there is none of the name with an address
record LacksOne (path : Word) (interfaces : List Interface) (named : List DesignInterface) (f : Fault) : Type 0 where
  one : DesignInterface
  among : Contains named one
  none : has_addressed one.name interfaces ≡ false
  fault_is : fault UnknownInterface (below path one.name) ≡ f

clash : {b : Bool} → b ≡ true → b ≡ false → ⊥
clash t n = false≢true (sym n ∙ t)

-- the fault of a router that has an IS-IS process, by whether it has
abbrev if_isis : Bool → Configuration → List Fault
if_isis isis config = cond isis (fault AlreadyIsis (router_path config.name) ∷ []) []

-- no interface of the name has an address
lacks : (config : Configuration) (name : Word) → (HasAddressed config name → ⊥) → (has : Bool) → has_addressed name config.interfaces ≡ has →
    has_addressed name config.interfaces ≡ false
lacks config name none it_3 e = grind (arith, common_steps, addressed_from)

module _ (f : Fault) where
  unless_found : (good : Bool) (kind : DesignKind) (path : Word) → Among f (fault_unless good kind path) → (good ≡ false) × (fault kind path ≡ f)
  unless_found true kind path h = absurd h
  unless_found false kind path h = (refl, Among-one f (fault kind path) h)

  lacking : (path : Word) (interfaces : List Interface) (named : List DesignInterface) → Among f (interfaces_faults path interfaces named) →
      LacksOne path interfaces named f
  lacking path interfaces [] h = absurd h
  lacking path interfaces (first ∷ more) h =
      ⊎_elim
      (λ a.
      let found = unless_found (has_addressed first.name interfaces) UnknownInterface (below path first.name) a in
      record { one = first; among = Contains-first first more; none = found.0; fault_is = found.1 })
      (λ b.
      let rest = lacking path interfaces more b in
      record { one = rest.one; among = Contains-rest first more rest.one rest.among; none = rest.none; fault_is = rest.fault_is })
      (Among-split f (fault_unless (has_addressed first.name interfaces) UnknownInterface (below path first.name)) (interfaces_faults path interfaces more) h)

  lack_listed : (path : Word) (interfaces : List Interface) (named : List DesignInterface) (one : DesignInterface) → Contains named one →
      has_addressed one.name interfaces ≡ false →
      fault UnknownInterface (below path one.name) ≡ f → Among f (interfaces_faults path interfaces named)
  lack_listed path interfaces [] one c none is = absurd (Contains-none one c)
  lack_listed path interfaces (first ∷ more) one c none is =
      ⊎_elim
      (λ e.
      let P : DesignInterface → Type 0 = λ i. Among f (fault_unless (has_addressed i.name interfaces) UnknownInterface (below path i.name)) in
      let here : P one = subst (λ b. Among f (fault_unless b UnknownInterface (below path one.name))) (sym none) (inl is) in
      Among-left f (fault_unless (has_addressed first.name interfaces) UnknownInterface (below path first.name))
      (interfaces_faults path interfaces more) (subst P (sym e) here))
      (λ r.
      Among-right f (fault_unless (has_addressed first.name interfaces) UnknownInterface (below path first.name)) (interfaces_faults path interfaces more)
      (lack_listed path interfaces more one r none is))
      (Contains-cases first more one c)

  module _ (design : Design) (net : Network) where
    router_found : (router : DesignRouter) → Contains design.routers router → (config : Option Configuration) →
        config_named router.name net ≡ config →
        Among f (router_faults config router) → IsNetworkFault design net f
    router_found router c None e h =
        no_router router c (λ u n. none_named net router.name e u n.config n.router n.name_is) (Among-one f (fault UnknownRouter (router_path router.name)) h)
    router_found router c (Some config) e h =
        let lack = lacking (interfaces_path router.name) config.interfaces router.interfaces h in
        let at = named_at net router.name config e in
        no_interface router lack.one at.router config c lack.among at.at at.name_is
        (λ has. let there = addressed_is config.interfaces lack.one.name has.interface has.among has.name_is has.address in absurd (clash there lack.none))
        lack.fault_is

    routers_found : (routers : List DesignRouter) → ((r : DesignRouter) → Contains routers r → Contains design.routers r) →
        Among f (routers_faults net routers) → IsNetworkFault design net f
    routers_found [] sub h = absurd h
    routers_found (router ∷ more) sub h =
        ⊎_elim
        (router_found router (sub router (Contains-first router more)) (config_named router.name net) refl)
        (routers_found more (λ r c. sub r (Contains-rest router more r c)))
        (Among-split f (router_faults (config_named router.name net) router) (routers_faults net more) h)

    process_found : (config : Configuration) (isis : Bool) → config.isis ≡ isis → Among f (isis_fault config) →
        IsTrue config.isis × (fault AlreadyIsis (router_path config.name) ≡ f)
    process_found config true e h =
        let P : Bool → Type 0 = λ b. Among f (if_isis b config) in
        (e, Among-one f (fault AlreadyIsis (router_path config.name)) (subst P e h))
    process_found config false e h =
        let P : Bool → Type 0 = λ b. Among f (if_isis b config) in
        absurd (subst P e h)

    isis_found : (rest : Network) → ((u : ℕ) (config : Configuration) → HasConfiguration rest u config → (v : ℕ) ×
        HasConfiguration net v config) →
        Among f (already_isis_faults rest) → IsNetworkFault design net f
    isis_found [] sub h = absurd h
    isis_found (config ∷ more) sub h =
        ⊎_elim
        (λ a.
        let found = process_found config config.isis refl a in
        let at = sub 0 config refl in
        has_isis at.0 config at.1 found.0 found.1)
        (isis_found more (λ u c at. sub (suc u) c at))
        (Among-split f (isis_fault config) (already_isis_faults more) h)

    pub network_found : Among f (network_faults design net) → IsNetworkFault design net f
    network_found h =
        ⊎_elim (routers_found design.routers (λ r c. c)) (isis_found net (λ u c at. (u, at)))
        (Among-split f (routers_faults net design.routers) (already_isis_faults net) h)

    router_listed : (routers : List DesignRouter) (router : DesignRouter) → Contains routers router →
        Among f (router_faults (config_named router.name net) router) → Among f (routers_faults net routers)
    router_listed [] router c h = absurd (Contains-none router c)
    router_listed (first ∷ more) router c h =
        ⊎_elim
        (λ e. Among-left f (router_faults (config_named first.name net) first) (routers_faults net more)
        (subst (λ (r : DesignRouter). Among f (router_faults (config_named r.name net) r)) (sym e) h))
        (λ r. Among-right f (router_faults (config_named first.name net) first) (routers_faults net more) (router_listed more router r h))
        (Contains-cases first more router c)

    isis_listed : (rest : Network) (u : ℕ) (config : Configuration) → HasConfiguration rest u config → IsTrue config.isis →
        fault AlreadyIsis (router_path config.name) ≡ f → Among f (already_isis_faults rest)
    isis_listed [] u config at isis is = cc
    isis_listed (first ∷ more) zero config at isis is =
        let P : Configuration → Type 0 = λ c. Among f (isis_fault c) in
        let here : P config = subst (λ b. Among f (if_isis b config)) (sym isis) (inl is) in
        Among-left f (isis_fault first) (already_isis_faults more) (subst P (sym (same_Some first config at)) here)
    isis_listed (first ∷ more) (suc u) config at isis is = Among-right f (isis_fault first) (already_isis_faults more) (isis_listed more u config at isis is)

    module _ (network : IsNetwork net) where
      -- the configuration found of a name is the one of it
      found_is : (u : ℕ) (config : Configuration) (name : Word) → HasConfiguration net u config → config.name ≡ name →
          (found : Option Configuration) → config_named name net ≡ found → found ≡ Some config
      found_is u config name at n None e = absurd (none_named net name e u config at n)
      found_is u config name at n (Some other) e =
          let its = named_at net name other e in
          let one : IsNamed net name u = record { config = config; router = at; name_is = n } in
          let two : IsNamed net name its.router = record { config = other; router = its.at; name_is = its.name_is } in
          let same = IsNamed-unique net name its.router u network.ascending two one in
          sym (subst (λ v. HasConfiguration net v other) same its.at) ∙ at

      unknown : (router : DesignRouter) → ((u : ℕ) → IsNamed net router.name u → ⊥) → fault UnknownRouter (router_path router.name) ≡ f →
          (found : Option Configuration) → config_named router.name net ≡ found → Among f (router_faults found router)
      unknown router none is None e = inl is
      unknown router none is (Some config) e =
          let at = named_at net router.name config e in
          absurd (none at.router (record { config = config; router = at.at; name_is = at.name_is }))

      pub network_listed : IsNetworkFault design net f → Among f (network_faults design net)
      network_listed (no_router router c none is) =
          Among-left f (routers_faults net design.routers) (already_isis_faults net)
          (router_listed design.routers router c (unknown router none is (config_named router.name net) refl))
      network_listed (no_interface router one u config c among at n none is) =
          let found = found_is u config router.name at n (config_named router.name net) refl in
          let lack = lack_listed (interfaces_path router.name) config.interfaces router.interfaces one among
          (lacks config one.name none (has_addressed one.name config.interfaces) refl) is in
          Among-left f (routers_faults net design.routers) (already_isis_faults net)
          (router_listed design.routers router c (subst (λ (o : Option Configuration). Among f (router_faults o router)) (sym found) lack))
      network_listed (has_isis u config at isis is) =
          Among-right f (routers_faults net design.routers) (already_isis_faults net) (isis_listed net u config at isis is)

-- one more router's process is looked at
pub isis_step : (done all : List Fault) (net : Network) (u : ℕ) (config : Configuration) → HasConfiguration net u config →
    done ++ already_isis_faults (drop u net) ≡ all →
    (done ++ isis_fault config) ++ already_isis_faults (drop (u + 1) net) ≡ all
isis_step done all net u config at before =
    append_assoc done (isis_fault config) (already_isis_faults (drop (u + 1) net))
    ∙ sym (ap (λ (rest : Network). done ++ already_isis_faults rest) (drop_at net u config at)) ∙ before
