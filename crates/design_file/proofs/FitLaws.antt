-- What is settled fits the network.
use Rattle.std.proofs.Common.{◌≡◌, ℕ, suc, Bool, true, false, ◌||◌, cond, ◌+◌, List, [], ◌∷◌, ◌++◌}
use Rattle.std.proofs.Common.{append_assoc, drop, Option, Some, None, IsTrue, All, IfSome, refl, sym, ap, ◌∙◌, inl, inr}
use Rattle.std.specs.List.{AllZip, find}
use Rattle.std.specs.Option.{is_some, unwrap_or}
use Rattle.std.specs.Str.{bytes_eq}
use Rattle.std.proofs.lemmas.Bool.{and_parts}
use Rattle.std.proofs.lemmas.List.Elements.{All-head, All-nil, All-tail}
use Rattle.net_model.specs.Configuration.{Configuration}
use Rattle.net_model.specs.Network.{Network, HasConfiguration}
use Rattle.net_model.specs.declared.interface.Interface.{Interface}
use Rattle.design_file.specs.Designs.{IsMetric, IsRouterSound, IsSoundDesign}
use Rattle.design_file.specs.Faults.{fault}
use Rattle.design_file.specs.NetworkFaults.{IsNetworkFault, has_isis, router_path}
use Rattle.design_file.specs.Settling.{AreForSome, FitsNetwork, FitsRouter, interface_metric, interface_named}
use Rattle.design_file.specs.Settling.{is_isis_interface, router_named, settled_interface, settled_interfaces, settled_router, settled_routers}
use Rattle.design_file.specs.Values.{is_area}
use Rattle.design_file.specs.declared.design.Design.{Design}
use Rattle.design_file.specs.declared.design.DesignRouter.{DesignRouter}
use Rattle.design_file.specs.declared.design.DesignInterface.{DesignInterface}
use Rattle.design_file.specs.declared.fault.Fault.{Fault}
use Rattle.design_file.specs.declared.refusal.DesignKind.TheVariants.{AlreadyIsis}
use Rattle.design_file.specs.declared.settled.SettledInterface.{SettledInterface}
use Rattle.design_file.specs.declared.settled.SettledRouter.{SettledRouter}
use Rattle.design_file.proofs.NetworkLookups.{drop_at}

find_by : {X : Type 0} (P : X → Type 0) (found : Bool) (x : X) (rest : Option X) → P x → IfSome rest P → IfSome (cond found (Some x) rest) P
find_by P true x rest here more = here
find_by P false x rest here more = more

-- what holds of all holds of the one that is found
find_all : {X : Type 0} (P : X → Type 0) (test : X → Bool) (xs : List X) → All P xs → IfSome (find test xs) P
find_all P test [] all = tt
find_all P test (x ∷ xs) all = find_by P (test x) x (find test xs) (All-head P x xs all) (find_all P test xs (All-tail P x xs all))

said_or : {X : Type 0} (P : X → Type 0) (said : Option X) (usual : X) → IfSome said P → P usual → P (unwrap_or said usual)
said_or P None usual good other = other
said_or P (Some x) usual good other = good

module _ (metric : ℕ) (usual : IsMetric metric) (named : List DesignInterface) (sound : All (λ (i : DesignInterface). IfSome i.metric IsMetric) named) where
  metric_sound : (own : Option DesignInterface) → IfSome own (λ (i : DesignInterface). IfSome i.metric IsMetric) → IsMetric (interface_metric metric own)
  metric_sound None good = usual
  metric_sound (Some own) good = said_or IsMetric own.metric metric good usual

  skipped : (interface : Interface) (more : List Interface) (settled : List SettledInterface) → AreForSome more settled →
      AreForSome (interface ∷ more) settled
  skipped interface more [] h = tt
  skipped interface more (one ∷ others) h = inr h

  one_more : (interface : Interface) (more : List Interface) (own : Option DesignInterface) (others : List SettledInterface) →
      IfSome own (λ (i : DesignInterface). IfSome i.metric IsMetric) →
      AreForSome more others → (is : Bool) → is_isis_interface interface own ≡ is →
      AreForSome (interface ∷ more) (cond is (settled_interface metric interface own ∷ others) others)
  one_more interface more own others good rest true e =
      let parts = and_parts (is_some interface.subnet) (is_some interface.area || is_some own) e in
      inl (record { name = refl; address = parts.0; metric = metric_sound own good }, rest)
  one_more interface more own others good rest false e = skipped interface more others rest

  interfaces_fit : (interfaces : List Interface) → AreForSome interfaces (settled_interfaces metric named interfaces)
  interfaces_fit [] = tt
  interfaces_fit (interface ∷ more) =
      let own = interface_named interface.name named in
      let good = find_all (λ (i : DesignInterface). IfSome i.metric IsMetric) (λ (i : DesignInterface). bytes_eq i.name interface.name) named sound in
      one_more interface more own (settled_interfaces metric named more) good (interfaces_fit more) (is_isis_interface interface own) refl

module _ (design : Design) (sound : IsSoundDesign design) where
  router_fits : (own : Option DesignRouter) (config : Configuration) → IfSome own IsRouterSound → config.isis ≡ false →
      FitsRouter config (settled_router design own config)
  router_fits None config good no_isis = record {
    no_isis = no_isis;
    area = sound.area;
    interfaces = interfaces_fit design.metric sound.metric [] (All-nil (λ (i : DesignInterface). IfSome i.metric IsMetric)) config.interfaces;
  }
  router_fits (Some own) config good no_isis = record {
    no_isis = no_isis;
    area = said_or (λ area. IsTrue (is_area area)) own.area design.area good.area sound.area;
    interfaces = interfaces_fit (unwrap_or own.metric design.metric) (said_or IsMetric own.metric design.metric good.metric sound.metric)
        own.interfaces good.interfaces config.interfaces;
  }

  routers_fit : (rest : Network) → ((u : ℕ) (config : Configuration) → HasConfiguration rest u config → config.isis ≡ false) →
      AllZip FitsRouter rest (settled_routers design rest)
  routers_fit [] none = tt
  routers_fit (config ∷ more) none = (
    router_fits (router_named config.name design.routers) config
        (find_all IsRouterSound (λ (r : DesignRouter). bytes_eq r.name config.name) design.routers sound.routers) (none 0 config refl),
    routers_fit more (λ u c at. none (suc u) c at),
  )

  no_process : (net : Network) → ((f : Fault) → IsNetworkFault design net f → ⊥) → (u : ℕ) (config : Configuration) →
      HasConfiguration net u config →
      (isis : Bool) → config.isis ≡ isis → config.isis ≡ false
  no_process net none u config at false e = e
  no_process net none u config at true e =
      let f = fault AlreadyIsis (router_path config.name) in
      absurd (none f (has_isis u config at e refl))

  -- what a design in which nothing is wrong settles for a network fits it
  pub settled_fits : (net : Network) → ((f : Fault) → IsNetworkFault design net f → ⊥) → FitsNetwork net (settled_routers design net)
  settled_fits net none = routers_fit net (λ u config at. no_process net none u config at config.isis refl)

-- one more router is settled
pub settled_step : (design : Design) (done all : List SettledRouter) (net : Network) (u : ℕ) (config : Configuration) (one : SettledRouter) →
    HasConfiguration net u config →
    one ≡ settled_router design (router_named config.name design.routers) config → done ++ settled_routers design (drop u net) ≡ all →
    (done ++ one ∷ []) ++ settled_routers design (drop (u + 1) net) ≡ all
settled_step design done all net u config one at is before =
    append_assoc done (one ∷ []) (settled_routers design (drop (u + 1) net))
    ∙ ap (λ (s : SettledRouter). done ++ s ∷ settled_routers design (drop (u + 1) net)) is
    ∙ sym (ap (λ (rest : Network). done ++ settled_routers design rest) (drop_at net u config at)) ∙ before
