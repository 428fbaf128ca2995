-- What a design by costs says of a router and of an interface, by its name.
use Rattle.std.proofs.Common.{◌≡◌, ◌≢◌, true, false, Bool, cond, suc, List, [], ◌∷◌, Some, None, option_map, Contains, AllPairs}
use Rattle.std.proofs.Common.{refl, sym, ap, ◌∙◌, subst, arith, find, inl, inr}
use Rattle.std.specs.Str.{bytes_eq}
use Rattle.std.proofs.lemmas.Bool.{cases_Bool, false≢true}
use Rattle.net_model.specs.Configuration.{Configuration}
use Rattle.net_model.specs.Network.{Network}
use Rattle.net_model.specs.declared.interface.Interface.{Interface}
use Rattle.net_model.proofs.Members.{Contains-cases, Contains-first, Contains-none, Contains-rest}
use Rattle.ios_lines.specs.Words.{Word}
use Rattle.toml.specs.Data.{Data, Members, get_member, member, no_members}
use Rattle.design_file.specs.Designs.{each_said}
use Rattle.design_file.proofs.NetworkLookups.{same_text, text_is}
use Rattle.design_file.proofs.MetricTables.{AllMembers}
use Rattle.design_writer.specs.CostTables.{has_cost}
use Rattle.design_writer.specs.CostTables.{cost_data, put_member, router_data, with_cost, with_interfaces, with_routers}
use Rattle.design_writer.proofs.MemberPuts.{found, passed, put_elsewhere, put_here}

-- ---- what is said of a name ----

module _ {X : Type 0} (name : X → Word) (says : Word → Data → X) (named : (key : Word) (value : Data) → name (says key value) ≡ key) where
  -- what is found by a name is what the value at this key says
  pub find_said : (k : Word) (ms : Members) →
      find (λ (x : X). bytes_eq (name x) k) (each_said says ms) ≡ option_map (says k) (get_member k ms)
  find_said k no_members = refl
  find_said k (member l d ms) = elim (cases_Bool (bytes_eq (name (says l d)) k)) [
    | inl same ↦
        let is : l ≡ k = sym (named l d) ∙ same_text (name (says l d)) k same in
        ap (λ (b : Bool). cond b (Some (says l d)) (find (λ (x : X). bytes_eq (name x) k) (each_said says ms))) same
        ∙ subst (λ (word : Word). Some (says word d) ≡ option_map (says k) (get_member k (member word d ms))) (sym is)
        (ap (option_map (says k)) (sym (found k (Some d) (get_member k ms))))
    | inr other ↦
        let apart : k ≢ l = λ is. false≢true (sym other ∙ text_is (name (says l d)) k (named l d ∙ sym is)) in
        ap (λ (b : Bool). cond b (Some (says l d)) (find (λ (x : X). bytes_eq (name x) k) (each_said says ms))) other
        ∙ find_said k ms ∙ ap (option_map (says k)) (sym (passed k l (Some d) (get_member k ms) apart))
  ]

-- an element of what is said is what some member says
pub record IsSaidOf {X : Type 0} (P : Word → Data → Type 0) (says : Word → Data → X) (x : X) : Type 0 where
  pub word : Word
  pub value : Data
  pub holds : P word value
  pub is : says word value ≡ x

pub said_from : {X : Type 0} (P : Word → Data → Type 0) (says : Word → Data → X) (ms : Members) → AllMembers P ms → (x : X) →
    Contains (each_said says ms) x → IsSaidOf P says x
said_from P says no_members all x among = absurd (Contains-none x among)
said_from P says (member word value more) all x among = elim (Contains-cases (says word value) (each_said says more) x among) [
  | inl here ↦ record { word = word; value = value; holds = all.0; is = here }
  | inr rest ↦ said_from P says more all.1 x rest
]

-- ---- what stands at the name of an interface ----

abbrev pub AreNamedApart : List Interface → Type 0
AreNamedApart interfaces = AllPairs (λ (i j : Interface). i.name ≢ j.name) interfaces

at_other : (k : Word) (i : Interface) (ms : Members) → k ≢ i.name → get_member k (with_cost i ms) ≡ get_member k ms
at_other k i ms apart = by (has_cost i)
  where
    by : (b : Bool) → get_member k (cond b (put_member i.name (cost_data i.cost) ms) ms) ≡ get_member k ms
    by true = put_elsewhere k i.name (cost_data i.cost) ms apart
    by false = refl

at_none : (k : Word) (interfaces : List Interface) (ms : Members) → ((i : Interface) → Contains interfaces i → k ≢ i.name) →
    get_member k (with_interfaces ms interfaces) ≡ get_member k ms
at_none k [] ms apart = refl
at_none k (i ∷ interfaces) ms apart =
    at_none k interfaces (with_cost i ms) (λ j among. apart j (Contains-rest i interfaces j among)) ∙ at_other k i ms (apart i (Contains-first i interfaces))

pub first_apart : (i : Interface) (interfaces : List Interface) → AreNamedApart (i ∷ interfaces) → (j : Interface) → Contains interfaces j → i.name ≢ j.name
first_apart i interfaces apart j among =
    subst (λ (k : Interface). i.name ≢ k.name) among.2 (apart 0 (suc among.0) j (omega arith) (omega (arith, among.1)))

pub rest_apart : (i : Interface) (interfaces : List Interface) → AreNamedApart (i ∷ interfaces) → AreNamedApart interfaces
rest_apart i interfaces apart j k d before within = apart (suc j) (suc k) d (omega (arith, before)) (omega (arith, within))

-- the table of an interface with a cost, and nothing of another one
pub at_interface : (interfaces : List Interface) (ms : Members) → AreNamedApart interfaces →
    ((i : Interface) → Contains interfaces i → get_member i.name ms ≡ None) → (i : Interface) → Contains interfaces i →
    get_member i.name (with_interfaces ms interfaces) ≡ cond (has_cost i) (Some (cost_data i.cost)) None
at_interface [] ms apart none i among = absurd (Contains-none i among)
at_interface (j ∷ interfaces) ms apart none i among = elim (Contains-cases j interfaces i among) [
  | inl here ↦
      subst (λ (k : Interface). get_member k.name (with_interfaces (with_cost j ms) interfaces) ≡ cond (has_cost k) (Some (cost_data k.cost)) None) here
      (at_none j.name interfaces (with_cost j ms) (first_apart j interfaces apart) ∙ by (has_cost j))
  | inr rest ↦
      at_interface interfaces (with_cost j ms) (rest_apart j interfaces apart)
      (λ k inside. at_other k.name j ms (λ same. first_apart j interfaces apart k inside (sym same)) ∙ none k (Contains-rest j interfaces k inside)) i rest
]
  where
    by : (b : Bool) → get_member j.name (cond b (put_member j.name (cost_data j.cost) ms) ms) ≡ cond b (Some (cost_data j.cost)) None
    by true = put_here j.name (cost_data j.cost) ms
    by false = none j (Contains-first j interfaces)

-- ---- what stands at the name of a router ----

abbrev pub AreRoutersApart : Network → Type 0
AreRoutersApart net = AllPairs (λ (c d : Configuration). c.name ≢ d.name) net

not_router : (k : Word) (net : Network) (ms : Members) → ((c : Configuration) → Contains net c → k ≢ c.name) →
    get_member k (with_routers ms net) ≡ get_member k ms
not_router k [] ms apart = refl
not_router k (c ∷ net) ms apart =
    not_router k net (put_member c.name (router_data c) ms) (λ d among. apart d (Contains-rest c net d among))
    ∙ put_elsewhere k c.name (router_data c) ms (apart c (Contains-first c net))

pub at_router : (net : Network) (ms : Members) → AreRoutersApart net → (c : Configuration) → Contains net c →
    get_member c.name (with_routers ms net) ≡ Some (router_data c)
at_router [] ms apart c among = absurd (Contains-none c among)
at_router (first ∷ net) ms apart c among = elim (Contains-cases first net c among) [
  | inl here ↦
      subst (λ (k : Configuration). get_member k.name (with_routers (put_member first.name (router_data first) ms) net) ≡ Some (router_data k)) here
      (not_router first.name net (put_member first.name (router_data first) ms)
      (λ d inside. subst (λ (k : Configuration). first.name ≢ k.name) inside.2 (apart 0 (suc inside.0) d (omega arith) (omega (arith, inside.1))))
      ∙ put_here first.name (router_data first) ms)
  | inr rest ↦
      at_router net (put_member first.name (router_data first) ms) (λ j k d before within. apart (suc j) (suc k) d (omega (arith, before)) (omega (arith, within)))
      c rest
]
