-- For which interfaces of a router something is settled: those with an address that have an OSPF area or a name in the design.
use Rattle.std.proofs.lemmas.Grind.{common_steps}
use Rattle.std.proofs.Common.{◌≡◌, ℕ, suc, ◌<◌, Bool, true, false, ◌||◌, ◌⊎◌, zero, List, [], ◌∷◌, length, Option}
use Rattle.std.proofs.Common.{refl, sym, ap, ◌∙◌, get_or, arith}
use Rattle.std.specs.Prelude.{Contains, IsSome, is_some, if◌then◌else◌}
use Rattle.std.proofs.lemmas.Bool.{and_parts}
use Rattle.net_model.specs.declared.interface.Interface.{Interface}
use Rattle.design_file.specs.Settling.{interface_named, is_isis_interface, metric_for, named_for, settled_interface, settled_interfaces}
use Rattle.design_file.specs.Laws.{IsIsisInterface, SettledInterfacesLaw}
use Rattle.design_file.specs.declared.design.DesignInterface.{DesignInterface}
use Rattle.design_file.specs.declared.settled.SettledInterface.{SettledInterface}

-- ---- the test of an interface ----

either_is : {T U : Type 0} (o : Option T) (p : Option U) → (is_some o || is_some p) ≡ true → IsSome o ⊎ IsSome p
either_is o p e = grind (arith, common_steps)

is_either : {T U : Type 0} (o : Option T) (p : Option U) → IsSome o ⊎ IsSome p → (is_some o || is_some p) ≡ true
is_either o p either = grind (arith, common_steps)

module _ (metric : ℕ) (named : List DesignInterface) where
  abbrev own : Interface → Option DesignInterface
  own interface = interface_named interface.name named

  abbrev test : Interface → Bool
  test interface = is_isis_interface interface (own interface)

  runs_if : (interface : Interface) → test interface ≡ true → IsIsisInterface named interface
  runs_if interface e =
      let both = and_parts (is_some interface.subnet) (is_some interface.area || is_some (own interface)) e in
      record { address = both.0; runs = either_is interface.area (own interface) both.1 }

  if_runs : (interface : Interface) → IsIsisInterface named interface → test interface ≡ true
  if_runs interface runs = rw runs.address (is_either interface.area (own interface) runs.runs)

  -- ---- the interfaces of a router ----

  abbrev by : Interface → SettledInterface
  by interface = settled_interface metric interface (own interface)

  abbrev all : List Interface → List SettledInterface
  all interfaces = settled_interfaces metric named interfaces

  record IsOne (interfaces : List Interface) (settled : SettledInterface) : Type 0 where
    interface : Interface
    stands : Contains interfaces interface
    runs : IsIsisInterface named interface
    is : settled ≡ settled_interface metric interface (own interface)

  first_one : (interface : Interface) (more : List Interface) → Contains (interface ∷ more) interface
  first_one interface more = (0, omega arith, refl)

  later_one : {X : Type 0} (x y : X) (xs : List X) → Contains xs y → Contains (x ∷ xs) y
  later_one x y xs has = (suc has.0, omega (arith, has.1), has.2)

  one_later : (interface : Interface) (more : List Interface) (settled : SettledInterface) → IsOne more settled → IsOne (interface ∷ more) settled
  one_later interface more settled one = record {
    interface = one.interface;
    stands = later_one interface one.interface more one.stands;
    runs = one.runs;
    is = one.is;
  }

  settled_is : (interfaces : List Interface) (settled : SettledInterface) →
      Contains (settled_interfaces metric named interfaces) settled → IsOne interfaces settled
  settled_is [] settled has = absurd (omega (arith, has.1))
  settled_is (interface ∷ more) settled has = by_test (settled_is more settled) (test interface) refl has
    where
      by_place : (Contains (all more) settled → IsOne more settled) → test interface ≡ true →
          (k : ℕ) → k < length (by interface ∷ all more) →
          get_or (by interface ∷ all more) k settled ≡ settled → IsOne (interface ∷ more) settled
      by_place further e zero within is = record {
        interface = interface;
        stands = first_one interface more;
        runs = runs_if interface e;
        is = sym is;
      }
      by_place further e (suc k) within is = one_later interface more settled (further (k, omega (arith, within), is))

      by_test : (Contains (all more) settled → IsOne more settled) → (b : Bool) → test interface ≡ b →
          Contains (if b then by interface ∷ all more else all more) settled → IsOne (interface ∷ more) settled
      by_test further false e has = one_later interface more settled (further has)
      by_test further true e has = by_place further e has.0 has.1 has.2

  is_settled : (interfaces : List Interface) (settled : SettledInterface) (interface : Interface) → (k : ℕ) → k < length interfaces →
      get_or interfaces k interface ≡ interface → IsIsisInterface named interface → settled ≡ settled_interface metric interface (own interface) →
      Contains (settled_interfaces metric named interfaces) settled
  is_settled [] settled interface k within at runs is = absurd (omega (arith, within))
  is_settled (first ∷ more) settled interface zero within at runs is =
      let one : test first ≡ true = ap test at ∙ if_runs interface runs in
      let same : settled_interface metric first (own first) ≡ settled = ap (λ (i : Interface). settled_interface metric i (own i)) at ∙ sym is in
      let has : Contains (settled_interface metric first (own first) ∷ settled_interfaces metric named more) settled = (0, omega arith, same) in
      rw one has
  is_settled (first ∷ more) settled interface (suc k) within at runs is =
      by_test (test first) (is_settled more settled interface k (omega (arith, within)) at runs is)
    where
      by_test : (b : Bool) → Contains (settled_interfaces metric named more) settled →
          Contains (if b then by first ∷ all more else all more) settled
      by_test false has = has
      by_test true has = later_one (settled_interface metric first (own first)) settled (settled_interfaces metric named more) has

pub settled_interfaces_law : SettledInterfacesLaw
settled_interfaces_law design given config settled = (
  (λ has.
      let one = settled_is (metric_for design given) (named_for given) config.interfaces settled has in
      record { interface = one.interface; stands = one.stands; settled_of = record { runs = one.runs; is = one.is } }),
  (λ one. is_settled (metric_for design given) (named_for given) config.interfaces settled one.interface one.stands.0 one.stands.1 one.stands.2
      one.settled_of.runs one.settled_of.is),
)
