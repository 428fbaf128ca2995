-- What keeps a router from being moved to a second OSPF process, by its old and its new configuration.
use Rattle.std.specs.Prelude.{◌≡◌, ◌≢◌, ℕ, ◌⊎◌, List, Option, Some, None, is_some, IsSome, IsTrue, Any}
use Rattle.net_model.specs.Configuration.{Configuration}
use Rattle.net_model.specs.declared.bounds.TheConstants.{MOST_DISTANCE}
use Rattle.net_model.specs.declared.interface.Interface.{Interface}

-- an up interface has the name, address and subnet of another one, and both run OSPF or neither does
pub record IsUpAlike (i j : Interface) : Type 0 where
  pub up : IsTrue j.up
  pub name : i.name ≡ j.name
  pub address : i.address ≡ j.address
  pub subnet : i.subnet ≡ j.subnet
  pub runs : is_some i.area ≡ is_some j.area

-- an interface is up, and no up interface of these is alike
abbrev pub HasNoneAlike : List Interface → Interface → Type 0
HasNoneAlike others i = IsTrue i.up × (Any (IsUpAlike i) others → ⊥)

-- the up interfaces differ in name, address, subnet or in whether they run OSPF: either router has one that the other lacks
abbrev pub HaveOtherInterfaces : Configuration → Configuration → Type 0
HaveOtherInterfaces c d = Any (HasNoneAlike d.interfaces) c.interfaces ⊎ Any (HasNoneAlike c.interfaces) d.interfaces

-- it runs IS-IS, before or after
abbrev pub RunsIsis : Configuration → Configuration → Type 0
RunsIsis c d = IsTrue c.isis ⊎ IsTrue d.isis

-- of two optional processes there is one alone, or both have one number
abbrev pub DoProcessesClash : Option ℕ → Option ℕ → Type 0
DoProcessesClash None None = ⊥
DoProcessesClash None (Some new) = Unit {0}
DoProcessesClash (Some old) None = Unit {0}
DoProcessesClash (Some old) (Some new) = old ≡ new

-- its OSPF processes clash
abbrev pub HasProcessClash : Configuration → Configuration → Type 0
HasProcessClash c d = DoProcessesClash c.process d.process

-- its new process would install routes at once: it has another distance than the greatest
abbrev pub IsNotIdle : Configuration → Configuration → Type 0
IsNotIdle c d = IsSome d.process × (d.distances.ospf ≢ MOST_DISTANCE)
