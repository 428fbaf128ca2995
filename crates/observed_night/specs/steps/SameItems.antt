-- When two interfaces are the same, by groups of what is said of them.
use Rattle.std.specs.Prelude.{◌≡◌}
use Rattle.net_model.specs.declared.interface.Interface.{Interface}

-- what two interfaces are called, and what they are without a protocol
pub record HaveSameHead (i j : Interface) : Type 0 where
  pub name : i.name ≡ j.name
  pub address : i.address ≡ j.address
  pub subnet : i.subnet ≡ j.subnet
  pub up : i.up ≡ j.up
  pub loopback : i.loopback ≡ j.loopback

-- what is said of their OSPF
pub record HaveSameOspf (i j : Interface) : Type 0 where
  pub area : i.area ≡ j.area
  pub cost : i.cost ≡ j.cost
  pub passive : i.ospf_passive ≡ j.ospf_passive

-- what is said of their IS-IS
pub record HaveSameIsis (i j : Interface) : Type 0 where
  pub level1 : i.level1 ≡ j.level1
  pub level2 : i.level2 ≡ j.level2
  pub metric1 : i.metric1 ≡ j.metric1
  pub metric2 : i.metric2 ≡ j.metric2
  pub passive : i.isis_passive ≡ j.isis_passive
