-- What follows of routers, their interfaces and their adjacencies, over networks as plain data.
use Rattle.std.proofs.Common.{◌≡◌, ℕ, ◌<◌, List, length, get_or, subst, ⊎_elim, arith}
use Rattle.std.proofs.lemmas.Bool.{cases_lt, cases_eq}
use Rattle.std.proofs.lemmas.List.Elements.{All-contains}
use Rattle.std.proofs.lemmas.Option.{slice_get_within, get_or_from_slice_get}
use Rattle.net_model.specs.Configuration.{Configuration, IsConfiguration, IsInterface}
use Rattle.net_model.specs.Lookups.{IsNamed}
use Rattle.net_model.specs.Network.{Network, HasConfiguration, UpInterface, InArea, Adjacent}
use Rattle.net_model.specs.Refusals.{IsBelow, IsNetwork, NamesAscend}
use Rattle.net_model.specs.declared.interface.Interface.{Interface}
use Rattle.net_model.specs.declared.zone.Zone.{Zone}
use Rattle.net_model.specs.declared.zone.Zone.TheVariants.{Area}
use Rattle.net_model.proofs.Names.{IsBelow-irrefl, named_at, named_within}

-- a router's number is below the count of routers
pub HasConfiguration-within : (net : Network) (u : ℕ) (c : Configuration) → HasConfiguration net u c → u < length net
HasConfiguration-within net u c h = slice_get_within net u c h

pub UpInterface-within : (net : Network) (u : ℕ) (i : Interface) → UpInterface net u i → u < length net
UpInterface-within net u i h = slice_get_within net u h.config h.router

pub InArea-within : (net : Network) (u n : ℕ) → InArea net u n → u < length net
InArea-within net u n h = UpInterface-within net u h.interface h.up

pub Adjacent-from_within : (net : Network) (z : Zone) (u v cost : ℕ) → Adjacent net z u v cost → u < length net
Adjacent-from_within net z u v cost a = UpInterface-within net u a.near a.near_up

pub Adjacent-to_within : (net : Network) (z : Zone) (u v cost : ℕ) → Adjacent net z u v cost → v < length net
Adjacent-to_within net z u v cost a = UpInterface-within net v a.far a.far_up

-- what every configuration of a network keeps, and what its interfaces keep
pub HasConfiguration-keeps : (net : Network) (u : ℕ) (c : Configuration) → IsNetwork net → HasConfiguration net u c → IsConfiguration c
HasConfiguration-keeps net u c n h =
    subst IsConfiguration (get_or_from_slice_get net u c c h) (n.configurations u c (slice_get_within net u c h))

pub UpInterface-keeps : (net : Network) (u : ℕ) (i : Interface) → IsNetwork net → UpInterface net u i → IsInterface i
UpInterface-keeps net u i n up =
    All-contains IsInterface up.config.interfaces i (HasConfiguration-keeps net u up.config n up.router).interfaces up.among

-- routers that are adjacent in an OSPF area have interfaces in it
pub Adjacent-in_area : (net : Network) (n u v cost : ℕ) → Adjacent net (Area n) u v cost → InArea net u n × InArea net v n
Adjacent-in_area net n u v cost a =
    (record { interface = a.near; up = a.near_up; area = a.near_runs.0 }, record { interface = a.far; up = a.far_up; area = a.far_runs.0 })

named_apart : (net : Network) (name : List ℕ) (u v : ℕ) → NamesAscend net → IsNamed net name u → IsNamed net name v → u < v → ⊥
named_apart net name u v up h k l =
    let d = h.config in
    let below = up u v d l (named_within net name v k) in
    let P : List ℕ → List ℕ → Type 0 = λ a b. IsBelow a b in
    IsBelow-irrefl name (subst (λ a. P a name) (named_at net name u d h) (subst (P (get_or net u d).name) (named_at net name v d k) below))

-- no two routers of a network have one name
pub IsNamed-unique : (net : Network) (name : List ℕ) (u v : ℕ) → NamesAscend net → IsNamed net name u → IsNamed net name v → u ≡ v
IsNamed-unique net name u v up h k =
    ⊎_elim (λ e. e)
    (λ apart. absurd (⊎_elim (λ l. named_apart net name u v up h k l) (λ g. named_apart net name v u up k h (omega arith)) (cases_lt u v)))
    (cases_eq u v)
