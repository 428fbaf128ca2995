-- What up interfaces claim: a key for a value. Where each key is claimed for one value alone, nothing clashes over it.
use Rattle.std.specs.Prelude.{◌≡◌, ℕ, ◌+◌, ◌-◌, ◌^◌, ◌<◌, nat_eq, if◌then◌else◌, List, slice_index_or, Option, None, Some, Contains}
use Rattle.std.specs.List.{list_any}
use Rattle.net_addr.specs.Addresses.{Block}
use Rattle.net_model.specs.Configuration.{Configuration}
use Rattle.net_model.specs.Network.{Network, UpInterface}
use Rattle.net_model.specs.declared.area.Stub.{Stub}
use Rattle.net_model.specs.declared.claims.Claim.{Claim}
use Rattle.net_model.specs.declared.interface.Interface.{Interface}

-- who has the address of an interface alone: its router, or all loopbacks together, under a number that is no router's
abbrev pub holder : ℕ → Interface → ℕ
holder u i = if i.loopback then 2 ^ 32 - 1 else u

-- an up interface claims its address for its holder
abbrev pub address_claim : ℕ → Configuration → Interface → Option Claim
address_claim u c i = if i.up then Some (record { key = i.address; value = holder u i }) else None

-- a subnet's first address, for an area
abbrev pub area_claim_of : Option Block → Option ℕ → Option Claim
area_claim_of (Some p) (Some area) = Some (record { key = p.base; value = area })
area_claim_of _ _ = None

-- an up interface that runs OSPF claims its subnet for its area
abbrev pub area_claim : ℕ → Configuration → Interface → Option Claim
area_claim u c i = if i.up then area_claim_of i.subnet i.area else None

-- an area, for whether a stub line for it is among these
abbrev pub stub_claim_of : List Stub → Option ℕ → Option Claim
stub_claim_of stubs (Some area) =
    Some (record { key = area; value = if list_any (λ (s : Stub). nat_eq s.area area) stubs then 1 else 0 })
stub_claim_of stubs None = None

-- an up interface that runs OSPF claims its area for whether its router has a stub line for it
abbrev pub stub_claim : ℕ → Configuration → Interface → Option Claim
stub_claim u c i = if i.up then stub_claim_of c.stubs i.area else None

-- each key is claimed for one value alone
abbrev pub ClaimsAgree : (ℕ → Configuration → Interface → Option Claim) → Network → Type 0
ClaimsAgree claimed net =
    (u v : ℕ) (i j : Interface) (x y : Claim) (i_up : UpInterface net u i) (j_up : UpInterface net v j) →
    claimed u i_up.config i ≡ Some x → claimed v j_up.config j ≡ Some y → x.key ≡ y.key → x.value ≡ y.value

-- the list holds what the up interfaces of the routers below n claim
abbrev pub HoldsClaims : (ℕ → Configuration → Interface → Option Claim) → Network → ℕ → List Claim → Type 0
HoldsClaims claimed net n claims =
    (u : ℕ) (i : Interface) (x : Claim) → u < n → (up : UpInterface net u i) → claimed u up.config i ≡ Some x → Contains claims x

-- of the first n claims of a list neighbors with one key have one value
abbrev pub NeighborsAgree : List Claim → ℕ → Type 0
NeighborsAgree claims n =
    (k : ℕ) (d : Claim) → k + 1 < n → (slice_index_or claims k d).key ≡ (slice_index_or claims (k + 1) d).key →
    (slice_index_or claims k d).value ≡ (slice_index_or claims (k + 1) d).value
