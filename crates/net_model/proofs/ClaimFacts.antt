-- Where each key is claimed for one value alone, no two routers clash over an address or an area.
use Rattle.std.proofs.Common.{◌≡◌, ℕ, zero, suc, ◌+◌, ◌-◌, ◌^◌, ◌<◌, ◌≤◌, ◌++◌, ◌⊎◌, Bool, true, false, nat_eq, if◌then◌else◌, List, length}
use Rattle.std.proofs.Common.{get_or, Option, Some, Contains, ◌↔◌, arith, refl, sym, ap, subst, ◌∙◌, inl, inr, ⊎_elim}
use Rattle.std.specs.List.{filter_map, list_any}
use Rattle.std.specs.List.Sorted.{IsNonDecreasingBy}
use Rattle.std.proofs.lemmas.Bool.{cases_lt, eq-eqb, eqb-true}
use Rattle.std.proofs.lemmas.List.Folds.{Any-from_list_any, list_any-from_Any}
use Rattle.std.proofs.lemmas.List.Elements.{Contains-append_left, Contains-append_right}
use Rattle.net_addr.specs.Addresses.{Block}
use Rattle.net_model.specs.Conditions.{HaveOneAddress, AddressesDiffer, AreasAgree, HasStubLine, StubsAgree}
use Rattle.net_model.specs.Configuration.{Configuration}
use Rattle.net_model.specs.Network.{Network, HasConfiguration, UpInterface}
use Rattle.net_model.specs.steps.Claims.{holder, address_claim, area_claim, area_claim_of, stub_claim, stub_claim_of, ClaimsAgree, HoldsClaims, NeighborsAgree}
use Rattle.net_model.specs.declared.area.Stub.{Stub}
use Rattle.net_model.specs.declared.claims.Claim.{Claim}
use Rattle.net_model.specs.declared.interface.Interface.{Interface}
use Rattle.net_model.proofs.Adjacency.{HasConfiguration-unique, UpInterface-among}
use Rattle.std.proofs.lemmas.List.{get_or_default}
use Rattle.net_model.proofs.Dests.{from_up}
use Rattle.net_model.proofs.Members.{Contains-in_filter_map}
use Rattle.net_model.proofs.NetworkFacts.{UpInterface-within}
use Rattle.net_model.proofs.RouterFacts.{HasStubLine-from, any_from_HasStubLine}

-- Sorted claims

-- from a claim on, as long as the key stays, the value stays
same_value : (claims : List Claim) (d : Claim) → IsNonDecreasingBy (λ (x : Claim). x.key) claims → NeighborsAgree claims (length claims) → (i n : ℕ) →
    i + n < length claims → (get_or claims i d).key ≡ (get_or claims (i + n) d).key → (get_or claims i d).value ≡ (get_or claims (i + n) d).value
same_value claims d sorted agree i zero within key = let here : i ≡ i + zero = omega arith in ap (λ (k : ℕ). (get_or claims k d).value) here
same_value claims d sorted agree i (suc n) within key =
    let far : i + suc n ≡ (i + 1) + n = omega arith in
    let up : (get_or claims i d).key ≤ (get_or claims (i + 1) d).key = sorted i (i + 1) d (omega arith) (omega arith) in
    let down : (get_or claims (i + 1) d).key ≤ (get_or claims (i + suc n) d).key = sorted (i + 1) (i + suc n) d (omega arith) (omega arith) in
    let next : (get_or claims i d).key ≡ (get_or claims (i + 1) d).key = omega arith in
    agree i d (omega arith) next
    ∙ same_value claims d sorted agree (i + 1) n (omega arith) (sym next ∙ key ∙ ap (λ (k : ℕ). (get_or claims k d).key) far)
    ∙ ap (λ (k : ℕ). (get_or claims k d).value) (sym far)

-- so claims of one key have one value
one_value : (claims : List Claim) → IsNonDecreasingBy (λ (x : Claim). x.key) claims → NeighborsAgree claims (length claims) → (x y : Claim) →
    Contains claims x → Contains claims y → x.key ≡ y.key → x.value ≡ y.value
one_value claims sorted agree x y in_x in_y same = elim (cases_lt in_y.0 in_x.0) [
  | inl lt ↦ sym (between y x in_y in_x (omega arith) (sym same))
  | inr le ↦ between x y in_x in_y le same
]
  where
    between : (x y : Claim) (in_x : Contains claims x) (in_y : Contains claims y) → in_x.0 ≤ in_y.0 → x.key ≡ y.key → x.value ≡ y.value
    between x y in_x in_y le same =
        let far : in_x.0 + (in_y.0 - in_x.0) ≡ in_y.0 = omega arith in
        let is : get_or claims (in_x.0 + (in_y.0 - in_x.0)) x ≡ y =
        ap (λ (k : ℕ). get_or claims k x) far ∙ get_or_default claims in_y.0 x y in_y.1 ∙ in_y.2 in
        ap (λ (c : Claim). c.value) (sym in_x.2)
        ∙ same_value claims x sorted agree in_x.0 (in_y.0 - in_x.0) (omega (arith, far, in_y.1))
        (ap (λ (c : Claim). c.key) in_x.2 ∙ same ∙ ap (λ (c : Claim). c.key) (sym is))
        ∙ ap (λ (c : Claim). c.value) is

-- what all interfaces claim, once it is sorted
pub ClaimsAgree-sorted : (claimed : ℕ → Configuration → Interface → Option Claim) (net : Network) (all claims : List Claim) →
    HoldsClaims claimed net (length net) all →
    ((x : Claim) → Contains claims x ↔ Contains all x) → IsNonDecreasingBy (λ (x : Claim). x.key) claims → NeighborsAgree claims (length claims) →
    ClaimsAgree claimed net
ClaimsAgree-sorted claimed net all claims holds kept sorted agree u v i j x y i_up j_up is_x is_y same =
    one_value claims sorted agree x y
    ((kept x).1 (holds u i x (UpInterface-within net u i i_up) i_up is_x))
    ((kept y).1 (holds v j y (UpInterface-within net v j j_up) j_up is_y))
    same

-- one router more
pub HoldsClaims-more : (claimed : ℕ → Configuration → Interface → Option Claim) (net : Network) (n : ℕ) (c : Configuration) (old new : List Claim) →
    HasConfiguration net n c → new ≡ old ++ filter_map (claimed n c) c.interfaces → HoldsClaims claimed net n old → HoldsClaims claimed net (n + 1) new
HoldsClaims-more claimed net n c old new at is holds u i x below up is_x =
    subst (λ (l : List Claim). Contains l x) (sym is) (elim (cases_lt u n) [
      | inl before ↦ Contains-append_left old (filter_map (claimed n c) c.interfaces) x (holds u i x before up is_x)
      | inr ge ↦
          let same : u ≡ n = omega arith in
          let here : HasConfiguration net u c = subst (λ (w : ℕ). HasConfiguration net w c) (sym same) at in
          Contains-append_right old (filter_map (claimed n c) c.interfaces) x
          (Contains-in_filter_map (claimed n c) c.interfaces i x (UpInterface-among net u c i here up)
          (ap (λ (w : ℕ). claimed w c i) (sym same) ∙ ap (λ (d : Configuration). claimed u d i)
          (HasConfiguration-unique net u c up.config here up.router) ∙ is_x))
    ])

-- Nothing clashes

-- two routers hold an address together only where both interfaces are loopbacks
one_holder : (one two : Bool) (u v : ℕ) → u < 2 ^ 32 - 1 → v < 2 ^ 32 - 1 → (u ≡ v) ⊎ (one ≡ false) ⊎ (two ≡ false) →
    (if one then 2 ^ 32 - 1 else u) ≡ (if two then 2 ^ 32 - 1 else v) → u ≡ v
one_holder true true u v below under unshared same = grind (arith)
one_holder true false u v below under unshared same = absurd (omega arith)
one_holder false true u v below under unshared same = absurd (omega arith)
one_holder false false u v below under unshared same = same

-- where each address is claimed for one holder, and no router has it twice
pub AddressesDiffer-claimed : (net : Network) → length net < 2 ^ 32 → ClaimsAgree address_claim net →
    ((u a : ℕ) → u < length net → HaveOneAddress net u u a → ⊥) → AddressesDiffer net
AddressesDiffer-claimed net few agree alone u v a h =
    let low = UpInterface-within net u h.one h.interfaces.one_up in
    let high = UpInterface-within net v h.two h.interfaces.two_up in
    let same = one_holder h.one.loopback h.two.loopback u v (omega (arith, low)) (omega (arith, high)) h.unshared
    (agree u v h.one h.two (claim u h.one) (claim v h.two) h.interfaces.one_up h.interfaces.two_up
    (from_up h.one.up _ (claim u h.one) h.interfaces.one_up.up (ap (λ (k : ℕ). Some (record { key = k; value = holder u h.one })) h.one_address))
    (from_up h.two.up _ (claim v h.two) h.interfaces.two_up.up (ap (λ (k : ℕ). Some (record { key = k; value = holder v h.two })) h.two_address))
    refl) in
    alone u a low (subst (λ (w : ℕ). HaveOneAddress net u w a) (sym same) h)
  where
    claim : ℕ → Interface → Claim
    claim w i = record { key = a; value = holder w i }

-- where each subnet's first address is claimed for one area
pub AreasAgree-claimed : (net : Network) → ClaimsAgree area_claim net → AreasAgree net
AreasAgree-claimed net agree u v p h =
    h.apart (agree u v h.one h.two (record { key = p.base; value = h.one_area }) (record { key = p.base; value = h.two_area }) h.one_up h.two_up
    (from_up h.one.up _ _ h.one_up.up (claim_is h.one h.one_area h.one_subnet h.one_runs))
    (from_up h.two.up _ _ h.two_up.up (claim_is h.two h.two_area h.two_subnet h.two_runs)) refl)
  where
    claim_is : (i : Interface) (n : ℕ) → i.subnet ≡ Some p → i.area ≡ Some n → area_claim_of i.subnet i.area ≡ Some (record { key = p.base; value = n })
    claim_is i n subnet area = ap (λ (o : Option Block). area_claim_of o i.area) subnet ∙ ap (area_claim_of (Some p)) area

-- where each area is claimed to be a stub area or none, by all alike
abbrev flag : Bool → ℕ
flag b = if b then 1 else 0

same_flag : (p q : Bool) → flag p ≡ flag q → p ≡ true → q ≡ true
same_flag p true same is = refl
same_flag true false same is = absurd (omega arith)
same_flag false false same is = is

pub StubsAgree-claimed : (net : Network) → ClaimsAgree stub_claim net → StubsAgree net
StubsAgree-claimed net agree u v a h =
    ⊎_elim (λ l. l.1 (line v two (same_flag (has one) (has two) same (told u one l.0))))
    (λ r. r.0 (line u one (same_flag (has two) (has one) (sym same) (told v two r.1)))) h.differ
  where
    one : UpInterface net u h.one_in.interface
    one = h.one_in.up

    two : UpInterface net v h.two_in.interface
    two = h.two_in.up

    has : {w : ℕ} {i : Interface} → UpInterface net w i → Bool
    has up = list_any (λ (s : Stub). nat_eq s.area a) up.config.stubs

    told : (w : ℕ) {i : Interface} (up : UpInterface net w i) → HasStubLine net w a → has up ≡ true
    told w up is =
        let any = any_from_HasStubLine net w up.config up.router a is in
        list_any-from_Any (λ (s : Stub). nat_eq s.area a) up.config.stubs (any.0, any.1, any.2, any.3, eq-eqb any.1.area a any.4)

    line : (w : ℕ) {i : Interface} (up : UpInterface net w i) → has up ≡ true → HasStubLine net w a
    line w up is =
        let any = Any-from_list_any (λ (s : Stub). nat_eq s.area a) up.config.stubs is in
        HasStubLine-from net w up.config up.router a (any.0, any.1, any.2, any.3, eqb-true any.1.area a any.4)

    claim_is : {w : ℕ} {i : Interface} (up : UpInterface net w i) → i.area ≡ Some a →
        stub_claim w up.config i ≡ Some (record { key = a; value = flag (has up) })
    claim_is {w} {i} up runs = from_up i.up _ _ up.up (ap (stub_claim_of up.config.stubs) runs)

    same : flag (has one) ≡ flag (has two)
    same = agree u v h.one_in.interface h.two_in.interface _ _ one two (claim_is one h.one_in.area) (claim_is two h.two_in.area) refl
