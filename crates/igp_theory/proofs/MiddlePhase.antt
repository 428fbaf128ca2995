-- A router in Middle does what it does in Old, or what it does in New.
use Rattle.std.proofs.lemmas.Grind.{common_steps}
use Rattle.std.proofs.Common.{◌≡◌, ◌≢◌, ℕ, ◌<◌, ◌≤◌, ◌⊎◌, inl, inr, List, length, arith, sym, ◌∙◌}
use Rattle.std.proofs.lemmas.Bool.{cases_order}
use Rattle.std.proofs.lemmas.List.Elements.{All-contains}
use Rattle.std.proofs.lemmas.Option.{get_or_from_slice_get, slice_get_cases, slice_get_within}
use Rattle.net_addr.specs.Addresses.{Block, ContainsAddress}
use Rattle.net_model.specs.Configuration.{Configuration, IsConfiguration}
use Rattle.net_model.specs.Network.{Network, HasConfiguration}
use Rattle.net_model.specs.Refusals.{IsNetwork}
use Rattle.route_core.specs.declared.entry.Entry.{Entry}
use Rattle.igp_theory.specs.Forwarding.{Usable, Counts, connected_counts, old_counts, new_counts, Uses, Steps}
use Rattle.igp_theory.specs.MiddleLaws.{MiddleActsAsIn}
use Rattle.igp_theory.specs.Migrations.{Migration, listed_migration}
use Rattle.igp_theory.specs.declared.phase.Phase.{Phase}
use Rattle.igp_theory.specs.declared.phase.Phase.TheVariants.{Old, Middle, New}
use Rattle.igp_theory.proofs.BestCounted.{Place, one, nothing, uses_or_none}
use Rattle.igp_theory.proofs.ForwardingLaws.{AreHalves, middle_counts, old_half, new_half, half_of_middle, half_wins}

steps_as : {move : Migration} {u a h : ℕ} (phase other : Phase) →
    ((x : Usable) → Uses move u phase a x → Uses move u other a x) → Steps move u phase a h → Steps move u other a h
steps_as phase other over steps = record { must = steps.must; used = steps.used; uses = over steps.used steps.uses; leads = steps.leads }

acts_as : (move : Migration) (u a : ℕ) (phase : Phase) → ((x : Usable) → Uses move u Middle a x →
    Uses move u phase a x) →
    ((x : Usable) → Uses move u phase a x → Uses move u Middle a x) → MiddleActsAsIn move u a phase
acts_as move u a phase over back = grind (arith, common_steps, steps_as)

module _ {move : Migration} {u : ℕ} {half other : Phase} (halves : AreHalves (Counts move u) half other) {a : ℕ} {x : Usable}
    (best : Uses move u half a x) where
  -- what is used in Middle is no worse than the best of a half
  no_shorter : {z : Usable} (uses : Uses move u Middle a z) → best.prefix.len ≤ uses.prefix.len
  no_shorter uses = uses.longest best.prefix best.distance x (halves.inside best.prefix best.distance x best.counts) best.contains

  no_farther : {z : Usable} (uses : Uses move u Middle a z) → best.prefix.len ≡ uses.prefix.len → uses.distance ≤ best.distance
  no_farther uses same = uses.lowest best.prefix best.distance x (halves.inside best.prefix best.distance x best.counts) best.contains same

  -- and what a half uses is as good as its best
  as_long : {z : Usable} (uses : Uses move u half a z) → best.prefix.len ≡ uses.prefix.len
  as_long {z} uses = omega (
    arith,
    uses.longest best.prefix best.distance x best.counts best.contains,
    best.longest uses.prefix uses.distance z uses.counts uses.contains,
  )

  as_close : {z : Usable} (uses : Uses move u half a z) → uses.distance ≤ best.distance
  as_close uses = uses.lowest best.prefix best.distance x best.counts best.contains (as_long uses)

  -- where the best of a half is better than everything in the other
  as_half : ((q : Block) (d : ℕ) (y : Usable) → Counts move u other q d y → ContainsAddress q a → q.len ≤ best.prefix.len) →
      ((q : Block) (d : ℕ) (y : Usable) → Counts move u other q d y → ContainsAddress q a → q.len ≡ best.prefix.len → best.distance < d) →
      MiddleActsAsIn move u a half
  as_half shorter farther = acts_as move u a half
      (λ z uses. elim (halves.split uses.prefix uses.distance z uses.counts) [
        | inl counts ↦ half_of_middle halves uses counts
        | inr counts ↦
            let len : best.prefix.len ≡ uses.prefix.len = omega (arith, no_shorter uses, shorter uses.prefix uses.distance z counts uses.contains) in
            absurd (omega (arith, no_farther uses len, farther uses.prefix uses.distance z counts uses.contains (sym len)))
      ])
      (λ z uses.
      let len = as_long uses in
      half_wins halves uses
      (λ q d y counts inside. omega (arith, len, shorter q d y counts inside))
      (λ q d y counts inside same. omega (arith, as_close uses, farther q d y counts inside (same ∙ sym len))))

  -- where it is better than the best of the other
  as_better : {y : Usable} (less : Uses move u other a y) → less.prefix.len ≤ best.prefix.len →
      (less.prefix.len ≡ best.prefix.len → best.distance < less.distance) → MiddleActsAsIn move u a half
  as_better less shorter farther = as_half
      (λ q d z counts inside. omega (arith, shorter, less.longest q d z counts inside))
      (λ q d z counts inside same.
      let len : less.prefix.len ≡ best.prefix.len = omega (arith, shorter, same, less.longest q d z counts inside) in
      omega (arith, farther len, less.lowest q d z counts inside (same ∙ sym len)))

  -- where the other uses nothing
  as_only : ((q : Block) (d : ℕ) (y : Usable) → Counts move u other q d y → ContainsAddress q a → ⊥) → MiddleActsAsIn move u a half
  as_only none = as_half (λ q d z counts inside. absurd (none q d z counts inside)) (λ q d z counts inside same. absurd (none q d z counts inside))

-- Distances: a connected prefix stands at 0, the old table at a distance from 1 on other than 115, the new one at 115

-- what every configuration of a router says of its distance of OSPF
abbrev ApartAt : Network → ℕ → Type 0
ApartAt net u = (c : Configuration) → HasConfiguration net u c → (1 ≤ c.distances.ospf) × (c.distances.ospf ≢ 115)

old_distance : {move : Migration} {u d : ℕ} {p : Block} {x : Usable} → ApartAt move.net u → Counts move u Old p d x → d ≢ 115
old_distance apart it_1 same = grind (arith, common_steps)

new_distance : {move : Migration} {u d : ℕ} {p : Block} {x : Usable} → Counts move u New p d x → (d ≡ 0) ⊎ (d ≡ 115)
new_distance it_0 = grind (arith, common_steps)

-- what counts in Middle at distance 0 is connected, so it counts in Old
near_counts : {move : Migration} {u d : ℕ} {p : Block} {x : Usable} → ApartAt move.net u → d ≡ 0 → Counts move u Middle p d x →
    Counts move u Old p d x
near_counts apart near (connected_counts is) = connected_counts is
near_counts apart near (old_counts counts c has is set entry) = old_counts tt c has is set entry
near_counts apart near (new_counts counts entry) = absurd (omega (arith, near))

-- where the best of both are connected
as_connected : (move : Migration) (u a : ℕ) (x y : Usable) (best : Uses move u Old a x) (other : Uses move u New a y) →
    ApartAt move.net u → best.prefix.len ≡ other.prefix.len → best.distance ≡ 0 → MiddleActsAsIn move u a Old
as_connected move u a x y best other apart same near = acts_as move u a Old
    (λ z uses.
    let down : uses.prefix.len ≤ best.prefix.len = elim (middle_counts uses.counts) [
      | inl counts ↦ best.longest uses.prefix uses.distance z counts uses.contains
      | inr counts ↦ omega (arith, other.longest uses.prefix uses.distance z counts uses.contains, same)
    ] in
    let closer = no_farther old_half best uses (omega (arith, no_shorter old_half best uses, down)) in
    half_of_middle old_half uses (near_counts apart (omega (arith, closer, near)) uses.counts))
    (λ z uses.
    half_wins old_half uses
    (λ q d w counts inside. omega (arith, other.longest q d w counts inside, same, as_long old_half best uses))
    (λ q d w counts inside len. omega (arith, as_close old_half best uses, near)))

-- both use something
as_one : (move : Migration) (u a : ℕ) (x y : Usable) (best : Uses move u Old a x) (other : Uses move u New a y) →
    ApartAt move.net u → MiddleActsAsIn move u a Old ⊎ MiddleActsAsIn move u a New
as_one move u a x y best other apart = elim (cases_order best.prefix.len other.prefix.len) [
  | inr (inl below) ↦ inr (as_better new_half other best (omega arith) (λ same. absurd (omega arith)))
  | inr (inr above) ↦ inl (as_better old_half best other (omega arith) (λ same. absurd (omega arith)))
  | inl same ↦ elim (cases_order best.distance other.distance) [
    | inr (inl closer) ↦ inl (as_better old_half best other (omega arith) (λ _. closer))
    | inr (inr farther) ↦ inr (as_better new_half other best (omega arith) (λ _. farther))
    | inl tie ↦ elim (new_distance other.counts) [
      | inl zero ↦ inl (as_connected move u a x y best other apart same (tie ∙ zero))
      | inr table ↦ absurd (old_distance apart best.counts (tie ∙ table))
    ]
  ]
]

-- over lists of entries a router in Middle does what it does in Old, or what it does in New
pub middle_acts : (net : Network) (old new : ℕ → List (Block × Entry)) (u a : ℕ) → IsNetwork net → u < length net →
    MiddleActsAsIn (listed_migration net old new) u a Old ⊎ MiddleActsAsIn (listed_migration net old new) u a New
middle_acts net old new u a network below =
    elim (slice_get_cases net u).1 [
      | inr past ↦ absurd (let gone = past.0 in omega (arith, gone, below))
      | inl here ↦
          let w : Place = record { net = net; old = old; new = new; u = u; config = here.0; has = here.2 } in
          elim (uses_or_none w Old a) [
            | one x best ↦ elim (uses_or_none w New a) [
              | one y other ↦ as_one (listed_migration net old new) u a x y best other (apart net u network)
              | nothing none ↦ inl (as_only old_half best none)
            ]
            | nothing empty ↦ elim (uses_or_none w New a) [
              | one y other ↦ inr (as_only new_half other empty)
              | nothing none ↦ inl (acts_as (listed_migration net old new) u a Old
                  (λ z uses. elim (middle_counts uses.counts) [
                    | inl counts ↦ absurd (empty uses.prefix uses.distance z counts uses.contains)
                    | inr counts ↦ absurd (none uses.prefix uses.distance z counts uses.contains)
                  ])
                  (λ z uses. absurd (empty uses.prefix uses.distance z uses.counts uses.contains)))
            ]
          ]
    ]
  where
    apart : (net : Network) (u : ℕ) → IsNetwork net → ApartAt net u
    apart net u network c has =
        let is : IsConfiguration c =
        All-contains IsConfiguration net c network.configurations (u, slice_get_within net u c has, get_or_from_slice_get net u c c has) in
        (is.distances.some, is.distances.apart)
