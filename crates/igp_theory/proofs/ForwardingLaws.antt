-- What a router in Middle does, and what a mixture of phases does.
use Rattle.std.proofs.Common.{◌≡◌, ℕ, ◌≤◌, ◌⊎◌, inl, inr, ⊎_elim, arith, sym, ◌∙◌}
use Rattle.std.proofs.lemmas.Bool.{cases_lt, cases_order}
use Rattle.net_addr.specs.Addresses.{Block, ContainsAddress}
use Rattle.igp_theory.specs.Forwarding.{Usable, Counts, connected_counts, old_counts, new_counts, Uses, HasStep}
use Rattle.igp_theory.specs.Migrations.{Migration}
use Rattle.igp_theory.specs.Phases.{made_in}
use Rattle.igp_theory.specs.declared.phase.Phase.{Phase}
use Rattle.igp_theory.specs.declared.phase.Phase.TheVariants.{Old, Middle, New}

-- what counts in Old counts in Middle
pub old_in_middle : {move : Migration} {u : ℕ} {p : Block} {d : ℕ} {x : Usable} →
    Counts move u Old p d x → Counts move u Middle p d x
old_in_middle (connected_counts h) = connected_counts h
old_in_middle (old_counts _ c has is set entry) = old_counts tt c has is set entry
old_in_middle (new_counts counts entry) = absurd counts

-- what counts in New counts in Middle
pub new_in_middle : {move : Migration} {u : ℕ} {p : Block} {d : ℕ} {x : Usable} →
    Counts move u New p d x → Counts move u Middle p d x
new_in_middle (connected_counts h) = connected_counts h
new_in_middle (old_counts counts c has is set entry) = absurd counts
new_in_middle (new_counts _ entry) = new_counts tt entry

-- what counts in Middle counts in Old or in New
pub middle_counts : {move : Migration} {u : ℕ} {p : Block} {d : ℕ} {x : Usable} →
    Counts move u Middle p d x → Counts move u Old p d x ⊎ Counts move u New p d x
middle_counts (connected_counts h) = inl (connected_counts h)
middle_counts (old_counts _ c has is set entry) = inl (old_counts tt c has is set entry)
middle_counts (new_counts _ entry) = inr (new_counts tt entry)

-- Old and New are the halves of Middle: what counts in either counts in Middle, and what counts in Middle in one of them
pub record AreHalves (counts : Phase → Block → ℕ → Usable → Type 0) (half other : Phase) : Type 0 where
  pub inside : (p : Block) (d : ℕ) (x : Usable) → counts half p d x → counts Middle p d x
  pub outside : (p : Block) (d : ℕ) (x : Usable) → counts other p d x → counts Middle p d x
  pub split : (p : Block) (d : ℕ) (x : Usable) → counts Middle p d x → counts half p d x ⊎ counts other p d x

pub old_half : {move : Migration} {u : ℕ} → AreHalves (Counts move u) Old New
old_half = record { inside = λ p d x h. old_in_middle h; outside = λ p d x h. new_in_middle h; split = λ p d x h. middle_counts h }

pub new_half : {move : Migration} {u : ℕ} → AreHalves (Counts move u) New Old
new_half = record { inside = λ p d x h. new_in_middle h; outside = λ p d x h. old_in_middle h; split = λ p d x h. ⊎_elim inr inl (middle_counts h) }

module _ {move : Migration} {u : ℕ} {half other : Phase} (halves : AreHalves (Counts move u) half other) where
  -- what is used in Middle and counts in a half is used in that half
  pub half_of_middle : {a : ℕ} {x : Usable} (uses : Uses move u Middle a x) → Counts move u half uses.prefix uses.distance x →
      Uses move u half a x
  half_of_middle uses counts = record {
    prefix = uses.prefix;
    distance = uses.distance;
    counts = counts;
    contains = uses.contains;
    longest = λ q d y h. uses.longest q d y (halves.inside q d y h);
    lowest = λ q d y h. uses.lowest q d y (halves.inside q d y h);
  }

  -- what is used in a half is used in Middle, where each entry that counts in the other is shorter, or as long and no closer
  pub half_wins : {a : ℕ} {x : Usable} (best : Uses move u half a x) →
      ((q : Block) (d : ℕ) (y : Usable) → Counts move u other q d y → ContainsAddress q a → q.len ≤ best.prefix.len) →
      ((q : Block) (d : ℕ) (y : Usable) → Counts move u other q d y → ContainsAddress q a → q.len ≡ best.prefix.len → best.distance ≤ d) →
      Uses move u Middle a x
  half_wins best shorter farther = record {
    prefix = best.prefix;
    distance = best.distance;
    counts = halves.inside best.prefix best.distance _ best.counts;
    contains = best.contains;
    longest = λ q d y h inside. ⊎_elim (λ k. best.longest q d y k inside) (λ k. shorter q d y k inside) (halves.split q d y h);
    lowest = λ q d y h inside same. ⊎_elim (λ k. best.lowest q d y k inside same) (λ k. farther q d y k inside same) (halves.split q d y h);
  }

  -- so is it where what is used in the other half is shorter, or as long and no closer
  pub better_wins : {a : ℕ} {x y : Usable} (best : Uses move u half a x) (less : Uses move u other a y) →
      less.prefix.len ≤ best.prefix.len → (less.prefix.len ≡ best.prefix.len → best.distance ≤ less.distance) → Uses move u Middle a x
  better_wins best less shorter farther = half_wins best
      (λ q d y h inside. omega (arith, shorter, less.longest q d y h inside))
      (λ q d y h inside same.
      let len : less.prefix.len ≡ best.prefix.len = omega (arith, shorter, same, less.longest q d y h inside) in
      omega (arith, farther len, less.lowest q d y h inside (same ∙ sym len)))

-- a router in Middle uses for each address what it uses in Old or what it uses in New
pub middle_is_old_or_new : {move : Migration} {u a : ℕ} {x : Usable} →
    Uses move u Middle a x → Uses move u Old a x ⊎ Uses move u New a x
middle_is_old_or_new uses = elim (middle_counts uses.counts) [
  | inl counts ↦ inl (half_of_middle old_half uses counts)
  | inr counts ↦ inr (half_of_middle new_half uses counts)
]

-- where Old and New both use something, Middle uses one of the two
pub middle_uses_one : {move : Migration} {u a : ℕ} {x y : Usable} →
    Uses move u Old a x → Uses move u New a y →
    Uses move u Middle a x ⊎ Uses move u Middle a y
middle_uses_one one two = elim (cases_order one.prefix.len two.prefix.len) [
  | inr (inl below) ↦ inr (better_wins new_half two one (omega arith) (λ same. absurd (omega arith)))
  | inr (inr above) ↦ inl (better_wins old_half one two (omega arith) (λ same. absurd (omega arith)))
  | inl same ↦ elim (cases_lt one.distance two.distance) [
    | inl closer ↦ inl (better_wins old_half one two (omega arith) (λ _. omega arith))
    | inr farther ↦ inr (better_wins new_half two one (omega arith) (λ _. farther))
  ]
]

-- where a router has a step in Old and one in New, it has one in every phase
pub every_phase_steps : {move : Migration} {u a : ℕ} →
    HasStep move u Old a → HasStep move u New a → (phase : Phase) → HasStep move u phase a
every_phase_steps one two Old = one
every_phase_steps one two New = two
every_phase_steps one two Middle =
    elim (middle_uses_one one.steps.uses two.steps.uses) [
      | inl uses ↦ record { hop = one.hop; steps = record { must = one.steps.must; used = one.steps.used; uses = uses; leads = one.steps.leads } }
      | inr uses ↦ record { hop = two.hop; steps = record { must = two.steps.must; used = two.steps.used; uses = uses; leads = two.steps.leads } }
    ]

-- where it has a step in the phase from which it starts and one in New, it has one in every phase from there on
pub later_phase_steps : {move : Migration} {u a : ℕ} (start : Phase) → HasStep move u start a → HasStep move u New a → (phase : Phase) →
    made_in start ≤ made_in phase → HasStep move u phase a
later_phase_steps Old one two phase from = every_phase_steps one two phase
later_phase_steps Middle one two Old from = absurd (omega (arith, from))
later_phase_steps Middle one two Middle from = one
later_phase_steps Middle one two New from = two
later_phase_steps New one two Old from = absurd (omega (arith, from))
later_phase_steps New one two Middle from = absurd (omega (arith, from))
later_phase_steps New one two New from = two
