-- The places at which a change of a router is looked at, and what it leaves sound.
use Rattle.std.proofs.lemmas.Grind.{common_steps}
use Rattle.std.proofs.Common.{◌≡◌, ℕ, ◌+◌, ◌<◌, ◌≤◌, true, List, [], ◌∷◌, ◌++◌, length, get_or, Contains, Option, Some, None, IfNone, IfSome, inl, inr}
use Rattle.std.proofs.Common.{arith, rules, sym, ◌∙◌, ap, subst}
use Rattle.std.specs.List.{AllPairs}
use Rattle.std.proofs.lemmas.List.{get_or_default}
use Rattle.std.proofs.lemmas.List.Quantifiers.{all_pairs_push}
use Rattle.igp_theory.specs.Phases.{State, state_in}
use Rattle.igp_theory.specs.declared.phase.Phase.{Phase}
use Rattle.order_core.specs.declared.turn.Turn.{Turn}
use Rattle.loop_finder.specs.Parts.{ClassPart, IsPart, AreParts, part_hops}
use Rattle.loop_finder.specs.steps.Parts.{AddsUnless, AreAllBut, PartStep}
use Rattle.loop_finder.specs.Returns.{NeverReturnsTo}
use Rattle.loop_finder.specs.Mixes.{sample_of, Mix}
use Rattle.loop_finder.specs.Soundness.{SoundAt, Sound}
use Rattle.loop_finder.specs.steps.Verdicts.{Faulty, IsClassVerdict, two_states}
use Rattle.loop_finder.specs.Watches.{IsIdle, AreFirstPlaces, ArePlacesOf, IsWatch}
use Rattle.loop_finder.specs.steps.Watches.{PhaseChange, LeadsFrom, StaysSoundAt, StaysSound, TurnsFaulty}
use Rattle.loop_finder.specs.declared.fault.Fault.{Fault}
use Rattle.loop_finder.proofs.Between.{between_itself, clear_told}
use Rattle.loop_finder.proofs.ClassVerdicts.{sample_in}
use Rattle.loop_finder.proofs.PartLaws.{part_keeps_sound, part_stays_sound}
use Rattle.loop_finder.proofs.PartLists.{sound_before, sound_whole, stands_before}
use Rattle.loop_finder.proofs.PartRows.{AreAllBut-more, each_more}
use Rattle.loop_finder.proofs.StateVerdicts.{sound_from_classes}
use Rattle.loop_finder.proofs.ToldOfStates.{faulty_at}

-- Places

-- of no parts there are no places
pub no_places : (parts : List ClassPart) (u : ℕ) (places : List ℕ) → places ≡ [] → AreFirstPlaces parts u 0 places
no_places parts u places none = subst (AreFirstPlaces parts u 0) (sym none) (search rules)

-- the next place
pub AreFirstPlaces-more : (parts : List ClassPart) (u n : ℕ) (part : ClassPart) (old new : List ℕ) → n < length parts → part ≡ get_or parts n part
    → AreFirstPlaces parts u n old → AddsUnless (IsIdle part u) n old new → AreFirstPlaces parts u (n + 1) new
AreFirstPlaces-more parts u n part old new within at are added = record {
  ascending = elim added [
    | inl more ↦ subst Ascends (sym more) (all_pairs_push (λ (p q : ℕ). p < q) old n are.ascending are.below)
    | inr none ↦ subst Ascends (sym none.0) are.ascending
  ];
  below = (but part).below;
  whole = λ p d below. (but d).whole p below;
}
  where
    Ascends : List ℕ → Type 0
    Ascends xs = AllPairs (λ (p q : ℕ). p < q) xs

    but : (d : ClassPart) → AreAllBut (λ (p : ℕ). IsIdle (get_or parts p d) u) (n + 1) new
    but d = AreAllBut-more (λ (p : ℕ). IsIdle (get_or parts p d) u) n old new
        (record { below = are.below; whole = λ p less. are.whole p d less }) (elim added [
          | inl more ↦ inl more
          | inr none ↦ inr (none.0, subst (λ (x : ClassPart). IsIdle x u) (at ∙ get_or_default parts n part d within) none.1)
        ])

-- the next router
pub IsWatch-more : (parts : List ClassPart) (n : ℕ) (watch longer : List (List ℕ)) (places : List ℕ) → longer ≡ watch ++ places ∷ [] → IsWatch parts n watch
    → ArePlacesOf parts n places → IsWatch parts (n + 1) longer
IsWatch-more parts n watch longer places is are one =
    let more = each_more (λ (u : ℕ) (xs : List ℕ). ArePlacesOf parts u xs) watch longer places [] n is are.many are.each one in
    record { many = more.0; each = more.1 }

-- Changes

-- no walk returns to a router that is idle
pub idle_never : (part : ClassPart) (first last : List Phase) (u : ℕ) → IsIdle part u → NeverReturnsTo (PartStep part first last) u
idle_never part first last u idle h hops follows = elim follows.0 [
  | inl one ↦ idle.bare (state_in first u) h one
  | inr other ↦ idle.bare (state_in last u) h other
]

-- where no walk over a part's steps returns to the router that changed, a sound state stays sound for its class
pub stays_where_never : (m : Mix) (part : ClassPart) (change : PhaseChange)
    → IsPart m part → part.moves ≡ true → NeverReturnsTo (PartStep part change.phases change.phases) change.router → StaysSoundAt m change part.atom
stays_where_never m part change is moves never before leads sound =
    part_stays_sound m part change.phases change.phases change.router before (state_in change.phases) is moves never leads.others
    (between_itself (length m.net) change.phases) sound

-- so it does where the router keeps its hops
pub stays_where_kept : (m : Mix) (part : ClassPart) (change : PhaseChange) → IsPart m part
    → part.moves ≡ true → part_hops part change.router change.was ≡ part_hops part change.router (state_in change.phases change.router)
    → StaysSoundAt m change part.atom
stays_where_kept m part change is moves kept before leads sound = grind (arith, common_steps, part_keeps_sound)

-- and where no fault of the class is told
pub stays_where_told : (m : Mix) (change : PhaseChange) (atom : ℕ) (result : Option Fault) (turns : List Turn)
    → IsClassVerdict (two_states m change.phases change.phases) atom result turns → IfNone result (StaysSoundAt m change atom)
stays_where_told m change atom None turns told = λ before leads sound. clear_told m change.phases change.phases atom turns told (state_in change.phases)
    (between_itself (length m.net) change.phases)
stays_where_told m change atom (Some fault) turns told = tt

-- what is known once the parts at the first i places are looked at
abbrev pub StayFirst : Mix → List ClassPart → List ℕ → PhaseChange → ℕ → Type 0
StayFirst m parts places change i = (j : ℕ) (d : ClassPart) → j < i → StaysSoundAt m change (get_or parts (get_or places j 0) d).atom

-- a part that is looked at by then, or not at all
sound_there : (m : Mix) (parts : List ClassPart) (places : List ℕ) (change : PhaseChange) (i q : ℕ) (d : ClassPart) (before : State)
    → AreParts m parts (length m.classes.samples) → ArePlacesOf parts change.router places → StayFirst m parts places change i
    → q < length parts → ((among : Contains places q) → among.0 < i) → LeadsFrom (length m.net) change before → Sound m before
    → SoundAt m (state_in change.phases) (sample_of m.classes (get_or parts q d).atom)
sound_there m parts places change i q d before are placed stays within early leads sound =
    let is : IsPart m (get_or parts q d) = are.each q d within in
    let was : SoundAt m before (sample_of m.classes (get_or parts q d).atom) =
    sound (sample_of m.classes (get_or parts q d).atom) (sample_in m.classes (get_or parts q d).atom are.classes is.class).address in
    elim (placed.whole q d within) [
      | inl among ↦
          let place : get_or places among.0 0 ≡ q = get_or_default places among.0 0 q among.1 ∙ among.2 in
          let here : StaysSoundAt m change (get_or parts q d).atom =
          subst (λ (x : ℕ). StaysSoundAt m change (get_or parts x d).atom) place (stays among.0 d (early among)) in
          here before leads was
      | inr idle ↦ stays_where_never m (get_or parts q d) change is idle.moves
          (idle_never (get_or parts q d) change.phases change.phases change.router idle) before leads was
    ]

-- where all are looked at
pub stays_sound_at_all : (m : Mix) (parts : List ClassPart) (places : List ℕ) (change : PhaseChange) (i : ℕ)
    → AreParts m parts (length m.classes.samples) → ArePlacesOf parts change.router places → length places ≤ i → StayFirst m parts places change i →
    StaysSound m change
stays_sound_at_all m parts places change i are placed whole stays before leads sound =
    let none : ClassPart = record { atom = 0; moves = true; rows = [] } in
    sound_from_classes m (state_in change.phases) (length m.classes.samples) are.classes (omega arith)
    (λ k below. sound_whole m parts (length m.classes.samples) none (state_in change.phases) are
    (λ q within. sound_there m parts places change i q none before are placed stays within (λ among. let there : among.0 < length places = among.1 in
    omega (arith, there, whole)) leads sound) k below)

-- where a fault is told of the part at the next place
pub turns_faulty_at : (m : Mix) (parts : List ClassPart) (places : List ℕ) (change : PhaseChange) (i : ℕ) (part : ClassPart)
    (fault : Fault) (turns : List Turn) → AreParts m parts (length m.classes.samples) → ArePlacesOf parts change.router places → i < length places
    → part ≡ get_or parts (get_or places i 0) part → StayFirst m parts places change i
    → IsClassVerdict (two_states m change.phases change.phases) part.atom (Some fault) turns → TurnsFaulty m change fault turns
turns_faulty_at m parts places change i part fault turns are placed within at stays told before leads sound =
    let there : get_or places i 0 < length parts = placed.below i 0 within in
    let is : IsPart m part = subst (λ (x : ClassPart). IsPart m x) (sym at) (are.each (get_or places i 0) part there) in
    faulty_at m change.phases part.atom turns fault are.classes is.class
    (λ k below. sound_before m parts (length m.classes.samples) (get_or places i 0) part (state_in change.phases) are there
    (λ q less. sound_there m parts places change i q part before are placed stays (omega (arith, less, there))
    (λ among. stands_before (λ (p : ℕ). p) places i 0 q placed.ascending within among less) leads sound) k
    (subst (λ (a : ℕ). k < a) (ap (λ (x : ClassPart). x.atom) at) below)) told

-- after a change of a sound state
pub after_change : (m : Mix) (change : PhaseChange) (before after : State) (result : Option Fault) (turns : List Turn) →
    LeadsFrom (length m.net) change before → Sound m before → state_in change.phases ≡ after → IfNone result (StaysSound m change) →
    IfSome result (λ fault. TurnsFaulty m change fault turns) → IfNone result (Sound m after) × IfSome result (λ fault. Faulty m after fault turns)
after_change m change before after None turns leads sound is stays turned = (subst (Sound m) is (stays before leads sound), tt)
after_change m change before after (Some fault) turns leads sound is stays turned =
    (tt, subst (λ (state : State). Faulty m state fault turns) is (turned before leads sound))
