-- What is planned of a night.
use Rattle.std.proofs.Common.{◌≡◌, ℕ, ◌≤◌, List, length, Option, Some, None, IfSome, IfNone, refl, sym, ◌∙◌, subst, arith}
use Rattle.igp_theory.specs.LoopLaws.{AreSoundEnds, IsFromStart}
use Rattle.igp_theory.specs.Loops.{IsFault}
use Rattle.igp_theory.specs.Migrations.{Migration, started}
use Rattle.igp_theory.specs.Phases.{State, all_new, all_old, made_in, state_in}
use Rattle.igp_theory.specs.States.{IsSound}
use Rattle.igp_theory.specs.declared.phase.Phase.{Phase}
use Rattle.igp_theory.specs.declared.phase.Phase.TheVariants.{Old, Middle, New}
use Rattle.igp_theory.proofs.AlikeStates.{AreAlike, sound_alike}
use Rattle.rib_mix.specs.Mixture.{Mixture, migration_of}
use Rattle.loop_finder.specs.Mixes.{Listing}
use Rattle.order_search.specs.Answers.{IsFound}
use Rattle.order_search.specs.declared.found.Found.{Found}
use Rattle.plan_theory.specs.Plans.{IsNightPlanned, fault_told}
use Rattle.plan_theory.specs.Ranked.{CanRank, size_of}
use Rattle.plan_theory.specs.WavesMeaning.{night_meaning}
use Rattle.plan_theory.specs.declared.items.Items.{Items}
use Rattle.plan_theory.specs.declared.items.Items.TheVariants.{Routers, Changes}
use Rattle.plan_theory.specs.declared.planned.EndFault.{EndFault}
use Rattle.plan_theory.specs.declared.planned.Planned.TheVariants.{UnsoundOld, UnsoundNew, Searched}
use Rattle.wave_oracle.specs.Nights.{Night, night_move, night_start}
use Rattle.plan_theory.proofs.AlikeFaults.{fault_alike}
use Rattle.wave_oracle.proofs.EndStates.{EachHas, is_alike}

-- where no fault is told
pub none_told : {P : Type 0} (told : Option EndFault) → ((fault : EndFault) → told ≡ Some fault → ⊥) → IfNone told P → P
none_told None not sound = sound
none_told (Some fault) not sound = absurd (not fault refl)

-- where one is
pub some_told : (P : EndFault → Type 0) (told : Option EndFault) (fault : EndFault) → told ≡ Some fault → IfSome told P → P fault
some_told P told fault is given = subst (λ (t : Option EndFault). IfSome t P) is given

-- so many numbers are ranked
pub some_ranked : (items : Items) (n : ℕ) → 1 ≤ n → 1 ≤ size_of items n
some_ranked Routers n some = some
some_ranked Changes n some = omega (arith, some)

made_few : (phase : Phase) → made_in phase ≤ 2
made_few Old = omega arith
made_few Middle = omega arith
made_few New = omega arith

-- a night goes on from its start
pub start_of_night : (items : Items) (start : List Phase) (move : Migration) → CanRank items (started (state_in start) move) →
    night_start items start ≡ state_in start
start_of_night Routers start move can = refl
start_of_night Changes start move begins = λ i u. old_there u i
  where
    old_there : (u : ℕ) → all_old u ≡ state_in start u
    old_there u = sym (begins u)

-- a night is over this mixture, this start, and these items
pub record IsNightOf {O N : Type 0} (mixture : Mixture O N) (items : Items) (start : List Phase) (night : Night O N) : Type 0 where
  pub mixture_is : night.mixture ≡ mixture
  pub items_are : night.items ≡ items
  pub start_is : night.start ≡ start

pub night_again : {O N : Type 0} (mixture : Mixture O N) (items : Items) (start : List Phase) (one other : Night O N) →
    IsNightOf mixture items start one → other.mixture ≡ one.mixture → other.items ≡ one.items → other.start ≡ one.start →
    IsNightOf mixture items start other
night_again mixture items start one other is same_mixture same_items same_start = record {
  mixture_is = same_mixture ∙ is.mixture_is;
  items_are = same_items ∙ is.items_are;
  start_is = same_start ∙ is.start_is;
}

module _ {O N : Type 0} (old : Listing O) (new : Listing N) (mixture : Mixture O N) (items : Items) (start : List Phase)
    (can : CanRank items (started (state_in start) (migration_of old new mixture))) where
  abbrev move : Migration
  move = started (state_in start) (migration_of old new mixture)

  begins : night_start items start ≡ state_in start
  begins = start_of_night items start (migration_of old new mixture) can

  module _ (night : Night O N) (is : IsNightOf mixture items start night) (P : Items → Migration → Type 0) where
    -- what is told of the night is told of its migration
    over_move : P night.items (night_move old new night) → P items move
    over_move has =
        subst (λ (s : State). P items (started s (migration_of old new mixture))) begins
        (subst (λ (m : Mixture O N). P items (started (night_start items start) (migration_of old new m))) is.mixture_is
        (subst (λ (s : List Phase). P items (started (night_start items s) (migration_of old new night.mixture))) is.start_is
        (subst (λ (i : Items). P i (started (night_start i night.start) (migration_of old new night.mixture))) is.items_are has)))

    -- and the other way
    over_night : P items move → P night.items (night_move old new night)
    over_night has =
        subst (λ (i : Items). P i (started (night_start i night.start) (migration_of old new night.mixture))) (sym is.items_are)
        (subst (λ (s : List Phase). P items (started (night_start items s) (migration_of old new night.mixture))) (sym is.start_is)
        (subst (λ (m : Mixture O N). P items (started (night_start items start) (migration_of old new m))) (sym is.mixture_is)
        (subst (λ (s : State). P items (started s (migration_of old new mixture))) (sym begins) has)))

  -- no router is in an earlier phase than at the start, at the start and in the last state
  pub from_start : (night : Night O N) → IsNightOf mixture items start night → IsFromStart (night_move old new night) (state_in start)
  from_start night is = over_night night is (λ _ m. IsFromStart m (state_in start)) (λ u below. omega arith)

  -- where the start has a fault
  pub start_is_planned : (night : Night O N) → IsNightOf mixture items start night → (budget : ℕ) (fault : EndFault) →
      IsFault (night_move old new night) (state_in start) (fault_told fault) → IsNightPlanned items move budget (UnsoundOld fault)
  start_is_planned night is budget fault told = over_move night is (λ _ m. IsFault m (state_in start) (fault_told fault)) told

  module _ (phases listed : List Phase) (n : ℕ) (many : n ≡ length mixture.net) (last : EachHas n phases New) (same : listed ≡ phases) where
    alike : AreAlike (length mixture.net) (state_in listed) all_new
    alike = is_alike mixture.net phases listed New n many same last

    pub from_last : (night : Night O N) → IsNightOf mixture items start night → IsFromStart (night_move old new night) (state_in listed)
    from_last night is = over_night night is (λ _ m. IsFromStart m (state_in listed))
        (λ u below. subst (λ (p : Phase). made_in (state_in start u) ≤ made_in p) (sym (alike u below)) (made_few (state_in start u)))

    -- where the last state has one
    pub last_is_planned_night : (one other : Night O N) → IsNightOf mixture items start one → IsNightOf mixture items start other → (budget : ℕ)
        (fault : EndFault) → IsSound (night_move old new one) (state_in start) →
        IsFault (night_move old new other) (state_in listed) (fault_told fault) → IsNightPlanned items move budget (UnsoundNew fault)
    last_is_planned_night one other is too budget fault sound told = record {
      first = over_move one is (λ _ m. IsSound m (state_in start)) sound;
      last = fault_alike alike (over_move other too (λ _ m. IsFault m (state_in listed) (fault_told fault)) told);
    }

    -- where both are sound
    pub night_ends : (one other : Night O N) → IsNightOf mixture items start one → IsNightOf mixture items start other →
        IsSound (night_move old new one) (state_in start) → IsSound (night_move old new other) (state_in listed) →
        (third : Night O N) → IsNightOf mixture items start third → AreSoundEnds (night_move old new third)
    night_ends one other is too sound last_sound third also = over_night third also (λ _ m. AreSoundEnds m) (record {
      first = over_move one is (λ _ m. IsSound m (state_in start)) sound;
      last = sound_alike alike (over_move other too (λ _ m. IsSound m (state_in listed)) last_sound);
    })

  -- what was found between them
  pub found_is_planned : (night third : Night O N) → IsNightOf mixture items start night → IsNightOf mixture items start third → (budget : ℕ)
      (found : Found) → AreSoundEnds (night_move old new third) → IsFound (night_meaning night.items (night_move old new night)) budget found →
      IsNightPlanned items move budget (Searched found)
  found_is_planned night third is too budget found ends searched = record {
    ends = over_move third too (λ _ m. AreSoundEnds m) ends;
    is_found = over_move night is (λ i m. IsFound (night_meaning i m) budget found) searched;
  }
