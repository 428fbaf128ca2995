-- What is told of a night in which routers are ranked from a start, and what its oracle means.
use Rattle.std.proofs.Common.{ℕ, ◌<◌, List, All, sym, subst}
use Rattle.igp_theory.specs.Migrations.{Migration, started}
use Rattle.igp_theory.specs.Phases.{state_in}
use Rattle.igp_theory.specs.declared.phase.Phase.{Phase}
use Rattle.order_core.specs.declared.turn.Turn.{Turn}
use Rattle.order_search.specs.Meanings.{Break, Meaning, SameMeaning}
use Rattle.order_search.proofs.SameMeanings.{SameMeaning-itself}
use Rattle.rib_mix.specs.Mixture.{Mixture, migration_of}
use Rattle.loop_finder.specs.Mixes.{Listing}
use Rattle.plan_theory.specs.WavesMeaning.{night_meaning, waves_meaning}
use Rattle.plan_theory.specs.declared.items.Items.{Items}
use Rattle.plan_theory.specs.declared.items.Items.TheVariants.{Routers}
use Rattle.wave_oracle.specs.Nights.{Night, night_move, night_start}
use Rattle.live_replan.specs.RestNights.{MeansRest, RanksRest}

-- Nights

module _ {O N : Type 0} (old : Listing O) (new : Listing N) (mixture : Mixture O N) (start : List Phase) (night : Night O N)
    (is : RanksRest mixture start night) (P : Items → Migration → Type 0) where
  -- what is told of what is mixed, from the start, is told of the night
  pub of_night : P Routers (started (state_in start) (migration_of old new mixture)) → P night.items (night_move old new night)
  of_night has =
      subst (λ (i : Items). P i (started (night_start i night.start) (migration_of old new night.mixture))) (sym is.routers)
      (subst (λ (s : List Phase). P Routers (started (state_in s) (migration_of old new night.mixture))) (sym is.begins)
      (subst (λ (m : Mixture O N). P Routers (started (state_in start) (migration_of old new m))) (sym is.same) has))

  -- and the other way
  pub of_rest : P night.items (night_move old new night) → P Routers (started (state_in start) (migration_of old new mixture))
  of_rest has =
      subst (λ (m : Mixture O N). P Routers (started (state_in start) (migration_of old new m))) is.same
      (subst (λ (s : List Phase). P Routers (started (state_in s) (migration_of old new night.mixture))) is.begins
      (subst (λ (i : Items). P i (started (night_start i night.start) (migration_of old new night.mixture))) is.routers has))

pub means_rest : {O N : Type 0} (old : Listing O) (new : Listing N) (mixture : Mixture O N) (start : List Phase) (night : Night O N) →
    RanksRest mixture start night → MeansRest old new mixture start night
means_rest old new mixture start night is =
    of_night old new mixture start night is
    (λ i m. SameMeaning (waves_meaning (started (state_in start) (migration_of old new mixture))) (night_meaning i m))
    (SameMeaning-itself (waves_meaning (started (state_in start) (migration_of old new mixture))))

-- Meanings

-- where two mean the same, what breaks a ranking by the second breaks it by the first
pub breaks_first : (l m : Meaning) → SameMeaning l m → (ranks : List ℕ) (a : ℕ) (turns : List Turn) → Break m ranks a turns →
    Break l ranks a turns
breaks_first l m same ranks a turns is = record {
  is_real = (same.real a turns).0 is.is_real;
  pick = (same.picked ranks a turns).0 is.pick;
  distinct = is.distinct;
  below = subst (λ (n : ℕ). All (λ (t : Turn). t.router < n) turns) same.size is.below;
  both = is.both;
  no_later = is.no_later;
}
