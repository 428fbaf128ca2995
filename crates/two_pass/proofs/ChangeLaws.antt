-- What is told of a night in which single changes are ranked, and what its oracle means.
use Rattle.std.proofs.Common.{ℕ, ◌<◌, List, All, sym, ◌∙◌, subst}
use Rattle.igp_theory.specs.Migrations.{Migration, started}
use Rattle.order_core.specs.declared.turn.Turn.{Turn}
use Rattle.order_search.specs.Meanings.{Break, Meaning, SameMeaning}
use Rattle.order_search.proofs.SameMeanings.{SameMeaning-itself}
use Rattle.rib_mix.specs.Mixture.{Mixture, migration_of}
use Rattle.loop_finder.specs.Mixes.{Listing}
use Rattle.plan_theory.specs.WavesMeaning.{changes_meaning, night_meaning}
use Rattle.plan_theory.specs.declared.items.Items.{Items}
use Rattle.plan_theory.specs.declared.items.Items.TheVariants.{Changes}
use Rattle.wave_oracle.specs.Nights.{Night, night_move, night_start}
use Rattle.two_pass.specs.ChangeNights.{MeansChanges, RanksChanges}

-- Nights

module _ {O N : Type 0} (old : Listing O) (new : Listing N) (mixture : Mixture O N) (night : Night O N)
    (is : RanksChanges mixture night) (P : Items → Migration → Type 0) where
  -- what is told of the single changes of what is mixed is told of the night, and the other way
  pub to_night : P Changes (migration_of old new mixture) → P night.items (night_move old new night)
  to_night has =
      subst (λ (i : Items). P i (started (night_start i night.start) (migration_of old new night.mixture))) (sym is.changes)
      (subst (λ (m : Mixture O N). P Changes (migration_of old new m)) (sym is.same) has)

  pub from_night : P night.items (night_move old new night) → P Changes (migration_of old new mixture)
  from_night has =
      subst (λ (m : Mixture O N). P Changes (migration_of old new m)) is.same
      (subst (λ (i : Items). P i (started (night_start i night.start) (migration_of old new night.mixture))) is.changes has)

pub means_changes : {O N : Type 0} (old : Listing O) (new : Listing N) (mixture : Mixture O N) (night : Night O N) →
    RanksChanges mixture night → MeansChanges old new mixture night
means_changes old new mixture night is =
    to_night old new mixture night is (λ i m. SameMeaning (changes_meaning (migration_of old new mixture)) (night_meaning i m))
    (SameMeaning-itself (changes_meaning (migration_of old new mixture)))

-- Meanings

module _ (l m : Meaning) (one : SameMeaning l m) where
  -- what means the same as the second means the same as the first
  pub means_same_on : (n : Meaning) → SameMeaning m n → SameMeaning l n
  means_same_on n two = record {
    size = two.size ∙ one.size;
    base = two.base ∙ one.base;
    good = λ r. (λ h. (one.good r).0 ((two.good r).0 h), λ h. (two.good r).1 ((one.good r).1 h));
    real = λ a t. (λ h. (one.real a t).0 ((two.real a t).0 h), λ h. (two.real a t).1 ((one.real a t).1 h));
    picked = λ r a t. (λ h. (one.picked r a t).0 ((two.picked r a t).0 h), λ h. (two.picked r a t).1 ((one.picked r a t).1 h));
  }

  -- and what breaks a ranking by the second breaks it by the first
  pub breaks_too : (ranks : List ℕ) (a : ℕ) (turns : List Turn) → Break m ranks a turns → Break l ranks a turns
  breaks_too ranks a turns is = record {
    is_real = (one.real a turns).0 is.is_real;
    pick = (one.picked ranks a turns).0 is.pick;
    distinct = is.distinct;
    below = subst (λ (n : ℕ). All (λ (t : Turn). t.router < n) turns) one.size is.below;
    both = is.both;
    no_later = is.no_later;
  }
