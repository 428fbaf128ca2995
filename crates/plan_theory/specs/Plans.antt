-- What may be planned of a network: the fault of an end that isn't sound, or what the search finds between sound ends.
use Rattle.std.specs.Prelude.{ℕ}
use Rattle.igp_theory.specs.LoopLaws.{AreSoundEnds}
use Rattle.igp_theory.specs.Loops.{Fault, missing, loop, IsFault}
use Rattle.igp_theory.specs.Migrations.{Migration}
use Rattle.igp_theory.specs.Phases.{all_new}
use Rattle.igp_theory.specs.States.{IsSound}
use Rattle.order_search.specs.Answers.{IsFound}
use Rattle.order_search.specs.declared.found.Found.{Found}
use Rattle.order_search.specs.Meanings.{Meaning}
use Rattle.plan_theory.specs.declared.items.Items.{Items}
use Rattle.plan_theory.specs.declared.items.Items.TheVariants.{Routers}
use Rattle.plan_theory.specs.WavesMeaning.{night_meaning}
use Rattle.plan_theory.specs.declared.planned.EndFault.{EndFault}
use Rattle.plan_theory.specs.declared.planned.EndFault.TheVariants.{Loop, Missing}
use Rattle.plan_theory.specs.declared.planned.Planned.{Planned}
use Rattle.plan_theory.specs.declared.planned.Planned.TheVariants.{UnsoundOld, UnsoundNew, Searched}

-- the fault that is told of an end
abbrev pub fault_told : EndFault → Fault
fault_told (Loop address turns) = loop address turns
fault_told (Missing address router) = missing address router

-- the start is sound, and the last state has this fault, so it isn't
pub record IsUnsoundNew (move : Migration) (fault : Fault) : Type 0 where
  pub first : IsSound move move.start
  pub last : IsFault move all_new fault

-- both are sound, and this is what the search found between them, by what it asks
pub record IsSearched (move : Migration) (m : Meaning) (budget : ℕ) (found : Found) : Type 0 where
  pub ends : AreSoundEnds move
  pub is_found : IsFound m budget found

-- what is planned of a network for what is ranked, with this budget of branches
abbrev pub IsNightPlanned : Items → Migration → ℕ → Planned → Type 0
IsNightPlanned items move budget (UnsoundOld fault) = IsFault move move.start (fault_told fault)
IsNightPlanned items move budget (UnsoundNew fault) = IsUnsoundNew move (fault_told fault)
IsNightPlanned items move budget (Searched found) = IsSearched move (night_meaning items move) budget found

-- and where routers are ranked
abbrev pub IsPlanned : Migration → ℕ → Planned → Type 0
IsPlanned = IsNightPlanned Routers
