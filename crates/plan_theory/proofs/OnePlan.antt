-- A network has one plan.
use Rattle.std.proofs.Common.{◌≡◌, ℕ, ap}
use Rattle.igp_theory.specs.Migrations.{Migration}
use Rattle.igp_theory.proofs.FaultLaws.{fault_unique, faulty_not_sound}
use Rattle.order_search.proofs.OneAnswer.{one_answer}
use Rattle.order_search.specs.declared.found.Found.{Found}
use Rattle.plan_theory.specs.Plans.{fault_told, IsNightPlanned, IsPlanned}
use Rattle.plan_theory.specs.Ranked.{CanRank, ranked}
use Rattle.plan_theory.specs.WavesMeaning.{night_meaning}
use Rattle.plan_theory.specs.declared.planned.EndFault.{EndFault}
use Rattle.plan_theory.specs.declared.planned.EndFault.TheVariants.{Loop, Missing}
use Rattle.plan_theory.specs.declared.planned.Planned.{Planned}
use Rattle.plan_theory.specs.declared.planned.Planned.TheVariants.{UnsoundOld, UnsoundNew, Searched}
use Rattle.plan_theory.proofs.Decided.{rankings_pick_one}
use Rattle.plan_theory.proofs.ItemsServe.{items_ask, items_serve}
use Rattle.plan_theory.specs.declared.items.Items.{Items}
use Rattle.plan_theory.specs.declared.items.Items.TheVariants.{Routers}

-- a fault is told in one way
pub told_once : (fault other : EndFault) → fault_told fault ≡ fault_told other → fault ≡ other
told_once (Loop a s) (Loop b t) same = cc
told_once (Loop a s) (Missing b v) same = cc
told_once (Missing a u) (Loop b t) same = cc
told_once (Missing a u) (Missing b v) same = cc

module _ (items : Items) (move : Migration) (can : CanRank items move) where
  pub one_night_plan : (budget : ℕ) (planned other : Planned) → IsNightPlanned items move budget planned →
      IsNightPlanned items move budget other → planned ≡ other
  one_night_plan budget (UnsoundOld fault) (UnsoundOld other) is too =
      ap (λ (f : EndFault). UnsoundOld f) (told_once fault other (fault_unique is too))
  one_night_plan budget (UnsoundOld fault) (UnsoundNew other) is too = absurd (faulty_not_sound is too.first)
  one_night_plan budget (UnsoundOld fault) (Searched found) is too = absurd (faulty_not_sound is too.ends.first)
  one_night_plan budget (UnsoundNew fault) (UnsoundOld other) is too = absurd (faulty_not_sound too is.first)
  one_night_plan budget (UnsoundNew fault) (UnsoundNew other) is too =
      ap (λ (f : EndFault). UnsoundNew f) (told_once fault other (fault_unique is.last too.last))
  one_night_plan budget (UnsoundNew fault) (Searched found) is too = absurd (faulty_not_sound is.last too.ends.last)
  one_night_plan budget (Searched found) (UnsoundOld other) is too = absurd (faulty_not_sound too is.ends.first)
  one_night_plan budget (Searched found) (UnsoundNew other) is too = absurd (faulty_not_sound too.last is.ends.last)
  one_night_plan budget (Searched found) (Searched other) is too =
      ap (λ (f : Found). Searched f)
      (one_answer (night_meaning items move) budget
      (rankings_pick_one move (ranked items move) (items_serve items move can) (night_meaning items move) (items_ask items move))
      found other is.is_found too.is_found)

-- and so where routers are ranked
pub one_plan : (move : Migration) (budget : ℕ) (planned other : Planned) → IsPlanned move budget planned →
    IsPlanned move budget other → planned ≡ other
one_plan move = one_night_plan Routers move tt
