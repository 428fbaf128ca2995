-- The state in which every router of the network has one phase, told by the list of their phases.
use Rattle.std.proofs.Common.{◌≡◌, ℕ, ◌<◌, List, length, subst, sym}
use Rattle.net_model.specs.Network.{Network}
use Rattle.igp_theory.specs.Phases.{state_in}
use Rattle.igp_theory.specs.declared.phase.Phase.{Phase}
use Rattle.igp_theory.proofs.AlikeStates.{AreAlike}

-- each of n routers has this phase
abbrev pub EachHas : ℕ → List Phase → Phase → Type 0
EachHas n phases phase = (u : ℕ) → u < n → state_in phases u ≡ phase

pub is_alike : (net : Network) (phases listed : List Phase) (phase : Phase) (n : ℕ) → n ≡ length net → listed ≡ phases → EachHas n phases phase →
    AreAlike (length net) (state_in listed) (λ _. phase)
is_alike net phases listed phase n many same each =
    subst (λ (ps : List Phase). EachHas (length net) ps phase) (sym same) (subst (λ (k : ℕ). EachHas k phases phase) many each)
