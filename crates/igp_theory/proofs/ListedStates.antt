-- The state that a list of phases gives.
use Rattle.std.proofs.lemmas.Grind.{common_steps}
use Rattle.std.proofs.Common.{◌≡◌, ℕ, ◌<◌, inl, inr, List, length, replicate, arith}
use Rattle.std.proofs.lemmas.Bool.{cases_lt}
use Rattle.std.proofs.lemmas.List.{get_or_past, get_or-replicate, length-replicate}
use Rattle.igp_theory.specs.Phases.{all_old, state_in}
use Rattle.igp_theory.specs.declared.phase.Phase.{Phase}
use Rattle.igp_theory.specs.declared.phase.Phase.TheVariants.{Old}

-- where each of the routers is Old, it is the state in which all are
pub is_all_old : (phases : List Phase) (n : ℕ) → length phases ≡ n → ((u : ℕ) → u < n → state_in phases u ≡ Old) → state_in phases ≡ all_old
is_all_old phases n many each = λ i u. there u i
  where
    there : (u : ℕ) → state_in phases u ≡ Old
    there u = elim (cases_lt u n) [ inl within ↦ each u within | inr past ↦ get_or_past phases u Old (omega (arith, past, many)) ]

pub replicated_old : (phases : List Phase) (n : ℕ) → phases ≡ replicate n Old → state_in phases ≡ all_old
replicated_old phases n is = grind (arith, common_steps, get_or-replicate, is_all_old, length-replicate)
