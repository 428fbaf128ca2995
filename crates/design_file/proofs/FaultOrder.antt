-- Which of two faults is told: an order in which no two different faults are level.
use Rattle.std.proofs.lemmas.Grind.{common_steps}
use Rattle.std.proofs.Common.{◌≡◌, ℕ, sym, ap, ◌∙◌, arith, cond, eqb}
use Rattle.std.proofs.lemmas.Bool.{cases_lt}
use Rattle.std.proofs.lemmas.Cmp.{nat_list_cmp_total}
use Rattle.net_model.proofs.Names.{IsBelow-irrefl, neither_below}
use Rattle.design_file.specs.Faults.{IsToldRather, design_kind_rank}
use Rattle.design_file.specs.declared.fault.Fault.{Fault}
use Rattle.design_file.specs.declared.refusal.DesignKind.{DesignKind}
use Rattle.design_file.specs.declared.refusal.DesignKind.TheVariants.{NotToml, UnknownKey, WrongKind, BadArea}
use Rattle.design_file.specs.declared.refusal.DesignKind.TheVariants.{BadLevel, BadMetric, UnknownRouter, UnknownInterface, AlreadyIsis}

pub IsToldRather-trans : (f g h : Fault) → IsToldRather f g → IsToldRather g h → IsToldRather f h
IsToldRather-trans f g h it_3 it_4 = grind (arith, common_steps, nat_list_cmp_total)

pub IsToldRather-irrefl : (f : Fault) → IsToldRather f f → ⊥
IsToldRather-irrefl f it_1 = grind (arith, common_steps, IsBelow-irrefl)

-- the kind of a rank
kind_at : ℕ → DesignKind
kind_at n =
    cond (eqb n 1) NotToml (cond (eqb n 2) UnknownKey (cond (eqb n 3) WrongKind (cond (eqb n 4) BadArea (cond (eqb n 5) BadLevel
    (cond (eqb n 6) BadMetric (cond (eqb n 7) UnknownRouter (cond (eqb n 8) UnknownInterface AlreadyIsis)))))))

kind_at-rank : (kind : DesignKind) → kind_at (design_kind_rank kind) ≡ kind
unfolding kind_at
kind_at-rank kind = grind (arith, common_steps)

one_kind : (one other : DesignKind) → design_kind_rank one ≡ design_kind_rank other → one ≡ other
one_kind one other e = sym (kind_at-rank one) ∙ ap kind_at e ∙ kind_at-rank other

one_rank : (f g : Fault) → (IsToldRather f g → ⊥) → (IsToldRather g f → ⊥) → design_kind_rank f.kind ≡ design_kind_rank g.kind
one_rank f g a b = grind (arith, common_steps, cases_lt)

-- of two faults neither of which is told rather than the other
pub neither_told : (f g : Fault) → (IsToldRather f g → ⊥) → (IsToldRather g f → ⊥) → f ≡ g
neither_told f g a b = grind (arith, common_steps, neither_below, one_kind, one_rank)
