-- Lists of faults, and the fault of one that is told.
use Rattle.std.proofs.Common.{arith}
use Rattle.std.proofs.lemmas.Grind.{common_steps}
use Rattle.std.proofs.Common.{◌≡◌, ◌⊎◌, List, [], ◌∷◌, ◌++◌, Option, Some, None, refl, sym, subst, inl, inr, ⊎_elim}
use Rattle.design_file.specs.steps.FaultLists.{Among, IsToldAmong, IsToldOf}
use Rattle.design_file.specs.Faults.{IsToldFault, IsToldRather}
use Rattle.design_file.specs.declared.fault.Fault.{Fault}
use Rattle.design_file.proofs.FaultOrder.{IsToldRather-irrefl, IsToldRather-trans}

pub Among-left : (f : Fault) (xs ys : List Fault) → Among f xs → Among f (xs ++ ys)
Among-left f (x ∷ xs) ys (inl e) = inl e
Among-left f (x ∷ xs) ys (inr h) = inr (Among-left f xs ys h)
Among-left f [] ys h = absurd h

pub Among-right : (f : Fault) (xs ys : List Fault) → Among f ys → Among f (xs ++ ys)
Among-right f [] ys h = h
Among-right f (x ∷ xs) ys h = inr (Among-right f xs ys h)

pub Among-split : (f : Fault) (xs ys : List Fault) → Among f (xs ++ ys) → Among f xs ⊎ Among f ys
Among-split f [] ys h = inr h
Among-split f (x ∷ xs) ys (inl e) = inl (inl e)
Among-split f (x ∷ xs) ys (inr h) = ⊎_elim (λ a. inl (inr a)) (λ b. inr b) (Among-split f xs ys h)

-- the only fault of a list of one
pub Among-one : (f x : Fault) → Among f (x ∷ []) → x ≡ f
Among-one f x it_2 = grind (arith, common_steps)

none_told : (other g : Fault) → Among g (other ∷ []) → IsToldRather g other → ⊥
none_told other g h told = IsToldRather-irrefl other (subst (λ (x : Fault). IsToldRather x other) (sym (Among-one g other h)) told)

-- the fault that is told of a longer list
pub told_further : (best : Option Fault) (seen : List Fault) (other f : Fault) → IsToldAmong seen best → IsToldOf best other f →
    IsToldAmong (seen ++ other ∷ []) (Some f)
told_further None seen other f none same =
    let alone : IsToldAmong (other ∷ []) (Some other) = record { stands = inl refl; least = none_told other } in
    subst (λ (x : Fault). IsToldAmong (seen ++ other ∷ []) (Some x)) (sym same)
    (subst (λ (xs : List Fault). IsToldAmong (xs ++ other ∷ []) (Some other)) (sym none) alone)
told_further (Some best) seen other f least (inl kept) =
    subst (λ (x : Fault). IsToldAmong (seen ++ other ∷ []) (Some x)) (sym kept.1)
    (record {
      stands = Among-left best seen (other ∷ []) least.stands;
      least = λ g h told.
          ⊎_elim (λ a. least.least g a told)
          (λ b. kept.0 (subst (λ (x : Fault). IsToldRather x best) (sym (Among-one g other b)) told))
          (Among-split g seen (other ∷ []) h);
    })
told_further (Some best) seen other f least (inr taken) =
    subst (λ (x : Fault). IsToldAmong (seen ++ other ∷ []) (Some x)) (sym taken.1)
    (record {
      stands = Among-right other seen (other ∷ []) (inl refl);
      least = λ g h told.
          ⊎_elim (λ a. least.least g a (IsToldRather-trans g other best told taken.0)) (λ b. none_told other g b told)
          (Among-split g seen (other ∷ []) h);
    })

-- the fault that is told of the faults of which P holds, where these are those of a list
pub least_by : (faults : List Fault) (P : Fault → Type 0) (f : Fault) → ((g : Fault) → Among g faults → P g) →
    ((g : Fault) → P g → Among g faults) →
    IsToldAmong faults (Some f) → IsToldFault P f
least_by faults P f sound whole least = record { stands = sound f least.stands; least = λ g h. least.least g (whole g h) }
