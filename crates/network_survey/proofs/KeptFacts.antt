-- Refusals that are kept check by check are all that stand.
use Rattle.std.proofs.Common.{◌≡◌, ◌≢◌, ℕ, ◌+◌, ◌≤◌, List, [], Result, Ok, Err, IfErr, OnOk}
use Rattle.std.proofs.Common.{⊎_elim, inl, inr, sym, subst, arith}
use Rattle.std.proofs.lemmas.Bool.{cases_lt}
use Rattle.net_model.specs.Refusals.{place_of}
use Rattle.net_model.specs.declared.refusal.NetRefusal.{NetRefusal}
use Rattle.net_model.specs.declared.refusal.NetRefusal.TheVariants.{OutOfMemory}
use Rattle.network_survey.specs.AllRefusals.{IsRefusedEarlier}
use Rattle.network_survey.specs.steps.Kept.{IsAbovePlace, KeepsRefusal, ListsAbove}
use Rattle.network_survey.proofs.ListingFacts.{ListsAll-none, ListsAll-push, ListsAll-same}

module _ (P : NetRefusal → Type 0) where
  pub ListsAbove-first : (place : ℕ) → ((r : NetRefusal) → P r → place ≤ place_of r) → ListsAbove P place []
  ListsAbove-first place none = ListsAll-none IsRefusedEarlier (IsAbovePlace P place) (λ r a. omega (arith, a.above, none r a.holds))

  -- a check more: it finds nothing at this place, or the one that stands there
  pub ListsAbove-more : {T : Type 0} → (place : ℕ) (checked : Result T NetRefusal) (old new : List NetRefusal) →
      OnOk checked ((r : NetRefusal) → place_of r ≡ place → P r → ⊥) →
      IfErr checked (λ e. e ≢ OutOfMemory → (place_of e ≡ place) × P e × ((r : NetRefusal) → place_of r ≡ place → P r → e ≡ r)) →
      ListsAbove P place old → KeepsRefusal checked old new → ListsAbove P (place + 1) new
  ListsAbove-more place (Ok _) old new none found lists kept =
      subst (ListsAbove P (place + 1)) (sym kept)
      (ListsAll-same IsRefusedEarlier (IsAbovePlace P place) (IsAbovePlace P (place + 1)) old
      (λ r a. record { above = omega (arith, a.above); holds = a.holds })
      (λ r a. ⊎_elim (λ l. record { above = l; holds = a.holds }) (λ g. absurd (none r (omega (arith, a.above, g)) a.holds))
      (cases_lt (place_of r) place)) lists)
  ListsAbove-more place (Err e) old new none found lists kept =
      let is = found kept.0 in
      subst (ListsAbove P (place + 1)) (sym kept.1)
      (ListsAll-push IsRefusedEarlier (IsAbovePlace P place) (IsAbovePlace P (place + 1)) old e
      (λ r a. record { above = omega (arith, a.above); holds = a.holds })
      (λ r a. ⊎_elim (λ l. inl (record { above = l; holds = a.holds })) (λ g. inr (is.2 r (omega (arith, a.above, g)) a.holds))
      (cases_lt (place_of r) place))
      (record { above = omega (arith, is.0); holds = is.1 })
      (λ r a. omega (arith, a.above, is.0)) lists)
