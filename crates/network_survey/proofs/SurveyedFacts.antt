-- All refusals of configurations: those of limits and names, or where there are none of these, those of their network.
use Rattle.std.proofs.Common.{◌≡◌, ◌≢◌, ℕ, ◌+◌, ◌<◌, ◌≤◌, List, [], ◌∷◌, length, IsPermutation, Result, Ok, Err, IfErr, OnOk}
use Rattle.std.proofs.Common.{refl, sym, subst, ap, ◌∙◌, arith, length-append}
use Rattle.net_model.specs.Configuration.{Configuration}
use Rattle.net_model.specs.Limits.{IsWithinLimits}
use Rattle.net_model.specs.Network.{Network}
use Rattle.net_model.specs.Refusals.{IsAbove, IsLeastDouble, IsNetworkOf, NamesAscend, RefusesName, Stands, carried, place_of}
use Rattle.net_model.specs.declared.refusal.LimitWhat.{LimitWhat}
use Rattle.net_model.specs.declared.refusal.LimitWhat.TheVariants.{Routers, Interfaces, Dests}
use Rattle.net_model.specs.declared.refusal.NetRefusal.{NetRefusal}
use Rattle.net_model.specs.declared.refusal.NetRefusal.TheVariants.{Limit, TwoNames}
use Rattle.net_model.specs.declared.refusal.NetRefusal.TheVariants.{OutOfMemory}
use Rattle.net_model.proofs.BuildFacts.{IsLeastDouble-permutation}
use Rattle.net_model.proofs.RefusalLaws.{CountsDests-unique, IsLeastDouble-unique, IsNetworkOf-unique, TwoHaveName-none}
use Rattle.network_survey.specs.AllRefusals.{IsRefusedEarlier, ListsRefusals, StandsFor}
use Rattle.network_survey.specs.steps.Kept.{IsAbovePlace, IsChecked, KeepsRefusal, ListsAbove}
use Rattle.network_survey.proofs.KeptFacts.{ListsAbove-more}
use Rattle.network_survey.proofs.ListingFacts.{ListsAll-same}
use Rattle.network_survey.proofs.StandFacts.{place_of-stands}

-- one refusal stands at most of a limit
limit_unique : (configs : List Configuration) (what : LimitWhat) (m n : ℕ) → StandsFor (Limit what m) configs → StandsFor (Limit what n) configs → m ≡ n
limit_unique configs Routers m n h k = h.number_is ∙ sym k.number_is
limit_unique configs Interfaces m n h k = h.number_is ∙ sym k.number_is
limit_unique configs Dests m n h k =
    let e = CountsDests-unique configs h.dests k.dests h.counted k.counted in
    h.above.number_is ∙ ap carried e ∙ sym k.above.number_is

at_limit : (what : LimitWhat) (r : NetRefusal) → place_of r ≡ place_of (Limit what 0) → (n : ℕ) × (r ≡ Limit what n)
at_limit Routers (Limit Routers n) e = (n, refl)
at_limit Routers (Limit Interfaces n) e = absurd (omega (arith, e))
at_limit Routers (Limit Dests n) e = absurd (omega (arith, e))
at_limit Routers _ e = absurd (omega (arith, e))
at_limit Interfaces (Limit Interfaces n) e = (n, refl)
at_limit Interfaces (Limit Routers n) e = absurd (omega (arith, e))
at_limit Interfaces (Limit Dests n) e = absurd (omega (arith, e))
at_limit Interfaces _ e = absurd (omega (arith, e))
at_limit Dests (Limit Dests n) e = (n, refl)
at_limit Dests (Limit Routers n) e = absurd (omega (arith, e))
at_limit Dests (Limit Interfaces n) e = absurd (omega (arith, e))
at_limit Dests _ e = absurd (omega (arith, e))

same_place : (what : LimitWhat) (m n : ℕ) → place_of (Limit what m) ≡ place_of (Limit what n)
same_place Routers m n = refl
same_place Interfaces m n = refl
same_place Dests m n = refl

module _ (configs : List Configuration) where
  none_at : (what : LimitWhat) → ((n : ℕ) → StandsFor (Limit what n) configs → ⊥) → (r : NetRefusal) → place_of r ≡ place_of (Limit what 0) → StandsFor r configs → ⊥
  none_at what none r e p = let is = at_limit what r e in none is.0 (subst (λ x. StandsFor x configs) is.1 p)

  -- the check of one limit more
  pub ListsAbove-limit : (what : LimitWhat) (number most : ℕ) (checked : Result (Unit {0}) NetRefusal) (old new : List NetRefusal) →
      IsChecked what number most checked → (IsAbove most number number → StandsFor (Limit what number) configs) →
      (number ≤ most → (n : ℕ) → StandsFor (Limit what n) configs → ⊥) →
      ListsAbove (λ r. StandsFor r configs) (place_of (Limit what 0)) old → KeepsRefusal checked old new →
      ListsAbove (λ r. StandsFor r configs) (place_of (Limit what 0) + 1) new
  ListsAbove-limit what number most (Ok x) old new is stands none lists kept =
      ListsAbove-more (λ r. StandsFor r configs) (place_of (Limit what 0)) (Ok x) old new (none_at what (none is)) tt lists kept
  ListsAbove-limit what number most (Err e) old new is stands none lists kept =
      let here = stands is.0 in
      ListsAbove-more (λ r. StandsFor r configs) {T = Unit {0}} (place_of (Limit what 0)) (Err e) old new tt
      (λ told. (
        ap place_of is.1 ∙ same_place what number 0,
        subst (λ x. StandsFor x configs) (sym is.1) here,
        λ r f s.
            let at = at_limit what r f in
            is.1 ∙ ap (Limit what) (limit_unique configs what number at.0 here (subst (λ x. StandsFor x configs) at.1 s)) ∙ sym at.1,
      )) lists kept

  none_by_names : (net : Network) → IsNetworkOf configs net → (r : NetRefusal) → place_of r ≡ 3 → StandsFor r configs → ⊥
  none_by_names net network (Limit Routers _) e s = omega (arith, e)
  none_by_names net network (Limit Interfaces _) e s = omega (arith, e)
  none_by_names net network (Limit Dests _) e s = omega (arith, e)
  none_by_names net network (TwoNames name) e s = TwoHaveName-none configs net name network s.double
  none_by_names net network _ e s = omega (arith, e)

  one_name : (name : List ℕ) → IsLeastDouble configs name → (r : NetRefusal) → place_of r ≡ 3 → StandsFor r configs → TwoNames name ≡ r
  one_name name h (Limit Routers _) e s = absurd (omega (arith, e))
  one_name name h (Limit Interfaces _) e s = absurd (omega (arith, e))
  one_name name h (Limit Dests _) e s = absurd (omega (arith, e))
  one_name name h (TwoNames other) e s = ap TwoNames (IsLeastDouble-unique configs name other h s)
  one_name name h _ e s = absurd (omega (arith, e))

  name_found : (net : Network) → IsPermutation configs net → (e : NetRefusal) → RefusesName e net → e ≢ OutOfMemory →
      (place_of e ≡ 3) × StandsFor e configs × ((r : NetRefusal) → place_of r ≡ 3 → StandsFor r configs → e ≡ r)
  name_found net same (TwoNames name) h told =
      let double = IsLeastDouble-permutation configs net name same h in
      (refl, double, one_name name double)
  name_found net same OutOfMemory h told = absurd (told refl)
  name_found net same _ h told = absurd h

  -- the check of the names
  pub ListsAbove-names : (net : Network) (checked : Result (Unit {0}) NetRefusal) (old new : List NetRefusal) → IsPermutation configs net →
      OnOk checked (NamesAscend net) → IfErr checked (λ e. RefusesName e net) → ListsAbove (λ r. StandsFor r configs) 3 old →
      KeepsRefusal checked old new → ListsAbove (λ r. StandsFor r configs) 4 new
  ListsAbove-names net (Ok x) old new same up err lists kept =
      ListsAbove-more (λ r. StandsFor r configs) 3 (Ok x) old new (none_by_names net (record { same = same; ascending = up })) tt lists kept
  ListsAbove-names net (Err e) old new same up err lists kept =
      ListsAbove-more (λ r. StandsFor r configs) {T = Unit {0}} 3 (Err e) old new tt (name_found net same e err) lists kept

  -- a limit that is exceeded, or a name of two, leaves no network
  no_network : (e : NetRefusal) → place_of e < 4 → StandsFor e configs → (net : Network) → IsWithinLimits configs → IsNetworkOf configs net → ⊥
  no_network (Limit Routers n) l s net limits network = omega (arith, s.above, limits.routers)
  no_network (Limit Interfaces n) l s net limits network = omega (arith, s.above, limits.interfaces)
  no_network (Limit Dests n) l s net limits network =
      omega (arith, s.above.above, limits.few, CountsDests-unique configs s.dests limits.dests s.counted limits.counted)
  no_network (TwoNames name) l s net limits network = TwoHaveName-none configs net name network s.double
  no_network _ l s net limits network = omega (arith, l)

  early : (e : NetRefusal) → place_of e < 4 → StandsFor e configs → (r : NetRefusal) → StandsFor r configs → place_of r < 4
  early e l s (Limit Routers _) p = omega arith
  early e l s (Limit Interfaces _) p = omega arith
  early e l s (Limit Dests _) p = omega arith
  early e l s (TwoNames _) p = omega arith
  early e l s OutOfMemory p = absurd p
  early e l s _ p = absurd (no_network e l s p.net p.limits p.network)

  -- where a limit or a name is found nothing else stands
  pub ListsRefusals-early : (found : List NetRefusal) → ListsAbove (λ r. StandsFor r configs) 4 found → found ≢ [] → ListsRefusals configs found
  ListsRefusals-early [] lists some = absurd (some refl)
  ListsRefusals-early (e ∷ es) lists some =
      let is = (lists.exact e).0 (0, omega arith, refl) in
      ListsAll-same IsRefusedEarlier (IsAbovePlace (λ r. StandsFor r configs) 4) (λ r. StandsFor r configs) (e ∷ es) (λ r a. a.holds)
      (λ r p. record { above = early e is.above is.holds r p; holds = p }) lists

  module _ (net : Network) (limits : IsWithinLimits configs) (network : IsNetworkOf configs net) where
    into : (r : NetRefusal) → Stands r net → StandsFor r configs
    into (Limit _ _) s = absurd s
    into (TwoNames _) s = absurd s
    into OutOfMemory s = absurd s
    into r s = record { limits = limits; net = net; network = network; holds = s }

    back : (r : NetRefusal) → StandsFor r configs → Stands r net
    back (Limit Routers n) s = absurd (no_network (Limit Routers n) (omega arith) s net limits network)
    back (Limit Interfaces n) s = absurd (no_network (Limit Interfaces n) (omega arith) s net limits network)
    back (Limit Dests n) s = absurd (no_network (Limit Dests n) (omega arith) s net limits network)
    back (TwoNames name) s = absurd (no_network (TwoNames name) (omega arith) s net limits network)
    back OutOfMemory s = absurd s
    back r s = subst (Stands r) (IsNetworkOf-unique configs s.net net s.network network) s.holds

    -- where none is found, what stands is what stands on the network
    pub ListsRefusals-network : (found : List NetRefusal) → ListsAbove (λ r. Stands r net) 11 found → ListsRefusals configs found
    ListsRefusals-network found =
        ListsAll-same IsRefusedEarlier (IsAbovePlace (λ r. Stands r net) 11) (λ r. StandsFor r configs) found (λ r a. into r a.holds)
        (λ r p. let s = back r p in record { above = omega (arith, (place_of-stands net r s).1); holds = s })

-- where nothing was kept, the check refused nothing
pub KeepsRefusal-none : {T : Type 0} → (checked : Result T NetRefusal) (old new : List NetRefusal) (A : Type 0) → KeepsRefusal checked old new → new ≡ [] → OnOk checked A →
    (old ≡ []) × A
KeepsRefusal-none (Ok _) old new A kept none a = (sym kept ∙ none, a)
KeepsRefusal-none (Err e) old new A kept none a =
    absurd (omega (arith, ap (λ (l : List NetRefusal). length l) (sym kept.1 ∙ none), length-append old (e ∷ [])))

pub IsChecked-ok : (what : LimitWhat) (number most : ℕ) (checked : Result (Unit {0}) NetRefusal) → IsChecked what number most checked → OnOk checked (number ≤ most)
IsChecked-ok what number most (Ok x) is = is
IsChecked-ok what number most (Err e) is = tt
