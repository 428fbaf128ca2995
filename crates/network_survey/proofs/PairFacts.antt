-- Pairs of up interfaces, one after the other, and that those that are selected are those of the network.
use Rattle.std.proofs.Common.{◌≡◌, List, [], ◌∷◌, ◌++◌, length, get_or, Contains, AllPairs}
use Rattle.std.proofs.Common.{⊎_elim, refl, sym, subst, ap, arith}
use Rattle.std.proofs.lemmas.List.{get_or-map, length-map}
use Rattle.std.proofs.lemmas.List.Elements.{Contains-push, Contains-push_cases, Contains-append_left, Contains-append_right, Contains-append_cases}
use Rattle.order_core.proofs.WaveLists.{AllPairs-append}
use Rattle.net_model.proofs.Members.{Contains-in_map, Contains-map, Contains-none}
use Rattle.network_survey.specs.Pairs.{PortPair, PairBefore}
use Rattle.network_survey.specs.Pairs.PairBefore.{by_one, by_other}
use Rattle.network_survey.specs.Ports.{Port, StandsEarlier}
use Rattle.network_survey.specs.steps.PortLists.{Selects}
use Rattle.network_survey.specs.steps.Partners.{IsPairOf, SelectsPairs, pairs_with}
use Rattle.network_survey.proofs.PortFacts.{AllPairs-front, StandsEarlier-last}

pair_of : Port → Port → PortPair
pair_of one other = record { one = one; other = other }

-- the pairs of one interface with others come in the order of the others
pairs_with-ascend : (one : Port) (others : List Port) → AllPairs StandsEarlier others → AllPairs PairBefore (pairs_with one others)
unfolding pair_of
pairs_with-ascend one others up i j d lt within =
    let long : length (pairs_with one others) ≡ length others = length-map others (pair_of one) in
    let first : get_or (pairs_with one others) i d ≡ pair_of one (get_or others i d.other) = get_or-map (pair_of one) others i d.other d (omega arith) in
    let second : get_or (pairs_with one others) j d ≡ pair_of one (get_or others j d.other) = get_or-map (pair_of one) others j d.other d (omega arith) in
    subst (λ (p : PortPair). PairBefore p (get_or (pairs_with one others) j d)) (sym first)
    (subst (PairBefore (pair_of one (get_or others i d.other))) (sym second) (by_other refl (up i j d.other lt (omega arith))))

module _ (P : Port → Port → Type 0) (others : List Port) where
  pub SelectsPairs-none : SelectsPairs P [] others []
  SelectsPairs-none = record {
    exact = λ x. (λ c. absurd (Contains-none x c), λ s. absurd (Contains-none x.one s.one));
    ascending = λ a b i j d l m. absurd (omega arith);
  }

module _ (P : Port → Port → Type 0) (xs others : List Port) (old : List PortPair) (partners : List Port) (y : Port)
    (with_y : Selects (P y) others partners) (s : SelectsPairs P xs others old) where
  from_old : (x : PortPair) → Contains old x → IsPairOf P (xs ++ y ∷ []) others x
  from_old x c = let one = (s.exact x).0 c in record { one = Contains-append_left xs _ x.one one.one; other = one.other; holds = one.holds }

  from_new : (x : PortPair) → Contains (pairs_with y partners) x → IsPairOf P (xs ++ y ∷ []) others x
  from_new x c =
      let given = Contains-map (λ (o : Port). record { one = y; other = o }) partners x c in
      let is = (with_y.exact given.item).0 given.among in
      let made : IsPairOf P (xs ++ y ∷ []) others (record { one = y; other = given.item }) =
      record { one = Contains-push xs y; other = is.among; holds = is.holds } in
      subst (IsPairOf P (xs ++ y ∷ []) others) given.gives made

  into_new : (x : PortPair) → y ≡ x.one → IsPairOf P (xs ++ y ∷ []) others x → Contains (old ++ pairs_with y partners) x
  into_new x e p =
      let holds = subst (λ (z : Port). P z x.other) (sym e) p.holds in
      let among = (with_y.exact x.other).1 (record { among = p.other; holds = holds }) in
      let at = Contains-in_map (λ (o : Port). record { one = y; other = o }) partners x.other among in
      let whole : Contains (old ++ pairs_with y partners) (record { one = y; other = x.other }) = Contains-append_right old (pairs_with y partners) _ at in
      subst (λ (z : Port). Contains (old ++ pairs_with y partners) (record { one = z; other = x.other })) e whole

  cross : AllPairs StandsEarlier (xs ++ y ∷ []) → (x z : PortPair) → Contains old x → Contains (pairs_with y partners) z → PairBefore x z
  cross up x z in_old in_new =
      let given = Contains-map (λ (o : Port). record { one = y; other = o }) partners z in_new in
      let before = StandsEarlier-last xs y up x.one ((s.exact x).0 in_old).one in
      by_one (subst (StandsEarlier x.one) (ap (λ (p : PortPair). p.one) given.gives) before)

  pub SelectsPairs-more : SelectsPairs P (xs ++ y ∷ []) others (old ++ pairs_with y partners)
  SelectsPairs-more = record {
    exact = λ x. (
      λ c. ⊎_elim (from_old x) (from_new x) (Contains-append_cases old (pairs_with y partners) x c),
      λ p. ⊎_elim
          (λ l. Contains-append_left old _ x ((s.exact x).1 (record { one = l; other = p.other; holds = p.holds })))
          (λ e. into_new x e p) (Contains-push_cases xs y x.one p.one),
    );
    ascending = λ up down.
        AllPairs-append PairBefore old (pairs_with y partners) (s.ascending (AllPairs-front xs y up) down)
        (pairs_with-ascend y partners (with_y.ascending down)) (cross up);
  }
