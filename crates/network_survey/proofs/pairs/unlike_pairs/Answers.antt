use Rattle.std.proofs.Common.{◌≡◌, ◌+◌, [], ◌∷◌, ◌++◌, List, take, sym, subst, ap, ◌∙◌}
use Rattle.std.proofs.lemmas.List.{take_more}
use Rattle.network_survey.specs.Pairs.{PortPair}
use Rattle.network_survey.specs.Ports.{Port}
use Rattle.network_survey.specs.steps.Partners.{AreUnlike, SelectsPairs, pairs_with}
use Rattle.network_survey.proofs.PairFacts.{SelectsPairs-more, SelectsPairs-none}
use Rattle.network_survey.proofs.pairs.unlike_pairs.Goals as goal

pub loop-one-init : goal.loop-one-init
loop-one-init c =
    subst (λ (l : List PortPair). SelectsPairs (AreUnlike c.args.unlikeness c.args.ports.now) [] c.args.ports.now l) (sym c.new-found.ensures.items)
    (SelectsPairs-none (AreUnlike c.args.unlikeness c.args.ports.now) c.args.ports.now)

pub loop-one-preserved : goal.loop-one-preserved
loop-one-preserved c =
    let xs : List Port = c.args.ports.now in
    let y : Port = c.one-item.result in
    let seen : take (c.loop-one.one-index + 1) xs ≡ take c.loop-one.one-index xs ++ y ∷ [] =
    take_more xs c.loop-one.one-index y c.loop-one-test.true ∙ ap (λ (z : Port). take c.loop-one.one-index xs ++ z ∷ []) (sym c.one-item.is) in
    subst (λ (l : List Port). SelectsPairs (AreUnlike c.args.unlikeness xs) l xs c.push_pairs.new.found.items) (sym seen)
    (subst (λ (l : List PortPair). SelectsPairs (AreUnlike c.args.unlikeness xs) (take c.loop-one.one-index xs ++ y ∷ []) xs l)
    (sym (c.in_ok-push_pairs.ensures ∙ ap (λ (l : List Port). c.loop-one.found.items ++ pairs_with y l) c.as_slice.ensures.value))
    (SelectsPairs-more (AreUnlike c.args.unlikeness xs) (take c.loop-one.one-index xs) xs c.loop-one.found.items c.in_ok-others.others.items y
    c.in_ok-others.ensures c.loop-one.invariant))
