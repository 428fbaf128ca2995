use Rattle.std.proofs.Common.{◌≡◌, ◌+◌, [], ◌∷◌, ◌++◌, List, take, sym, subst, ap, ◌∙◌}
use Rattle.std.proofs.lemmas.List.{take_more}
use Rattle.network_survey.specs.Ports.{Port}
use Rattle.network_survey.specs.steps.PortLists.{Selects}
use Rattle.network_survey.proofs.PortFacts.{Selects-more, Selects-none}
use Rattle.network_survey.proofs.scan.odd_ports.Goals as goal

pub loop-port-init : goal.loop-port-init
loop-port-init g c =
    let odd = g.O.Oddness.odd c.args.oddness.now c.args.ports.now in
    subst (Selects odd []) (sym c.new-found.ensures.items) (Selects-none odd)

pub loop-port-preserved : goal.loop-port-preserved
loop-port-preserved g c =
    let odd = g.O.Oddness.odd c.args.oddness.now c.args.ports.now in
    let xs = c.args.ports.now in
    let i = c.loop-port.port-index in
    let y = c.port-item.result in
    let seen : take (i + 1) xs ≡ take i xs ++ y ∷ [] =
    take_more xs i y c.loop-port-test.true ∙ ap (λ (z : Port). take i xs ++ z ∷ []) (sym c.port-item.is) in
    subst (λ (l : List Port). Selects odd l c.push_if.new.found.items) (sym seen)
    (subst (Selects odd (take i xs ++ y ∷ [])) (sym (c.in_ok-push_if.ensures))
    (Selects-more odd (take i xs) c.loop-port.found.items y c.is_odd.result c.is_odd.ensures c.loop-port.invariant))
