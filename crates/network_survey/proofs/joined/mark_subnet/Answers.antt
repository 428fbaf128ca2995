use Rattle.std.proofs.Common.{◌≡◌, ℕ, ◌+◌, ◌<◌, [], ◌∷◌, ◌++◌, List, take, sym, subst, ap, ◌∙◌}
use Rattle.std.proofs.lemmas.List.{take_more}
use Rattle.network_survey.specs.Ports.{Port}
use Rattle.network_survey.specs.steps.Reached.{HasPortOn, MarksWhere}
use Rattle.network_survey.proofs.ReachFacts.{HasPortOn-cases, HasPortOn-last, HasPortOn-wider, MarksWhere-then}
use Rattle.network_survey.proofs.joined.mark_subnet.Goals as goal

pub mark_port-requires : goal.mark_port-requires
mark_port-requires c =
    subst (λ (n : ℕ). c.port-item.result.router < n) (sym c.loop-port.auto.reached)
    (c.requires.router c.port-item.result (c.loop-port.port-index, c.loop-port-test.true, sym c.port-item.is))

pub loop-port-preserved : goal.loop-port-preserved
loop-port-preserved c =
    let xs : List Port = c.args.ports.now in
    let i = c.loop-port.port-index in
    let y : Port = c.port-item.result in
    let seen : take (i + 1) xs ≡ take i xs ++ y ∷ [] =
    take_more xs i y c.loop-port-test.true ∙ ap (λ (z : Port). take i xs ++ z ∷ []) (sym c.port-item.is) in
    subst (λ (l : List Port). MarksWhere (λ v. HasPortOn l v c.args.subnet) c.args.reached.now c.mark_port.new.marks) (sym seen)
    (MarksWhere-then (λ v. HasPortOn (take i xs) v c.args.subnet) (λ v. (y.router ≡ v) × (y.subnet ≡ c.args.subnet)) (λ v. HasPortOn (take i xs ++ y ∷ []) v c.args.subnet)
    c.args.reached.now c.loop-port.reached c.mark_port.new.marks
    (λ v. HasPortOn-cases (take i xs) y v c.args.subnet) (λ v. HasPortOn-wider (take i xs) y v c.args.subnet) (λ v. HasPortOn-last (take i xs) y v c.args.subnet)
    c.loop-port.invariant c.mark_port.ensures)
