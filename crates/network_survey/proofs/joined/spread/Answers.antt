use Rattle.std.proofs.Common.{◌≡◌, ℕ, ◌+◌, ◌<◌, [], ◌∷◌, ◌++◌, List, take, sym, subst, ap, ◌∙◌}
use Rattle.std.proofs.lemmas.List.{take_more}
use Rattle.network_survey.specs.Ports.{Port}
use Rattle.network_survey.specs.steps.Reached.{HasPortOn, MarksWhere, MeetIn}
use Rattle.network_survey.proofs.ReachFacts.{HasPortOn-wider, MarksWhere-then, MeetIn-cases, MeetIn-last}
use Rattle.network_survey.proofs.joined.spread.Goals as goal

pub spread_over-requires : goal.spread_over-requires
spread_over-requires c = record { router = λ x k. subst (λ (n : ℕ). x.router < n) (sym c.loop-port.auto.reached) (c.requires.router x k) }

pub loop-port-preserved : goal.loop-port-preserved
loop-port-preserved c =
    let xs : List Port = c.args.ports.now in
    let i = c.loop-port.port-index in
    let u : ℕ = c.args.router in
    let y : Port = c.port-item.result in
    let seen : take (i + 1) xs ≡ take i xs ++ y ∷ [] =
    take_more xs i y c.loop-port-test.true ∙ ap (λ (z : Port). take i xs ++ z ∷ []) (sym c.port-item.is) in
    subst (λ (l : List Port). MarksWhere (MeetIn l xs u) c.args.reached.now c.spread_over.new.reached) (sym seen)
    (MarksWhere-then (MeetIn (take i xs) xs u) (λ v. (y.router ≡ u) × HasPortOn xs v y.subnet) (MeetIn (take i xs ++ y ∷ []) xs u)
    c.args.reached.now c.loop-port.reached c.spread_over.new.reached
    (λ v. MeetIn-cases (take i xs) xs y u v)
    (λ v m. record { subnet = m.subnet; near = HasPortOn-wider (take i xs) y u m.subnet m.near; far = m.far })
    (λ v. MeetIn-last (take i xs) xs y u v) c.loop-port.invariant c.spread_over.ensures)
