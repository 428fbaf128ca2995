use Rattle.std.proofs.Common.{◌≡◌, ◌++◌, ◌∷◌, [], ◌+◌, ℕ, List, Contains, take, get_or, inl, inr, sym, ap, subst, ◌∙◌}
use Rattle.std.proofs.lemmas.List.{take_more, take_all}
use Rattle.std.proofs.lemmas.List.Elements.{Contains-push_cases}
use Rattle.walk_core.specs.declared.segment.Port.{Port}
use Rattle.walk_core.proofs.outlets.other_end.Goals as goal

pub loop-port-preserved : goal.loop-port-preserved
loop-port-preserved c p among =
    let none : Port = record { vertex = 0; cost = 0 } in
    let ports : List Port = c.args.ports.now in
    let i : ℕ = c.loop-port.port-index in
    let port : Port = get_or ports i none in
    let more : take (i + 1) ports ≡ take i ports ++ port ∷ [] = take_more ports i none c.loop-port-test.true in
    elim (Contains-push_cases (take i ports) port p (subst (λ (l : List Port). Contains l p) more among)) [
      | inl earlier ↦ c.loop-port.invariant p earlier
      | inr same ↦ ap (λ (q : Port). q.vertex) (sym same) ∙ c.if-port-vertex.false
    ]

pub returns : goal.returns
returns c = record {
  few = c.requires.few;
  port = c.requires.port;
  only = λ p among. inl (c.loop-port.invariant p
      (subst (λ (l : List Port). Contains l p) (sym (take_all c.loop-port.port-index c.args.ports.now c.loop-port-test.false)) among));
}
