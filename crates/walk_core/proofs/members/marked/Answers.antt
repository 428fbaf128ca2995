use Rattle.std.proofs.Common.{ℕ, List, [], Contains, ◌≡◌, ◌∙◌, ap, sym, subst, arith, inl, inr}
use Rattle.std.proofs.lemmas.Bool.{cases_lt}
use Rattle.std.proofs.lemmas.List.Elements.{Contains-get_or}
use Rattle.walk_core.specs.Segments.{IsPort}
use Rattle.walk_core.specs.declared.segment.Port.{Port}
use Rattle.walk_core.specs.steps.Flooding.{segment_at}
use Rattle.walk_core.proofs.members.marked.Goals as goal

pub mark-requires : goal.mark-requires
mark-requires c port among =
    let segments : List (List Port) = c.args.segments.now in
    let place : ℕ = c.loop-place.place in
    let is : IsPort c.args.count port = c.requires (segment_at segments place)
    (Contains-get_or segments place [] c.loop-place-test.true) port
    (subst (λ (l : List Port). Contains l port) c.ports_at.ensures among) in
    omega (arith, is.vertex, c.loop-place.invariant.long)

pub loop-place-preserved : goal.loop-place-preserved
loop-place-preserved c =
    let segments : List (List Port) = c.args.segments.now in
    let place : ℕ = c.loop-place.place in
    let is = c.loop-place.invariant in
    record {
      marked = λ i below port among. elim (cases_lt i place) [
        | inl less ↦ c.mark.ensures.kept port.vertex (is.marked i less port among)
        | inr not ↦
            let here : i ≡ place = omega (arith, not, below) in
            c.mark.ensures.each port
            (subst (λ (l : List Port). Contains l port) (ap (segment_at segments) here ∙ sym c.ports_at.ensures) among)
      ];
      long = c.mark.ensures.long ∙ is.long;
    }

pub returns-clause-marked : goal.returns-clause-marked
returns-clause-marked c i below port among = c.loop-place.invariant.marked i
    (omega (arith, below, c.loop-place-test.false)) port among
