use Rattle.std.proofs.lemmas.Grind.{common_steps}
use Rattle.std.proofs.Common.{◌≡◌, ◌∙◌, ◌<◌, ℕ, List, Bool, true, false, ap, arith, get_or, get_or-set_same, inl, inr, length}
use Rattle.std.proofs.Common.{length-set, set, subst}
use Rattle.std.proofs.lemmas.Bool.{cases_lt}
use Rattle.std.proofs.lemmas.List.{get_or_default}
use Rattle.std.proofs.lemmas.List.Elements.{Contains-get_or}
use Rattle.walk_core.specs.declared.segment.Port.{Port}
use Rattle.walk_core.proofs.MemberSteps.{still_marked}
use Rattle.walk_core.proofs.members.mark.Goals as goal

pub returns : goal.returns
returns c =
    let is = c.loop-place.invariant in
    record {
      long = is.long;
      kept = is.kept;
      each = λ port at. subst (λ (p : Port). get_or c.loop-place.marks.items p.vertex false ≡ true) at.2
          (is.each at.0 port (omega (arith, at.1, c.loop-place-test.false)));
    }

pub index_mut-requires : goal.index_mut-requires
index_mut-requires c =
    let one : Port = record { vertex = 0; cost = 0 } in
    let port : Port = get_or c.args.ports.now c.loop-place.place one in
    let within : port.vertex < length c.args.marks.now.items =
    c.requires port (Contains-get_or c.args.ports.now c.loop-place.place one c.loop-place-test.true) in
    grind (arith, common_steps, within)

pub loop-place-preserved : goal.loop-place-preserved
loop-place-preserved c =
    let is = c.loop-place.invariant in
    let ports : List Port = c.args.ports.now in
    let marks : List Bool = c.loop-place.marks.items in
    let place : ℕ = c.loop-place.place in
    let one : Port = record { vertex = 0; cost = 0 } in
    let port : Port = get_or ports place one in
    let within : port.vertex < length c.args.marks.now.items = c.requires port
    (Contains-get_or ports place one c.loop-place-test.true) in
    let below : port.vertex < length marks = omega (arith, within, is.long) in
    record {
      long = length-set marks port.vertex true ∙ is.long;
      kept = λ v marked. still_marked marks port.vertex v below (is.kept v marked);
      each = λ k none less. elim (cases_lt k place) [
        | inl earlier ↦ still_marked marks port.vertex (get_or ports k none).vertex below (is.each k none earlier)
        | inr not ↦
            let here : k ≡ place = omega (arith, not, less) in
            ap (λ (n : ℕ). get_or (set marks port.vertex true) (get_or ports n none).vertex false) here
            ∙ ap (λ (p : Port). get_or (set marks port.vertex true) p.vertex false)
            (get_or_default ports place none one c.loop-place-test.true)
            ∙ get_or-set_same marks port.vertex true false below
      ];
    }
