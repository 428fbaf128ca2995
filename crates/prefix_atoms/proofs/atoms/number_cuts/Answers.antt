use Rattle.std.proofs.Common.{◌≡◌, ◌≤◌, ◌^◌, ◌∙◌, ℕ, List, length, get_or, arith, ap, subst}
use Rattle.std.proofs.lemmas.List.{get_or_default}
use Rattle.std.proofs.lemmas.Result.{IfOk-weaker}
use Rattle.prefix_atoms.specs.steps.Numbers.{IsNumbering}
use Rattle.prefix_atoms.proofs.Ascending.{length_below}
use Rattle.prefix_atoms.proofs.ClassFacts.{numbers_classes}
use Rattle.prefix_atoms.proofs.NestedLaws.{ascending_apart}
use Rattle.prefix_atoms.proofs.atoms.number_cuts.Goals as goal

pub number-requires-clause-few : goal.number-requires-clause-few
number-requires-clause-few c =
    let many : length c.as_slice.result.now ≡ length c.args.cuts.now = ap length c.as_slice.ensures.value ∙ c.in_ok-keys.ensures.keys.count in
    let few : length c.args.cuts.now ≤ 2 ^ 32 = length_below c.args.cuts.now (2 ^ 32) c.requires.cuts
    (λ k d l.
    let at : get_or c.args.cuts.now k d ≡ get_or c.args.cuts.now k 0 = get_or_default c.args.cuts.now k d 0 l in
    omega (arith, c.type_inv.cuts k)) in
    omega arith

pub returns : goal.returns
returns c =
    IfOk-weaker c.number.result _ _
    (λ n numbering.
    numbers_classes c.args.prefixes.now c.args.cuts.now c.in_ok-keys.keys.items n.numbers.items n.firsts.items
    c.in_ok-keys.ensures.blocks (ascending_apart c.args.prefixes.now c.requires.prefixes) c.in_ok-keys.ensures.keys
    (subst (λ (ks : List ℕ). IsNumbering ks n.numbers.items n.firsts.items) c.as_slice.ensures.value numbering))
    c.number.ensures
