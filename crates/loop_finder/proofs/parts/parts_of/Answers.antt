use Rattle.std.proofs.Common.{◌≡◌, ℕ, ◌≤◌, ◌^◌, length, ap, ◌∙◌, arith, subst}
use Rattle.net_model.specs.Refusals.{IsNetwork}
use Rattle.prefix_atoms.specs.Classes.{Classes}
use Rattle.loop_finder.specs.Parts.{AreParts}
use Rattle.loop_finder.proofs.StateVerdicts.{classes_few}
use Rattle.loop_finder.specs.Mixes.{mix_of}
use Rattle.loop_finder.proofs.parts.parts_of.Goals as goal

pub overflow_cast-atom : goal.overflow_cast-atom
overflow_cast-atom g c =
    let many : c.count-atom-end.result ≡ length c.args.mixed.now.classes.samples =
    c.count-atom-end.ensures.count ∙ ap (λ (x : Classes). length x.samples) c.atoms.ensures.atoms in
    let few : length c.args.mixed.now.classes.samples ≤ 2 ^ 32 =
    classes_few c.args.mixed.now.classes.prefixes c.args.mixed.now.classes.samples c.atoms.ensures.classes.classing.samples in
    omega (arith, many, few, c.loop-atom-test.true)

pub add_part-requires-clause-network : goal.add_part-requires-clause-network
add_part-requires-clause-network g c = subst IsNetwork c.net.ensures c.routers.ensures.network

pub returns : goal.returns
returns g c =
    let many : c.count-atom-end.result ≡ length c.args.mixed.now.classes.samples =
    c.count-atom-end.ensures.count ∙ ap (λ (x : Classes). length x.samples) c.atoms.ensures.atoms in
    let all : c.loop-atom.atom ≡ length c.args.mixed.now.classes.samples = omega (arith, many, c.loop-atom-test.false, c.loop-atom.auto.atom-end) in
    subst (λ (n : ℕ). AreParts (mix_of g.O.RouteSource.table g.N.RouteSource.table c.args.mixed.now) c.loop-atom.parts.items n) all
    c.loop-atom.invariant.parts
