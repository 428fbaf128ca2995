use Rattle.std.proofs.Common.{◌≡◌, List, Some, ap, arith, length, refl, slice_get, subst}
use Rattle.std.proofs.lemmas.Option.{slice_get_read}
use Rattle.net_model.specs.declared.interface.Interface.{Interface}
use Rattle.drawn_network.proofs.TargetFacts.{best_before_next, better_here}
use Rattle.drawn_network.proofs.target.longest_at.Goals as goal

pub loop-place-preserved : goal.loop-place-preserved
loop-place-preserved c =
    let interfaces = c.interfaces_at-interfaces.result.now in
    let place = c.loop-place.place in
    let one = c.index-interfaces-place.result in
    let below = c.loop-place-test.true in
    let read = slice_get_read interfaces (length interfaces) place one refl below c.index-interfaces-place.is in
    better_here c.args.net.now c.args.router place c.args.a one
    (subst (λ (all : List Interface). slice_get all place ≡ Some one) c.interfaces_at-interfaces.ensures read)
    c.loop-place.best c.better-best.result c.loop-place.invariant c.better-best.ensures

pub returns : goal.returns
returns c =
    let all = ap (λ (is : List Interface). length is) c.interfaces_at-interfaces.ensures in
    best_before_next c.args.net.now c.args.router c.loop-place.place c.args.a c.loop-place.best (omega (arith, all))
    c.loop-place.invariant
