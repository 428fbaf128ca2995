use Rattle.std.proofs.lemmas.Grind.{common_steps}
use Rattle.std.proofs.Common.{◌≡◌, ℕ, ◌<◌, List, length, get_or, set, true, false, arith, sym, subst}
use Rattle.std.proofs.lemmas.List.{get_or_read}
use Rattle.loop_finder.specs.steps.Returns.{AreReached}
use Rattle.loop_finder.proofs.Reaching.{reached_short, AreReached-more}
use Rattle.loop_finder.proofs.returns.reach_one.Goals as goal

pub visit-requires : goal.visit-requires
visit-requires c = grind (arith, common_steps, get_or_read, reached_short)

pub returns-in-Some-false-clause-reached : goal.returns-in-Some-false-clause-reached
returns-in-Some-false-clause-reached c goal apart are =
    let within : c.args.router < length c.args.seen.now = c.in-Some-false.ensures.lookup.3.0 in
    let read : c.in-Some-false.field-0.now ≡ get_or c.args.seen.now c.args.router false =
    get_or_read c.args.seen.now c.args.router c.in-Some-false.field-0.now within c.in-Some-false.ensures.lookup.1 false in
    let bare : get_or c.args.seen.now c.args.router false ≡ false = cc in
    subst (λ (xs : List ℕ). AreReached goal (set c.args.seen.now c.args.router true) xs) (sym c.visit.ensures.items)
    (AreReached-more goal c.args.seen.now c.args.reached.now.items c.args.router are within bare apart)
