-- Where the router isn't marked there is room for it in the list.
use Rattle.std.proofs.lemmas.Grind.{common_steps}
use Rattle.std.proofs.Common.{◌<◌, length, arith, sym, ◌∙◌}
use Rattle.std.proofs.lemmas.Bool.{false≢true}
use Rattle.order_core.specs.Marks.{IsMarked}
use Rattle.order_core.proofs.Marked.{marked_count-room}
use Rattle.precedence_set.proofs.ReachFacts.{AreListed-more}
use Rattle.precedence_set.proofs.reaching.list_one.Goals as goal

pub bounds-list-count : goal.bounds-list-count
bounds-list-count c = grind (arith, common_steps, false≢true, marked_count-room)

pub returns-clause-listed : goal.returns-clause-listed
returns-clause-listed c =
    let fresh : ¬ IsMarked c.args.marks.now c.args.w = λ marked. false≢true (sym c.if-marks-w.false ∙ marked) in
    let room = marked_count-room c.args.marks.now c.args.w c.requires.w_in fresh in
    let here : c.args.count < length c.args.list.now = omega (arith, room, c.requires.listed.counted, c.requires.marks_length) in
    AreListed-more c.args.marks.now c.args.list.now c.args.count c.args.w c.requires.w_in here fresh c.requires.listed
