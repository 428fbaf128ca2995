use Rattle.std.proofs.lemmas.Grind.{common_steps}
use Rattle.std.proofs.Common.{rules, ◌≡◌, ◌≢◌, set, Some, sym, ap, subst, ◌∙◌, arith, true}
use Rattle.state_replay.specs.Halves.{half_number}
use Rattle.state_replay.specs.Journals.{IsNextOn, progress}
use Rattle.state_replay.specs.steps.Making.{MakesChange}
use Rattle.state_replay.proofs.Lines.{told_below}
use Rattle.state_replay.proofs.Takings.{made_next, not_next}
use Rattle.state_replay.proofs.journal.judge_line.Goals as goal

pub returns : goal.returns
returns c =
    let p = progress c.args.net.now c.args.ranks.now c.args.done.now in
    let told = c.in-Some.told in
    let same : c.in-Some-next_change.next ≡ told.half = search rules in
    let number : c.number.result ≡ half_number told.half = c.number.ensures ∙ ap half_number same in
    subst (λ k. MakesChange p c.args.line.now (set p.done told.router k) true) (sym number)
    (made_next p c.args.line.now c.requires.network.ascending c.requires.ranking told.router told.half c.in-Some.ensures
    (told_below c.args.net.now c.args.line.now told.router told.half c.in-Some.ensures)
    (subst (λ half. IsNextOn p.ranks p.done told.router (Some half)) same c.in-Some-next_change.ensures))

pub returns-then-ne : goal.returns-then-ne
returns-then-ne c =
    let apart : c.in-Some-next_change.next ≢ c.in-Some.told.half = search rules in
    not_next (progress c.args.net.now c.args.ranks.now c.args.done.now) c.args.line.now c.requires.network.ascending c.requires.ranking
    c.in-Some.told.router c.in-Some.told.half c.in-Some.ensures (Some c.in-Some-next_change.next) c.in-Some-next_change.ensures (λ e. apart (cc))

pub returns-in_default-next_change : goal.returns-in_default-next_change
returns-in_default-next_change c =
    not_next (progress c.args.net.now c.args.ranks.now c.args.done.now) c.args.line.now c.requires.network.ascending c.requires.ranking
    c.in-Some.told.router c.in-Some.told.half c.in-Some.ensures c.next_change.result c.next_change.ensures
    (λ e. let is = c.in_default-next_change.is in cc)

pub bounds-done-told : goal.bounds-done-told
bounds-done-told c = grind (arith, common_steps, told_below)
