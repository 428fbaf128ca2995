use Rattle.std.proofs.Common.{ℕ, ◌∙◌, List, get_or, ap, refl, sym, subst, arith}
use Rattle.std.specs.Vec.{vec_len, vec_capacity}
use Rattle.std.proofs.lemmas.List.{get_or_default}
use Rattle.walk_core.specs.steps.Adding.{AddsNumbers}
use Rattle.walk_core.proofs.AddingLaws.{IsBelow, adds_below, adds_nothing, adds_one, leads_all, leads_more}
use Rattle.walk_core.proofs.union.add_below.Goals as goal
use Rattle.walk_core.proofs.union.add_below.Goals.{then-number-count, else-number-count}

pub loop-number-preserved : goal.loop-number-preserved
loop-number-preserved c =
    let i : ℕ = c.loop-number.number-index in
    let list : List ℕ = c.args.list.now in
    let x : ℕ = get_or list i 0 in
    let now : List ℕ = c.loop-number.numbers.items in
    let P : ℕ → Type 0 = IsBelow c.args.count x in
    let more = leads_more (IsBelow c.args.count) list i x c.args.numbers.now.items now c.if-number-count.numbers.items c.loop-number-test.true
    (get_or_default list i x 0 c.loop-number-test.true) c.loop-number.invariant.0 in
    elim c.if-number-count.branch [
      | then-number-count w ↦ (
        more (subst (λ (l : List ℕ). AddsNumbers P now l) (sym (ap (λ v. v.items) w.numbers-is ∙ w.push_reserved.ensures.items))
            (adds_one P now x (w.if-number-count.true, refl) (λ h below. below.1))),
        (
          omega (
            arith,
            ap vec_len w.numbers-is,
            w.push_reserved.ensures.len,
            ap vec_capacity w.numbers-is,
            w.push_reserved.ensures.capacity,
            c.loop-number-test.true,
            c.loop-number.invariant.1.0,
          ),
          ap vec_capacity w.numbers-is ∙ w.push_reserved.ensures.capacity ∙ c.loop-number.invariant.1.1,
        ),
      )
      | else-number-count w ↦ (
        more (subst (λ (l : List ℕ). AddsNumbers P now l) (sym (ap (λ v. v.items) w.numbers-is))
            (adds_nothing P now (λ h below. omega (arith, below.0, below.1, w.if-number-count.false)))),
        (
          omega (arith, ap vec_len w.numbers-is, ap vec_capacity w.numbers-is, c.loop-number-test.true, c.loop-number.invariant.1.0),
          ap vec_capacity w.numbers-is ∙ c.loop-number.invariant.1.1,
        ),
      )
    ]

pub returns-clause-added : goal.returns-clause-added
returns-clause-added c =
    adds_below c.args.count c.args.list.now c.args.numbers.now.items c.loop-number.numbers.items
    (leads_all (IsBelow c.args.count) c.args.list.now c.loop-number.number-index c.args.numbers.now.items c.loop-number.numbers.items
    c.loop-number-test.false c.loop-number.invariant.0)
