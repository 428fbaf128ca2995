use Rattle.std.proofs.Common.{ℕ, ◌∷◌, List, sym, ap, ◌∙◌}
use Rattle.std.proofs.lemmas.List.Elements.{All-rest}
use Rattle.net_addr.specs.Spans.{LiesIn}
use Rattle.refutation_check.specs.steps.Spans.{span_texts}
use Rattle.refutation_check.proofs.ShapeFacts.{branch_answer, leaf_answer}
use Rattle.refutation_check.proofs.shape.shape_of.Goals as goal

pub branch_shape-requires : goal.branch_shape-requires
branch_shape-requires c = All-rest (LiesIn c.args.text.now) c.in_ok-first.first.now c.in_ok-first.others.now c.args.words.now c.in_ok-first.ensures.cases.0
    c.requires.inside

pub returns-then-is_text : goal.returns-then-is_text
returns-then-is_text c =
    let rest = span_texts c.args.text.now c.in_ok-first.others.now in
    branch_answer c.args.items c.args.text.now (span_texts c.args.text.now c.args.words.now) rest c.branch_shape.result
    (ap (span_texts c.args.text.now) c.in_ok-first.ensures.cases.0
    ∙ ap (λ (w : List ℕ). w ∷ rest) (sym c.bytes_at-word.ensures ∙ c.is_text.ensures.0 c.if-is_text.true))
    c.branch_shape.ensures.none c.branch_shape.ensures.some

pub returns-then-is_text-2 : goal.returns-then-is_text-2
returns-then-is_text-2 c =
    let parts = ap (span_texts c.args.text.now) c.in_ok-first.ensures.cases.0 in
    leaf_answer c.args.items c.args.text.now (span_texts c.args.text.now c.args.words.now) c.in_ok-first.others c.leaf_shape.result
    (parts ∙ ap (λ (w : List ℕ). w ∷ span_texts c.args.text.now c.in_ok-first.others.now)
    (sym c.bytes_at-word.ensures ∙ c.is_text-else-is_text.ensures.0 c.if-is_text-2.true))
    (All-rest (LiesIn c.args.text.now) c.in_ok-first.first.now c.in_ok-first.others.now c.args.words.now c.in_ok-first.ensures.cases.0 c.requires.inside)
    c.leaf_shape.ensures.none c.leaf_shape.ensures.some c.leaf_shape.ensures.filled

pub leaf_shape-requires : goal.leaf_shape-requires
leaf_shape-requires c = All-rest (LiesIn c.args.text.now) c.in_ok-first.first.now c.in_ok-first.others.now c.args.words.now c.in_ok-first.ensures.cases.0
    c.requires.inside
