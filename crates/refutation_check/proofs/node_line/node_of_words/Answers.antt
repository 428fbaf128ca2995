use Rattle.std.proofs.Common.{Option, subst}
use Rattle.std.specs.Option.{MatchOption}
use Rattle.order_search.specs.declared.tree.Node.{Node}
use Rattle.refutation_check.specs.TreeLines.{SaysNode}
use Rattle.refutation_check.specs.steps.Spans.{span_texts}
use Rattle.refutation_check.proofs.ShapeFacts.{shape_form}
use Rattle.refutation_check.proofs.node_line.node_of_words.Goals as goal

pub returns-in-Some-2 : goal.returns-in-Some-2
returns-in-Some-2 c =
    let words = span_texts c.args.text.now c.args.words.now in
    subst (λ (o : Option Node). MatchOption o ((n : Node) → SaysNode c.args.items c.args.net.now words n → ⊥) (SaysNode c.args.items c.args.net.now words)) c.in-Some-2.is
    (c.in_ok-node-in-Some.ensures words c.in-Some.ensures)

pub returns-in-None-2 : goal.returns-in-None-2
returns-in-None-2 c =
    let words = span_texts c.args.text.now c.args.words.now in
    record {
      form = shape_form c.args.items c.args.text.now words c.in-Some.shape c.in-Some.ensures;
      none =
          subst (λ (o : Option Node). MatchOption o ((n : Node) → SaysNode c.args.items c.args.net.now words n → ⊥) (SaysNode c.args.items c.args.net.now words)) c.in-None-2.is
          (c.in_ok-node-in-Some.ensures words c.in-Some.ensures);
    }
