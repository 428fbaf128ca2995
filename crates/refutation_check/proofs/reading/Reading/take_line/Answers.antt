use Rattle.std.proofs.Common.{arith}
use Rattle.std.proofs.lemmas.Grind.{common_steps}
use Rattle.std.proofs.Common.{◌≡◌, ℕ, List, ◌∷◌, Result, Ok, Err, sym, ◌∙◌, subst}
use Rattle.std.specs.Result.{MatchResult}
use Rattle.std.proofs.lemmas.Bool.{false≢true}
use Rattle.std.proofs.lemmas.Result.{MatchResult-at_ok, MatchResult-at_err}
use Rattle.net_addr.specs.Spans.{bytes_of}
use Rattle.net_model.specs.Network.{Network}
use Rattle.igp_theory.specs.Migrations.{Migration}
use Rattle.plan_theory.specs.declared.items.Items.{Items}
use Rattle.order_search.specs.declared.tree.Node.{Node}
use Rattle.refutation_check.specs.TreeLines.{SaysNode, pieces_of}
use Rattle.refutation_check.specs.WrongLines.{IsLowestKind, WrongNode}
use Rattle.refutation_check.specs.declared.verdict.WrongKind.{WrongKind}
use Rattle.refutation_check.specs.steps.Judged.{started_of}
use Rattle.refutation_check.specs.steps.Shapes.{SaysNoNode}
use Rattle.refutation_check.specs.steps.Walks.{IsTaken, PlacesLeft}
use Rattle.refutation_check.proofs.SaidNodes.{ringed}
use Rattle.refutation_check.proofs.ReadingFacts.{unread_lowest, wrong_words, taken_there, not_there}
use Rattle.refutation_check.proofs.reading.Reading.take_line.Goals as goal

-- what was read of a line, where the network that is shown is this one
module _ (items : Items) (net shown : Network) (words : List (List ℕ)) (said : Result Node WrongKind) (same : shown ≡ net)
    (read : MatchResult said (SaysNode items shown words) (SaysNoNode items shown words))
  where
    here : MatchResult said (SaysNode items net words) (SaysNoNode items net words)
    here = subst (λ (n : Network). MatchResult said (SaysNode items n words) (SaysNoNode items n words)) same read

    read_ok : (node : Node) → said ≡ Ok node → SaysNode items net words node
    read_ok node is = MatchResult-at_ok (SaysNode items net words) (SaysNoNode items net words) node is here

    read_err : (kind : WrongKind) → said ≡ Err kind → SaysNoNode items net words kind
    read_err kind is = MatchResult-at_err (SaysNode items net words) (SaysNoNode items net words) kind is here

pub returns-in-Err-clause-taken : goal.returns-in-Err-clause-taken
returns-in-Err-clause-taken g c = grind (arith, common_steps, false≢true, not_there, unread_lowest)

pub take_node-requires-clause-ringed : goal.take_node-requires-clause-ringed
take_node-requires-clause-ringed g c = grind (arith, common_steps, ringed)

pub returns-in-Ok-2-clause-taken : goal.returns-in-Ok-2-clause-taken
returns-in-Ok-2-clause-taken g c =
    let m = c.args.asked.now.mixed.now in
    let line = bytes_of c.args.text.now c.args.line in
    let move : Migration = started_of g.O.RouteSource.table g.N.RouteSource.table m c.args.asked.now.start.now in
    let says = read_ok c.args.asked.now.items m.net c.net.result.now (pieces_of line) c.in_ok-node.field-0 c.net.ensures c.in_ok-node.ensures c.in-Ok.node c.in-Ok.is in
    record {
      said = c.in-Ok.node;
      says = says;
      taken =
          taken_there c.args.asked.now.items move c.args.self.walk.left c.in-Ok-2.walk.left c.in-Ok.node (λ e. false≢true (sym c.if-is_whole.false ∙ c.is_whole.ensures.1 e))
          (λ place left is. MatchResult-at_ok (λ (after : PlacesLeft). IsTaken c.args.asked.now.items move (place ∷ left) after.left c.in-Ok.node)
          (IsLowestKind (WrongNode move place c.in-Ok.node)) c.in-Ok-2.walk c.in-Ok-2.is (c.in_ok-walk.ensures.taken place left is));
      counts = c.with.ensures;
    }

pub returns-clause-taken : goal.returns-clause-taken
returns-clause-taken g c =
    let m = c.args.asked.now.mixed.now in
    let line = bytes_of c.args.text.now c.args.line in
    let move : Migration = started_of g.O.RouteSource.table g.N.RouteSource.table m c.args.asked.now.start.now in
    let says = read_ok c.args.asked.now.items m.net c.net.result.now (pieces_of line) c.in_ok-node.field-0 c.net.ensures c.in_ok-node.ensures c.in-Ok.node c.in-Ok.is in
    not_there c.args.asked.now.items move c.args.self.walk.left line c.in-Err-2.kind (λ e. false≢true (sym c.if-is_whole.false ∙ c.is_whole.ensures.1 e))
    (λ place left is.
    wrong_words c.args.asked.now.items move c.requires.network place (pieces_of line) c.in-Ok.node says c.in-Err-2.kind
    (MatchResult-at_err (λ (after : PlacesLeft). IsTaken c.args.asked.now.items move (place ∷ left) after.left c.in-Ok.node)
    (IsLowestKind (WrongNode move place c.in-Ok.node)) c.in-Err-2.kind c.in-Err-2.is (c.in_ok-walk.ensures.taken place left is)))
