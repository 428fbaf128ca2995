use Rattle.std.proofs.Common.{◌≡◌, ◌∙◌, ◌++◌, ◌∷◌, [], List, ℕ, append_assoc, subst}
use Rattle.std.proofs.lemmas.Result.{IfOk-weaker}
use Rattle.igp_theory.specs.Migrations.{listed_migration}
use Rattle.igp_theory.specs.declared.phase.Phase.{Phase}
use Rattle.order_core.specs.declared.turn.Turn.{Turn}
use Rattle.explained_texts.specs.FaultPlaces.{span_of}
use Rattle.explained_texts.specs.WayTexts.{IsUseLine, turn_phase}
use Rattle.explained_texts.specs.ToldItems.{TellsMore}
use Rattle.explained_texts.proofs.way.with_turn.Goals as goal

pub returns : goal.returns
returns g c =
    let move = listed_migration c.args.sources.now.net.now (g.O.RouteSource.table c.args.sources.now.old.now)
    (g.N.RouteSource.table c.args.sources.now.new.now) in
    let T : Turn → List ℕ → Type 0 =
    λ turn. IsUseLine move c.args.told.1 turn.router (turn_phase (span_of c.args.told.0) turn) in
    let told = c.in_ok-use_line.field-0 in
    IfOk-weaker c.line.result (λ (l : List ℕ). l ≡ c.args.text ++ told ++ 10 ∷ []) (TellsMore T c.args.turn c.args.text)
    (λ l is. record {
      more = told ++ 10 ∷ [];
      told = subst (λ (p : Phase). IsUseLine move c.args.told.1 c.args.turn.router p (told ++ 10 ∷ [])) c.told-phase.ensures
          c.in_ok-use_line.ensures;
      longer_is = is ∙ append_assoc c.args.text told (10 ∷ []);
    }) c.line.ensures
