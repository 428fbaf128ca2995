use Rattle.std.proofs.Common.{◌≡◌, ◌∙◌, ℕ, List, [], ◌∷◌, ◌++◌, ap, codes}
use Rattle.std.proofs.lemmas.Result.{IfOk-weaker}
use Rattle.igp_theory.specs.Migrations.{listed_migration}
use Rattle.net_model.specs.RouterNames.{names_of}
use Rattle.printed_lines.specs.Words.{prefix_word, router_word, spaced}
use Rattle.used_routes.specs.UsedRoutes.{usable_at}
use Rattle.explained_texts.specs.UseWords.{phase_word, usable_words, uses_none}
use Rattle.explained_texts.specs.WayTexts.{IsUseLine}
use Rattle.explained_texts.proofs.LineParts.{route_words, use_line_is}
use Rattle.explained_texts.proofs.ToldTexts.{last_on}
use Rattle.explained_texts.proofs.uses.use_line.Goals as goal

pub returns-in-None : goal.returns-in-None
returns-in-None g c =
    let sources = c.args.sources.now in
    let name = router_word (names_of sources.net.now) c.args.router in
    let none = codes "none" in
    IfOk-weaker c.word-in-None.result (λ (l : List ℕ). l ≡ c.in_ok-line-2.line ++ 32 ∷ none)
    (λ (l : List ℕ). IsUseLine
    (listed_migration sources.net.now (g.O.RouteSource.table sources.old.now) (g.N.RouteSource.table sources.new.now)) c.args.a
    c.args.router c.args.phase (l ++ 10 ∷ []))
    (λ l is. record {
      words = none ∷ [];
      used = uses_none c.in-None.ensures.none;
      text_is = use_line_is name (phase_word c.args.phase) (none ∷ []) c.in_ok-start.ensures
          (c.in_ok-line.ensures ∙ ap (λ (w : List ℕ). c.in_ok-start.field-0 ++ 32 ∷ w) c.name_of.ensures)
          (c.in_ok-line-2.ensures ∙ ap (λ (w : List ℕ). c.in_ok-line.line ++ 32 ∷ w) c.phase_word.ensures) (last_on c.in_ok-line-2.line none is);
    }) c.word-in-None.ensures

pub returns-in-Some : goal.returns-in-Some
returns-in-Some g c =
    let sources = c.args.sources.now in
    let old = g.O.RouteSource.table sources.old.now in
    let new = g.N.RouteSource.table sources.new.now in
    let name = router_word (names_of sources.net.now) c.args.router in
    let route = c.in-Some.route in
    let words = prefix_word route.prefix
    ∷ usable_words (names_of sources.net.now) route.distance (usable_at (old c.args.router) (new c.args.router) route.origin) in
    IfOk-weaker c.with_route.result (λ (l : List ℕ). l ≡ c.in_ok-line-2.line ++ spaced words)
    (λ (l : List ℕ). IsUseLine (listed_migration sources.net.now old new) c.args.a c.args.router c.args.phase (l ++ 10 ∷ []))
    (λ l is. record {
      words = words;
      used = route_words sources.net.now old new c.args.router c.args.phase c.args.a route c.in-Some.ensures.used
          c.base-block.ensures.block;
      text_is = use_line_is name (phase_word c.args.phase) words c.in_ok-start.ensures
          (c.in_ok-line.ensures ∙ ap (λ (w : List ℕ). c.in_ok-start.field-0 ++ 32 ∷ w) c.name_of.ensures)
          (c.in_ok-line-2.ensures ∙ ap (λ (w : List ℕ). c.in_ok-line.line ++ 32 ∷ w) c.phase_word.ensures) is;
    }) c.with_route.ensures
