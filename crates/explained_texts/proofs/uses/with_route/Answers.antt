use Rattle.std.proofs.Common.{◌≡◌, ◌∙◌, ℕ, List, [], ◌∷◌, ◌++◌, IfOk, ap, codes, subst, sym}
use Rattle.std.proofs.lemmas.Result.{IfOk-weaker}
use Rattle.std.specs.Prelude.{decimal}
use Rattle.net_model.specs.RouterNames.{names_of}
use Rattle.printed_lines.specs.Words.{prefix_word, spaced}
use Rattle.used_routes.specs.UsedRoutes.{entry_at, usable_at}
use Rattle.used_routes.specs.declared.used.Origin.{Origin}
use Rattle.explained_texts.specs.UseWords.{action_words, usable_words}
use Rattle.explained_texts.proofs.ToldTexts.{last_on, word_on}
use Rattle.explained_texts.proofs.uses.with_route.Goals as goal

pub returns-in_ok-word-in-Connected : goal.returns-in_ok-word-in-Connected
returns-in_ok-word-in-Connected g c =
    let names = names_of c.args.sources.now.net.now in
    let old = g.O.RouteSource.table c.args.sources.now.old.now c.args.router in
    let new = g.N.RouteSource.table c.args.sources.now.new.now c.args.router in
    let route = c.args.route in
    let distance = decimal route.distance in
    let before = c.in_ok-word-in-Connected.field-0 in
    subst (λ (o : Origin). IfOk c.number.result (λ longer. longer ≡ c.args.line
    ++ spaced (prefix_word route.prefix ∷ usable_words names route.distance (usable_at old new o)))) (sym c.in-Connected.is)
    (IfOk-weaker c.number.result (λ (l : List ℕ). l ≡ before ++ 32 ∷ decimal c.from-distance.result)
    (λ (l : List ℕ). l ≡ c.args.line ++ spaced (prefix_word route.prefix ∷ codes "connected" ∷ distance ∷ []))
    (λ l is. last_on before distance (is ∙ ap (λ (n : ℕ). before ++ 32 ∷ decimal n) c.from-distance.ensures)
    ∙ word_on c.in_ok-line.line (codes "connected") (distance ∷ []) c.in_ok-word-in-Connected.ensures
    ∙ word_on c.args.line (prefix_word route.prefix) (codes "connected" ∷ distance ∷ []) c.in_ok-line.ensures) c.number.ensures)

pub returns-in_ok-line-in-Old : goal.returns-in_ok-line-in-Old
returns-in_ok-line-in-Old g c =
    let names = names_of c.args.sources.now.net.now in
    let old = g.O.RouteSource.table c.args.sources.now.old.now c.args.router in
    let new = g.N.RouteSource.table c.args.sources.now.new.now c.args.router in
    let route = c.args.route in
    let distance = decimal route.distance in
    let actions = action_words names (entry_at old c.in-Old.place) in
    subst (λ (o : Origin). IfOk c.with_entry_of.result (λ longer. longer ≡ c.args.line
    ++ spaced (prefix_word route.prefix ∷ usable_words names route.distance (usable_at old new o)))) (sym c.in-Old.is)
    (IfOk-weaker c.with_entry_of.result (λ (l : List ℕ). l ≡ c.in_ok-line-in-Old.line ++ spaced actions)
    (λ (l : List ℕ). l ≡ c.args.line ++ spaced (prefix_word route.prefix ∷ codes "ospf" ∷ distance ∷ actions))
    (λ l is. is
    ∙ word_on c.in_ok-word-in-Old.field-0 distance actions
    (c.in_ok-line-in-Old.ensures ∙ ap (λ (n : ℕ). c.in_ok-word-in-Old.field-0 ++ 32 ∷ decimal n) c.from-distance.ensures)
    ∙ word_on c.in_ok-line.line (codes "ospf") (distance ∷ actions) c.in_ok-word-in-Old.ensures
    ∙ word_on c.args.line (prefix_word route.prefix) (codes "ospf" ∷ distance ∷ actions) c.in_ok-line.ensures) c.with_entry_of.ensures)

pub returns-in_ok-line-in-New : goal.returns-in_ok-line-in-New
returns-in_ok-line-in-New g c =
    let names = names_of c.args.sources.now.net.now in
    let old = g.O.RouteSource.table c.args.sources.now.old.now c.args.router in
    let new = g.N.RouteSource.table c.args.sources.now.new.now c.args.router in
    let route = c.args.route in
    let distance = decimal route.distance in
    let actions = action_words names (entry_at new c.in-New.place) in
    subst (λ (o : Origin). IfOk c.with_entry_of-in-New.result (λ longer. longer ≡ c.args.line
    ++ spaced (prefix_word route.prefix ∷ usable_words names route.distance (usable_at old new o)))) (sym c.in-New.is)
    (IfOk-weaker c.with_entry_of-in-New.result (λ (l : List ℕ). l ≡ c.in_ok-line-in-New.line ++ spaced actions)
    (λ (l : List ℕ). l ≡ c.args.line ++ spaced (prefix_word route.prefix ∷ codes "isis" ∷ distance ∷ actions))
    (λ l is. is
    ∙ word_on c.in_ok-word-in-New.field-0 distance actions
    (c.in_ok-line-in-New.ensures ∙ ap (λ (n : ℕ). c.in_ok-word-in-New.field-0 ++ 32 ∷ decimal n) c.from-distance.ensures)
    ∙ word_on c.in_ok-line.line (codes "isis") (distance ∷ actions) c.in_ok-word-in-New.ensures
    ∙ word_on c.args.line (prefix_word route.prefix) (codes "isis" ∷ distance ∷ actions) c.in_ok-line.ensures) c.with_entry_of-in-New.ensures)
