use Rattle.std.proofs.Common.{◌≡◌, ◌∙◌, ◌-◌, ◌++◌, ◌∷◌, [], ℕ, List, ap, arith, subst, sym}
use Rattle.std.proofs.lemmas.Result.{IfOk-weaker}
use Rattle.net_model.specs.Network.{Network}
use Rattle.net_model.specs.RouterNames.{names_of}
use Rattle.igp_theory.specs.Changes.{first}
use Rattle.igp_theory.specs.Timetables.{change_number}
use Rattle.printed_lines.specs.Words.{spaced}
use Rattle.rib_mix.specs.Mixture.{migration_of}
use Rattle.change_orders.specs.TwoTexts.{item_word}
use Rattle.explained_changes.specs.ChangeReasonTexts.{IsChangeLine, comes_words, right_behind}
use Rattle.explained_changes.proofs.behind.behind_line.Goals as goal

pub returns : goal.returns
returns g c =
    let move = migration_of g.O.RouteSource.table g.N.RouteSource.table c.args.mixed.now in
    let ranks = c.args.ranks.now in
    let i = c.args.item in
    let net = c.args.mixed.now.net in
    let some = c.net.result.now in
    let number = c.requires.behind.number in
    let before : i - 1 ≡ change_number (first c.requires.behind.router) = omega (arith, number) in
    IfOk-weaker c.comes_line.result
    (λ (l : List ℕ). l ≡ item_word (names_of some) i ++ spaced (comes_words (names_of some) ranks i (i - 1) []))
    (λ (l : List ℕ). IsChangeLine move ranks i (l ++ 10 ∷ []))
    (λ l is. subst (IsChangeLine move ranks i) (sym (ap (λ (t : List ℕ). t ++ 10 ∷ []) (is
    ∙ ap (λ (n : Network). item_word (names_of n) i ++ spaced (comes_words (names_of n) ranks i (i - 1) [])) c.net.ensures
    ∙ ap (λ (k : ℕ). item_word (names_of net) i ++ spaced (comes_words (names_of net) ranks i k [])) before)))
    (right_behind c.requires.behind)) c.comes_line.ensures
