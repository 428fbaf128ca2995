use Rattle.std.proofs.Common.{◌≡◌, ◌∙◌, ℕ, ◌+◌, List, [], ◌∷◌, ◌++◌, ap, codes}
use Rattle.std.proofs.lemmas.Result.{IfOk-weaker}
use Rattle.std.specs.Prelude.{decimal}
use Rattle.net_model.specs.RouterNames.{names_of}
use Rattle.order_core.specs.Rankings.{rank_of}
use Rattle.printed_lines.specs.Words.{joined, router_word, spaced}
use Rattle.explained_texts.specs.ReasonTexts.{may_words}
use Rattle.explained_texts.proofs.ToldTexts.{last_on, word_on}
use Rattle.explained_texts.proofs.earlier.may_line.Goals as goal

pub returns : goal.returns
returns c =
    let name = router_word (names_of c.args.net.now) c.args.router in
    let wave = decimal (rank_of c.args.ranks.now c.args.router + 1) in
    let last = codes "earlier" ∷ [] in
    let words = codes "may" ∷ codes "be" ∷ last in
    IfOk-weaker c.word-4.result (λ (l : List ℕ). l ≡ c.in_ok-word-3.field-0 ++ 32 ∷ codes "earlier")
    (λ (l : List ℕ). l ≡ joined (name ∷ may_words c.args.ranks.now c.args.router))
    (λ l is. last_on c.in_ok-word-3.field-0 (codes "earlier") is
    ∙ word_on c.in_ok-word-2.field-0 (codes "be") last c.in_ok-word-3.ensures
    ∙ word_on c.in_ok-line-2.line (codes "may") (codes "be" ∷ last) c.in_ok-word-2.ensures
    ∙ word_on c.in_ok-word.field-0 wave words
    (c.in_ok-line-2.ensures ∙ ap (λ (n : ℕ). c.in_ok-word.field-0 ++ 32 ∷ decimal (n + 1)) c.from-wave.ensures)
    ∙ word_on c.in_ok-line.line (codes "wave") (wave ∷ words) c.in_ok-word.ensures
    ∙ ap (λ (s : List ℕ). s ++ spaced (codes "wave" ∷ wave ∷ words)) (c.in_ok-line.ensures ∙ c.name_of.ensures))
    c.word-4.ensures
