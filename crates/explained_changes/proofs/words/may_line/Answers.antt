use Rattle.std.proofs.Common.{◌≡◌, ◌∙◌, ℕ, ◌+◌, List, [], ◌∷◌, ◌++◌, ap, append_assoc, codes, sym}
use Rattle.std.proofs.lemmas.List.Concat.{flat_map-append}
use Rattle.std.proofs.lemmas.Result.{IfOk-weaker}
use Rattle.std.specs.Prelude.{decimal}
use Rattle.net_model.specs.RouterNames.{names_of}
use Rattle.order_core.specs.Rankings.{rank_of}
use Rattle.printed_lines.specs.Words.{spaced}
use Rattle.change_orders.specs.TwoTexts.{item_word}
use Rattle.explained_texts.specs.ReasonTexts.{may_words}
use Rattle.explained_texts.proofs.ToldTexts.{last_on, word_on}
use Rattle.explained_changes.proofs.words.may_line.Goals as goal

-- words behind others
words_behind : (start line : List ℕ) (words rest : List (List ℕ)) → line ≡ start ++ spaced words →
    line ++ spaced rest ≡ start ++ spaced (words ++ rest)
words_behind start line words rest is =
    ap (λ (l : List ℕ). l ++ spaced rest) is ∙ append_assoc start (spaced words) (spaced rest)
    ∙ ap (λ (l : List ℕ). start ++ l) (sym (flat_map-append (λ (w : List ℕ). 32 ∷ w) words rest))

pub returns : goal.returns
returns c =
    let word = item_word (names_of c.args.net.now) c.args.item in
    let begins = codes "wave" ∷ decimal (rank_of c.args.ranks.now c.args.item + 1) ∷ [] in
    let last = codes "earlier" ∷ [] in
    IfOk-weaker c.word-3.result (λ (l : List ℕ). l ≡ c.in_ok-word-2.field-0 ++ 32 ∷ codes "earlier")
    (λ (l : List ℕ). l ≡ word ++ spaced (may_words c.args.ranks.now c.args.item))
    (λ l is. last_on c.in_ok-word-2.field-0 (codes "earlier") is
    ∙ word_on c.in_ok-word.field-0 (codes "be") last c.in_ok-word-2.ensures
    ∙ word_on c.in_ok-line.line (codes "may") (codes "be" ∷ last) c.in_ok-word.ensures
    ∙ words_behind word c.in_ok-line.line begins (codes "may" ∷ codes "be" ∷ last) c.in_ok-line.ensures)
    c.word-3.ensures
