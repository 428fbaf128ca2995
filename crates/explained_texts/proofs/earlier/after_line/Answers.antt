use Rattle.std.proofs.Common.{◌≡◌, ◌∙◌, ℕ, ◌+◌, List, ◌∷◌, ◌++◌, ap, codes, map}
use Rattle.std.proofs.lemmas.Result.{IfOk-weaker}
use Rattle.std.specs.Prelude.{decimal}
use Rattle.net_model.specs.RouterNames.{names_of}
use Rattle.order_core.specs.Rankings.{rank_of}
use Rattle.printed_lines.specs.Words.{dotted, joined, router_word, spaced}
use Rattle.explained_texts.specs.ReasonTexts.{after_words}
use Rattle.explained_texts.specs.RingWords.{tagged_word}
use Rattle.explained_texts.proofs.ToldTexts.{word_on}
use Rattle.explained_texts.proofs.earlier.after_line.Goals as goal

pub returns : goal.returns
returns c =
    let names = names_of c.args.net.now in
    let told = c.args.told in
    let wave = decimal (rank_of c.args.ranks.now told.0 + 1) in
    let turns = map (tagged_word names) c.args.ring.now in
    let found = dotted told.2 ∷ turns in
    let behind = router_word names told.1 ∷ found in
    let words = codes "after" ∷ behind in
    IfOk-weaker c.with_turns.result (λ (l : List ℕ). l ≡ c.in_ok-line-3.line ++ spaced turns)
    (λ (l : List ℕ). l ≡ joined (router_word names told.0 ∷ after_words names c.args.ranks.now told.0 told.1 told.2 c.args.ring.now))
    (λ l is. is
    ∙ word_on c.in_ok-word-2.field-0 (dotted told.2) turns c.in_ok-line-3.ensures
    ∙ word_on c.in_ok-line-2.line (router_word names told.1) found
    (c.in_ok-word-2.ensures ∙ ap (λ (w : List ℕ). c.in_ok-line-2.line ++ 32 ∷ w) c.name_of-2.ensures)
    ∙ word_on c.in_ok-number.field-0 (codes "after") behind c.in_ok-line-2.ensures
    ∙ word_on c.in_ok-word.field-0 wave words
    (c.in_ok-number.ensures ∙ ap (λ (n : ℕ). c.in_ok-word.field-0 ++ 32 ∷ decimal (n + 1)) c.from-wave.ensures)
    ∙ word_on c.in_ok-line.line (codes "wave") (wave ∷ words) c.in_ok-word.ensures
    ∙ ap (λ (s : List ℕ). s ++ spaced (codes "wave" ∷ wave ∷ words)) (c.in_ok-line.ensures ∙ c.name_of.ensures))
    c.with_turns.ensures
