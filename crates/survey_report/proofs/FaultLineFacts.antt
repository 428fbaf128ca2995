-- The lines of faults, found by going on through the lines of a text.
use Rattle.std.proofs.Common.{◌≡◌, Bool, true, false, ℕ, ◌+◌, ◌<◌, List, [], ◌∷◌, ◌++◌, append_assoc, cond, length, map, nat_eq, nat_lt, take, get_or, AllPairs, refl, sym, ap, subst, ◌∙◌, arith}
use Rattle.std.proofs.lemmas.List.{get_or_default}
use Rattle.ios_lines.specs.declared.fault.Fault.{Fault}
use Rattle.printed_lines.specs.Texts.{text_of}
use Rattle.text_survey.specs.SeenWords.{told_words, words_at}
use Rattle.text_survey.specs.ToldLines.{ToldLine, from_line, shown_place, without_place}
use Rattle.text_survey.specs.declared.told_line.LinePlace.{LinePlace}
use Rattle.text_survey.specs.declared.told_line.LinePlace.TheVariants.{Top, Interface, Ospf, Isis, Elsewhere}
use Rattle.text_survey.proofs.ToldFacts.{from_again}
use Rattle.survey_report.specs.FaultTexts.{fault_line, words_of_fault, words_if_at}
use Rattle.survey_report.specs.steps.Going.{LeavesFrom}
use Rattle.survey_report.proofs.LineFacts.{line_more}

module _ (faults : List Fault) (told : List ToldLine) where
  pub leaves_all : LeavesFrom faults told 0 told
  leaves_all k d low high = refl

  module _ (i : ℕ) (x : Fault) (before : List ToldLine) (within : i < length faults) (read : x ≡ get_or faults i x)
      (leaves : LeavesFrom faults told i before) where
    -- from the line of a fault on the lines are those of the whole text
    pub leaves_here : from_line x.line before ≡ from_line x.line told
    leaves_here =
        subst (λ (f : Fault). from_line f.line before ≡ from_line f.line told) (sym read) (leaves i x (omega arith) within)

    -- and from there on those of the later faults
    pub leaves_further : AllPairs (λ (f g : Fault). f.line < g.line) faults → LeavesFrom faults told (i + 1) (from_line x.line before)
    leaves_further up k d low high =
        let later : (get_or faults i d).line < (get_or faults k d).line = up i k d (omega (arith, low)) high in
        let here : get_or faults i d ≡ x = get_or_default faults i d x within ∙ sym read in
        from_again before x.line (get_or faults k d).line (omega (arith, later, ap (λ (f : Fault). f.line) here))
        ∙ leaves k d (omega (arith, low)) high

-- one fault more
pub fault_more : (faults : List Fault) (told : List ToldLine) (name : List ℕ) (i : ℕ) (x : Fault) (start before after : List ℕ)
    (was now : List ToldLine) → AllPairs (λ (f g : Fault). f.line < g.line) faults → i < length faults → x ≡ get_or faults i x →
    before ≡ start ++ text_of (map (fault_line name told) (take i faults)) → LeavesFrom faults told i was → now ≡ from_line x.line was →
    after ≡ ((before ++ words_of_fault name x) ++ words_if_at x.line now) ++ 10 ∷ [] →
    (after ≡ start ++ text_of (map (fault_line name told) (take (i + 1) faults))) × LeavesFrom faults told (i + 1) now
fault_more faults told name i x start before after was now up within read inv leaves is grown =
    let here : now ≡ from_line x.line told = is ∙ leaves_here faults told i x was within read leaves in
    let words : List ℕ = words_of_fault name x in (
      line_more (fault_line name told) faults i x start before (words ++ words_if_at x.line now) after within read inv
          (ap (λ (l : List ToldLine). words ++ words_if_at x.line l) here)
          (grown ∙ ap (λ (t : List ℕ). t ++ 10 ∷ []) (append_assoc before words (words_if_at x.line now))),
      subst (LeavesFrom faults told (i + 1)) (sym is) (leaves_further faults told i x was within read leaves up),
    )

-- ---- lines without what they stand below ----

shown_told : (line : ToldLine) → told_words (without_place line) ≡ told_words line
shown_told line = by_place line.place line.number line.head line.own
  where
    by_place : (place : LinePlace) (number : ℕ) (head own : List ℕ) → words_at (shown_place place) head own ≡ words_at place head own
    by_place Top number head own = refl
    by_place Interface number head own = refl
    by_place Ospf number head own = refl
    by_place Isis number head own = refl
    by_place Elsewhere number head own = refl

-- they tell the same words
words_shown : (number : ℕ) (told : List ToldLine) → words_if_at number (from_line number (map without_place told)) ≡ words_if_at number (from_line number told)
words_shown number [] = refl
words_shown number (x ∷ xs) = by_first (nat_lt x.number number) (words_shown number xs)
  where
    by_first : (t : Bool) → words_if_at number (from_line number (map without_place xs)) ≡ words_if_at number (from_line number xs) →
        words_if_at number (cond t (from_line number (map without_place xs)) (without_place x ∷ map without_place xs))
        ≡ words_if_at number (cond t (from_line number xs) (x ∷ xs))
    by_first true rest = rest
    by_first false rest = ap (λ (w : List ℕ). cond (nat_eq x.number number) w []) (shown_told x)

-- and so the same lines of faults
pub faults_shown : (name : List ℕ) (told : List ToldLine) (faults : List Fault) →
    map (fault_line name (map without_place told)) faults ≡ map (fault_line name told) faults
faults_shown name told [] = refl
faults_shown name told (f ∷ fs) =
    ap (λ (w : List ℕ). (words_of_fault name f ++ w) ∷ map (fault_line name (map without_place told)) fs) (words_shown f.line told)
    ∙ ap (λ (ls : List (List ℕ)). fault_line name told f ∷ ls) (faults_shown name told fs)
