-- The shapes of words, and words that have none.
use Rattle.std.proofs.Common.{Bor, ◌≡◌, ℕ, ◌≤◌, List, [], ◌∷◌, length, codes, Option, Some, None, arith, sym, ap, ◌∙◌, subst}
use Rattle.std.specs.List.{All}
use Rattle.std.specs.Option.{IfNone, IfSome, MatchOption}
use Rattle.std.proofs.lemmas.List.{length-map}
use Rattle.net_addr.specs.AddressWords.{IsAddressWord}
use Rattle.net_addr.specs.Spans.{bytes_of, LiesIn}
use Rattle.net_addr.specs.declared.span.Span.{Span}
use Rattle.plan_theory.specs.declared.items.Items.{Items}
use Rattle.plan_theory.specs.Numbers.{IsNumberWord}
use Rattle.refutation_check.specs.TreeLines.{HasForm, branch_form, leaf_form, open_form, IsBranchLine, IsSomeEntry}
use Rattle.refutation_check.specs.declared.shape.Shape.{Shape}
use Rattle.refutation_check.specs.declared.shape.Shape.TheVariants.{Branch, Leaf, Open}
use Rattle.refutation_check.specs.steps.Shapes.{IsShape}
use Rattle.refutation_check.specs.steps.Spans.{span_texts}
use Rattle.refutation_check.proofs.SaidNodes.{first_word, later_words, branch_no_leaf, branch_no_open, leaf_no_open}

-- words with a shape have a form
pub shape_form : (items : Items) (text : List ℕ) (words : List (List ℕ)) (shape : Shape) → IsShape items text words shape → HasForm items words
shape_form items text words (Branch a entries) is = branch_form a (span_texts text entries.now) is.line is.tagged
shape_form items text words (Leaf names) is = leaf_form (span_texts text names.now) is.line
shape_form items text words Open is = open_form is

-- a second word that is no address makes no branch
pub no_address : (words rest es : List (List ℕ)) (first : List ℕ) (a : ℕ) → words ≡ first ∷ rest →
    ((x : ℕ) → ¬ IsAddressWord first x) → IsBranchLine (codes "branch" ∷ words) a es → ⊥
no_address words rest es first a is none line =
    let e : first ∷ rest ≡ line.address ∷ es = sym is ∙ later_words (codes "branch") (codes "branch") words (line.address ∷ es) line.words_are in
    none a (subst (λ (w : List ℕ). IsAddressWord w a) (sym (first_word first line.address rest es e)) line.stands)

-- What is told of the words behind `branch` and `leaf` tells the shape of all words

pub branch_answer : (items : Items) (text : List ℕ) (words rest : List (List ℕ)) (found : Option Shape) → words ≡ codes "branch" ∷ rest
    → IfNone found ((a : ℕ) (es : List (List ℕ)) → IsBranchLine (codes "branch" ∷ rest) a es → All IsSomeEntry es → ⊥) →
    IfSome found (λ shape. (its : Items) → IsShape its text (codes "branch" ∷ rest) shape) →
    MatchOption found (HasForm items words → ⊥) (IsShape items text words)
branch_answer items text words rest (Some shape) is none some = subst (λ (ws : List (List ℕ)). IsShape items text ws shape) (sym is) (some items)
branch_answer items text words rest None is none some = λ form. no (subst (HasForm items) is form)
  where
    no : HasForm items (codes "branch" ∷ rest) → ⊥
    no (branch_form a es line all) = none a es line all
    no (leaf_form names line) = branch_no_leaf rest names line.words_are
    no (open_form e) = branch_no_open rest [] e

pub leaf_answer : (items : Items) (text : List ℕ) (words : List (List ℕ)) (others : Bor (List Span)) (found : Option Shape) →
    words ≡ codes "leaf" ∷ span_texts text others.now → All (LiesIn text) others.now →
    IfNone found (2 ≤ length others.now → All (IsNumberWord items) (span_texts text others.now) → ⊥) →
    IfSome found (λ shape. (shape ≡ Leaf others) × (2 ≤ length others.now)) → IfSome found (λ _. All (IsNumberWord items) (span_texts text others.now))
    → MatchOption found (HasForm items words → ⊥) (IsShape items text words)
leaf_answer items text words others (Some shape) is inside none some filled = subst (IsShape items text words) (sym some.0) (record {
  line = record { words_are = is; some = omega (arith, some.1, length-map others.now (bytes_of text)); filled = filled };
  inside = inside;
})
leaf_answer items text words others None is inside none some filled = λ form. no (subst (HasForm items) is form)
  where
    no : HasForm items (codes "leaf" ∷ span_texts text others.now) → ⊥
    no (branch_form a es line all) = branch_no_leaf (line.address ∷ es) (span_texts text others.now) (sym line.words_are)
    no (leaf_form names line) =
        let same : span_texts text others.now ≡ names = later_words (codes "leaf") (codes "leaf") (span_texts text others.now) names line.words_are in
        none (omega (arith, length-map others.now (bytes_of text), line.some, ap (λ (l : List (List ℕ)). length l) same))
        (subst (λ (l : List (List ℕ)). All (IsNumberWord items) l) (sym same) line.filled)
    no (open_form e) = leaf_no_open (span_texts text others.now) [] e
