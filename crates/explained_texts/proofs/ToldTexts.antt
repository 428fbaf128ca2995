-- Texts of what is told of a list: one item more, one text, and the same for what tells the same.
use Rattle.std.proofs.Common.{◌≡◌, ◌∙◌, ℕ, ◌+◌, ◌<◌, ◌≤◌, inl, inr, List, [], ◌∷◌, ◌++◌, Contains, ap, refl, subst, sym}
use Rattle.std.proofs.Common.{append_assoc, append-nil, get_or, length, map, take}
use Rattle.std.proofs.lemmas.List.{map-append, take_all, take_more}
use Rattle.std.proofs.lemmas.List.Concat.{flat_map-append}
use Rattle.printed_lines.specs.Words.{spaced}
use Rattle.net_model.proofs.Members.{Contains-cases, Contains-first, Contains-none, Contains-rest}
use Rattle.explained_texts.specs.ToldItems.{AreTold, none_told, first_told, TellsAll, TellsMore}

pub told_more : {A : Type 0} (T : A → List ℕ → Type 0) (x : A) (more : List ℕ) → T x more → (xs : List A) (text : List ℕ) →
    AreTold T xs text → AreTold T (xs ++ x ∷ []) (text ++ more)
told_more T x more is _ _ none_told = subst (AreTold T (x ∷ [])) (append-nil more) (first_told x [] more [] is none_told)
told_more T x more is _ _ (first_told y rest told text one all) =
    subst (AreTold T (y ∷ rest ++ x ∷ [])) (sym (append_assoc told text more))
    (first_told y (rest ++ x ∷ []) told (text ++ more) one (told_more T x more is rest text all))

pub one_told : {A : Type 0} (T : A → List ℕ → Type 0) {xs : List A} {s t : List ℕ} →
    ((x : A) → Contains xs x → (s t : List ℕ) → T x s → T x t → s ≡ t) → AreTold T xs s → AreTold T xs t → s ≡ t
one_told T one none_told none_told = refl
one_told T one (first_told x rest told text is all) (first_told _ _ other_told other its others) =
    ap (λ (l : List ℕ). l ++ text) (one x (Contains-first x rest) told other_told is its)
    ∙ ap (λ (l : List ℕ). other_told ++ l) (one_told T (λ y inside. one y (Contains-rest x rest y inside)) all others)

pub told_over : {A : Type 0} (T S : A → List ℕ → Type 0) {xs : List A} {s : List ℕ} →
    ((x : A) (told : List ℕ) → Contains xs x → T x told → S x told) → AreTold T xs s → AreTold S xs s
told_over T S over none_told = none_told
told_over T S over (first_told x rest told text is all) =
    first_told x rest told text (over x told (Contains-first x rest) is)
    (told_over T S (λ y some inside. over y some (Contains-rest x rest y inside)) all)

-- of each item something is told
pub each_told : {A : Type 0} (T : A → List ℕ → Type 0) {xs : List A} {s : List ℕ} → AreTold T xs s → (x : A) → Contains xs x →
    (t : List ℕ) × T x t
each_told T none_told x inside = absurd (Contains-none x inside)
each_told T (first_told y rest told text is all) x inside = elim (Contains-cases y rest x inside) [
  | inl same ↦ (told, subst (λ z. T z told) same is)
  | inr later ↦ each_told T all x later
]

-- ---- texts that grow ----

pub tells_none : {A : Type 0} (T : A → List ℕ → Type 0) (text : List ℕ) → TellsAll T [] text text
tells_none T text = record { more = []; told = none_told; longer_is = sym (append-nil text) }

pub tells_next : {A : Type 0} (T : A → List ℕ → Type 0) (xs : List A) (k : ℕ) (d : A) (start text longer : List ℕ) → k < length xs →
    TellsAll T (take k xs) start text → TellsMore T (get_or xs k d) text longer → TellsAll T (take (k + 1) xs) start longer
tells_next {A} T xs k d start text longer within before next = record {
  more = before.more ++ next.more;
  told = subst (λ (l : List A). AreTold T l (before.more ++ next.more)) (sym (take_more xs k d within))
      (told_more T (get_or xs k d) next.more next.told (take k xs) before.more before.told);
  longer_is = next.longer_is ∙ ap (λ (l : List ℕ). l ++ next.more) before.longer_is ∙ append_assoc start before.more next.more;
}

-- a text that tells of so many items, and of one more
pub told_next : {A : Type 0} (T : A → List ℕ → Type 0) (xs : List A) (k : ℕ) (d : A) (text longer : List ℕ) → k < length xs →
    AreTold T (take k xs) text → TellsMore T (get_or xs k d) text longer → AreTold T (take (k + 1) xs) longer
told_next {A} T xs k d text longer within before next =
    let x = get_or xs k d in
    subst (λ (l : List A). AreTold T l longer) (sym (take_more xs k d within))
    (subst (AreTold T (take k xs ++ x ∷ [])) (sym next.longer_is) (told_more T x next.more next.told (take k xs) text before))

pub tells_whole : {A : Type 0} (T : A → List ℕ → Type 0) (xs : List A) (k : ℕ) (start text : List ℕ) → length xs ≤ k →
    TellsAll T (take k xs) start text → TellsAll T xs start text
tells_whole {A} T xs k start text whole tells = subst (λ (l : List A). TellsAll T l start text) (take_all k xs whole) tells

-- ---- a line with words more ----

-- a word, with the words behind it
pub word_on : (line : List ℕ) {longer : List ℕ} (word : List ℕ) (rest : List (List ℕ)) → longer ≡ line ++ 32 ∷ word →
    longer ++ spaced rest ≡ line ++ spaced (word ∷ rest)
word_on line word rest is = ap (λ (l : List ℕ). l ++ spaced rest) is ∙ append_assoc line (32 ∷ word) (spaced rest)

-- the last word
pub last_on : (line : List ℕ) {longer : List ℕ} (word : List ℕ) → longer ≡ line ++ 32 ∷ word → longer ≡ line ++ spaced (word ∷ [])
last_on line word is = is ∙ ap (λ (l : List ℕ). line ++ l) (sym (append-nil (32 ∷ word)))

-- ---- words of a list, each behind a blank ----

pub words_more : {A : Type 0} (word : A → List ℕ) (xs : List A) (i : ℕ) (d : A) (start line : List ℕ) → i < length xs →
    line ≡ start ++ spaced (map word (take i xs)) →
    line ++ 32 ∷ word (get_or xs i d) ≡ start ++ spaced (map word (take (i + 1) xs))
words_more {A} word xs i d start line within so_far =
    let front = take i xs in
    let x = get_or xs i d in
    let more : spaced (map word (take (i + 1) xs)) ≡ spaced (map word front) ++ 32 ∷ word x =
    ap (λ (l : List A). spaced (map word l)) (take_more xs i d within)
    ∙ ap spaced (map-append word front (x ∷ []))
    ∙ flat_map-append (λ (w : List ℕ). 32 ∷ w) (map word front) (word x ∷ [])
    ∙ ap (λ (l : List ℕ). spaced (map word front) ++ 32 ∷ l) (append-nil (word x)) in
    ap (λ (l : List ℕ). l ++ 32 ∷ word x) so_far
    ∙ append_assoc start (spaced (map word front)) (32 ∷ word x)
    ∙ ap (λ (l : List ℕ). start ++ l) (sym more)
