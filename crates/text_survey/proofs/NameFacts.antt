-- Names as a set.
use Rattle.std.proofs.Common.{◌≡◌, ◌<◌, ◌+◌, ℕ, Bool, true, false, ◌||◌, List, [], ◌∷◌, ◌++◌, bytes_eq, cond, drop, get_or, length, refl, sym, ap, ◌∙◌}
use Rattle.std.specs.List.{list_any}
use Rattle.std.specs.Prelude.{flat_map}
use Rattle.std.proofs.lemmas.List.{drop_more}
use Rattle.std.proofs.lemmas.List.Folds.{list_any-append}
use Rattle.std.proofs.lemmas.Slice.Eq.{bytes_eq-Decides}
use Rattle.ios_lines.specs.Words.{Word}
use Rattle.ios_sections.specs.TextLines.{TextLine, TextSection, opens_section, section_lines, sections_of}
use Rattle.text_survey.specs.ToldLines.{vrf_name, vrf_names}

-- a name that is one of some is there already
there : (q name : Word) (names : List Word) → bytes_eq q name ≡ true → list_any (bytes_eq name) names ≡ true → list_any (bytes_eq q) names ≡ true
there q name names same has = ap (λ (w : Word). list_any (bytes_eq w) names) ((bytes_eq-Decides q name).0 same) ∙ has

pub or_false : (b : Bool) → (b || false) ≡ b
or_false true = refl
or_false false = refl

or_true : (b c : Bool) → (c ≡ true → b ≡ true) → b ≡ (b || c)
or_true true c h = refl
or_true false true h = h refl
or_true false false h = refl

-- a name that is taken in where it isn't there
pub name_added : (has : Bool) (names : List Word) (name : Word) → list_any (bytes_eq name) names ≡ has → (q : Word) →
    list_any (bytes_eq q) (cond has names (names ++ name ∷ [])) ≡ (list_any (bytes_eq q) names || bytes_eq q name)
name_added true names name h q = or_true (list_any (bytes_eq q) names) (bytes_eq q name) (λ same. there q name names same h)
name_added false names name h q =
    list_any-append (bytes_eq q) names (name ∷ []) ∙ ap (λ (b : Bool). list_any (bytes_eq q) names || b) (or_false (bytes_eq q name))

or_assoc : (a b c : Bool) → ((a || b) || c) ≡ (a || (b || c))
or_assoc true b c = refl
or_assoc false b c = refl

module _ (lines : List TextLine) (i : ℕ) (x : TextLine) (within : i < length lines) (read : x ≡ get_or lines i x) where
  -- the sections from a line on
  pub sections_more : sections_of (drop i lines)
      ≡ cond (opens_section x) ((record { head = x; body = section_lines (drop (i + 1) lines) }) ∷ sections_of (drop (i + 1) lines))
      (sections_of (drop (i + 1) lines))
  sections_more = ap sections_of (drop_more lines i x within ∙ ap (λ (y : TextLine). y ∷ drop (i + 1) lines) (sym read))

  pub sections_at : opens_section x ≡ true → sections_of (drop i lines)
      ≡ (record { head = x; body = section_lines (drop (i + 1) lines) }) ∷ sections_of (drop (i + 1) lines)
  sections_at opens =
      sections_more
      ∙ ap (λ (b : Bool). cond b ((record { head = x; body = section_lines (drop (i + 1) lines) }) ∷ sections_of (drop (i + 1) lines))
      (sections_of (drop (i + 1) lines))) opens

  pub sections_on : opens_section x ≡ false → sections_of (drop i lines) ≡ sections_of (drop (i + 1) lines)
  sections_on other =
      sections_more
      ∙ ap (λ (b : Bool). cond b ((record { head = x; body = section_lines (drop (i + 1) lines) }) ∷ sections_of (drop (i + 1) lines))
      (sections_of (drop (i + 1) lines))) other

  -- the name of one more section
  pub vrf_at : (q : Word) (old new all : Bool) → opens_section x ≡ true →
      new ≡ (old || list_any (bytes_eq q) (vrf_name (record { head = x; body = section_lines (drop (i + 1) lines) }))) →
      (old || list_any (bytes_eq q) (vrf_names (drop i lines))) ≡ all → (new || list_any (bytes_eq q) (vrf_names (drop (i + 1) lines))) ≡ all
  vrf_at q old new all opens is before =
      let section : TextSection = record { head = x; body = section_lines (drop (i + 1) lines) } in
      let rest : List Word = vrf_names (drop (i + 1) lines) in
      ap (λ (b : Bool). b || list_any (bytes_eq q) rest) is
      ∙ or_assoc old (list_any (bytes_eq q) (vrf_name section)) (list_any (bytes_eq q) rest)
      ∙ ap (λ (b : Bool). old || b)
      (sym (list_any-append (bytes_eq q) (vrf_name section) rest)
      ∙ ap (λ (ss : List TextSection). list_any (bytes_eq q) (flat_map vrf_name ss)) (sym (sections_at opens)))
      ∙ before

  pub vrf_on : (q : Word) (old all : Bool) → opens_section x ≡ false → (old || list_any (bytes_eq q) (vrf_names (drop i lines))) ≡ all →
      (old || list_any (bytes_eq q) (vrf_names (drop (i + 1) lines))) ≡ all
  vrf_on q old all other before =
      ap (λ (ss : List TextSection). old || list_any (bytes_eq q) (flat_map vrf_name ss)) (sym (sections_on other)) ∙ before
