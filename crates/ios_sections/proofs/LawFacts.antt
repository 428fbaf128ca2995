-- The laws of how the lines of a text are read.
use Rattle.std.proofs.lemmas.Grind.{common_steps}
use Rattle.std.proofs.Common.{◌≡◌, ◌<◌, ◌≤◌, ◌⊎◌, inl, inr, Bool, true, false, not, cond, List, [], ◌∷◌, ◌++◌, Option, Some, append-nil}
use Rattle.std.proofs.Common.{append_assoc}
use Rattle.std.proofs.Common.{refl, sym, ap, subst, ◌∙◌, arith}
use Rattle.std.specs.Prelude.{fold, nat_lt, MatchOption, All, Contains}
use Rattle.std.proofs.lemmas.Bool.{cases_Bool}
use Rattle.std.proofs.lemmas.Bool.Decides.{nat_tests}
use Rattle.std.proofs.lemmas.Grind.{fold-append}
use Rattle.std.proofs.lemmas.List.Elements.{All-nil, All-cons, All-head, All-tail, All-push, Contains-append_right, Contains-get_or}
use Rattle.ios_sections.specs.TextLines.{TextLine, is_end, parts_after, rest_after, opens_banner, closes_banner, banner_after, outside_banner, outside_banners}
use Rattle.ios_sections.specs.JoinedLines.{is_in_banner}
use Rattle.ios_sections.specs.Processes.{first_mention}
use Rattle.ios_sections.specs.SectionLaws.{IsLeftOpen, OpenBannerLaw, OutsideBannersLaw, HasNoEnd, AreCut, EndLinesLaw, IsFirstMention, FirstMentionLaw}
use Rattle.ios_sections.specs.declared.process.Mention.{Mention}

-- ---- banners ----

abbrev Unclosed : List TextLine → Type 0
Unclosed lines = All (λ (line : TextLine). closes_banner line ≡ false) lines

-- some lines that open a banner and don't close it, where one was open before them or not
record Opened (inside : Bool) (lines : List TextLine) : Type 0 where
  before : List TextLine
  opening : TextLine
  after : List TextLine
  joined : lines ≡ before ++ opening ∷ after
  outside : fold banner_after inside before ≡ false
  opens : opens_banner opening ≡ true
  unclosed : Unclosed after

not_true : (b : Bool) → not b ≡ true → b ≡ false
not_true b e = grind (arith, common_steps)

opened_at : (inside : Bool) (line : TextLine) (lines : List TextLine) → banner_after inside line ≡ true → Unclosed lines →
    ((inside ≡ true) × Unclosed (line ∷ lines)) ⊎ Opened inside (line ∷ lines)
opened_at true line lines e all = inl (refl, All-cons (λ (l : TextLine). closes_banner l ≡ false) line lines (not_true (closes_banner line) e) all)
opened_at false line lines e all = inr (record { before = []; opening = line; after = lines; joined = refl; outside = refl; opens = e; unclosed = all })

opened_behind : (inside : Bool) (line : TextLine) (lines : List TextLine) → Opened (banner_after inside line) lines → Opened inside (line ∷ lines)
opened_behind inside line lines o = record {
  before = line ∷ o.before;
  opening = o.opening;
  after = o.after;
  joined = ap (λ (ls : List TextLine). line ∷ ls) o.joined;
  outside = o.outside;
  opens = o.opens;
  unclosed = o.unclosed;
}

opened : (inside : Bool) (lines : List TextLine) → fold banner_after inside lines ≡ true → ((inside ≡ true) × Unclosed lines) ⊎ Opened inside lines
opened inside [] e = inl (e, All-nil (λ (line : TextLine). closes_banner line ≡ false))
opened inside (line ∷ lines) e =
    elim (opened (banner_after inside line) lines e) [
      | inl h ↦ opened_at inside line lines h.0 h.1
      | inr o ↦ inr (opened_behind inside line lines o)
    ]

left_open : (lines : List TextLine) → ((false ≡ true) × Unclosed lines) ⊎ Opened false lines → IsLeftOpen lines
left_open lines (inl h) = absurd (let e : false ≡ true = h.0 in cc)
left_open lines (inr o) = record {
  before = o.before;
  opening = o.opening;
  after = o.after;
  joined = o.joined;
  outside = o.outside;
  opens = o.opens;
  unclosed = o.unclosed;
}

stays_open : (lines : List TextLine) → Unclosed lines → fold banner_after true lines ≡ true
stays_open [] all = refl
stays_open (line ∷ lines) all =
    ap (λ (b : Bool). fold banner_after (not b) lines) (All-head (λ (l : TextLine). closes_banner l ≡ false) line lines all)
    ∙ stays_open lines (All-tail (λ (l : TextLine). closes_banner l ≡ false) line lines all)

pub open_banner : OpenBannerLaw
open_banner lines = (
  λ e. left_open lines (opened false lines e),
  λ o.
      ap is_in_banner o.joined
      ∙ fold-append banner_after false o.before (o.opening ∷ o.after)
      ∙ ap (λ (b : Bool). fold banner_after (banner_after b o.opening) o.after) o.outside
      ∙ ap (λ (b : Bool). fold banner_after b o.after) o.opens
      ∙ stays_open o.after o.unclosed,
)

outside_push : (inside : Bool) (before : List TextLine) (line : TextLine) →
    outside_banners inside (before ++ line ∷ []) ≡ outside_banners inside before ++ outside_banner (fold banner_after inside before) line
outside_push inside [] line = append-nil (outside_banner inside line)
outside_push inside (l ∷ before) line =
    ap (λ (ls : List TextLine). outside_banner inside l ++ ls) (outside_push (banner_after inside l) before line)
    ∙ sym (append_assoc (outside_banner inside l) (outside_banners (banner_after inside l) before)
    (outside_banner (fold banner_after (banner_after inside l) before) line))

pub outside : OutsideBannersLaw
outside before line = outside_push false before line

-- ---- configurations ----

ends_cut : (before lines : List TextLine) → HasNoEnd before → AreCut (parts_after before lines) (rest_after before lines) (before ++ lines)
ends_cut before [] none = (append-nil before, none)
ends_cut before (line ∷ lines) none =
    cases (is_end line) refl (ends_cut [] lines (All-nil (λ (l : TextLine). is_end l ≡ false)))
    (λ e. ends_cut (before ++ line ∷ []) lines (All-push (λ (l : TextLine). is_end l ≡ false) before line none e))
  where
    cases : (b : Bool) → is_end line ≡ b → AreCut (parts_after [] lines) (rest_after [] lines) lines →
        (is_end line ≡ false → AreCut (parts_after (before ++ line ∷ []) lines) (rest_after (before ++ line ∷ []) lines) ((before ++ line ∷ []) ++ lines)) →
        AreCut (cond b (record { lines = before; ends = line.number } ∷ parts_after [] lines) (parts_after (before ++ line ∷ []) lines))
        (cond b (rest_after [] lines) (rest_after (before ++ line ∷ []) lines)) (before ++ line ∷ lines)
    cases true e here on = (line, lines, refl, e, refl, none, here)
    cases false e here on =
        subst (AreCut (parts_after (before ++ line ∷ []) lines) (rest_after (before ++ line ∷ []) lines)) (append_assoc before (line ∷ []) lines) (on e)

pub end_lines : EndLinesLaw
end_lines lines = ends_cut [] lines (All-nil (λ (line : TextLine). is_end line ≡ false))

-- ---- the process of the router ----

-- the first of a line and some others
record First (m : Mention) (ms : List Mention) : Type 0 where
  found : Mention
  is : fold first_mention (Some m) ms ≡ Some found
  among : (found ≡ m) ⊎ Contains ms found
  least : found.line ≤ m.line
  first : All (λ (other : Mention). found.line ≤ other.line) ms

contains_behind : (m n : Mention) (ms : List Mention) → (n ≡ m) ⊎ Contains ms n → Contains (m ∷ ms) n
contains_behind m n ms (inl e) = subst (Contains (m ∷ ms)) (sym e) (Contains-get_or (m ∷ ms) 0 m (omega arith))
contains_behind m n ms (inr c) = Contains-append_right (m ∷ []) ms n c

first_from : (m : Mention) (ms : List Mention) → First m ms
first_from m [] = record { found = m; is = refl; among = inl refl; least = omega arith; first = All-nil (λ (other : Mention). m.line ≤ other.line) }
first_from m (n ∷ ms) =
    elim (cases_Bool (nat_lt n.line m.line)) [
      | inl e ↦
          let f : First n ms = first_from n ms in
          let less : n.line < m.line = grind (arith, nat_tests) in
          record {
            found = f.found;
            is = ap (λ (b : Bool). fold first_mention (cond b (Some n) (Some m)) ms) e ∙ f.is;
            among = inr (contains_behind n f.found ms f.among);
            least = omega (arith, f.least, less);
            first = All-cons (λ (other : Mention). f.found.line ≤ other.line) n ms f.least f.first;
          }
      | inr e ↦
          let f : First m ms = first_from m ms in
          let least : m.line ≤ n.line = grind (arith, nat_tests) in
          record {
            found = f.found;
            is = ap (λ (b : Bool). fold first_mention (cond b (Some n) (Some m)) ms) e ∙ f.is;
            among = elim f.among [ inl h ↦ inl h | inr c ↦ inr (Contains-append_right (n ∷ []) ms f.found c) ];
            least = f.least;
            first = All-cons (λ (other : Mention). f.found.line ≤ other.line) n ms (omega (arith, f.least, least)) f.first;
          }
    ]

pub first_named : FirstMentionLaw
first_named [] = refl
first_named (m ∷ ms) =
    let f : First m ms = first_from m ms in
    subst (λ (o : Option Mention). MatchOption o ((m ∷ ms) ≡ []) (IsFirstMention (m ∷ ms))) (sym f.is) (record {
      among = contains_behind m f.found ms f.among;
      first = All-cons (λ (other : Mention). f.found.line ≤ other.line) m ms f.least f.first;
    })
