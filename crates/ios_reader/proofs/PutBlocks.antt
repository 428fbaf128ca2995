-- A text with blocks put before its `end` lines: it reads as its configurations, each with what its block makes of it.
use Rattle.std.proofs.Common.{arith}
use Rattle.std.proofs.lemmas.Grind.{common_steps}
use Rattle.std.proofs.Common.{◌≡◌, ℕ, ◌+◌, ◌-◌, Bool, true, false, not, ◌&&◌, cond, List, [], ◌∷◌, ◌++◌, length, map, refl, sym, ap}
use Rattle.std.proofs.Common.{subst, ◌∙◌}
use Rattle.std.proofs.Common.{append_assoc, append-nil}
use Rattle.std.specs.Prelude.{All, fold}
use Rattle.std.proofs.lemmas.Bool.{and_parts, not-true}
use Rattle.std.proofs.lemmas.List.Elements.{All-head, All-tail}
use Rattle.net_addr.specs.JoinedLines.{is_of_whole_lines}
use Rattle.net_addr.proofs.JoinedFacts.{is_of_whole_lines-append}
use Rattle.net_model.specs.Configuration.{Configuration}
use Rattle.ios_sections.specs.TextLines.{TextLine, Part, lines_in, banner_after, is_end}
use Rattle.ios_sections.specs.Sections.{first_number, sections_in}
use Rattle.ios_sections.specs.JoinedLines.{further_on, is_in_banner, begins_with_end, open_lines, open_sections}
use Rattle.ios_sections.specs.declared.section.Section.{Section}
use Rattle.ios_sections.proofs.JoinedFacts.{lines_in-append, banner-none}
use Rattle.ios_sections.proofs.FurtherFacts.{banner-fold}
use Rattle.ios_reader.specs.Faults.{section_faults}
use Rattle.ios_reader.specs.Configurations.{configurations_in, configuration_of}
use Rattle.ios_reader.specs.InsertedLines.{IsOutsideBanners, IsLineBlock, IsReadGrown}
use Rattle.ios_reader.specs.PutBlocks.{ends_here, put_blocks, ends_last}
use Rattle.ios_reader.specs.Texts.{ReadsText}
use Rattle.ios_reader.proofs.InsertedFacts.{inserted_lines}
use Rattle.ios_reader.proofs.RawLines.{IsRaw, IsWholeBefore, AreRaw, joined_raw, HasOneLine, one_line, part_with, whole_next}
use Rattle.ios_reader.proofs.RawLines.{configurations_stay, configurations_end, open_fine, same_back, same_tail}
use Rattle.ios_reader.proofs.GrownSections.{Grows}

-- ---- banners ----

-- whether a banner is open behind a text and another one
banner_by : (before raw : List ℕ) → is_of_whole_lines before ≡ true →
    is_in_banner (lines_in (before ++ raw)) ≡ fold banner_after (is_in_banner (lines_in before)) (lines_in raw)
banner_by before raw whole = grind (arith, common_steps, banner-fold, lines_in-append, raw)

-- it is so behind another text too, if it was before
banner_same : (before done raw : List ℕ) → is_of_whole_lines before ≡ true → is_of_whole_lines done ≡ true →
    is_in_banner (lines_in done) ≡ is_in_banner (lines_in before) →
    is_in_banner (lines_in (done ++ raw)) ≡ is_in_banner (lines_in (before ++ raw))
banner_same before done raw whole whole_done same = grind (arith, common_steps, banner_by, raw)

-- ---- how a text ends ----

-- a text ends with an `end` line that counts
pub record EndsWithEnd (text : List ℕ) : Type 0 where
  pub front : List ℕ
  pub last : List ℕ
  pub is : text ≡ front ++ last
  pub outside : IsOutsideBanners front
  pub raw : IsRaw last
  pub line : TextLine
  pub one : lines_in last ≡ line ∷ []
  pub ends : is_end line ≡ true

-- where the last one of the lines behind a text is an `end` line, what stands behind the text instead of them ends so, also
-- behind another text
abbrev Closes : List ℕ → List ℕ → List (List ℕ) → Type 0
Closes before rest raws =
    ends_last before raws ≡ true → (done : List ℕ) → is_of_whole_lines done ≡ true →
    is_in_banner (lines_in done) ≡ is_in_banner (lines_in before) → EndsWithEnd (done ++ rest)

-- a line that is no `end` line outside banners
stays_closed : (before raw tail : List ℕ) (raws : List (List ℕ)) → is_of_whole_lines before ≡ true → IsWholeBefore raw raws →
    ends_here before raw ≡ false → Closes (before ++ raw) tail raws → Closes before (raw ++ tail) (raw ∷ raws)
stays_closed before raw tail [] whole next off rest last done whole_done same = absurd (let no : false ≡ true = sym off ∙ last in cc)
stays_closed before raw tail (_ ∷ raws) whole next off rest last done whole_done same =
    subst EndsWithEnd (append_assoc done raw tail)
    (rest last (done ++ raw) (is_of_whole_lines-append done raw whole_done next) (banner_same before done raw whole whole_done same))

-- a text with its block is outside banners where it was
still_outside : (before block done : List ℕ) → IsOutsideBanners before → IsLineBlock block → is_of_whole_lines done ≡ true →
    is_in_banner (lines_in done) ≡ is_in_banner (lines_in before) → IsOutsideBanners (done ++ block)
still_outside before block done outside fine whole same =
    grind (arith, common_steps, banner-none, banner_by, is_of_whole_lines-append, outside)

-- an `end` line outside banners, with a block before it
ends_closed : (before block raw tail : List ℕ) (raws : List (List ℕ)) (line : TextLine) → IsOutsideBanners before → IsLineBlock block →
    IsRaw raw → IsWholeBefore raw raws → lines_in raw ≡ line ∷ [] → is_end line ≡ true → (raws ≡ [] → tail ≡ []) →
    Closes (before ++ raw) tail raws → Closes before (block ++ raw ++ tail) (raw ∷ raws)
ends_closed before block raw tail [] line outside fine single next is e none rest last done whole same = record {
  front = done ++ block;
  last = raw;
  is =
      ap (λ t. done ++ (block ++ raw ++ t)) (none refl)
      ∙ ap (λ t. done ++ t) (append-nil (block ++ raw)) ∙ sym (append_assoc done block raw);
  outside = still_outside before block done outside fine whole same;
  raw = single;
  line = line;
  one = is;
  ends = e;
}
ends_closed before block raw tail (_ ∷ raws) line outside fine single next is e none rest last done whole same =
    let wider : IsOutsideBanners (done ++ block) = still_outside before block done outside fine whole same in
    subst EndsWithEnd
    (append_assoc (done ++ block) raw tail ∙ append_assoc done block (raw ++ tail) ∙ ap (λ t. done ++ t) (sym (append_assoc block raw tail)))
    (rest last ((done ++ block) ++ raw) (is_of_whole_lines-append (done ++ block) raw wider.whole next)
    (banner_same before (done ++ block) raw outside.whole wider.whole (wider.outside ∙ sym outside.outside)))

-- ---- the first line ----

-- a text with others behind it starts with its own line
record Starts (text : List ℕ) (line : TextLine) : Type 0 where
  behind : List TextLine
  is : lines_in text ≡ line ∷ behind

starts_with : (raw tail : List ℕ) (raws : List (List ℕ)) (line : TextLine) → IsWholeBefore raw raws → (raws ≡ [] → tail ≡ []) →
    lines_in raw ≡ line ∷ [] → Starts (raw ++ tail) line
starts_with raw tail [] line whole none is =
    record { behind = []; is = ap lines_in (ap (λ t. raw ++ t) (none refl) ∙ append-nil raw) ∙ is }
starts_with raw tail (_ ∷ raws) line whole none is = record {
  behind = map (further_on (length (lines_in raw))) (lines_in tail);
  is = lines_in-append raw tail whole ∙ ap (λ l. l ++ map (further_on (length (lines_in raw))) (lines_in tail)) is;
}

-- what holds of each element holds of one in the middle
all_at : {A : Type 0} (P : A → Type 0) (front : List A) (x : A) (back : List A) → All P (front ++ x ∷ back) → P x
all_at P [] x back all = All-head P x back all
all_at P (y ∷ front) x back all = all_at P front x back (All-tail P y (front ++ x ∷ back) all)

-- ---- the text with its blocks ----

-- `block` is what is put before an `end` line, by the sections of its configuration, and `moved` what it makes of this one, where
-- it is known
module _ (block : List Section → List ℕ) (moved : Configuration → Configuration) (IsKnown : Configuration → Type 0)
    (grows : (part : Part) (ends : ℕ) → section_faults (sections_in part) ends ≡ [] → IsKnown (configuration_of (sections_in part)) →
    Grows (sections_in part) ends (block (sections_in part)) (moved (configuration_of (sections_in part)))) where
  -- how a text reads, whose configurations behind a place are moved, and how it ends
  pub record ReadsPut (before rest : List ℕ) (raws : List (List ℕ)) (configurations : List Configuration) : Type 0 where
    pub later : List Configuration
    pub was : configurations ≡ configurations_in (lines_in before) ++ later
    pub reads : ReadsText (before ++ rest) (configurations_in (lines_in before) ++ map moved later)
    pub closes : Closes before rest raws

  -- a line that is no `end` line outside banners
  stays_put : (before raw tail : List ℕ) (raws : List (List ℕ)) (line : TextLine) (configurations : List Configuration) →
      is_of_whole_lines before ≡ true → IsWholeBefore raw raws → lines_in raw ≡ line ∷ [] → ends_here before raw ≡ false →
      ReadsPut (before ++ raw) tail raws configurations → ReadsPut before (raw ++ tail) (raw ∷ raws) configurations
  stays_put before raw tail raws line configurations whole next is off rest =
      let same : configurations_in (lines_in (before ++ raw)) ≡ configurations_in (lines_in before) =
      configurations_stay before raw line whole is
      (ap (λ (ls : List TextLine). not (is_in_banner (lines_in before)) && begins_with_end ls) (sym is) ∙ off) in
      record {
        later = rest.later;
        was = rest.was ∙ ap (λ l. l ++ rest.later) same;
        reads =
            subst (λ l. ReadsText (before ++ (raw ++ tail)) (l ++ map moved rest.later)) same
            (subst (λ t. ReadsText t (configurations_in (lines_in (before ++ raw)) ++ map moved rest.later)) (append_assoc before raw tail) rest.reads);
        closes = stays_closed before raw tail raws whole next off rest.closes;
      }

  -- an `end` line outside banners
  ends_put : (before raw tail : List ℕ) (raws : List (List ℕ)) (line : TextLine) (configurations : List Configuration) → IsOutsideBanners before →
      IsRaw raw → IsWholeBefore raw raws → lines_in raw ≡ line ∷ [] → is_end line ≡ true → (raws ≡ [] → tail ≡ []) →
      All IsKnown configurations →
      ReadsPut (before ++ raw) tail raws configurations → ReadsPut before (block (open_sections before) ++ raw ++ tail) (raw ∷ raws) configurations
  ends_put before raw tail raws line configurations outside single next is e none all rest =
      let c : Configuration = configuration_of (open_sections before) in
      let its : List ℕ = block (open_sections before) in
      let front : List Configuration = configurations_in (lines_in before) in
      let back : List Configuration = map moved rest.later in
      let count : ℕ = length (lines_in before) in
      let own : ℕ = count - first_number (open_lines before) in
      let shown : List Configuration = configurations_in (lines_in (before ++ raw)) ++ back in
      let starts : Starts (raw ++ tail) line = starts_with raw tail raws line next none is in
      let ended : configurations_in (lines_in (before ++ raw)) ≡ front ++ c ∷ [] = configurations_end before raw line outside is e in
      let was : configurations ≡ front ++ c ∷ rest.later = rest.was ∙ ap (λ l. l ++ rest.later) ended ∙ append_assoc front (c ∷ []) rest.later in
      let known : IsKnown c = all_at IsKnown front c rest.later (subst (λ l. All IsKnown l) was all) in
      let reads : ReadsText (before ++ (raw ++ tail)) shown = subst (λ t. ReadsText t shown) (append_assoc before raw tail) rest.reads in
      let fine : section_faults (open_sections before) (count + line.number) ≡ [] =
      open_fine before (raw ++ tail) line starts.behind shown outside starts.is e reads in
      let grown_by : Grows (open_sections before) (count + line.number) its (moved c) =
      grows (part_with (open_lines before) 0) (count + line.number) fine known in
      let grown : IsReadGrown before (before ++ its ++ (raw ++ tail)) shown (moved c) =
      inserted_lines before its (raw ++ tail) shown (moved c) outside grown_by.fits (ap begins_with_end starts.is ∙ e) reads
      (record { ends = count + line.number; faultless = grown_by.faultless own; made = grown_by.made own }) in
      let ours : front ++ c ∷ grown.last ≡ front ++ c ∷ back = sym grown.was ∙ ap (λ l. l ++ back) ended ∙ append_assoc front (c ∷ []) back in
      let last : grown.last ≡ back = same_tail c grown.last back (same_back front (c ∷ grown.last) (c ∷ back) ours) in
      record {
        later = c ∷ rest.later;
        was = was;
        reads =
            subst (λ l. ReadsText (before ++ (its ++ raw ++ tail)) (front ++ moved c ∷ l)) last
            (subst (λ t. ReadsText t (front ++ moved c ∷ grown.last))
            (append_assoc before its (raw ++ tail) ∙ ap (λ t. before ++ t) (sym (append_assoc its raw tail))) grown.reads);
        closes = ends_closed before its raw tail raws line outside grown_by.fits single next is e none rest.closes;
      }

  none_put : (before : List ℕ) (raws : List (List ℕ)) → raws ≡ [] → put_blocks block before raws ≡ []
  none_put before raws none = grind (arith, common_steps)

  -- some lines behind a text, with the blocks put in
  pub put_reads : (raws : List (List ℕ)) (before : List ℕ) (configurations : List Configuration) → IsWholeBefore before raws → AreRaw raws →
      All IsKnown configurations → ReadsText (before ++ joined_raw raws) configurations →
      ReadsPut before (put_blocks block before raws) raws configurations
  put_reads [] before configurations whole are all reads =
      let was : configurations ≡ configurations_in (lines_in before) ++ [] =
      reads.made ∙ ap (λ t. configurations_in (lines_in t)) (append-nil before) ∙ sym (append-nil (configurations_in (lines_in before))) in
      record { later = []; was = was; reads = subst (λ l. ReadsText (before ++ []) l) was reads; closes = λ last. absurd cc }
  put_reads (raw ∷ raws) before configurations whole are all reads =
      by_end (ends_here before raw) refl
      (put_reads raws (before ++ raw) configurations (whole_next before raw raws whole are.1.0) are.1.1 all
      (subst (λ t. ReadsText t configurations) (sym (append_assoc before raw (joined_raw raws))) reads))
    where
      single : HasOneLine raw
      single = one_line raw are.0

      by_end : (h : Bool) → ends_here before raw ≡ h → ReadsPut (before ++ raw) (put_blocks block (before ++ raw) raws) raws configurations →
          ReadsPut before (cond h (block (open_sections before)) [] ++ raw ++ put_blocks block (before ++ raw) raws) (raw ∷ raws) configurations
      by_end false off rest =
          stays_put before raw (put_blocks block (before ++ raw) raws) raws single.line configurations whole are.1.0 single.is off rest
      by_end true ends rest =
          let both = and_parts (not (is_in_banner (lines_in before))) (is_end single.line)
          (ap (λ (ls : List TextLine). not (is_in_banner (lines_in before)) && begins_with_end ls) (sym single.is) ∙ ends) in
          ends_put before raw (put_blocks block (before ++ raw) raws) raws single.line configurations
          (record { whole = whole; outside = not-true (is_in_banner (lines_in before)) both.0 })
          are.0 are.1.0 single.is both.1 (none_put (before ++ raw) raws) all rest
