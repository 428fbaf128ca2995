-- A text up to its last `end` line, with the new lines of each router put in: it reads as the prepared configurations.
use Rattle.std.proofs.Common.{arith}
use Rattle.std.proofs.lemmas.Grind.{common_steps}
use Rattle.std.proofs.Common.{◌≡◌, ℕ, ◌+◌, Bool, true, false, not, ◌&&◌, ◌||◌, cond, List, [], ◌∷◌, ◌++◌, length, map, refl, sym}
use Rattle.std.proofs.Common.{ap, subst, ◌∙◌}
use Rattle.std.proofs.Common.{append_assoc, append-nil}
use Rattle.std.specs.Prelude.{All, Contains}
use Rattle.std.proofs.lemmas.Bool.{and_parts, or_parts, not-true}
use Rattle.net_addr.specs.JoinedLines.{is_of_whole_lines}
use Rattle.net_addr.proofs.JoinedFacts.{is_of_whole_lines-append}
use Rattle.net_model.specs.Configuration.{Configuration}
use Rattle.net_model.specs.Network.{Network}
use Rattle.net_model.specs.Refusals.{NamesAscend}
use Rattle.ios_sections.specs.TextLines.{TextLine, lines_in, is_end, parts_of}
use Rattle.ios_sections.specs.JoinedLines.{further_on, is_in_banner, begins_with_end, open_lines}
use Rattle.ios_sections.proofs.JoinedFacts.{lines_in-append}
use Rattle.ios_reader.specs.InsertedLines.{IsOutsideBanners}
use Rattle.ios_reader.specs.PutBlocks.{ends_here, put_block, put_blocks, ends_last}
use Rattle.ios_reader.specs.Texts.{ReadsText}
use Rattle.ios_reader.proofs.BlockPieces.{ends_among, put_to_last, put_none}
use Rattle.ios_reader.proofs.InsertedFacts.{some_at_end, closed_text}
use Rattle.ios_reader.proofs.PutBlocks.{EndsWithEnd, put_reads}
use Rattle.ios_reader.proofs.RawLines.{IsWholeBefore, AreRaw, joined_raw, HasOneLine, one_line, parts_stay, part_with, parts_at_end}
use Rattle.ios_reader.proofs.RawLines.{whole_next, whole_start}
use Rattle.design_file.specs.Settling.{FitsNetwork}
use Rattle.design_file.specs.declared.settled.SettledRouter.{SettledRouter}
use Rattle.isis_writer.specs.Prepared.{new_block}
use Rattle.isis_writer.specs.PreparedConfigurations.{prepared}
use Rattle.isis_writer.proofs.ListFacts.{none_left}
use Rattle.isis_writer.proofs.PreparedGrows.{prepared_grows}

-- ---- `end` lines that count ----

-- what stands behind a text up to the last `end` line, with the new lines before each `end` line
abbrev pub put_lines : Network → List SettledRouter → List ℕ → List (List ℕ) → List ℕ
put_lines net settled before raws = put_to_last (new_block net settled) before raws

-- lines without one end no part
pub none_ends : (raws : List (List ℕ)) (before : List ℕ) → IsWholeBefore before raws → AreRaw raws → ends_among before raws ≡ false →
    parts_of (lines_in (before ++ joined_raw raws)) ≡ parts_of (lines_in before)
none_ends [] before whole are none = ap (λ (t : List ℕ). parts_of (lines_in t)) (append-nil before)
none_ends (raw ∷ raws) before whole are none =
    let parts = or_parts (ends_here before raw) (ends_among (before ++ raw) raws) none in
    let single : HasOneLine raw = one_line raw are.0 in
    let off : (not (is_in_banner (lines_in before)) && is_end single.line) ≡ false =
    ap (λ (ls : List TextLine). not (is_in_banner (lines_in before)) && begins_with_end ls) (sym single.is) ∙ parts.0 in
    ap (λ (t : List ℕ). parts_of (lines_in t)) (sym (append_assoc before raw (joined_raw raws)))
    ∙ none_ends raws (before ++ raw) (whole_next before raw raws whole are.1.0) are.1.1 parts.1
    ∙ ap parts_of (lines_in-append before raw whole ∙ ap (λ (l : List TextLine). lines_in before ++ map (further_on (length (lines_in before))) l)
    single.is)
    ∙ parts_stay (lines_in before) (further_on (length (lines_in before)) single.line) off

-- ---- the text up to an `end` line ----

-- an `end` line behind a text ends a part
parts_here : (before raw : List ℕ) (line : TextLine) → IsOutsideBanners before → lines_in raw ≡ line ∷ [] → is_end line ≡ true →
    parts_of (lines_in (before ++ raw)) ≡ parts_of (lines_in before) ++ part_with (open_lines before) (length (lines_in before) + line.number) ∷ []
parts_here before raw line outside is e = parts_at_end before raw line [] outside is e

-- a text that is read, whose last `end` line this is, is read without what stands behind it
cut_read : (before raw : List ℕ) (raws : List (List ℕ)) (line : TextLine) (configurations : List Configuration) → IsOutsideBanners before →
    lines_in raw ≡ line ∷ [] → is_end line ≡ true →
    IsWholeBefore raw raws → AreRaw raws → ends_among (before ++ raw) raws ≡ false →
    ReadsText ((before ++ raw) ++ joined_raw raws) configurations → ReadsText (before ++ raw) configurations
cut_read before raw raws line configurations outside is e whole are none reads =
    grind (arith, common_steps, closed_text, is_of_whole_lines-append, joined_raw, none_ends, none_left, part_with, parts_here, raw, reads, some_at_end)

-- ---- the lines up to the last `end` line ----

-- they read as all of them do, and what stands behind them in a prepared text is what stands behind all of them
record IsCut (net : Network) (settled : List SettledRouter) (before : List ℕ) (raws : List (List ℕ)) (configurations : List Configuration) : Type 0 where
  lines : List (List ℕ)
  raw : AreRaw lines
  put : put_lines net settled before raws ≡ put_blocks (new_block net settled) before lines
  last : ends_last before lines ≡ true
  reads : ReadsText (before ++ joined_raw lines) configurations

whole_of : (before raw : List ℕ) (raws : List (List ℕ)) → IsWholeBefore raw raws → ends_among before raws ≡ true → is_of_whole_lines raw ≡ true
whole_of before raw raws whole some = grind (arith, common_steps)

whole_before : (raw : List ℕ) (raws : List (List ℕ)) → is_of_whole_lines raw ≡ true → IsWholeBefore raw raws
whole_before raw raws whole = grind (arith, common_steps)

last_more : (before raw : List ℕ) (raws : List (List ℕ)) → ends_last (before ++ raw) raws ≡ true → ends_last before (raw ∷ raws) ≡ true
last_more before raw raws last = grind (arith, common_steps, last)

or_false : (b : Bool) → (b || false) ≡ b
or_false b = grind (arith, common_steps)

module _ (net : Network) (settled : List SettledRouter) where
  cut_lines : (raws : List (List ℕ)) (before : List ℕ) (configurations : List Configuration) → IsWholeBefore before raws → AreRaw raws →
      ends_among before raws ≡ true → ReadsText (before ++ joined_raw raws) configurations → IsCut net settled before raws configurations
  cut_lines [] before configurations whole are some reads = absurd cc
  cut_lines (raw ∷ raws) before configurations whole are some reads =
      by_more (ends_among (before ++ raw) raws) refl
      (λ more. cut_lines raws (before ++ raw) configurations (whole_next before raw raws whole are.1.0) are.1.1 more further)
    where
      further : ReadsText ((before ++ raw) ++ joined_raw raws) configurations
      further = subst (λ t. ReadsText t configurations) (sym (append_assoc before raw (joined_raw raws))) reads

      here : List ℕ
      here = put_block (new_block net settled) before raw ++ raw

      some_put : put_lines net settled before (raw ∷ raws) ≡ here ++ put_lines net settled (before ++ raw) raws
      some_put = ap (λ (b : Bool). cond b (here ++ put_lines net settled (before ++ raw) raws) []) some

      single : HasOneLine raw
      single = one_line raw are.0

      by_more : (m : Bool) → ends_among (before ++ raw) raws ≡ m →
          (ends_among (before ++ raw) raws ≡ true → IsCut net settled (before ++ raw) raws configurations) →
          IsCut net settled before (raw ∷ raws) configurations
      by_more true more later =
          let rest : IsCut net settled (before ++ raw) raws configurations = later more in
          record {
            lines = raw ∷ rest.lines;
            raw = (are.0, (whole_before raw rest.lines (whole_of (before ++ raw) raw raws are.1.0 more), rest.raw));
            put = some_put ∙ ap (λ t. here ++ t) rest.put;
            last = last_more before raw rest.lines rest.last;
            reads = subst (λ t. ReadsText t configurations) (append_assoc before raw (joined_raw rest.lines)) rest.reads;
          }
      by_more false more later =
          let ends : ends_here before raw ≡ true =
          sym (or_false (ends_here before raw)) ∙ sym (ap (λ (b : Bool). ends_here before raw || b) more) ∙ some in
          let both = and_parts (not (is_in_banner (lines_in before))) (is_end single.line)
          (ap (λ (ls : List TextLine). not (is_in_banner (lines_in before)) && begins_with_end ls) (sym single.is) ∙ ends) in
          let outside : IsOutsideBanners before = record { whole = whole; outside = not-true (is_in_banner (lines_in before)) both.0 } in
          record {
            lines = raw ∷ [];
            raw = (are.0, (tt, tt));
            put = some_put ∙ ap (λ t. here ++ t) (put_none (new_block net settled) (before ++ raw) raws more);
            last = ends;
            reads =
                subst (λ t. ReadsText (before ++ t) configurations) (sym (append-nil raw))
                (cut_read before raw raws single.line configurations outside single.is both.1 are.1.0 are.1.1 more further);
          }

  -- all of a text
  pub record ReadsPrepared (text : List ℕ) (configurations : List Configuration) : Type 0 where
    pub reads : ReadsText text (map (prepared net settled) configurations)
    pub ends : EndsWithEnd text

  pub put_all : NamesAscend net → FitsNetwork net settled → (raws : List (List ℕ)) (configurations : List Configuration) → AreRaw raws →
      All (Contains net) configurations → ReadsText (joined_raw raws) configurations → ends_among [] raws ≡ true →
      ReadsPrepared (put_lines net settled [] raws) configurations
  put_all names fits raws configurations are all reads some =
      let its : IsCut net settled [] raws configurations = cut_lines raws [] configurations (whole_start raws) are some reads in
      let put = put_reads (new_block net settled) (prepared net settled) (Contains net) (prepared_grows net settled names fits)
      its.lines [] configurations (whole_start its.lines) its.raw all its.reads in
      record {
        reads =
            subst (λ t. ReadsText t (map (prepared net settled) configurations)) (sym its.put)
            (subst (λ l. ReadsText (put_blocks (new_block net settled) [] its.lines) (map (prepared net settled) l)) (sym put.was) put.reads);
        ends = subst EndsWithEnd (sym its.put) (put.closes its.last [] refl refl);
      }
