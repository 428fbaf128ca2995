-- A prepared text reads as the prepared configurations, and with its last line feed another text may stand behind it.
use Rattle.std.proofs.lemmas.Grind.{common_steps}
use Rattle.std.proofs.Common.{◌≡◌, ℕ, ◌+◌, ◌<◌, ◌≤◌, Bool, true, false, not, cond, List, [], ◌∷◌, ◌++◌, length, map, drop}
use Rattle.std.proofs.Common.{refl, sym, ap}
use Rattle.std.proofs.Common.{subst, ◌∙◌, append_assoc, append-nil, length-append, arith}
use Rattle.std.specs.Prelude.{All, Contains}
use Rattle.std.specs.List.{position_or_len}
use Rattle.std.specs.Str.Lines.{strip_carriage_return}
use Rattle.std.proofs.lemmas.List.{take_all, take_at, drop_all, map-append}
use Rattle.std.proofs.lemmas.List.Elements.{All-nil, All-cons, All-head, All-tail}
use Rattle.net_addr.specs.declared.line.Line.{Line}
use Rattle.net_addr.specs.Blanks.{words_in}
use Rattle.net_addr.specs.Spans.{bytes_of}
use Rattle.net_addr.specs.Lines.{is_line_feed, line_of, lines_of, line_pieces, text_lines}
use Rattle.net_addr.specs.JoinedLines.{is_of_whole_lines}
use Rattle.net_addr.proofs.PieceFacts.{line_pieces-first}
use Rattle.net_addr.proofs.PlacedPieces.{text_lines-texts}
use Rattle.net_model.specs.Configuration.{Configuration}
use Rattle.net_model.specs.Network.{Network}
use Rattle.printed_lines.proofs.TextSteps.{ends_whole}
use Rattle.ios_sections.specs.TextLines.{TextLine, Part, text_line, lines_in, parts_of}
use Rattle.ios_sections.specs.Sections.{sections_in}
use Rattle.ios_sections.specs.JoinedLines.{further_on, begins_with_end}
use Rattle.ios_sections.proofs.JoinedFacts.{lines_in-append}
use Rattle.ios_reader.specs.Configurations.{AreConfigurations, configuration_of}
use Rattle.ios_reader.specs.InsertedLines.{IsClosed}
use Rattle.ios_reader.specs.Texts.{ReadsText}
use Rattle.ios_reader.proofs.InsertedFacts.{closed_text, joined_texts, some_configuration}
use Rattle.ios_reader.specs.Places.{raw_lines}
use Rattle.ios_reader.proofs.RawLines.{IsRaw, joined_raw, are_raw, raw_joined, whole_start}
use Rattle.design_file.specs.declared.settled.SettledRouter.{SettledRouter}
use Rattle.isis_writer.specs.Prepared.{new_block, prepared_text}
use Rattle.isis_writer.specs.PreparedConfigurations.{prepared, IsToPrepare, PreparedTextLaw, with_last_feed, IsReadBefore, PreparedBeforeLaw, AreToPrepare}
use Rattle.isis_writer.specs.PreparedConfigurations.{prepared_texts, PreparedTextsLaw}
use Rattle.ios_reader.proofs.PutBlocks.{EndsWithEnd}
use Rattle.ios_reader.proofs.BlockPieces.{ends_among, cut_text}
use Rattle.isis_writer.proofs.PreparedLines.{put_lines, none_ends, ReadsPrepared, put_all}
use Rattle.isis_writer.proofs.PreparedPlaces.{prepared_is}

-- ---- the text ----

made_none : (ps : List Part) (configurations : List Configuration) →
    configurations ≡ map (λ (part : Part). configuration_of (sections_in part)) ps → ps ≡ [] → 0 < length configurations → true ≡ false
made_none ps configurations made none some = grind (arith, common_steps)

module _ (text : List ℕ) (net : Network) (settled : List SettledRouter) (configurations : List Configuration)
    (given : IsToPrepare text net settled configurations) where
  abbrev raws : List (List ℕ)
  raws = raw_lines text

  abbrev whole : List ℕ
  whole = prepared_text text net settled

  -- a text that is read has an `end` line
  some_end : ends_among [] raws ≡ true
  some_end = by_test (ends_among [] raws) refl
    where
      by_test : (b : Bool) → ends_among [] raws ≡ b → b ≡ true
      by_test true e = refl
      by_test false e =
          let none : parts_of (lines_in (joined_raw raws)) ≡ [] = none_ends raws [] (whole_start raws) (are_raw text) e in
          let no_part : parts_of (lines_in text) ≡ [] = sym (ap (λ (t : List ℕ). parts_of (lines_in t)) (raw_joined text)) ∙ none in
          sym (made_none (parts_of (lines_in text)) configurations given.reads.made no_part (some_configuration text configurations given.reads))

  put_is : prepared_text text net settled ≡ put_lines net settled [] raws
  put_is = prepared_is text net settled ∙ sym ((cut_text (new_block net settled) text).to_last some_end)

  put : ReadsPrepared net settled (put_lines net settled [] raws) configurations
  put =
      put_all net settled given.names given.fits raws configurations (are_raw text) given.among
      (subst (λ t. ReadsText t configurations) (sym (raw_joined text)) given.reads) some_end

  reads_prepared : ReadsText (prepared_text text net settled) (map (prepared net settled) configurations)
  reads_prepared = subst (λ t. ReadsText t (map (prepared net settled) configurations)) (sym put_is) put.reads

  ends_prepared : EndsWithEnd (prepared_text text net settled)
  ends_prepared = subst EndsWithEnd (sym put_is) put.ends

pub prepared_text_reads : PreparedTextLaw
prepared_text_reads text net settled configurations given = reads_prepared text net settled configurations given

-- ---- its last line feed ----

whole_back : (xs ys : List ℕ) → 0 < length ys → is_of_whole_lines (xs ++ ys) ≡ is_of_whole_lines ys
whole_back [] ys some = refl
whole_back (x ∷ []) [] some = absurd (omega (arith, some))
whole_back (x ∷ []) (y ∷ ys) some = refl
whole_back (x ∷ next ∷ xs) ys some = whole_back (next ∷ xs) ys some

-- bytes that are one line without a line feed
not_ended : (xs : List ℕ) → 0 < length xs → is_of_whole_lines xs ≡ false → length xs ≤ position_or_len is_line_feed xs + 1 →
    position_or_len is_line_feed xs ≡ length xs
not_ended [] some off one = absurd (omega (arith, some))
not_ended (b ∷ []) some off one = ap (λ (t : Bool). cond (not t) (1 + 0) 0) off
not_ended (b ∷ next ∷ more) some off one = by_feed (is_line_feed b) refl one (λ h. not_ended (next ∷ more) (omega arith) off h)
  where
    by_feed : (t : Bool) → is_line_feed b ≡ t → length (b ∷ next ∷ more) ≤ cond (not t) (1 + position_or_len is_line_feed (next ∷ more)) 0
        + 1 →
        (length (next ∷ more) ≤ position_or_len is_line_feed (next ∷ more) + 1 →
        position_or_len is_line_feed (next ∷ more) ≡ length (next ∷ more)) →
        cond (not t) (1 + position_or_len is_line_feed (next ∷ more)) 0 ≡ length (b ∷ next ∷ more)
    by_feed true e one later = absurd (omega (arith, one))
    by_feed false e one later =
        let rest : position_or_len is_line_feed (next ∷ more) ≡ length (next ∷ more) = later (omega (arith, one)) in
        omega (arith, rest)

place_joined : (xs : List ℕ) → position_or_len is_line_feed xs ≡ length xs → position_or_len is_line_feed (xs ++ 10 ∷ []) ≡ length xs
place_joined [] place = refl
place_joined (b ∷ xs) place = by_feed (is_line_feed b) refl place (λ h. place_joined xs h)
  where
    by_feed : (t : Bool) → is_line_feed b ≡ t → cond (not t) (1 + position_or_len is_line_feed xs) 0 ≡ length (b ∷ xs) →
        (position_or_len is_line_feed xs ≡ length xs → position_or_len is_line_feed (xs ++ 10 ∷ []) ≡ length xs) →
        cond (not t) (1 + position_or_len is_line_feed (xs ++ 10 ∷ [])) 0 ≡ length (b ∷ xs)
    by_feed true e place later = absurd (omega (arith, place))
    by_feed false e place later = let rest = later (omega (arith, place)) in omega (arith, rest)

-- a text of one line is its number, its bytes and its words
line_shown : (text piece : List ℕ) → line_pieces text ≡ piece ∷ [] →
    lines_in text ≡ record {
      number = 1;
      indent = (line_of 1 0 piece).indent;
      bytes = strip_carriage_return piece;
      words =
          words_in (strip_carriage_return piece);
    } ∷ []
line_shown text piece pieces =
    let line : Line = line_of 1 0 piece in
    let placed : text_lines text ≡ line_of 1 0 piece ∷ [] = ap (lines_of 1 0) pieces in
    let shown : bytes_of text line.span ∷ [] ≡ strip_carriage_return piece ∷ [] =
    ap (map (λ (l : Line). bytes_of text l.span)) (sym placed) ∙ text_lines-texts text ∙ ap (map strip_carriage_return) pieces in
    let bytes : bytes_of text line.span ≡ strip_carriage_return piece = one_of (bytes_of text line.span) (strip_carriage_return piece) shown in
    ap (map (text_line text)) placed
    ∙ ap (λ (b : List ℕ). record { number = 1; indent = (line_of 1 0 piece).indent; bytes = b; words = words_in b } ∷ []) bytes
  where
    one_of : (a b : List ℕ) → a ∷ [] ≡ b ∷ [] → a ≡ b
    one_of a b e = cc

-- a line feed behind a line without one makes no other line
same_line : (xs : List ℕ) → IsRaw xs → is_of_whole_lines xs ≡ false → lines_in (xs ++ 10 ∷ []) ≡ lines_in xs
same_line xs is off =
    let n : ℕ = length xs in
    let place : position_or_len is_line_feed xs ≡ length xs = not_ended xs is.some off is.one in
    let long : length (xs ++ 10 ∷ []) ≡ length xs + 1 = length-append xs (10 ∷ []) in
    let first : line_pieces xs ≡ xs ∷ [] =
    line_pieces-first xs (length xs) (sym place) is.some
    ∙ ap (λ (piece : List ℕ). piece ∷ line_pieces (drop (length xs + 1) xs)) (take_all (length xs) xs (omega arith))
    ∙ ap (λ (rest : List ℕ). xs ∷ line_pieces rest) (drop_all (length xs + 1) xs (omega arith)) in
    let second : line_pieces (xs ++ 10 ∷ []) ≡ xs ∷ [] =
    line_pieces-first (xs ++ 10 ∷ []) (length xs) (sym (place_joined xs place)) (omega (arith, long))
    ∙ ap (λ (piece : List ℕ). piece ∷ line_pieces (drop (length xs + 1) (xs ++ 10 ∷ []))) (take_at xs (10 ∷ []) (length xs) refl)
    ∙ ap (λ (rest : List ℕ). xs ∷ line_pieces rest) (drop_all (length xs + 1) (xs ++ 10 ∷ []) (omega (arith, long))) in
    line_shown (xs ++ 10 ∷ []) xs second ∙ sym (line_shown xs xs first)

-- a text that ends with an `end` line, with its last line feed
before_others : (text : List ℕ) (configurations : List Configuration) → EndsWithEnd text → ReadsText text configurations →
    IsReadBefore (with_last_feed text) configurations
before_others text configurations ends reads = by_whole (is_of_whole_lines text) refl
  where
    by_whole : (b : Bool) → is_of_whole_lines text ≡ b → IsReadBefore (cond b text (text ++ 10 ∷ [])) configurations
    by_whole true e =
        let last_whole : is_of_whole_lines ends.last ≡ true =
        sym (whole_back ends.front ends.last ends.raw.some) ∙ sym (ap is_of_whole_lines ends.is) ∙ e in
        let closed : IsClosed (ends.front ++ ends.last) =
        closed_text ends.front ends.last ends.outside
        (record { whole = last_whole; one = ap (λ (ls : List TextLine). length ls) ends.one; ends = ap begins_with_end ends.one ∙ ends.ends }) in
        record { closed = subst IsClosed (sym ends.is) closed; reads = reads }
    by_whole false e =
        let last_open : is_of_whole_lines ends.last ≡ false =
        sym (whole_back ends.front ends.last ends.raw.some) ∙ sym (ap is_of_whole_lines ends.is) ∙ e in
        let same : lines_in (ends.last ++ 10 ∷ []) ≡ lines_in ends.last = same_line ends.last ends.raw last_open in
        let joined : text ++ 10 ∷ [] ≡ ends.front ++ (ends.last ++ 10 ∷ []) = ap (λ (t : List ℕ). t ++ 10 ∷ []) ends.is
        ∙ append_assoc ends.front ends.last (10 ∷ []) in
        let closed : IsClosed (ends.front ++ (ends.last ++ 10 ∷ [])) =
        closed_text ends.front (ends.last ++ 10 ∷ []) ends.outside
        (record {
          whole = ends_whole ends.last;
          one = ap (λ (ls : List TextLine). length ls) (same ∙ ends.one);
          ends = ap begins_with_end (same ∙ ends.one) ∙ ends.ends;
        }) in
        let lines : lines_in text ≡ lines_in (text ++ 10 ∷ []) =
        ap lines_in ends.is
        ∙ lines_in-append ends.front ends.last ends.outside.whole
        ∙ ap (λ (ls : List TextLine). lines_in ends.front ++ map (further_on (length (lines_in ends.front))) ls) (sym same)
        ∙ sym (lines_in-append ends.front (ends.last ++ 10 ∷ []) ends.outside.whole)
        ∙ sym (ap lines_in joined) in
        record {
          closed = subst IsClosed (sym joined) closed;
          reads = subst (λ (ls : List TextLine). AreConfigurations ls configurations) lines reads;
        }

pub prepared_before_others : PreparedBeforeLaw
prepared_before_others text net settled configurations given =
    before_others (prepared_text text net settled) (map (prepared net settled) configurations)
    (ends_prepared text net settled configurations given) (reads_prepared text net settled configurations given)

-- ---- several texts ----

front_all : {A : Type 0} (P : A → Type 0) (xs ys : List A) → All P (xs ++ ys) → All P xs
front_all P [] ys all = All-nil P
front_all P (x ∷ xs) ys all = All-cons P x xs (All-head P x (xs ++ ys) all) (front_all P xs ys (All-tail P x (xs ++ ys) all))

back_all : {A : Type 0} (P : A → Type 0) (xs ys : List A) → All P (xs ++ ys) → All P ys
back_all P [] ys all = all
back_all P (x ∷ xs) ys all = back_all P xs ys (All-tail P x (xs ++ ys) all)

-- the first of some prepared texts
first_read : (text : List ℕ) (texts : List (List ℕ)) (net : Network) (settled : List SettledRouter) (configurations : List Configuration) →
    (given : AreToPrepare (text ∷ texts) net settled configurations) →
    IsReadBefore (with_last_feed (prepared_text text net settled)) (map (prepared net settled) given.read.one)
first_read text texts net settled configurations given =
    let all : All (λ (c : Configuration). Contains net c) (given.read.one ++ given.read.others) =
    subst (λ l. All (λ (c : Configuration). Contains net c) l) given.read.all given.among in
    prepared_before_others text net settled given.read.one
    (record {
      names = given.names;
      fits = given.fits;
      among = front_all (λ (c : Configuration). Contains net c) given.read.one given.read.others all;
      reads = given.read.reads;
    })

pub prepared_texts_read : PreparedTextsLaw
prepared_texts_read text [] net settled configurations given =
    let own : IsReadBefore (with_last_feed (prepared_text text net settled)) (map (prepared net settled) given.read.one) =
    first_read text [] net settled configurations given in
    let alone : configurations ≡ given.read.one =
    given.read.all ∙ ap (λ l. given.read.one ++ l) given.read.rest ∙ append-nil given.read.one in
    subst (λ t. ReadsText t (map (prepared net settled) configurations)) (sym (append-nil (with_last_feed (prepared_text text net settled))))
    (subst (λ l. ReadsText (with_last_feed (prepared_text text net settled)) (map (prepared net settled) l)) (sym alone) own.reads)
prepared_texts_read text (next ∷ texts) net settled configurations given =
    let own : IsReadBefore (with_last_feed (prepared_text text net settled)) (map (prepared net settled) given.read.one) =
    first_read text (next ∷ texts) net settled configurations given in
    let all : All (λ (c : Configuration). Contains net c) (given.read.one ++ given.read.others) =
    subst (λ l. All (λ (c : Configuration). Contains net c) l) given.read.all given.among in
    let others : ReadsText (prepared_texts net settled (next ∷ texts)) (map (prepared net settled) given.read.others) =
    prepared_texts_read next texts net settled given.read.others
    (record {
      names = given.names;
      fits = given.fits;
      among = back_all (λ (c : Configuration). Contains net c) given.read.one given.read.others all;
      read = given.read.rest;
    }) in
    let split : map (prepared net settled) configurations ≡ map (prepared net settled) given.read.one ++ map (prepared net settled) given.read.others =
    ap (map (prepared net settled)) given.read.all ∙ map-append (prepared net settled) given.read.one given.read.others in
    subst (λ l. ReadsText (prepared_texts net settled (text ∷ next ∷ texts)) l) (sym split)
    (joined_texts (with_last_feed (prepared_text text net settled)) (prepared_texts net settled (next ∷ texts)) _ _ own.closed own.reads others)
