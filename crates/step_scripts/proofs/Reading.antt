-- How far the lines after the header have been read.
use Rattle.std.proofs.lemmas.Grind.{common_steps}
use Rattle.std.proofs.Common.{◌≡◌, Bool, cond, eqb, ℕ, zero, suc, ◌+◌, ◌<◌, ◌≤◌, None, List, [], ◌∷◌, ◌++◌, length}
use Rattle.std.proofs.Common.{get_or, take, drop, sym, ap, subst, ◌∙◌, arith}
use Rattle.std.specs.List.{All, AllZip}
use Rattle.std.proofs.lemmas.List.{append-nil, get_or_default, take_more, get_or-map, length-map, length-take-le}
use Rattle.std.proofs.lemmas.List.Elements.{All-tail}
use Rattle.std.proofs.lemmas.List.Splits.{length-slice_split}
use Rattle.std.proofs.lemmas.List.Sums.{count_by-le-length}
use Rattle.std.proofs.lemmas.Slice.Zip.{AllZip-long}
use Rattle.net_addr.specs.Lines.{line_pieces, line_texts, lines_of, text_lines, without_empty_last}
use Rattle.net_addr.specs.Spans.{bytes_of, LiesIn}
use Rattle.net_addr.specs.declared.line.Line.{Line}
use Rattle.net_addr.proofs.JoinedFacts.{lines_of-length}
use Rattle.net_model.specs.Lookups.{IsNamed}
use Rattle.net_model.specs.Network.{Network}
use Rattle.net_model.specs.Refusals.{NamesAscend}
use Rattle.order_core.specs.Orders.{AreDistinct}
use Rattle.step_scripts.specs.WaveLines.{header_of, wave_on}
use Rattle.step_scripts.specs.WaveFiles.{all_in}
use Rattle.step_scripts.specs.FaultyLines.{IsLeastFaultyLine}
use Rattle.step_scripts.specs.steps.ReadWaves.{bytes_of_lines, AreFileEntries, AreWavesRead, AreEntriesRead, AreFirstWaves, IsUnfit, TakesSeats, file_entry}
use Rattle.step_scripts.specs.declared.version.Version.{Version}
use Rattle.step_scripts.specs.declared.kind.OrderKind.{OrderKind}
use Rattle.step_scripts.proofs.LeastFaults.{IsLowestBehind, least_here, lowest_unfit}
use Rattle.step_scripts.proofs.ReadFacts.{all_in-append, without_end}
use Rattle.step_scripts.proofs.Splits.{at_place}
use Rattle.step_scripts.proofs.WaveLineFacts.{Says}
use Rattle.std.proofs.lemmas.Slice.Zip.{all_zipped_more}

numbered_from : (number start : ℕ) (pieces : List (List ℕ)) (k : ℕ) (d : Line) → k < length (lines_of number start pieces) →
    (get_or (lines_of number start pieces) k d).number ≡ number + k
numbered_from number start [] k d l = absurd (omega (arith, l))
numbered_from number start (piece ∷ more) zero d l = omega arith
numbered_from number start (piece ∷ more) (suc k) d l =
    let step = numbered_from (number + 1) (start + length piece + 1) more k d (omega (arith, l)) in
    omega (arith, step)

-- lines are numbered from 1
numbered : (text : List ℕ) (k : ℕ) (d : Line) → k < length (text_lines text) → (get_or (text_lines text) k d).number ≡ k + 1
numbered text k d l = let step = numbered_from 1 0 (line_pieces text) k d l in omega (arith, step)

one_few : (empty : Bool) (piece : List ℕ) → length (cond empty [] (piece ∷ [])) ≤ 1
one_few empty piece = grind (arith, common_steps)

pieces_few : (pieces : List (List ℕ)) → length (without_empty_last pieces) ≤ length pieces
pieces_few [] = omega arith
pieces_few (piece ∷ []) = one_few (eqb (length piece) 0) piece
pieces_few (piece ∷ next ∷ more) = omega (arith, pieces_few (next ∷ more))

-- a text has no more lines than bytes, and one
pub lines_few : (text : List ℕ) (lines : List Line) → lines ≡ text_lines text → length lines ≤ length text + 1
lines_few text lines are = grind (arith, common_steps, count_by-le-length, length-slice_split, lines_of-length, pieces_few)

-- the lines after a first line that is a header
pub entries_from : (text : List ℕ) (version : Version) (lines entries : List Line) (first : Line) → lines ≡ text_lines text →
    All (λ (line : Line). LiesIn text line.span) lines → bytes_of_lines text lines ≡ line_texts text → lines ≡ first ∷ entries →
    bytes_of text first.span ≡ header_of version → AreFileEntries version text entries
entries_from text version lines entries first exact inside texts parts is = record {
  lines = sym texts ∙ ap (bytes_of_lines text) parts ∙ ap (λ h. h ∷ bytes_of_lines text entries) is;
  numbers = λ k d l.
      let same : text_lines text ≡ first ∷ entries = sym exact ∙ parts in
      let long = ap length same in
      let number = numbered text (suc k) d (omega (arith, long, l)) in
      let at = subst (λ (all : List Line). (get_or all (suc k) d).number ≡ suc k + 1) same number in
      omega (arith, at);
  inside = All-tail (λ (line : Line). LiesIn text line.span) first entries (subst (All (λ (line : Line). LiesIn text line.span)) parts inside);
}

-- how many lines a text has with its header
pub count_lines : (text : List ℕ) (version : Version) (lines entries : List Line) → bytes_of_lines text lines ≡ line_texts text →
    AreFileEntries version text entries →
    length lines + 1 ≡ length (bytes_of_lines text entries) + 2
count_lines text version lines entries texts are = grind (arith, common_steps, length-map)

module _ (net : Network) (network : NamesAscend net) (version : Version) (text : List ℕ) (entries : List Line)
    (are : AreFileEntries version text entries) where
  pub long : length (bytes_of_lines text entries) ≡ length entries
  long = length-map entries (λ (line : Line). bytes_of text line.span)

  pub text_at : (i : ℕ) (d : Line) → i < length entries → get_or (bytes_of_lines text entries) i [] ≡ bytes_of text (get_or entries i d).span
  text_at i d l = get_or-map (λ (line : Line). bytes_of text line.span) entries i d [] l

  parts_at : (i : ℕ) (d : Line) → i < length entries → bytes_of_lines text entries ≡ take i (bytes_of_lines text entries) ++ bytes_of text
      (get_or entries i d).span ∷ drop (i + 1) (bytes_of_lines text entries)
  parts_at i d l =
      at_place (bytes_of_lines text entries) i [] (omega (arith, long, l))
      ∙ ap (λ h. take i (bytes_of_lines text entries) ++ h ∷ drop (i + 1) (bytes_of_lines text entries)) (text_at i d l)

  -- a line behind what was read that is faulty is the least faulty one
  pub least_at : (i : ℕ) (d : Line) (seats : List (List ℕ)) → i < length entries → AreEntriesRead net version (take i (bytes_of_lines text entries))
      seats → (kind : OrderKind) →
      IsLowestBehind net (file_entry version (take i (bytes_of_lines text entries)) (bytes_of text (get_or entries i d).span)) kind →
      IsLeastFaultyLine net text (get_or entries i d).number kind
  least_at i d seats l read kind is =
      let front = take i (bytes_of_lines text entries) in
      let lines = are.lines ∙ ap (λ l. header_of version ∷ l) (parts_at i d l) in
      let number : length front + 2 ≡ (get_or entries i d).number =
      ap (λ n. n + 2) (length-take-le i (bytes_of_lines text entries) (omega (arith, long, l))) ∙ sym (are.numbers i d l) in
      subst (λ n. IsLeastFaultyLine net text n kind) number
      (least_here net network text version front (bytes_of text (get_or entries i d).span) (drop (i + 1) (bytes_of_lines text entries))
      seats lines read kind is)

  -- names that are no further wave
  pub unfit_at : (i : ℕ) (d : Line) (seats : List (List ℕ)) (names : List (List ℕ)) → i < length entries →
      AreWavesRead net version (take i (bytes_of_lines text entries)) seats →
      Says version (bytes_of text (get_or entries i d).span) names → (kind : OrderKind) → IsUnfit net names seats kind →
      IsLeastFaultyLine net text (get_or entries i d).number kind
  unfit_at i d seats names l read says kind f =
      let front = take i (bytes_of_lines text entries) in
      least_at i d seats l (without_end net network version front seats read) kind
      (lowest_unfit net network version front seats read (bytes_of text (get_or entries i d).span) names says kind f)

  -- one wave more
  pub one_more : (i : ℕ) (d : Line) (old new : List (List ℕ)) (names : List (List ℕ)) → i < length entries →
      AreWavesRead net version (take i (bytes_of_lines text entries)) old →
      Says version (bytes_of text (get_or entries i d).span) names → TakesSeats net names old new →
      AreWavesRead net version (take (i + 1) (bytes_of_lines text entries)) new
  one_more i d old new names l read says takes =
      let step = take_more (bytes_of_lines text entries) i [] (omega (arith, long, l)) in
      let at = text_at i d l in
      let here = subst (λ t. Says version t names) (sym at) says in
      record {
        waves = read.waves ++ names ∷ [];
        each = subst (λ l. AllZip (Says version) l (read.waves ++ names ∷ [])) (sym step)
            (all_zipped_more (Says version) (take i (bytes_of_lines text entries)) read.waves _ names read.each here);
        named = subst (λ s. AllZip (AllZip (IsNamed net)) (read.waves ++ names ∷ []) s) (sym takes.added)
            (all_zipped_more (AllZip (IsNamed net)) read.waves old names takes.routers read.named takes.named);
        once =
            subst (λ s. AreDistinct (all_in s)) (sym takes.added)
            (subst AreDistinct (sym (all_in-append old (takes.routers ∷ []) ∙ ap (λ l. all_in old ++ l) (append-nil takes.routers))) takes.once);
      }

  -- as many seats as lines
  pub seats_long : (i : ℕ) (seats : List (List ℕ)) → i ≤ length entries → AreWavesRead net version (take i (bytes_of_lines text entries)) seats →
      length seats ≡ i
  seats_long i seats l read =
      AllZip-long (AllZip (IsNamed net)) read.waves seats read.named ∙ AllZip-long (Says version) (take i (bytes_of_lines text entries)) read.waves read.each
      ∙ length-take-le i (bytes_of_lines text entries) (omega (arith, long, l))

  -- the waves end at a line that is none
  pub first_waves : (i : ℕ) (d : Line) (seats : List (List ℕ)) → i < length entries →
      AreWavesRead net version (take i (bytes_of_lines text entries)) seats →
      wave_on version (bytes_of text (get_or entries i d).span) ≡ None → AreFirstWaves net version (bytes_of_lines text entries) seats
  first_waves i d seats l read none =
      let same = seats_long i seats (omega (arith, l)) read in
      record {
        few = omega (arith, same, long, l);
        read = subst (λ n. AreWavesRead net version (take n (bytes_of_lines text entries)) seats) (sym same) read;
        next = λ e inside. subst (λ n. wave_on version (get_or (bytes_of_lines text entries) n e) ≡ None) (sym same)
            (subst (λ t. wave_on version t ≡ None) (sym (get_or_default (bytes_of_lines text entries) i e [] (omega (arith, long, l)) ∙ text_at i d l))
            none);
      }

  -- or with the last line
  pub all_waves : (i : ℕ) (seats : List (List ℕ)) → i ≤ length entries → length entries ≤ i →
      AreWavesRead net version (take i (bytes_of_lines text entries)) seats →
      AreFirstWaves net version (bytes_of_lines text entries) seats
  all_waves i seats l done read =
      let same = seats_long i seats l read in
      record {
        few = omega (arith, same, long, l);
        read = subst (λ n. AreWavesRead net version (take n (bytes_of_lines text entries)) seats) (sym same) read;
        next = λ e inside. absurd (omega (arith, same, long, done, inside));
      }
