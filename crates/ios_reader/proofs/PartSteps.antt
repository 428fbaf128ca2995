-- A text that is put together part by part, one more line that counts at a time.
use Rattle.std.proofs.Common.{arith}
use Rattle.std.proofs.lemmas.Grind.{common_steps}
use Rattle.std.proofs.Common.{◌≡◌, ◌≤◌, ◌<◌, ◌+◌, ℕ, true, false, cond, List, [], ◌∷◌, ◌++◌, length, get_or, drop}
use Rattle.std.proofs.Common.{ap, sym, ◌∙◌}
use Rattle.std.specs.List.{slice_range}
use Rattle.std.proofs.lemmas.List.{drop_more}
use Rattle.ios_sections.specs.TextLines.{Part, TextLine, is_end, parts_after}
use Rattle.ios_reader.proofs.PartFacts.{slice_more, slice_none}

-- `text_of_parts` is what is put together of some parts, from a place of the text on
module _ (text_of_parts : ℕ → List Part → List ℕ) (counted : List TextLine) (i : ℕ) (x : TextLine) (within : i < length counted)
    (read : x ≡ get_or counted i x) where
  abbrev pub part_here : List TextLine → Part
  part_here lines = record { lines = lines; ends = x.number }

  abbrev behind : List TextLine → List Part
  behind lines = parts_after lines (drop (i + 1) counted)

  parts_here : (lines : List TextLine) →
      parts_after lines (drop i counted) ≡ cond (is_end x) (part_here lines ∷ behind []) (behind (lines ++ x ∷ []))
  parts_here lines = ap (parts_after lines) (drop_more counted i x within ∙ ap (λ (y : TextLine). y ∷ drop (i + 1) counted) (sym read))

  -- an `end` line ends a part, and this is what the part is put together of
  pub at_end : (start from next : ℕ) (done new all : List ℕ) → is_end x ≡ true →
      ((more : List Part) → text_of_parts from (part_here (slice_range counted start i) ∷ more) ≡ new ++ text_of_parts next more) →
      done ++ text_of_parts from (parts_after (slice_range counted start i) (drop i counted)) ≡ all →
      (done ++ new) ++ text_of_parts next (behind (slice_range counted (i + 1) (i + 1))) ≡ all
  at_end start from next done new all ends own before = grind (arith, common_steps, parts_here, slice_none)

  -- another line goes on with the part
  pub at_other : (start from : ℕ) (done all : List ℕ) → start ≤ i → is_end x ≡ false →
      done ++ text_of_parts from (parts_after (slice_range counted start i) (drop i counted)) ≡ all →
      done ++ text_of_parts from (behind (slice_range counted start (i + 1))) ≡ all
  at_other start from done all low other before = grind (arith, common_steps, parts_here, slice_more)
