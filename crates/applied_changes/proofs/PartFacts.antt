-- A text with the lines of changes put in, configuration by configuration: the pieces of the text with their blocks.
use Rattle.std.proofs.Common.{◌≡◌, ℕ, ◌+◌, List, [], ◌∷◌, ◌++◌, length, map, drop, sym, ap, subst, ◌∙◌}
use Rattle.std.proofs.Common.{append_assoc, length-append, arith}
use Rattle.std.proofs.lemmas.List.{take_rest}
use Rattle.net_model.specs.Configuration.{Configuration}
use Rattle.igp_theory.specs.declared.phase.Phase.{Phase}
use Rattle.ios_sections.specs.TextLines.{Part, lines_in, parts_of}
use Rattle.ios_sections.specs.Sections.{sections_in}
use Rattle.ios_reader.specs.Texts.{ReadsText}
use Rattle.ios_reader.specs.PutBlocks.{Piece, as_they_were, with_blocks}
use Rattle.ios_reader.proofs.BlockPieces.{ArePlaced, between_front, drop_front, IsCutText, cut_text}
use Rattle.applied_changes.specs.AppliedTexts.{in_phase, block_in, applied_text}
use Rattle.applied_changes.specs.steps.AppliedParts.{applied_parts}
use Rattle.applied_changes.proofs.AppliedFacts.{applied_text_reads}

-- the parts from a place on are what stands before the first piece, and the pieces with their blocks
parts_are : (phases : List ℕ → Phase) (text rest : List ℕ) (pieces : List Piece) (parts : List Part) (from : ℕ) (front : List ℕ) →
    ArePlaced text (from + length front) pieces parts →
    map (λ (piece : Piece). piece.block) pieces ≡ map (λ (part : Part). block_in phases (sections_in part)) parts →
    drop from text ≡ front ++ (as_they_were pieces ++ rest) → applied_parts phases text from parts ≡ front ++ (with_blocks pieces ++ rest)
parts_are phases text rest [] [] from front placed blocks is = take_rest text from ∙ is
parts_are phases text rest [] (part ∷ parts) from front placed blocks is = absurd placed
parts_are phases text rest (piece ∷ pieces) [] from front placed blocks is = absurd placed
parts_are phases text rest (piece ∷ pieces) (part ∷ parts) from front placed blocks is =
    let own : piece.block ≡ block_in phases (sections_in part) = cc in
    let later : map (λ (p : Piece). p.block) pieces ≡ map (λ (p : Part). block_in phases (sections_in p)) parts = cc in
    let was : List ℕ = as_they_were pieces ++ rest in
    let now : List ℕ = with_blocks pieces ++ rest in
    let first : drop from text ≡ (front ++ piece.before) ++ (piece.ends ++ was) =
    is
    ∙ ap (λ (l : List ℕ). front ++ l) (append_assoc (piece.before ++ piece.ends) (as_they_were pieces) rest ∙ append_assoc piece.before piece.ends was)
    ∙ sym (append_assoc front piece.before (piece.ends ++ was)) in
    let long : from + length front + length piece.before ≡ from + length (front ++ piece.before) = omega (arith, length-append front piece.before) in
    rw (
      placed.0 ∙ long,
      between_front text from (front ++ piece.before) (piece.ends ++ was) first,
      sym own,
      parts_are phases text rest pieces parts (from + length (front ++ piece.before)) piece.ends
          (subst (λ (n : ℕ). ArePlaced text (n + length piece.ends) pieces parts) long placed.2) later
          (drop_front text from (front ++ piece.before) (piece.ends ++ was) first),
    )
    (append_assoc (front ++ piece.before) piece.block (piece.ends ++ now)
    ∙ append_assoc front piece.before (piece.block ++ (piece.ends ++ now))
    ∙ ap (λ (l : List ℕ). front ++ l)
    (sym (append_assoc (piece.before ++ piece.block ++ piece.ends) (with_blocks pieces) rest
    ∙ append_assoc (piece.before ++ piece.block) piece.ends now ∙ append_assoc piece.before piece.block (piece.ends ++ now))))

-- the text is the same, put together line by line or configuration by configuration
pub applied_by_parts : (phases : List ℕ → Phase) (text : List ℕ) → applied_parts phases text 0 (parts_of (lines_in text)) ≡ applied_text phases text
applied_by_parts phases text =
    let cut : IsCutText (block_in phases) text = cut_text (block_in phases) text in
    parts_are phases text cut.rest cut.pieces (parts_of (lines_in text)) 0 [] cut.placed cut.cut.blocks cut.cut.text_is ∙ sym cut.whole

-- what is put together so reads as the configurations of the text, each router in its phase
pub reads_by_parts : (phases : List ℕ → Phase) (text all : List ℕ) → all ≡ applied_parts phases text 0 (parts_of (lines_in text)) →
    (configurations : List Configuration) → ReadsText text configurations →
    ReadsText all (map (λ (c : Configuration). in_phase (phases c.name) c) configurations)
reads_by_parts phases text all is configurations reads =
    subst (λ (t : List ℕ). ReadsText t (map (λ (c : Configuration). in_phase (phases c.name) c) configurations))
    (sym (is ∙ applied_by_parts phases text)) (applied_text_reads phases text configurations reads)
