-- The prepared text, configuration by configuration: the pieces of the text with their blocks.
use Rattle.std.proofs.Common.{arith}
use Rattle.std.proofs.lemmas.Grind.{common_steps}
use Rattle.std.proofs.Common.{◌≡◌, ℕ, ◌+◌, List, [], ◌∷◌, ◌++◌, length, map, drop, refl, sym, ◌∙◌, append_assoc}
use Rattle.ios_sections.specs.TextLines.{Part}
use Rattle.ios_sections.specs.Sections.{sections_in}
use Rattle.ios_sections.specs.declared.section.Section.{Section}
use Rattle.ios_reader.specs.PutBlocks.{Piece, as_they_were, with_blocks}
use Rattle.ios_reader.proofs.BlockPieces.{ArePlaced, between_front, drop_front, cut_text}
use Rattle.net_model.specs.Network.{Network}
use Rattle.design_file.specs.declared.settled.SettledRouter.{SettledRouter}
use Rattle.isis_writer.specs.Prepared.{new_block, prepared_parts, prepared_text}

-- parts with their blocks are the pieces with theirs, from the place on where the first piece begins
parts_are : (block : List Section → List ℕ) (text rest : List ℕ) (pieces : List Piece) (parts : List Part) (from : ℕ) →
    ArePlaced text from pieces parts →
    map (λ (piece : Piece). piece.block) pieces ≡ map (λ (part : Part). block (sections_in part)) parts →
    drop from text ≡ as_they_were pieces ++ rest → prepared_parts block text from parts ≡ with_blocks pieces
parts_are block text rest [] [] from placed blocks is = refl
parts_are block text rest [] (part ∷ parts) from placed blocks is = absurd placed
parts_are block text rest (piece ∷ pieces) [] from placed blocks is = absurd placed
parts_are block text rest (piece ∷ pieces) (part ∷ parts) from placed blocks is =
    let behind : List ℕ = as_they_were pieces ++ rest in
    let own : piece.block ≡ block (sections_in part) = cc in
    let later : map (λ (p : Piece). p.block) pieces ≡ map (λ (p : Part). block (sections_in p)) parts = cc in
    let first : drop from text ≡ piece.before ++ (piece.ends ++ behind) =
    is ∙ append_assoc (piece.before ++ piece.ends) (as_they_were pieces) rest ∙ append_assoc piece.before piece.ends behind in
    let second : drop (from + length piece.before) text ≡ piece.ends ++ behind = drop_front text from piece.before (piece.ends ++ behind) first in
    rw (
      placed.0,
      placed.1,
      between_front text from piece.before (piece.ends ++ behind) first,
      between_front text (from + length piece.before) piece.ends behind second,
      sym own,
      parts_are block text rest pieces parts (from + length piece.before + length piece.ends) placed.2 later
          (drop_front text (from + length piece.before) piece.ends behind second),
    ) refl

pub prepared_is : (text : List ℕ) (net : Network) (settled : List SettledRouter) →
    prepared_text text net settled ≡ with_blocks (cut_text (new_block net settled) text).pieces
prepared_is text net settled = grind (arith, common_steps, cut_text, parts_are)
