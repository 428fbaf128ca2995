-- The new lines alone are the blocks of the pieces of a prepared text, each behind the name of its router.
use Rattle.std.proofs.Common.{◌≡◌, ℕ, List, [], ◌∷◌, ◌++◌, map, refl, sym, ap, ◌∙◌, append-nil}
use Rattle.std.specs.Prelude.{unwrap_or}
use Rattle.net_model.specs.Configuration.{Configuration}
use Rattle.net_model.specs.Network.{Network}
use Rattle.printed_lines.specs.Texts.{text_of}
use Rattle.ios_lines.specs.Words.{Word}
use Rattle.ios_lines.specs.Lookups.{last_of}
use Rattle.ios_sections.specs.TextLines.{Part, lines_in, parts_of}
use Rattle.ios_sections.specs.Sections.{sections_in}
use Rattle.ios_sections.specs.Processes.{as_hostname}
use Rattle.ios_reader.specs.PutBlocks.{Piece}
use Rattle.ios_reader.specs.Configurations.{configuration_of}
use Rattle.design_file.specs.declared.settled.SettledRouter.{SettledRouter}
use Rattle.isis_writer.specs.Prepared.{new_block}
use Rattle.isis_writer.specs.Deltas.{DeltaLaw, delta_parts, named_blocks, router_comment}
use Rattle.isis_writer.proofs.PreparedBytes.{prepared_bytes}

module _ (net : Network) (settled : List SettledRouter) where
  named_parts : (parts : List Part) →
      delta_parts net settled parts
      ≡ named_blocks (map (λ (c : Configuration). c.name) (map (λ (part : Part). configuration_of (sections_in part)) parts))
      (map (λ (part : Part). new_block net settled (sections_in part)) parts)
  named_parts [] = refl
  named_parts (part ∷ parts) =
      let name : Word = unwrap_or (last_of as_hostname (sections_in part)) [] in
      let block : List ℕ = new_block net settled (sections_in part) in
      ap (λ (t : List ℕ). (t ++ block) ++ delta_parts net settled parts) (sym (append-nil (router_comment name ++ 10 ∷ [])))
      ∙ ap (λ (t : List ℕ). text_of (router_comment name ∷ []) ++ block ++ t) (named_parts parts)

pub delta_of_pieces : DeltaLaw
delta_of_pieces text net settled configurations reads =
    let its = prepared_bytes text net settled in
    let parts : List Part = parts_of (lines_in text) in
    record {
      prepared = its;
      printed = named_parts net settled parts
          ∙ ap (named_blocks (map (λ (c : Configuration). c.name) (map (λ (part : Part). configuration_of (sections_in part)) parts))) (sym its.cut.blocks)
          ∙ ap (λ (cs : List Configuration). named_blocks (map (λ (c : Configuration). c.name) cs) (map (λ (piece : Piece). piece.block) its.pieces))
          (sym reads.made);
    }
