-- A text with the lines of changes put in reads as its configurations, each router in its phase.
use Rattle.std.proofs.Common.{◌≡◌, ℕ, List, [], map, sym, subst}
use Rattle.net_model.specs.Configuration.{Configuration}
use Rattle.igp_theory.specs.declared.phase.Phase.{Phase}
use Rattle.ios_sections.specs.TextLines.{Part}
use Rattle.ios_sections.specs.Sections.{sections_in}
use Rattle.ios_sections.proofs.GoodSections.{sections_good, number_of_process}
use Rattle.ios_reader.specs.Faults.{section_faults}
use Rattle.ios_reader.specs.Configurations.{configuration_of}
use Rattle.ios_reader.specs.Places.{raw_lines}
use Rattle.ios_reader.specs.Texts.{ReadsText}
use Rattle.ios_reader.proofs.GrownSections.{Grows}
use Rattle.ios_reader.proofs.PutBlocks.{put_reads}
use Rattle.ios_reader.proofs.RawLines.{are_raw, raw_joined, whole_start}
use Rattle.applied_changes.specs.AppliedTexts.{in_phase, block_in, applied_text}
use Rattle.applied_changes.proofs.GrownConfigurations.{phase_grows}

module _ (phases : List ℕ → Phase) where
  abbrev moved : Configuration → Configuration
  moved c = in_phase (phases c.name) c

  abbrev IsAny : Configuration → Type 0
  IsAny c = Unit {0}

  block_grows : (part : Part) (ends : ℕ) → section_faults (sections_in part) ends ≡ [] → IsAny (configuration_of (sections_in part)) →
      Grows (sections_in part) ends (block_in phases (sections_in part)) (moved (configuration_of (sections_in part)))
  block_grows part ends fine any =
      phase_grows (sections_in part) ends (phases (configuration_of (sections_in part)).name) fine
      (number_of_process (sections_in part) (sections_good part))

  -- a text with the lines put in reads as its configurations in their phases
  pub applied_text_reads : (text : List ℕ) (configurations : List Configuration) → ReadsText text configurations →
      ReadsText (applied_text phases text) (map moved configurations)
  applied_text_reads text configurations reads =
      let all = put_reads (block_in phases) moved IsAny block_grows (raw_lines text) [] configurations (whole_start (raw_lines text)) (are_raw text)
      (λ _ _ _. tt) (subst (λ t. ReadsText t configurations) (sym (raw_joined text)) reads) in
      subst (λ l. ReadsText (applied_text phases text) (map moved l)) (sym all.was) all.reads
