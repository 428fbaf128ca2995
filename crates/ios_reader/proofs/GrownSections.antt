-- A block behind the sections of a configuration: no fault comes with it, and what it makes of the configuration.
use Rattle.std.proofs.Common.{◌≡◌, ℕ, ◌+◌, List, [], ◌++◌, length, refl, sym, ap, ◌∙◌, append_assoc, append-nil}
use Rattle.net_model.specs.Configuration.{Configuration}
use Rattle.ios_sections.specs.TextLines.{lines_in}
use Rattle.ios_sections.specs.JoinedLines.{sections_further_on}
use Rattle.ios_sections.specs.declared.section.Section.{Section}
use Rattle.ios_reader.specs.Faults.{section_faults}
use Rattle.ios_reader.specs.Configurations.{configuration_of}
use Rattle.ios_reader.specs.InsertedLines.{IsLineBlock}
use Rattle.ios_reader.proofs.InsertedFacts.{joined_blocks, block_by_block}

-- a block behind sections: it fits, no fault comes with it, and this is the configuration
pub record Grows (ss : List Section) (ends : ℕ) (block : List ℕ) (grown : Configuration) : Type 0 where
  pub fits : IsLineBlock block
  pub faultless : (count : ℕ) → section_faults (ss ++ sections_further_on count block) ends ≡ []
  pub made : (count : ℕ) → grown ≡ configuration_of (ss ++ sections_further_on count block)

pub nothing_grows : (ss : List Section) (ends : ℕ) → section_faults ss ends ≡ [] → Grows ss ends [] (configuration_of ss)
nothing_grows ss ends fine = record {
  fits = record { whole = refl; opens = refl; no_banner = refl; no_end = refl };
  faultless = λ count. ap (λ l. section_faults l ends) (append-nil ss) ∙ fine;
  made = λ count. ap configuration_of (sym (append-nil ss));
}

-- one block, and then another
pub both_grow : (ss : List Section) (ends : ℕ) (one two : List ℕ) (first grown : Configuration) → Grows ss ends one first →
    ((count : ℕ) → Grows (ss ++ sections_further_on count one) ends two grown) → Grows ss ends (one ++ two) grown
both_grow ss ends one two first grown begun more =
    let later : ℕ → ℕ = λ count. count + length (lines_in one) in
    let same : (count : ℕ) → ss ++ sections_further_on count (one ++ two) ≡ (ss ++ sections_further_on count one) ++ sections_further_on (later count) two =
    λ count. ap (λ l. ss ++ l) (block_by_block count one two begun.fits (more count).fits)
    ∙ sym (append_assoc ss (sections_further_on count one) (sections_further_on (later count) two)) in
    record {
      fits = joined_blocks one two begun.fits (more 0).fits;
      faultless = λ count. ap (λ l. section_faults l ends) (same count) ∙ (more count).faultless (later count);
      made = λ count. (more count).made (later count) ∙ ap configuration_of (sym (same count));
    }
