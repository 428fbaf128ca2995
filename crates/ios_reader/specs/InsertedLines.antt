-- Texts joined end to end, and lines put before an `end` line: what they are read as.
use Rattle.std.specs.Prelude.{◌≡◌, ℕ, ◌+◌, ◌-◌, ◌<◌, true, false, List, [], ◌∷◌, ◌++◌, length}
use Rattle.std.specs.List.{list_any}
use Rattle.net_addr.specs.JoinedLines.{is_of_whole_lines}
use Rattle.net_model.specs.Configuration.{Configuration}
use Rattle.ios_sections.specs.TextLines.{lines_in, counted_lines, is_end, rest_after, first_indent}
use Rattle.ios_sections.specs.JoinedLines.{is_in_banner, begins_banner, begins_with_end, open_lines, open_sections, sections_further_on}
use Rattle.ios_sections.specs.Sections.{first_number}
use Rattle.ios_sections.specs.declared.section.Section.{Section}
use Rattle.ios_reader.specs.Faults.{section_faults}
use Rattle.ios_reader.specs.Configurations.{configurations_in, configuration_of}
use Rattle.ios_reader.specs.Texts.{ReadsText}

-- ---- texts that may be joined ----

-- a text of whole lines, behind which no banner is open
pub record IsOutsideBanners (text : List ℕ) : Type 0 where
  pub whole : is_of_whole_lines text ≡ true
  pub outside : is_in_banner (lines_in text) ≡ false

-- the same, and no line that counts stands behind its last `end` line
pub record IsClosed (text : List ℕ) : Type 0 where
  pub outside : IsOutsideBanners text
  pub none_open : rest_after [] (counted_lines (lines_in text)) ≡ []

-- a text that is one `end` line and its line feed
pub record IsEndLine (text : List ℕ) : Type 0 where
  pub whole : is_of_whole_lines text ≡ true
  pub one : length (lines_in text) ≡ 1
  pub ends : begins_with_end (lines_in text) ≡ true

-- a text that ends with its last `end` line and a line feed is closed
abbrev pub ClosedTextLaw : Type 0
ClosedTextLaw = (before line : List ℕ) → IsOutsideBanners before → IsEndLine line → IsClosed (before ++ line)

-- a closed text and another one are read, together, as the configurations of the one and then those of the other
abbrev pub JoinedTextsLaw : Type 0
JoinedTextsLaw =
    (text other : List ℕ) (configurations others : List Configuration) →
    IsClosed text → ReadsText text configurations → ReadsText other others → ReadsText (text ++ other) (configurations ++ others)

-- a text that is read has at least one configuration
abbrev pub SomeConfigurationLaw : Type 0
SomeConfigurationLaw = (text : List ℕ) (configurations : List Configuration) → ReadsText text configurations → 0 < length configurations

-- ---- lines put before an `end` line ----

-- a block of whole lines, of which the first one that counts is at indent 0, without a `banner` and without an `end` line
pub record IsLineBlock (block : List ℕ) : Type 0 where
  pub whole : is_of_whole_lines block ≡ true
  pub opens : first_indent (counted_lines (lines_in block)) ≡ 0
  pub no_banner : list_any begins_banner (lines_in block) ≡ false
  pub no_end : list_any is_end (lines_in block) ≡ false

-- two blocks are one, end to end
abbrev pub JoinedBlocksLaw : Type 0
JoinedBlocksLaw = (block other : List ℕ) → IsLineBlock block → IsLineBlock other → IsLineBlock (block ++ other)

-- the sections of two blocks behind so many lines are those of the one and then those of the other
abbrev pub BlockSectionsLaw : Type 0
BlockSectionsLaw =
    (count : ℕ) (block other : List ℕ) → IsLineBlock block → IsLineBlock other →
    sections_further_on count (block ++ other) ≡ sections_further_on count block ++ sections_further_on (count + length (lines_in block)) other

-- what the sections say that stand open behind a text, and behind them those of a block, counted on
abbrev pub grown_sections : List ℕ → List ℕ → List Section
grown_sections before block =
    open_sections before ++ sections_further_on (length (lines_in before) - first_number (open_lines before)) block

-- the configuration that a block makes of the one that stands open behind a text
pub record IsGrown (before block : List ℕ) (grown : Configuration) : Type 0 where
  pub ends : ℕ
  pub faultless : section_faults (grown_sections before block) ends ≡ []
  pub made : grown ≡ configuration_of (grown_sections before block)

-- a text that begins so is read as these configurations, but for the one that stands open behind this beginning: it has grown
pub record IsReadGrown (before text : List ℕ) (configurations : List Configuration) (grown : Configuration) : Type 0 where
  pub last : List Configuration
  pub was : configurations ≡ configurations_in (lines_in before) ++ configuration_of (open_sections before) ∷ last
  pub reads : ReadsText text (configurations_in (lines_in before) ++ grown ∷ last)

-- a block put before an `end` line: the configuration that this line ends has the old sections and then the new ones, and
-- each other configuration is as it was
abbrev pub InsertedLinesLaw : Type 0
InsertedLinesLaw =
    (before block after : List ℕ) (configurations : List Configuration) (grown : Configuration) →
    IsOutsideBanners before → IsLineBlock block → begins_with_end (lines_in after) ≡ true →
    ReadsText (before ++ after) configurations → IsGrown before block grown →
    IsReadGrown before (before ++ block ++ after) configurations grown
