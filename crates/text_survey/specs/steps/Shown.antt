-- The lines of sections and of configurations without what they stand below.
use Rattle.std.specs.Prelude.{List, [], ◌∷◌, ◌++◌, codes, flat_map}
use Rattle.ios_sections.specs.TextLines.{Part, TextSection, sections_of}
use Rattle.text_survey.specs.ToldLines.{ToldLine, told_below, top_line}
use Rattle.text_survey.specs.declared.told_line.LinePlace.TheVariants.{Elsewhere}

-- those of a section
abbrev pub shown_section : TextSection → List ToldLine
shown_section section = top_line section.head.number section.head.bytes ∷ told_below Elsewhere section.head.bytes section.body

-- those of a configuration, with its `end` line
abbrev pub shown_part : Part → List ToldLine
shown_part part = flat_map shown_section (sections_of part.lines) ++ top_line part.ends (codes "end") ∷ []
