-- The lines that count and tell something, taken in one after the other.
use Rattle.std.specs.Prelude.{Bool, ◌||◌, List, codes, filter, fold}
use Rattle.ios_lines.specs.Words.{says}
use Rattle.ios_sections.specs.TextLines.{TextLine, banner_after, counts, outside_banner}
use Rattle.ios_sections.specs.TellingLines.{open_after, telling_lines}
use Rattle.ios_sections.specs.declared.told_lines.TextPlace.{TextPlace}

-- a line, where it counts and tells something
abbrev pub told_at : TextPlace → TextLine → List TextLine
told_at place line = telling_lines place.below (filter counts (outside_banner place.in_banner line))

-- where a text is read behind one more line
abbrev pub place_after : TextPlace → TextLine → TextPlace
place_after place line = record {
  in_banner = banner_after place.in_banner line;
  below = fold open_after place.below (filter counts (outside_banner place.in_banner line));
}

-- a line that may say something at indent 0 without lines below it, or end a configuration
abbrev pub tells_alone : TextLine → Bool
tells_alone line = says line.words 0 (codes "hostname") || says line.words 0 (codes "ip") || says line.words 0 (codes "end")

-- a line of an interface that may say something of it, by its first word
abbrev pub may_concern_interface : TextLine → Bool
may_concern_interface line =
    says line.words 0 (codes "ip") || says line.words 0 (codes "isis") || says line.words 0 (codes "bandwidth") || says line.words 0 (codes "shutdown")
    || says line.words 0 (codes "no") || says line.words 0 (codes "vrf")
