-- Laws of the ranges and stub areas of an OSPF process, in the words of the field.
use Rattle.std.specs.Prelude.{◌≡◌, ◌↔◌, Bool, false, List, ◌∷◌, ◌++◌, filter_map, All, Contains}
use Rattle.net_model.specs.declared.area.Range.{Range}
use Rattle.ios_lines.specs.declared.ospf_line.StubLine.{StubLine}
use Rattle.ios_lines.specs.declared.ospf_line.OspfStatement.{OspfStatement}
use Rattle.ios_reader.specs.Routers.{range_said, is_same_range, ranges_in, stub_said, is_same_area, stub_lines_in}

-- some line says a value, and behind it no line says one that replaces it
pub record IsSaidLast {A : Type 0} (same : A → A → Bool) (said : List A) (value : A) : Type 0 where
  pub before : List A
  pub after : List A
  pub joined : said ≡ before ++ value ∷ after
  pub last : All (λ (other : A). same other value ≡ false) after

-- a process has a range exactly where it is said by the last line for its area and its prefix
abbrev pub LastRangesLaw : Type 0
LastRangesLaw =
    (lines : List OspfStatement) (range : Range) →
    Contains (ranges_in lines) range ↔ IsSaidLast is_same_range (filter_map (λ (s : OspfStatement). range_said s.says) lines) range

-- an area is a stub area exactly where the last line that says so of it is this one
abbrev pub LastStubLinesLaw : Type 0
LastStubLinesLaw =
    (lines : List OspfStatement) (stub : StubLine) →
    Contains (stub_lines_in lines) stub ↔ IsSaidLast is_same_area (filter_map (λ (s : OspfStatement). stub_said s.says) lines) stub
