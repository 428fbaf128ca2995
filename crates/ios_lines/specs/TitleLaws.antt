-- The law of the title of a `net` line, in the words of the standard (ISO 10589, section 7.1; RFC 1195, section 3.3).
use Rattle.std.specs.Prelude.{◌≡◌, ◌↔◌, ℕ, ◌≤◌, true, List, ◌∷◌, ◌++◌, Some, All, codes, flat_map, length}
use Rattle.std.specs.List.{list_all}
use Rattle.ios_lines.specs.Words.{Word}
use Rattle.ios_lines.specs.IsisLines.{is_hex, system_value, title_of}
use Rattle.ios_lines.specs.declared.title.Title.{Title}

-- a group: a dot and four hexadecimal digits
pub record IsTitleGroup (group : Word) : Type 0 where
  pub digits : Word
  pub dotted : group ≡ 46 ∷ digits
  pub four : length digits ≡ 4
  pub hex : list_all is_hex digits ≡ true

-- so many groups, end to end
pub record AreTitleGroups (bytes : Word) (count : ℕ) : Type 0 where
  pub groups : List Word
  pub each : All IsTitleGroup groups
  pub count_is : length groups ≡ count
  pub joined : bytes ≡ flat_map (λ (group : Word). group) groups

-- an area address: two hexadecimal digits, and at most six groups
pub record IsTitleArea (area : Word) : Type 0 where
  pub first : ℕ
  pub second : ℕ
  pub groups : Word
  pub count : ℕ
  pub joined : area ≡ first ∷ second ∷ groups
  pub first_hex : is_hex first ≡ true
  pub second_hex : is_hex second ≡ true
  pub grouped : AreTitleGroups groups count
  pub most : count ≤ 6

-- a word is a title: its area address, three groups that are its system id, and the selector `00` behind a dot
pub record IsTitleWord (word : Word) (title : Title) : Type 0 where
  pub system : Word
  pub joined : word ≡ (title.area ++ system) ++ codes ".00"
  pub area : IsTitleArea title.area
  pub grouped : AreTitleGroups system 3
  pub value : title.system ≡ system_value system

-- a `net` line has a title exactly where its word is one
abbrev pub TitleWordLaw : Type 0
TitleWordLaw = (word : Word) (title : Title) → (title_of word ≡ Some title) ↔ IsTitleWord word title
