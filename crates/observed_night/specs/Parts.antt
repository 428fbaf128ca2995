-- What two configurations of a router may differ in, besides the distances of its processes.
use Rattle.std.specs.Prelude.{◌≡◌, ℕ, ◌<◌, ◌↔◌, List, Contains, codes}
use Rattle.net_model.specs.Configuration.{Configuration}
use Rattle.observed_night.specs.declared.part.Part.{Part}
use Rattle.observed_night.specs.declared.part.Part.TheVariants.{Name, Interfaces, Process, Isis, Tag, Area, System, Levels, Leak, Ranges, Stubs, Rfc1583}

-- two lists have the same items, in whatever order
abbrev pub HaveSameItems : {A : Type 0} → List A → List A → Type 0
HaveSameItems {A} ones others = (item : A) → Contains ones item ↔ Contains others item

-- two configurations are alike in a part
abbrev pub AreAlikeIn : Part → Configuration → Configuration → Type 0
AreAlikeIn Name c d = c.name ≡ d.name
AreAlikeIn Interfaces c d = HaveSameItems c.interfaces d.interfaces
AreAlikeIn Process c d = c.process ≡ d.process
AreAlikeIn Isis c d = c.isis ≡ d.isis
AreAlikeIn Tag c d = c.tag ≡ d.tag
AreAlikeIn Area c d = c.isis_area ≡ d.isis_area
AreAlikeIn System c d = c.system ≡ d.system
AreAlikeIn Levels c d = c.levels ≡ d.levels
AreAlikeIn Leak c d = c.leak ≡ d.leak
AreAlikeIn Ranges c d = HaveSameItems c.ranges d.ranges
AreAlikeIn Stubs c d = HaveSameItems c.stubs d.stubs
AreAlikeIn Rfc1583 c d = c.rfc1583 ≡ d.rfc1583

-- the place of a part in the order in which differences are told
abbrev pub part_place : Part → ℕ
part_place Name = 0
part_place Interfaces = 1
part_place Process = 2
part_place Isis = 3
part_place Tag = 4
part_place Area = 5
part_place System = 6
part_place Levels = 7
part_place Leak = 8
part_place Ranges = 9
part_place Stubs = 10
part_place Rfc1583 = 11

-- the word that tells a part
abbrev pub part_word : Part → List ℕ
part_word Name = codes "name"
part_word Interfaces = codes "interface"
part_word Process = codes "process"
part_word Isis = codes "isis"
part_word Tag = codes "tag"
part_word Area = codes "area"
part_word System = codes "system"
part_word Levels = codes "level"
part_word Leak = codes "leak"
part_word Ranges = codes "range"
part_word Stubs = codes "stub"
part_word Rfc1583 = codes "rfc1583"

-- two configurations are alike but for their distances
abbrev pub AreAlikeButDistances : Configuration → Configuration → Type 0
AreAlikeButDistances c d = (part : Part) → AreAlikeIn part c d

-- the first part that two configurations differ in
pub record DifferFirstIn (c d : Configuration) (part : Part) : Type 0 where
  pub differ : AreAlikeIn part c d → ⊥
  pub before : (other : Part) → part_place other < part_place part → AreAlikeIn other c d
