-- What is wrong in the document of a design, and which fault is told.
use Rattle.std.specs.Prelude.{◌≡◌, ◌⊎◌, ◌<◌, ℕ, [], Some, None, codes}
use Rattle.net_model.specs.Refusals.{IsBelow}
use Rattle.toml.specs.Data.{Data, Members, table, get_member}
use Rattle.design_file.specs.Documents.{HasMember}
use Rattle.ios_lines.specs.Words.{Word}
use Rattle.design_file.specs.Keys.{below, key_in}
use Rattle.design_file.specs.Values.{entry_fault}
use Rattle.design_file.specs.declared.fault.Fault.{Fault}
use Rattle.design_file.specs.declared.key.Key.TheVariants.{Table}
use Rattle.design_file.specs.declared.key.Place.{Place}
use Rattle.design_file.specs.declared.key.Place.TheVariants.{Top}
use Rattle.design_file.specs.declared.refusal.DesignKind.{DesignKind}
use Rattle.design_file.specs.declared.refusal.DesignKind.TheVariants.{NotToml, UnknownKey, WrongKind, BadArea}
use Rattle.design_file.specs.declared.refusal.DesignKind.TheVariants.{BadLevel, BadMetric, UnknownRouter, UnknownInterface, AlreadyIsis}

-- a fault of this kind at this path
abbrev pub fault : DesignKind → Word → Fault
fault kind path = record { kind = kind; path = path }

-- the tables of a document, each with its place and its path: the document itself, and each table in one of them at a key
-- that asks for a table
pub data TableAt (document : Members) : Place → Word → Members → Type 0 where
  whole : TableAt document Top [] document
  inside : (outer inner : Place) (path word : Word) (members entries : Members) → TableAt document outer path members →
      HasMember members word (table entries) → key_in outer word ≡ Some (Table inner) → TableAt document inner (below path word) entries

-- an entry of a table is faulty, and this is its path
pub record HasFault (place : Place) (path : Word) (members : Members) (f : Fault) : Type 0 where
  pub word : Word
  pub value : Data
  pub entry : HasMember members word value
  pub kind_is : entry_fault (key_in place word) value ≡ Some f.kind
  pub path_is : below path word ≡ f.path

-- what is wrong in a document: it has no area, or an entry of one of its tables is faulty
pub data IsDocumentFault (document : Members) (f : Fault) : Type 0 where
  no_area : get_member (codes "area") document ≡ None → fault BadArea (codes "area") ≡ f → IsDocumentFault document f
  in_table : (place : Place) (path : Word) (members : Members) → TableAt document place path members → HasFault place path members f →
      IsDocumentFault document f

-- the kinds in their order
abbrev pub design_kind_rank : DesignKind → ℕ
design_kind_rank NotToml = 1
design_kind_rank UnknownKey = 2
design_kind_rank WrongKind = 3
design_kind_rank BadArea = 4
design_kind_rank BadLevel = 5
design_kind_rank BadMetric = 6
design_kind_rank UnknownRouter = 7
design_kind_rank UnknownInterface = 8
design_kind_rank AlreadyIsis = 9

-- one fault is told rather than another: its kind is lower, or the kind is the same and its path is less in byte order
abbrev pub IsToldRather : Fault → Fault → Type 0
IsToldRather f g = (design_kind_rank f.kind < design_kind_rank g.kind) ⊎ ((design_kind_rank f.kind ≡ design_kind_rank g.kind) × IsBelow f.path g.path)

-- the fault that is told of those for which P holds
pub record IsToldFault (P : Fault → Type 0) (f : Fault) : Type 0 where
  pub stands : P f
  pub least : (g : Fault) → P g → IsToldRather g f → ⊥
