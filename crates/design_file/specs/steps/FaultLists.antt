-- How the faults of a document are gathered.
use Rattle.std.specs.Prelude.{◌≡◌, ◌⊎◌, List, [], ◌∷◌, ◌++◌, Option, Some, None, codes}
use Rattle.toml.specs.Data.{Data, Members, no_members, member, table, get_member}
use Rattle.design_file.specs.Faults.{IsToldFault, IsToldRather, fault}
use Rattle.ios_lines.specs.Words.{Word}
use Rattle.design_file.specs.Keys.{below, key_in}
use Rattle.design_file.specs.Values.{entry_fault}
use Rattle.design_file.specs.declared.fault.Fault.{Fault}
use Rattle.design_file.specs.declared.key.Key.{Key}
use Rattle.design_file.specs.declared.key.Key.TheVariants.{Table}
use Rattle.design_file.specs.declared.key.Place.{Place}
use Rattle.design_file.specs.declared.key.Place.TheVariants.{Top}
use Rattle.design_file.specs.declared.refusal.DesignKind.{DesignKind}
use Rattle.design_file.specs.declared.refusal.DesignKind.TheVariants.{BadArea}

-- the fault is one of the list
abbrev pub Among : Fault → List Fault → Type 0
Among f [] = ⊥
Among f (g ∷ more) = (g ≡ f) ⊎ Among f more

-- the fault that an entry has, or else those inside it
abbrev pub own_or : Option DesignKind → Word → List Fault → List Fault
own_or (Some kind) path inner = fault kind path ∷ []
own_or None path inner = inner

-- the faults of a table's entries, in order
abbrev mutual
  -- those inside an entry that says this; its path is this
  pub inner_faults : Data → Option Key → Word → List Fault
  inner_faults (table members) (Some (Table place)) path = table_faults members place path
  inner_faults _ _ path = []

  pub table_faults : Members → Place → Word → List Fault
  table_faults no_members place path = []
  table_faults (member word value more) place path =
      own_or (entry_fault (key_in place word) value) (below path word) (inner_faults value (key_in place word) (below path word))
      ++ table_faults more place path

-- the fault of a document without an area
abbrev pub area_faults : Option Data → List Fault
area_faults None = fault BadArea (codes "area") ∷ []
area_faults (Some _) = []

-- the faults of a document
abbrev pub document_faults : Members → List Fault
document_faults document = table_faults document Top [] ++ area_faults (get_member (codes "area") document)

-- the fault that is told of a list, where it has one
abbrev pub IsToldAmong : List Fault → Option Fault → Type 0
IsToldAmong faults None = faults ≡ []
IsToldAmong faults (Some f) = IsToldFault (λ g. Among g faults) f

-- the one of two faults that is told, the first of which there may be
abbrev pub IsToldOf : Option Fault → Fault → Fault → Type 0
IsToldOf None other f = f ≡ other
IsToldOf (Some best) other f = ((IsToldRather other best → ⊥) × (f ≡ best)) ⊎ (IsToldRather other best × (f ≡ other))
