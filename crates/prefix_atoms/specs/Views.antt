-- What contracts see of the classes in the program.
use Rattle.prefix_atoms.specs.Classes.{Classes, IsClassing}
use Rattle.prefix_atoms.specs.Numbers.{TellClasses}
use Rattle.prefix_atoms.specs.declared.atoms.Atoms.TheInside.{Inside}

-- the classes as plain data
abbrev pub atoms_view : Inside → Classes
atoms_view x = record {
  prefixes = x.prefixes.items;
  parents = x.parents.items;
  samples = x.samples.items;
  tops = x.tops.items;
  targets = x.targets.items;
}

-- they are classes of their prefixes, and the numbers of intervals tell the class of each address
abbrev pub IsAtoms : Inside → Type 0
IsAtoms x = IsClassing (atoms_view x) × TellClasses (atoms_view x) x.starts.items x.numbers.items
