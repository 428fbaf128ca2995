use Rattle.std.proofs.Common.{◌≡◌, map, take}
use Rattle.std.specs.Prelude.{flat_map, option_copied}
use Rattle.ios_reader.specs.Faults.{interface_faults}
use Rattle.ios_reader.specs.InterfacesAsRead.{interface_as_read}
use Rattle.ios_reader.proofs.interfaces.read_interfaces.Given as goal

abbrev pub invariant-loop-section : goal.invariant-loop-section
invariant-loop-section l = record {
  all : l.all.items ≡ map (interface_as_read l.router) (take l.section-index l.sections);
  faults : l.faults.items ≡ flat_map (interface_faults l.router (option_copied l.tag)) (take l.section-index l.sections);
}
