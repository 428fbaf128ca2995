use Rattle.std.proofs.Common.{◌≡◌, ◌++◌, drop}
use Rattle.std.specs.List.{flat_map}
use Rattle.printed_lines.specs.Texts.{text_of}
use Rattle.design_file.specs.declared.settled.SettledInterface.{SettledInterface}
use Rattle.isis_writer.specs.RouterLines.{has_old_line, interface_lines}
use Rattle.isis_writer.proofs.router_lines.with_interfaces.Given as goal

abbrev pub invariant-loop-interface : goal.invariant-loop-interface
invariant-loop-interface l =
    l.longer ++ text_of (flat_map (λ (i : SettledInterface). interface_lines (has_old_line l.old i.name) i) (drop l.interface-index l.interfaces))
    ≡ l.fn.text ++ text_of (flat_map (λ (i : SettledInterface). interface_lines (has_old_line l.old i.name) i) l.interfaces)
