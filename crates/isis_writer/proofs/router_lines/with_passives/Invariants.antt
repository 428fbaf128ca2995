use Rattle.std.proofs.Common.{◌≡◌, ◌++◌, drop}
use Rattle.std.specs.List.{flat_map}
use Rattle.printed_lines.specs.Texts.{text_of}
use Rattle.isis_writer.specs.RouterLines.{passive_lines}
use Rattle.isis_writer.proofs.router_lines.with_passives.Given as goal

abbrev pub invariant-loop-interface : goal.invariant-loop-interface
invariant-loop-interface l =
    l.longer ++ text_of (flat_map passive_lines (drop l.interface-index l.interfaces)) ≡ l.fn.text ++ text_of (flat_map passive_lines l.interfaces)
