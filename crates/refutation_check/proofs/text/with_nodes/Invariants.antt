use Rattle.std.proofs.Common.{◌≡◌, ◌++◌, take, map}
use Rattle.net_model.specs.RouterNames.{names_of}
use Rattle.printed_lines.specs.Texts.{text_of}
use Rattle.refutation_check.specs.TreeTexts.{node_line}
use Rattle.refutation_check.proofs.text.with_nodes.Given as goal

abbrev pub invariant-loop-node : goal.invariant-loop-node
invariant-loop-node l = l.text ≡ l.initial.text ++ text_of (map (node_line l.items (names_of l.net)) (take l.node-index l.nodes))
