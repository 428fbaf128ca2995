use Rattle.std.proofs.Common.{◌∙◌, ◌++◌, ap}
use Rattle.printed_lines.specs.Texts.{text_of}
use Rattle.design_file.specs.declared.settled.SettledInterface.{SettledInterface}
use Rattle.isis_writer.specs.RouterLines.{has_old_line, interface_lines}
use Rattle.printed_lines.proofs.TextSteps.{more_of}
use Rattle.isis_writer.proofs.router_lines.with_interfaces.Goals as goal

pub loop-interface-preserved : goal.loop-interface-preserved
loop-interface-preserved c =
    let old = c.args.old.now in
    let x = c.interface-item.result in
    let longer = c.in_ok-longer.ensures
    ∙ ap (λ has. c.loop-interface.longer ++ text_of (interface_lines has x)) (c.has_old_line-has_old.ensures
    ∙ ap (has_old_line old) c.as_slice.ensures) in
    more_of (λ (i : SettledInterface). interface_lines (has_old_line old i.name) i) c.args.interfaces.now c.loop-interface.interface-index x
    c.loop-interface.longer c.in_ok-longer.longer _
    c.loop-interface-test.true c.interface-item.is longer c.loop-interface.invariant
