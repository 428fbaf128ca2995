use Rattle.std.proofs.Common.{rules, ◌≡◌, ℕ, List}
use Rattle.igp_theory.specs.States.{state_of}
use Rattle.igp_theory.specs.declared.phase.Phase.{Phase}
use Rattle.ios_sections.specs.TextLines.{lines_in, parts_of}
use Rattle.applied_changes.specs.NamedPhases.{phase_named}
use Rattle.applied_changes.specs.steps.AppliedParts.{applied_parts}
use Rattle.applied_changes.proofs.PartFacts.{reads_by_parts}
use Rattle.applied_changes.proofs.applied.apply.Goals as goal

pub returns-clause-reads : goal.returns-clause-reads
returns-clause-reads c =
    let phases : List ℕ → Phase = phase_named c.args.net.now (state_of c.args.order.now c.args.changes) in
    let text : List ℕ = c.args.text.now in
    let made : c.from_vec.result ≡ applied_parts phases text 0 (parts_of (lines_in text)) = search rules in
    reads_by_parts phases text c.from_vec.result made
