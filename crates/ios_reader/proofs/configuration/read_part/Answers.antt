use Rattle.std.proofs.Common.{◌≡◌, List, [], map, refl, sym, ap, ◌∙◌}
use Rattle.ios_lines.specs.declared.fault.Fault.{Fault}
use Rattle.ios_sections.specs.Sections.{first_number, sections_in}
use Rattle.ios_sections.specs.Statements.{statements_of}
use Rattle.ios_reader.specs.Faults.{fault_further}
use Rattle.ios_reader.specs.steps.FaultsBy.{faults_by}
use Rattle.ios_reader.specs.steps.Parts.{part_at}
use Rattle.ios_reader.proofs.ReadFacts.{ends_in, part_kept, part_made, part_faulty}
use Rattle.ios_reader.proofs.configuration.read_part.Goals as goal

pub config_of-requires-clause-kept : goal.config_of-requires-clause-kept
config_of-requires-clause-kept c =
    let said : c.in_ok-statements.statements ≡ statements_of (sections_in (part_at c.args.lines.now c.args.ends)) =
    c.in_ok-statements.ensures ∙ ap statements_of c.in_ok-sections.ensures in
    let found : c.in_ok-found.found.items ≡ faults_by c.in_ok-statements.statements (ends_in (part_at c.args.lines.now c.args.ends)) =
    c.in_ok-found.ensures ∙ ap (faults_by c.in_ok-statements.statements) c.counted_ends-ends.ensures in
    let none : c.in_ok-found.found.items ≡ [] = sym c.as_slice-4.ensures.value ∙ c.are_none.ensures.0 c.if-are_none.true in
    part_kept (part_at c.args.lines.now c.args.ends) c.in_ok-statements.statements said (sym found ∙ none)

pub returns-then-are_none : goal.returns-then-are_none
returns-then-are_none c =
    let said : c.in_ok-statements.statements ≡ statements_of (sections_in (part_at c.args.lines.now c.args.ends)) =
    c.in_ok-statements.ensures ∙ ap statements_of c.in_ok-sections.ensures in
    let found : c.in_ok-found.found.items ≡ faults_by c.in_ok-statements.statements (ends_in (part_at c.args.lines.now c.args.ends)) =
    c.in_ok-found.ensures ∙ ap (faults_by c.in_ok-statements.statements) c.counted_ends-ends.ensures in
    let none : c.in_ok-found.found.items ≡ [] = sym c.as_slice-4.ensures.value ∙ c.are_none.ensures.0 c.if-are_none.true in
    part_made (part_at c.args.lines.now c.args.ends) c.in_ok-statements.statements _ c.in_ok-config.config said (sym found ∙ none)
    c.in_ok-config.ensures refl none

pub returns : goal.returns
returns c =
    let said : c.in_ok-statements.statements ≡ statements_of (sections_in (part_at c.args.lines.now c.args.ends)) =
    c.in_ok-statements.ensures ∙ ap statements_of c.in_ok-sections.ensures in
    let found : c.in_ok-found.found.items ≡ faults_by c.in_ok-statements.statements (ends_in (part_at c.args.lines.now c.args.ends)) =
    c.in_ok-found.ensures ∙ ap (faults_by c.in_ok-statements.statements) c.counted_ends-ends.ensures in
    part_faulty (part_at c.args.lines.now c.args.ends) c.in_ok-statements.statements _ c.in_ok-found.found.items said found
    (λ e. let empty = c.are_none.ensures.1 (c.as_slice-4.ensures.value ∙ e) in let some = c.if-are_none.false in cc)
    (c.in_ok-faults_in_text.ensures
    ∙ ap (λ (fs : List Fault). map (fault_further (first_number c.args.lines.now)) fs) c.as_slice-5.ensures.value)
