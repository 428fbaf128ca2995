use Rattle.std.proofs.lemmas.Grind.{common_steps}
use Rattle.std.proofs.Common.{◌+◌, List, length, ap, sym, subst, ◌∙◌, arith}
use Rattle.net_addr.specs.declared.line.Line.{Line}
use Rattle.step_scripts.specs.FaultyLines.{IsLeastFaultyLine}
use Rattle.step_scripts.specs.steps.ReadWaves.{bytes_of_lines}
use Rattle.step_scripts.specs.declared.kind.OrderKind.TheVariants.{Missing}
use Rattle.step_scripts.proofs.LeastFaults.{least_behind}
use Rattle.step_scripts.proofs.NamedWaves.{names_waves, ones, ranking}
use Rattle.step_scripts.proofs.Reading.{count_lines, lines_few}
use Rattle.step_scripts.proofs.waves_reading.read_waves.Goals as goal

pub ranks_of-requires : goal.ranks_of-requires
ranks_of-requires c = grind (arith, common_steps, count_lines, lines_few)

pub overflow_cast-result : goal.overflow_cast-result
overflow_cast-result c = grind (arith, common_steps, lines_few)

pub overflow_add-result : goal.overflow_add-result
overflow_add-result c = grind (arith, common_steps, lines_few)

pub returns-in_default-2-clause-err : goal.returns-in_default-2-clause-err
returns-in_default-2-clause-err c =
    let entries = c.in-Some.ensures.some in
    let missing = rw (c.in_default-2.is, c.routers-routers.ensures.count) at c.in_ok-ranks.ensures in
    let count = count_lines c.args.text.now c.in-Some.version c.in_ok-all.all c.in-Some.entries.now c.in_ok-all.ensures.texts entries in
    subst (λ n. IsLeastFaultyLine c.args.net.now c.args.text.now n Missing) (sym count
    ∙ ap (λ (l : List Line). length l + 1) (sym c.as_slice-in_default-2.ensures))
    (least_behind c.args.net.now c.routers-routers.ensures.network.ascending c.args.text.now c.in-Some.version
    (bytes_of_lines c.args.text.now c.in-Some.entries.now) c.in_ok-seats.seats
    entries.lines c.in_ok-check_ending.ensures.ok missing)

pub from_ranks-requires-clause-ranking : goal.from_ranks-requires-clause-ranking
from_ranks-requires-clause-ranking c = grind (arith, common_steps, ranking)

pub invariant_of-result : goal.invariant_of-result
invariant_of-result c = grind (arith, common_steps, ones)

pub returns-clause-ok : goal.returns-clause-ok
returns-clause-ok c = grind (arith, common_steps, names_waves)
