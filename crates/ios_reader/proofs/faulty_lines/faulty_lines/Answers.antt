use Rattle.std.proofs.Common.{List, sym, subst}
use Rattle.ios_lines.specs.declared.fault.Fault.{Fault}
use Rattle.ios_reader.specs.FaultyLines.{AreLeastOnLines}
use Rattle.ios_reader.specs.steps.ToldFaults.{AreFaultsInOrder}
use Rattle.ios_reader.proofs.FaultyLineFacts.{told_in_order}
use Rattle.ios_reader.proofs.faulty_lines.faulty_lines.Goals as goal

pub firsts_on_lines-requires : goal.firsts_on_lines-requires
firsts_on_lines-requires c = subst (λ (fs : List Fault). AreFaultsInOrder fs) (sym c.as_slice.ensures.value) c.in_order-sorted.ensures.sorted

pub returns : goal.returns
returns c =
    told_in_order c.args.faults.items c.in_order-sorted.result.items c.in_ok-told.told.items c.in_order-sorted.ensures.moved
    (subst (λ (fs : List Fault). AreLeastOnLines fs c.in_ok-told.told.items) c.as_slice.ensures.value c.in_ok-told.ensures)
