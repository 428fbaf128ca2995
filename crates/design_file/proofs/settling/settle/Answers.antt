use Rattle.std.proofs.Common.{arith}
use Rattle.std.proofs.lemmas.Grind.{common_steps}
use Rattle.std.proofs.Common.{List, Some, subst}
use Rattle.design_file.specs.steps.FaultLists.{IsToldAmong}
use Rattle.design_file.specs.declared.fault.Fault.{Fault}
use Rattle.design_file.proofs.AnswerLaws.{design_refused, settles_for}
use Rattle.design_file.proofs.FitLaws.{settled_fits}
use Rattle.design_file.proofs.settling.settle.Goals as goal

pub returns-in-Some-clause-err : goal.returns-in-Some-clause-err
returns-in-Some-clause-err c =
    let faults = c.in_ok-network_faults.ensures in
    design_refused c.args.design.now c.args.net.now c.in-Some.fault faults.network
    (subst (λ (l : List Fault). IsToldAmong l (Some c.in-Some.fault)) faults.faults c.in-Some.ensures)

pub returns-in_ok-settled_routers-in-None-clause-ok : goal.returns-in_ok-settled_routers-in-None-clause-ok
returns-in_ok-settled_routers-in-None-clause-ok c = grind (arith, common_steps, settles_for)

pub returns-in_ok-settled_routers-in-None-clause-fits : goal.returns-in_ok-settled_routers-in-None-clause-fits
returns-in_ok-settled_routers-in-None-clause-fits c = grind (arith, common_steps, settled_fits, settles_for)
