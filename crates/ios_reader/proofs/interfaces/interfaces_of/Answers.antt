use Rattle.std.proofs.Common.{arith}
use Rattle.std.proofs.lemmas.Grind.{common_steps}
use Rattle.std.proofs.Common.{◌≡◌}
use Rattle.ios_reader.specs.Routers.{Router, router_with}
use Rattle.ios_reader.specs.Configurations.{interfaces_by}
use Rattle.ios_reader.specs.steps.FaultsBy.{interfaces_faults_by}
use Rattle.ios_reader.proofs.interfaces.interfaces_of.Goals.{In_ok-read}
use Rattle.ios_reader.proofs.interfaces.interfaces_of.Goals as goal

abbrev its_router : (c : In_ok-read) → Router
its_router c = router_with c.statements.inside.process c.statements.inside.ospf.items c.statements.inside.isis.items

router_is : (c : In_ok-read) → c.router_with-router.result ≡ its_router c
router_is c = grind (arith, common_steps)

all_read : (c : In_ok-read) → c.in_ok-read.read.all.items ≡ interfaces_by c.args.statements.now
all_read c = grind (arith, common_steps, router_is)

faults_found : (c : In_ok-read) → c.in_ok-read.read.faults.items ≡ interfaces_faults_by c.args.statements.now
faults_found c = grind (arith, common_steps, router_is)

pub returns-clause-all : goal.returns-clause-all
returns-clause-all c = all_read ((goal.at.returns-clause-all c).In_ok-read)

pub returns-clause-faults : goal.returns-clause-faults
returns-clause-faults c = faults_found ((goal.at.returns-clause-faults c).In_ok-read)
