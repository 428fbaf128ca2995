use Rattle.ospf_routes.proofs.AreaFacts.{runs_other_some, runs_other_none}
use Rattle.ospf_routes.proofs.areas.runs_other.Goals as goal

pub returns-in-Some : goal.returns-in-Some
returns-in-Some c =
    runs_other_some c.args.interface.now c.args.number c.in-Some.area c.in-Some.ensures

pub returns-in-None : goal.returns-in-None
returns-in-None c =
    runs_other_none c.args.interface.now c.args.number c.in-None.ensures
