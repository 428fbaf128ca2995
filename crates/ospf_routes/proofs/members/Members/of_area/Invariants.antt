use Rattle.ospf_routes.specs.steps.Members.{AreMembersBelow}
use Rattle.ospf_routes.proofs.members.Members.of_area.Given as goal

abbrev pub invariant-loop-u : goal.invariant-loop-u
invariant-loop-u l = AreMembersBelow l.net l.number l.u l.inside.items
