use Rattle.std.proofs.Common.{◌-◌, length}
use Rattle.net_model.specs.Network.{Network}
use Rattle.order_core.specs.Marks.{marked_count}
use Rattle.network_survey.specs.Ports.{IsUpPort, ListsUpPorts}
use Rattle.network_survey.specs.steps.Reached.{AreReachedSoFar}
use Rattle.network_survey.proofs.joined.reach.Given as goal

abbrev pub invariant-loop-router : goal.invariant-loop-router
invariant-loop-router l =
    (net : Network) → ListsUpPorts (IsUpPort net) l.ports → AreReachedSoFar net l.initial.reached l.initial.done → AreReachedSoFar net l.reached l.done

abbrev pub decreases-loop-router : goal.decreases-loop-router
decreases-loop-router l = length l.done - marked_count l.done
