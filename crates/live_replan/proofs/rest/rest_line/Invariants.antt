use Rattle.std.proofs.Common.{◌≡◌, codes, take}
use Rattle.net_model.specs.RouterNames.{names_of}
use Rattle.step_scripts.specs.WavesTexts.{named_line}
use Rattle.live_replan.specs.RestTexts.{rest_of}
use Rattle.live_replan.proofs.rest.rest_line.Given as goal

abbrev pub invariant-loop-router : goal.invariant-loop-router
invariant-loop-router l = l.line ≡ named_line (names_of l.net) (codes "wave") (rest_of l.start (take l.router-index l.routers))
