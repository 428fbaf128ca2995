use Rattle.std.proofs.Common.{ℕ, ◌<◌, length}
use Rattle.net_model.specs.steps.Scans.{NonePartner}
use Rattle.net_model.proofs.pairs.first_pair.Given as goal

abbrev pub invariant-loop-one : goal.invariant-loop-one
invariant-loop-one g l = (u : ℕ) → u < l.one → NonePartner (g.C.Clash.clash l.configs u) (length l.configs) u
