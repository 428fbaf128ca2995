use Rattle.std.proofs.Common.{◌<◌, ℕ}
use Rattle.net_model.specs.Configuration.{Configuration}
use Rattle.net_model.specs.Network.{HasConfiguration, MayJoin}
use Rattle.zone_graph.proofs.attachments.group_of.Given as goal

abbrev pub invariant-loop-other : goal.invariant-loop-other
invariant-loop-other l = (w : ℕ) (one own : Configuration) → w < l.other → HasConfiguration l.net w one → HasConfiguration l.net l.router own →
    MayJoin l.zone one own → ⊥
