use Rattle.std.proofs.Common.{length}
use Rattle.explained_changes.proofs.AskedLists.{few_waves}
use Rattle.explained_changes.proofs.earlier.EarlierChanges.reason_line.Goals as goal

pub is_right_behind-requires-clause-waves : goal.is_right_behind-requires-clause-waves
is_right_behind-requires-clause-waves g c =
    few_waves (length c.self.inside.mixed.now.net) c.self.inside.ranks.now c.self.invariant.safe.few c.self.invariant.safe.waves
