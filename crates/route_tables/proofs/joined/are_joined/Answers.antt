use Rattle.route_tables.proofs.JoinedLaws.{joined_by}
use Rattle.route_tables.proofs.ListFacts.{iff_then}
use Rattle.route_tables.proofs.joined.are_joined.Goals as goal

pub returns : goal.returns
returns c = iff_then c.share_segment.ensures (joined_by c.args.segments.now c.args.router c.args.other c.if-router-other.false)
