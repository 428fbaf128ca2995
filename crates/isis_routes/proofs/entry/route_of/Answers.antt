use Rattle.std.proofs.lemmas.Bool.{false≢true}
use Rattle.isis_routes.proofs.entry.route_of.Goals as goal

pub route_away-requires-clause-away : goal.route_away-requires-clause-away
route_away-requires-clause-away c = λ is. false≢true (c.if-is_connected.ensures.1 ((c.requires.announced.one.homes c.args.asked.router).1 is))
