use Rattle.std.proofs.Common.{not, sym, ap}
use Rattle.ios_sections.proofs.TableFacts.{named, not_named}
use Rattle.ios_sections.proofs.gather.place_among.Goals as goal

pub returns-in-Some-clause-place : goal.returns-in-Some-clause-place
returns-in-Some-clause-place c = (named c.args.interfaces.now c.args.name.now c.in-Some.place (sym c.in-Some.ensures)).0

pub returns-in-Some-clause-added : goal.returns-in-Some-clause-added
returns-in-Some-clause-added c = sym (ap not (named c.args.interfaces.now c.args.name.now c.in-Some.place (sym c.in-Some.ensures)).1)

pub returns-in-None-clause-place : goal.returns-in-None-clause-place
returns-in-None-clause-place c = (not_named c.args.interfaces.now c.args.name.now (sym c.in-None.ensures)).0

pub returns-in-None-clause-added : goal.returns-in-None-clause-added
returns-in-None-clause-added c = sym (ap not (not_named c.args.interfaces.now c.args.name.now (sym c.in-None.ensures)).1)
