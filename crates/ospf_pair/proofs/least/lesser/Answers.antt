use Rattle.std.proofs.Common.{inr, refl, sym}
use Rattle.net_model.proofs.Names.{same_name}
use Rattle.ospf_pair.proofs.MissingNames.{below_from_greater}
use Rattle.ospf_pair.proofs.least.lesser.Goals as goal

pub returns-in-Greater : goal.returns-in-Greater
returns-in-Greater c = inr (refl, below_from_greater c.args.one.now c.args.other.now (sym c.in-Greater.ensures))

pub returns-in-Equal : goal.returns-in-Equal
returns-in-Equal c = same_name c.args.one.now c.args.other.now (sym c.in-Equal.ensures)
