use Rattle.drawn_network.specs.steps.Originated.IsBetter.{kept, longer_of}
use Rattle.drawn_network.proofs.target.better.Goals as goal

pub returns-in-Some : goal.returns-in-Some
returns-in-Some c = longer_of c.in-Some.prefix c.longer.result c.in-Some.ensures c.longer.ensures

pub returns-in-None : goal.returns-in-None
returns-in-None c = kept c.in-None.ensures
