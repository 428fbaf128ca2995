use Rattle.failed_links.proofs.DownFacts.{KeepsRouters-all, KeepsStarts-all, StandsOrIsRefused-all}
use Rattle.failed_links.proofs.laws.down_laws.Goals as goal

pub returns : goal.returns
returns c = record { routers = KeepsRouters-all; starts = KeepsStarts-all; decided = StandsOrIsRefused-all }
