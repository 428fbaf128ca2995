use Rattle.std.proofs.Common.{◌↔◌, List, Contains, subst}
use Rattle.net_addr.specs.Addresses.{Block}
use Rattle.route_tables.proofs.candidates.Candidates.finish.Goals as goal

pub returns : goal.returns
returns c = λ p.
    subst (λ (l : List Block). Contains c.keep_each_prefix_once.new.prefixes.items p ↔ Contains l p) c.self.view_is
    (c.keep_each_prefix_once.ensures.same p)
