use Rattle.std.proofs.Common.{arith, get_or}
use Rattle.walk_core.specs.declared.offers.Offer.{Offer}
use Rattle.ospf_routes.proofs.LaneLaws.{one_alone}
use Rattle.ospf_routes.proofs.lanes.few.Goals as goal

pub returns-in-len1 : goal.returns-in-len1
returns-in-len1 c =
    let o : Offer = record { at = 0; asks = 0 } in
    ((get_or c.args.offers.now 0 o).asks, one_alone c.args.offers.now o (omega (arith, c.in-len1.len_at_least)) (omega (arith, c.in-len1.len_below)))
