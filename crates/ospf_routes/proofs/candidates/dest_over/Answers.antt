use Rattle.std.proofs.Common.{arith}
use Rattle.std.proofs.lemmas.Grind.{common_steps}
use Rattle.std.proofs.Common.{ap, refl, Some}
use Rattle.std.proofs.lemmas.Bool.{false≢true}
use Rattle.std.proofs.lemmas.Option.{none-some, same_Some}
use Rattle.net_addr.proofs.SomeElement.{any_in, any_of}
use Rattle.ospf_routes.specs.steps.Candidates.{IsSubnetUnder}
use Rattle.ospf_routes.proofs.candidates.dest_over.Goals as goal

pub returns-then-has_under : goal.returns-then-has_under
returns-then-has_under c p =
    let r = c.args.range.now in
    let f = any_in (IsSubnetUnder r) c.under-near.result.now (c.if-has_under.ensures.0 refl) in (
      λ same. record {
        dest = same_Some r.dest p same;
        over = any_of (IsSubnetUnder r) c.args.subnets.now f.item (c.under-near.ensures.among f.item f.among) f.holds;
      },
      λ is. ap Some is.dest,
    )

pub returns-else-has_under : goal.returns-else-has_under
returns-else-has_under c p = grind (arith, common_steps, any_in, any_of, false≢true, none-some)
