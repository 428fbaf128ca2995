use Rattle.std.proofs.Common.{◌≡◌, ◌∙◌, List, sym, subst}
use Rattle.std.specs.List.{Contains}
use Rattle.ospf_routes.specs.declared.subnets.Subnet.{Subnet}
use Rattle.ospf_routes.proofs.subnets.Subnets.under.Goals as goal

pub returns : goal.returns
returns c =
    let all : c.as_slice.result.now ≡ c.args.self.now = c.as_slice.ensures.value ∙ c.self.view_is in
    record {
      among = λ s has. subst (λ (l : List Subnet). Contains l s) all (c.under.ensures.among s has);
      every = λ s has covers. c.under.ensures.every s (subst (λ (l : List Subnet). Contains l s) (sym all) has) covers;
    }
