use Rattle.std.proofs.Common.{◌≡◌, ◌∙◌, List, ap, arith, sym, subst}
use Rattle.std.specs.List.{Contains}
use Rattle.net_addr.specs.Addresses.{Block}
use Rattle.ospf_routes.specs.declared.ranges.ActiveRange.{ActiveRange}
use Rattle.ospf_routes.proofs.ranges.ActiveRanges.around.Goals as goal

pub returns : goal.returns
returns c =
    let all : c.as_slice.result.now ≡ c.args.self.now = c.as_slice.ensures.value ∙ c.self.view_is in
    record {
      among = λ s has. subst (λ (l : List ActiveRange). Contains l s) all (c.between.ensures.among s has);
      every = λ s has same.
          let begins = ap (λ (p : Block). p.base) same in
          c.between.ensures.every s (subst (λ (l : List ActiveRange). Contains l s) (sym all) has)
          (omega (arith, begins, c.base.ensures.value)) (omega (arith, begins, c.base-2.ensures.value));
    }
