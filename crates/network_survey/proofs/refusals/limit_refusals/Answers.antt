use Rattle.std.proofs.Common.{◌≤◌, length, sym, subst, arith}
use Rattle.net_model.specs.declared.bounds.TheConstants.{MOST_DESTS, MOST_ROUTERS, MOST_UP_INTERFACES}
use Rattle.net_model.specs.declared.refusal.LimitWhat.TheVariants.{Routers, Interfaces, Dests}
use Rattle.net_model.specs.declared.refusal.NetRefusal.{NetRefusal}
use Rattle.net_model.proofs.RefusalLaws.{CountsDests-unique}
use Rattle.network_survey.specs.AllRefusals.{StandsFor}
use Rattle.network_survey.specs.steps.Kept.{ListsAbove}
use Rattle.network_survey.proofs.KeptFacts.{ListsAbove-first}
use Rattle.network_survey.proofs.SurveyedFacts.{IsChecked-ok, KeepsRefusal-none, ListsAbove-limit}
use Rattle.network_survey.proofs.refusals.limit_refusals.Goals as goal

pub returns-clause-all : goal.returns-clause-all
returns-clause-all c =
    let configs = c.args.configs.now in
    let P : NetRefusal → Type 0 = λ r. StandsFor r configs in
    let up = c.count_interfaces-interfaces.ensures.count in
    let counted = c.in_ok-dests.ensures in
    let l0 = subst (ListsAbove P 0) (sym c.new-found.ensures.items) (ListsAbove-first P 0 (λ r s. omega arith)) in
    let l1 = ListsAbove-limit configs Routers (length configs) MOST_ROUTERS c.check_limit.result c.new-found.result.items c.keep.new.found.items c.check_limit.ensures
    (λ a. a) (λ l n s. omega (arith, l, s.above)) l0 c.in_ok-keep.ensures in
    let l2 = ListsAbove-limit configs Interfaces c.count_interfaces-interfaces.result MOST_UP_INTERFACES c.check_limit-2.result c.keep.new.found.items
    c.keep-2.new.found.items c.check_limit-2.ensures
    (λ a. record { above = omega (arith, a.above, up); number_is = up }) (λ l n s. omega (arith, l, s.above, up)) l1 c.in_ok-keep-2.ensures in
    ListsAbove-limit configs Dests c.in_ok-dests.dests MOST_DESTS c.check_limit-3.result c.keep-2.new.found.items c.keep-3.new.found.items c.check_limit-3.ensures
    (λ a. record { dests = c.in_ok-dests.dests; counted = counted; above = a })
    (λ l n s. omega (arith, l, s.above.above, CountsDests-unique configs s.dests c.in_ok-dests.dests s.counted counted)) l2 c.in_ok-keep-3.ensures

pub returns-clause-within : goal.returns-clause-within
returns-clause-within c none =
    let most3 = KeepsRefusal-none c.check_limit-3.result c.keep-2.new.found.items c.keep-3.new.found.items (c.in_ok-dests.dests ≤ MOST_DESTS) c.in_ok-keep-3.ensures none
    (IsChecked-ok Dests c.in_ok-dests.dests MOST_DESTS c.check_limit-3.result c.check_limit-3.ensures) in
    let most2 = KeepsRefusal-none c.check_limit-2.result c.keep.new.found.items c.keep-2.new.found.items (c.count_interfaces-interfaces.result ≤ MOST_UP_INTERFACES)
    c.in_ok-keep-2.ensures most3.0 (IsChecked-ok Interfaces c.count_interfaces-interfaces.result MOST_UP_INTERFACES c.check_limit-2.result c.check_limit-2.ensures) in
    let most1 = KeepsRefusal-none c.check_limit.result c.new-found.result.items c.keep.new.found.items (length c.args.configs.now ≤ MOST_ROUTERS)
    c.in_ok-keep.ensures most2.0 (IsChecked-ok Routers (length c.args.configs.now) MOST_ROUTERS c.check_limit.result c.check_limit.ensures) in
    record {
      routers = most1.1;
      interfaces = omega (arith, most2.1, c.count_interfaces-interfaces.ensures.count);
      dests = c.in_ok-dests.dests;
      counted = c.in_ok-dests.ensures;
      few = most3.1;
    }
