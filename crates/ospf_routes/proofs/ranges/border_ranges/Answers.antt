use Rattle.std.proofs.Common.{◌∙◌, ◌↔◌, subst, sym, List, take, ap}
use Rattle.std.specs.List.{Contains}
use Rattle.std.proofs.lemmas.List.{take_all}
use Rattle.net_model.specs.Configuration.{Configuration}
use Rattle.net_model.specs.declared.area.Range.{Range}
use Rattle.net_addr.proofs.SomeElement.{one_more}
use Rattle.route_tables.proofs.ListFacts.{contains_at}
use Rattle.ospf_routes.proofs.RangeFacts.{ActivesSoFar, outer_is, actives_more, actives_all, actives_moved}
use Rattle.ospf_routes.proofs.ranges.border_ranges.Goals as goal

pub active_range-requires-clause-outer : goal.active_range-requires-clause-outer
active_range-requires-clause-outer c =
    let given = c.as_slice-ranges.result.now in
    let sorted : List Range = c.as_slice.result.now in
    outer_is c.args.domain.now.net c.args.b c.config.result.now given sorted _ c.config.ensures.router c.requires.border
    (c.as_slice-ranges.ensures ∙ ap (λ (d : Configuration). d.ranges) c.behind-domain.view_is)
    (subst (λ (l : List Range). (r : Range) → Contains l r ↔ Contains given r) (sym c.as_slice.ensures.value) c.in_ok-sorted.ensures.kept)
    (contains_at given c.loop-range.range-index c.range-item.result c.loop-range-test.true c.range-item.is) c.under.ensures.among c.under.ensures.every

pub loop-range-preserved : goal.loop-range-preserved
loop-range-preserved c =
    let r : Range = c.range-item.result in
    subst (λ (l : List Range). ActivesSoFar c.args.domain.now.net c.args.b l c.push_option.new.all.items)
    (one_more c.as_slice-ranges.result.now c.loop-range.range-index r c.loop-range-test.true c.range-item.is)
    (actives_more c.args.domain.now.net c.args.b (take c.loop-range.range-index c.as_slice-ranges.result.now)
    r c.loop-range.all.items c.push_option.new.all.items c.in_ok-active_range.field-0 c.loop-range.invariant c.in_ok-active_range.ensures
    c.in_ok-push_option.ensures.ok)

pub returns : goal.returns
returns c =
    actives_moved c.args.domain.now.net c.args.b c.loop-range.all.items c.sort_by_base.new.all.items c.sort_by_base.ensures.kept
    (actives_all c.args.domain.now.net c.args.b c.config.result.now c.as_slice-ranges.result.now c.loop-range.all.items c.config.ensures.router
    (c.as_slice-ranges.ensures ∙ ap (λ (d : Configuration). d.ranges) c.behind-domain.view_is)
    (subst (λ (l : List Range). ActivesSoFar c.args.domain.now.net c.args.b l c.loop-range.all.items)
    (take_all c.loop-range.range-index c.as_slice-ranges.result.now c.loop-range-test.false) c.loop-range.invariant))
