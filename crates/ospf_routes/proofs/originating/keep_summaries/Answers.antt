use Rattle.std.proofs.Common.{◌∙◌, ℕ, List, Option, length, get_or, ap, subst, sym}
use Rattle.std.proofs.lemmas.Result.{on_ok_weaker}
use Rattle.std.specs.Option.{IfSome}
use Rattle.net_addr.specs.Addresses.{Block}
use Rattle.ospf_routes.specs.steps.Destinations.{ospf_prefixes}
use Rattle.ospf_routes.specs.steps.Heard.{AddsRow, IsSummaryRow}
use Rattle.ospf_routes.specs.steps.Siblings.{IsEarlierSibling}
use Rattle.ospf_routes.specs.steps.Summarized.{AreSummarized}
use Rattle.ospf_routes.specs.declared.intra_area.Destination.{Destination}
use Rattle.ospf_routes.proofs.HeardFacts.{heard_more}
use Rattle.ospf_routes.proofs.SiblingLaws.{sibling_row}
use Rattle.ospf_routes.proofs.SummaryFacts.{backbone_are}
use Rattle.ospf_routes.proofs.TwinFacts.{destination_read}
use Rattle.ospf_routes.proofs.originating.keep_summaries.Goals as goal

pub earlier-requires-clause-leaving : goal.earlier-requires-clause-leaving
earlier-requires-clause-leaving c =
    let net = c.args.boundary.domain.now.net in
    let d : Destination = get_or c.args.boundary.destinations.now c.args.place c.index-boundary-place.result in
    record {
      destination = c.requires.destinations.each c.args.place c.index-boundary-place.result c.requires.place;
      routes = subst (AreSummarized net d.dest) (sym c.as_slice-2.ensures.value) c.in_ok-put_summarized.ensures;
      backbone = backbone_are net d.dest c.put_summarized.new.routes.items c.as_slice.result.now c.put_outside.new.offers.items
          c.as_slice-3.result.now c.in_ok-put_summarized.ensures c.as_slice.ensures.value c.in_ok-put_outside.ensures
          c.as_slice-3.ensures.value;
      ranged = λ u is. c.has.ensures.1 (c.requires.ranged d.dest u is);
    }

pub keep_into_areas-requires-clause-leaving : goal.keep_into_areas-requires-clause-leaving
keep_into_areas-requires-clause-leaving c =
    let net = c.args.boundary.domain.now.net in
    let d : Destination = get_or c.args.boundary.destinations.now c.args.place c.index-boundary-place.result in
    record {
      destination = c.requires.destinations.each c.args.place c.index-boundary-place.result c.requires.place;
      routes = subst (AreSummarized net d.dest) (sym c.as_slice-2.ensures.value) c.in_ok-put_summarized.ensures;
      backbone = backbone_are net d.dest c.put_summarized.new.routes.items c.as_slice.result.now c.put_outside.new.offers.items
          c.as_slice-3.result.now c.in_ok-put_summarized.ensures c.as_slice.ensures.value c.in_ok-put_outside.ensures
          c.as_slice-3.ensures.value;
      ranged = λ u is. c.has.ensures.1 (c.requires.ranged d.dest u is);
    }

pub returns-in-Some-clause-heard : goal.returns-in-Some-clause-heard
returns-in-Some-clause-heard c =
    let domain = c.args.boundary.domain.now in
    let dests : List Block = ospf_prefixes c.args.boundary.destinations.now in
    let s : IsEarlierSibling domain.net dests c.args.place c.in-Some.earlier =
    subst (λ (found : Option ℕ). IfSome found (IsEarlierSibling domain.net dests c.args.place)) c.in-Some.is
    c.in_ok-earlier.ensures.sibling in
    on_ok_weaker c.keep_again.result (λ row. heard_more domain dests c.args.place c.args.summaries.now c.keep_again.new.summaries
    c.requires.heard
    (sibling_row domain dests c.args.summaries.now c.keep_again.new.summaries c.args.place c.in-Some.earlier s c.requires.heard
    row)) c.keep_again.ensures

pub returns-in-None-clause-heard : goal.returns-in-None-clause-heard
returns-in-None-clause-heard c =
    let domain = c.args.boundary.domain.now in
    let ds : List Destination = c.args.boundary.destinations.now in
    let d : Destination = c.index-boundary-place.result in
    let read = destination_read domain ds c.args.place d c.requires.destinations c.requires.place c.index-boundary-place.is in
    on_ok_weaker c.keep_into_areas.result (λ row.
    heard_more domain (ospf_prefixes ds) c.args.place c.args.summaries.now c.keep_into_areas.new.summaries c.requires.heard
    (subst (λ (p : Block). AddsRow (IsSummaryRow domain p (length domain.areas)) c.args.summaries.now
    c.keep_into_areas.new.summaries)
    (ap (λ (x : Destination). x.dest) (sym c.index-boundary-place.is) ∙ read.prefix) row)) c.keep_into_areas.ensures
