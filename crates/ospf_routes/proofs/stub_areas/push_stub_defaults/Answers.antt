use Rattle.net_model.specs.declared.area.Stub.{Stub}
use Rattle.walk_core.specs.declared.offers.Offer.{Offer}
use Rattle.route_tables.proofs.ListFacts.{adds_at, adds_end}
use Rattle.ospf_routes.specs.steps.Summarized.{IsDefault}
use Rattle.ospf_routes.proofs.stub_areas.push_stub_defaults.Goals as goal

pub loop-stub-preserved : goal.loop-stub-preserved
loop-stub-preserved c =
    adds_at (λ (o : Offer) (s : Stub). IsDefault c.args.area c.args.b o s)
    c.args.offers.now.items c.loop-stub.offers.items c.push_option.new.all.items c.args.stubs.now c.loop-stub.stub-index _ c.default_offer.result
    c.loop-stub-test.true c.loop-stub.invariant c.in_ok-push_option.ensures.ok c.default_offer.ensures

pub returns : goal.returns
returns c =
    adds_end (λ (o : Offer) (s : Stub). IsDefault c.args.area c.args.b o s)
    c.args.offers.now.items c.loop-stub.offers.items c.args.stubs.now c.loop-stub.stub-index c.loop-stub-test.false c.loop-stub.invariant
