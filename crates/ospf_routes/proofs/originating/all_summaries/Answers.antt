use Rattle.std.proofs.Common.{◌≡◌, ℕ, List, arith, length, subst, sym}
use Rattle.net_model.specs.Network.{IsBorderRouter}
use Rattle.ospf_routes.specs.Lists.{Exactly}
use Rattle.ospf_routes.specs.steps.Destinations.{ospf_prefixes}
use Rattle.ospf_routes.specs.steps.Heard.{AreHeardBelow}
use Rattle.ospf_routes.specs.declared.intra_area.Destination.{Destination}
use Rattle.ospf_routes.proofs.originating.all_summaries.Goals as goal

pub keep_summaries-requires-clause-borders : goal.keep_summaries-requires-clause-borders
keep_summaries-requires-clause-borders c =
    subst (λ (l : List ℕ). Exactly (IsBorderRouter c.args.domain.now.net) l) (sym c.as_slice.ensures.value)
    c.in_ok-borders.ensures

pub returns : goal.returns
returns c =
    let domain = c.args.domain.now in
    let ds : List Destination = c.args.destinations.now in
    let k : ℕ = c.loop-place.place in
    let all : k ≡ length ds = omega (arith, c.loop-place-test.false, c.loop-place.invariant.within) in
    subst (λ (n : ℕ). AreHeardBelow domain (ospf_prefixes ds) n c.loop-place.summaries) all c.loop-place.invariant.heard
