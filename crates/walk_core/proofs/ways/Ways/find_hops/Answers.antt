use Rattle.std.proofs.lemmas.Grind.{common_steps}
use Rattle.std.proofs.Common.{[], ◌∷◌, ℕ, List, Contains, None, get_or, refl, sym, subst, ◌∙◌, arith}
use Rattle.std.proofs.lemmas.List.{get_or_default}
use Rattle.std.proofs.lemmas.List.Elements.{Contains-get_or}
use Rattle.walk_core.specs.declared.ways.Aim.{Aim}
use Rattle.walk_core.specs.declared.outlets.Outlet.{Outlet}
use Rattle.walk_core.specs.Walks.{walk_cost}
use Rattle.walk_core.specs.steps.Adding.{AddsNumbers}
use Rattle.walk_core.specs.steps.SegmentWalks.{GoesOut, GoesOver, Mesh}
use Rattle.walk_core.proofs.AddingLaws.{adds_to_none, leads_nowhere, leads_more, leads_all}
use Rattle.walk_core.proofs.SegmentHopLaws.{IsWanted, ends_alone, hop_from_outlet, none_nearer, outlet_from_hop}
use Rattle.walk_core.proofs.WalkLaws.{first_hop_has_least_cost}
use Rattle.walk_core.proofs.ways.Ways.find_hops.Goals as goal

pub loop-outlet-init : goal.loop-outlet-init
loop-outlet-init c = grind (arith, common_steps, leads_nowhere)

pub add_hops-requires : goal.add_hops-requires
add_hops-requires c =
    let none : Outlet = record { place = 0; cost = 0; to = None } in
    let aim : Aim = record { vertex = c.args.v; distance = c.in-Some.distance } in
    let outlet : Outlet = get_or c.args.outlets.now c.loop-outlet.outlet-index none in
    let among : Contains c.args.outlets.now outlet = Contains-get_or c.args.outlets.now c.loop-outlet.outlet-index none c.loop-outlet-test.true in
    let wanted : IsWanted c.args.self.now c.args.root c.args.outlets.now aim = record {
      mesh_is = c.requires.mesh;
      root_is = c.requires.root;
      outlets_are = c.requires.outlets;
      away = sym c.distance.ensures ∙ c.in-Some.is;
    } in
    record {
      place = (c.requires.outlets.each outlet among).within;
      vertex = c.requires.vertex;
      near = none_nearer c.args.self.now c.args.root c.args.outlets.now aim outlet wanted among;
      far = ends_alone c.args.self.now c.args.root c.args.outlets.now aim outlet wanted among;
    }

pub loop-outlet-preserved : goal.loop-outlet-preserved
loop-outlet-preserved c =
    let none : Outlet = record { place = 0; cost = 0; to = None } in
    let aim : Aim = record { vertex = c.args.v; distance = c.in-Some.distance } in
    let outlets : List Outlet = c.args.outlets.now in
    let i : ℕ = c.loop-outlet.outlet-index in
    let outlet : Outlet = get_or outlets i none in
    leads_more (GoesOver c.args.self.now aim) outlets i outlet [] c.loop-outlet.found.items c.add_hops.new.found.items c.loop-outlet-test.true
    (get_or_default outlets i outlet none c.loop-outlet-test.true) c.loop-outlet.invariant c.in_ok-add_hops.ensures

pub returns-clause-exact : goal.returns-clause-exact
returns-clause-exact c h =
    let mesh : Mesh = c.args.self.now in
    let aim : Aim = record { vertex = c.args.v; distance = c.in-Some.distance } in
    let outlets : List Outlet = c.args.outlets.now in
    let found : List ℕ = c.loop-outlet.found.items in
    let wanted : IsWanted mesh c.args.root outlets aim = record {
      mesh_is = c.requires.mesh;
      root_is = c.requires.root;
      outlets_are = c.requires.outlets;
      away = sym c.distance.ensures ∙ c.in-Some.is;
    } in
    let adds : AddsNumbers (GoesOut mesh outlets aim) [] found =
    leads_all (GoesOver mesh aim) outlets c.loop-outlet.outlet-index [] found c.loop-outlet-test.false c.loop-outlet.invariant in
    let are = adds_to_none (GoesOut mesh outlets aim) [] found refl adds h in (
      λ has. hop_from_outlet mesh c.args.root outlets aim h wanted (are.0 ((c.put_in_order.ensures.kept h).0 has)),
      λ hop. (c.put_in_order.ensures.kept h).1 (are.1 (outlet_from_hop mesh c.args.root outlets aim h wanted hop)),
    )

pub returns-in_default-clause-exact : goal.returns-in_default-clause-exact
returns-in_default-clause-exact c h = (
  λ has. let no : Contains [] h = subst (λ (l : List ℕ). Contains l h) c.clear.ensures.items has in absurd (omega (arith, no.1)),
  λ hop.
      let cost : ℕ = walk_cost (hop.leg ∷ hop.legs) in
      let some = ((c.requires.mesh.rows.each c.args.root c.requires.root).least.least c.args.v cost).1 (first_hop_has_least_cost hop) in
      let none = sym c.distance.ensures ∙ c.in_default.is in
      absurd (cc (some, none)),
)
