use Rattle.std.proofs.Common.{◌≡◌, ◌<◌, ◌↔◌, IsTrue, Some, length, slice_get, arith, refl, subst}
use Rattle.std.proofs.lemmas.Option.{slice_get_read}
use Rattle.net_model.specs.Network.{Connected}
use Rattle.rib_mix.specs.Rows.{AreSubnets}
use Rattle.rib_mix.specs.Mixture.{Mixture}
use Rattle.rib_mix.proofs.MixedLaws.{router_along}
use Rattle.rib_mix.proofs.mixed.Mixed.originates.Goals as goal

pub returns : goal.returns
returns g c =
    let router : c.args.router < length c.self.inside.net.now = router_along _ _ c.args.router c.self.view_is c.requires in
    let within : c.args.router < length c.self.inside.subnets.items = omega
    (arith, router, c.self.invariant.forwarding.subnets_are.count) in
    let at : slice_get c.self.inside.subnets.items c.args.router ≡ Some c.index.result.now =
    slice_get_read c.self.inside.subnets.items (length c.self.inside.subnets.items) c.args.router c.index.result.now refl within c.index.ensures in
    let are : AreSubnets c.self.inside.net.now c.args.router c.index.result.now =
    c.self.invariant.forwarding.subnets_are.each c.args.router c.index.result.now at in
    subst (λ (x : Mixture g.row.O.Denot g.row.N.Denot). IsTrue c.has.result ↔ Connected x.net c.args.router c.args.prefix) c.self.view_is
    (λ is. (are c.args.prefix).0 (c.has.ensures.0 is), λ connected. c.has.ensures.1 ((are c.args.prefix).1 connected))
