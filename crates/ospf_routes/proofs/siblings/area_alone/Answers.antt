use Rattle.std.proofs.Common.{arith, refl}
use Rattle.std.proofs.lemmas.Bool.{false≢true}
use Rattle.std.proofs.lemmas.Option.{IfSome_then}
use Rattle.ospf_routes.proofs.SiblingLaws.{one_area}
use Rattle.ospf_routes.proofs.siblings.area_alone.Goals as goal

pub returns : goal.returns
returns c =
    IfSome_then c.only_area.result c.only_area.ensures (λ n one.
    one_area c.args.boundary.domain.now.net c.args.leaving.destination.now n c.requires.leaving.destination.is one
    (λ all. false≢true (c.if-is_all_addresses.ensures.1 all))
    (λ q u active. let has = c.requires.ranged q u active in omega (arith, has.1, c.if-not-is_empty.ensures.0 refl)))
