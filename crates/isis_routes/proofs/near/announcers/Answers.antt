use Rattle.std.proofs.Common.{◌≡◌, ◌∙◌, ◌<◌, ℕ, List, [], ap, arith, get_or, length, refl, subst, sym}
use Rattle.std.proofs.lemmas.List.{get_or_default}
use Rattle.isis_routes.specs.steps.Near.{AreNearOfBoth}
use Rattle.isis_routes.proofs.Announced.{all_announce, near_announce, none_announce}
use Rattle.isis_routes.proofs.near.announcers.Goals as goal

pub returns-then-has_no_offers : goal.returns-then-has_no_offers
returns-then-has_no_offers c = none_announce c.args.domain.now.net c.args.one.now c.requires.one (c.if-has_no_offers.ensures.0 refl)

pub returns-in_default : goal.returns-in_default
returns-in_default c = all_announce c.args.domain.now.net c.args.one.now.dest c.both.result.now c.both.ensures

pub returns-then-at-routers : goal.returns-then-at-routers
returns-then-at-routers c =
    let net = c.args.domain.now.net in
    let near : List (List ℕ) = c.args.near.now in
    let at = c.in-Some.at in
    let count : c.routers.result ≡ length net = c.routers.ensures.count ∙ ap length c.net.ensures.is in
    let within : at < length net = omega arith in
    let same : c.as_slice.result.now ≡ get_or near at [] = c.as_slice.ensures ∙ (c.index-near-at.is
    ∙ get_or_default near at c.index-near-at.result [] (omega (arith, c.requires.near.count))) in
    near_announce net c.args.one.now at c.as_slice.result.now c.requires.one c.in-Some.ensures
    (subst (AreNearOfBoth net at) (sym same) (c.requires.near.each at within))

pub returns-else-at-routers : goal.returns-else-at-routers
returns-else-at-routers c = all_announce c.args.domain.now.net c.args.one.now.dest c.both-else-at-routers.result.now c.both-else-at-routers.ensures
