use Rattle.std.proofs.Common.{◌≡◌, ◌<◌, ◌∙◌, [], ℕ, List, arith, get_or, length, rules, subst}
use Rattle.std.proofs.lemmas.List.{get_or_default}
use Rattle.net_addr.specs.Addresses.{Block}
use Rattle.rib_mix.specs.steps.Homes.{AreHomesBelow, GainHomes}
use Rattle.rib_mix.proofs.HomeLaws.{no_homes_yet, router_next}
use Rattle.rib_mix.proofs.homes.homes_of.Goals as goal

pub loop-router-init : goal.loop-router-init
loop-router-init c = no_homes_yet c.args.prefixes.now c.args.subnets.now c.in_ok-homes.homes.items c.in_ok-homes.ensures

pub loop-router-preserved : goal.loop-router-preserved
loop-router-preserved c =
    let many : c.in-Ok.routers ≡ length c.args.subnets.now = search rules in
    let below : c.loop-router.router < length c.args.subnets.now = omega (arith, c.loop-router-test.true) in
    let own : c.as_slice.result.now ≡ get_or c.args.subnets.now c.loop-router.router [] =
    c.as_slice.ensures ∙ c.index-subnets-router.is
    ∙ get_or_default c.args.subnets.now c.loop-router.router c.index-subnets-router.result [] below in
    router_next c.args.prefixes.now c.args.subnets.now c.loop-router.router c.loop-router.homes.items c.add_homes.new.homes.items
    c.loop-router.invariant
    (subst (λ (ps : List Block). GainHomes c.args.prefixes.now c.loop-router.router ps c.loop-router.homes.items
    c.add_homes.new.homes.items) own
    c.in_ok-add_homes.ensures)

pub returns : goal.returns
returns c =
    let many : c.in-Ok.routers ≡ length c.args.subnets.now = search rules in
    let all : c.loop-router.router ≡ length c.args.subnets.now = omega (
      arith,
      c.loop-router-test.false,
      c.loop-router.auto.router-end,
    ) in
    subst (λ (n : ℕ). AreHomesBelow c.args.prefixes.now c.args.subnets.now n c.loop-router.homes.items) all
    c.loop-router.invariant
