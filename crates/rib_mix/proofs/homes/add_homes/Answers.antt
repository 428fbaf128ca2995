use Rattle.std.proofs.Common.{arith}
use Rattle.std.proofs.lemmas.Grind.{common_steps}
use Rattle.std.proofs.Common.{◌≡◌, ◌++◌, ◌∷◌, ◌+◌, [], ℕ, List, sym, subst, take, ap, ◌∙◌}
use Rattle.std.proofs.lemmas.List.{take_all, take_more}
use Rattle.net_addr.specs.Addresses.{Block}
use Rattle.rib_mix.specs.steps.Homes.{GainHomes}
use Rattle.rib_mix.proofs.HomeLaws.{home_next, no_gain}
use Rattle.rib_mix.proofs.homes.add_homes.Goals as goal

pub loop-subnet-init : goal.loop-subnet-init
loop-subnet-init c = no_gain c.args.prefixes.now c.args.router c.args.homes.now.items

pub loop-subnet-preserved : goal.loop-subnet-preserved
loop-subnet-preserved c =
    let i : ℕ = c.loop-subnet.subnet-index in
    let p : Block = c.subnet-item.result in
    let subnets : List Block = c.args.subnets.now in
    let more : take (i + 1) subnets ≡ take i subnets ++ p ∷ [] =
    take_more subnets i p c.loop-subnet-test.true ∙ ap (λ (q : Block). take i subnets ++ q ∷ []) (sym c.subnet-item.is) in
    subst (λ (seen : List Block). GainHomes c.args.prefixes.now c.args.router seen c.args.homes.now.items
    c.put_home.new.homes.items) (sym more)
    (home_next c.args.prefixes.now (take i subnets) c.args.router p c.place_of_prefix-place.result c.args.homes.now.items
    c.loop-subnet.homes.items
    c.put_home.new.homes.items c.requires.ascending c.requires.count c.place_of_prefix-place.ensures.found
    (c.place_of_prefix-place.ensures.missed c.requires.ascending) c.in_ok-put_home.ensures c.loop-subnet.invariant)

pub returns : goal.returns
returns c = grind (arith, common_steps, take_all)
