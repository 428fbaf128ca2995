use Rattle.std.proofs.Common.{arith}
use Rattle.std.proofs.lemmas.Grind.{common_steps}
use Rattle.std.proofs.Common.{◌≡◌, ◌∙◌, Option, Some, ap, length, subst, sym}
use Rattle.std.specs.Borrow.{Bor}
use Rattle.std.specs.Prelude.{IfSome, option_map}
use Rattle.net_model.specs.Network.{Network}
use Rattle.migrate_cli.specs.declared.tables.NewRoutes.TheVariants.{Ospf}
use Rattle.migrate_cli.specs.steps.Tables.{AreNewRoutes, network_move}
use Rattle.migrate_cli.proofs.TableFacts.{isis_tables, redesign_tables}
use Rattle.migrate_cli.proofs.tables.NewRoutes.over.Goals as goal

pub returns-in_ok-build_over-in-None : goal.returns-in_ok-build_over-in-None
returns-in_ok-build_over-in-None c = grind (arith, common_steps, isis_tables)

pub returns-in_ok-build_over-in-Some : goal.returns-in_ok-build_over-in-Some
returns-in_ok-build_over-in-Some c =
    let of = c.args.of.now in
    let new = c.in-Some.net in
    let redesign : Some new.now ≡ of.redesign = ap (option_map (λ (some : Bor Network). some.now)) (sym c.in-Some.is) ∙ c.redesign.ensures.value in
    let routes = c.in_ok-build_over-in-Some.field-0 in
    let same : length new.now ≡ length of.net =
    subst (λ (some : Option (Bor Network)). IfSome some (λ net. length net.now ≡ length of.net)) c.in-Some.is c.redesign.ensures.routers in
    subst (λ (some : Option Network). AreNewRoutes (network_move of.net some) (Ospf routes)) redesign
    (redesign_tables of.net new.now routes same c.in_ok-build_over-in-Some.ensures)
