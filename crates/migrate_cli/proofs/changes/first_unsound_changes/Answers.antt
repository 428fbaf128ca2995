use Rattle.std.proofs.Common.{arith}
use Rattle.std.proofs.lemmas.Grind.{common_steps}
use Rattle.std.proofs.Common.{ℕ, List, length, subst, sym}
use Rattle.order_core.specs.Rankings.{KeepsPairs}
use Rattle.ospf_routes.specs.declared.source.OspfRoutes.{OspfRoutes}
use Rattle.plan_theory.specs.Ranked.{change_base}
use Rattle.wave_oracle.proofs.ChangeRankings.{two_waves_keep}
use Rattle.rib_mix.specs.Mixture.{Mixture}
use Rattle.migrate_cli.specs.declared.tables.NewRoutes.{NewRoutes}
use Rattle.migrate_cli.proofs.changes.first_unsound_changes.Goals as goal

pub fault-requires-clause-waves : goal.fault-requires-clause-waves
fault-requires-clause-waves c = grind (arith, common_steps)

pub fault-requires-clause-keeps : goal.fault-requires-clause-keeps
fault-requires-clause-keeps c =
    let n = length c.args.mixed.now.net in
    subst (λ (m : Mixture OspfRoutes NewRoutes). KeepsPairs c.ranks.result.now (change_base (length m.net))) (sym c.in_ok-finder.ensures.mixture)
    (subst (λ (ranks : List ℕ). KeepsPairs ranks (change_base n)) (sym c.ranks.ensures.ranks) (two_waves_keep n c.args.waves.now c.requires.waves))

pub returns-in-None : goal.returns-in-None
returns-in-None c = grind (arith, common_steps)

pub returns : goal.returns
returns c = grind (arith, common_steps)
