use Rattle.std.proofs.Common.{arith}
use Rattle.std.proofs.lemmas.Grind.{common_steps}
use Rattle.std.proofs.Common.{◌∙◌, sym}
use Rattle.std.proofs.lemmas.Result.{IfOk-weaker}
use Rattle.igp_theory.specs.Migrations.{listed_migration}
use Rattle.ospf_routes.specs.RouteTables.{table_at}
use Rattle.plan_theory.specs.Plans.{fault_told}
use Rattle.explained_texts.specs.FaultPlaces.{span_of}
use Rattle.explained_texts.specs.WayTexts.{IsWayText}
use Rattle.migrate_cli.specs.steps.Tables.{move_of, new_table}
use Rattle.migrate_cli.proofs.ExplainedFacts.{given_mixed, stands_given, way_of}
use Rattle.migrate_cli.proofs.why.fault_way.Goals as goal

pub way_text-requires-clause-net : goal.way_text-requires-clause-net
way_text-requires-clause-net c = c.requires.mixes.net_is ∙ sym c.sources-sources.ensures.net

pub way_text-requires-clause-old : goal.way_text-requires-clause-old
way_text-requires-clause-old c = grind (arith, common_steps)

pub way_text-requires-clause-new : goal.way_text-requires-clause-new
way_text-requires-clause-new c = grind (arith, common_steps)

pub way_text-requires-clause-same : goal.way_text-requires-clause-same
way_text-requires-clause-same c =
    let sources = c.sources-sources.result in
    given_mixed c.args.tables.now c.args.mixed.now c.requires.mixes sources.old.now sources.new.now c.sources-sources.ensures.tables sources.net.now
    c.sources-sources.ensures.net

pub way_text-requires-clause-fault : goal.way_text-requires-clause-fault
way_text-requires-clause-fault c = grind (arith, common_steps, stands_given)

pub returns : goal.returns
returns c =
    let sources = c.sources-sources.result in
    let span = span_of c.args.place in
    let fault = fault_told c.args.fault.now in
    IfOk-weaker c.way_text.result (IsWayText (listed_migration sources.net.now (table_at sources.old.now) (new_table sources.new.now)) span fault)
    (IsWayText (move_of c.args.tables.now) span fault)
    (λ text is. way_of c.args.tables.now c.args.mixed.now c.requires.mixes sources.old.now sources.new.now c.sources-sources.ensures.tables sources.net.now
    span fault text c.sources-sources.ensures.net is) c.way_text.ensures
