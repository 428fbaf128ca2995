use Rattle.std.proofs.Common.{subst, sym}
use Rattle.std.proofs.lemmas.Result.{IfOk-weaker}
use Rattle.igp_theory.specs.Migrations.{Migration}
use Rattle.rib_mix.specs.Mixture.{migration_of}
use Rattle.refutation_check.specs.RestVerdicts.{IsRestVerdict, IsStartedVerdict, LeavesNoRestWhereClosed, behind_rest_header, no_rest_header}
use Rattle.refutation_check.specs.steps.Reading.{line_bytes}
use Rattle.refutation_check.proofs.RestFacts.{rest_refutes}
use Rattle.refutation_check.proofs.judge.verify_rest.Goals as goal

pub returns-in-Some-clause-verdict : goal.returns-in-Some-clause-verdict
returns-in-Some-clause-verdict g c =
    let move : Migration = migration_of g.O.RouteSource.table g.N.RouteSource.table c.args.mixed.now in
    let lines = line_bytes c.args.text.now c.in-Some.entries.now in
    IfOk-weaker c.judge_started.result (IsStartedVerdict move lines) (IsRestVerdict move c.args.text.now)
    (λ verdict is. behind_rest_header verdict (record { lines = lines; text_is = c.in-Some.ensures.behind; holds = is })) c.judge_started.ensures

pub returns-in-Some-clause-refutes : goal.returns-in-Some-clause-refutes
returns-in-Some-clause-refutes g c =
    let move : Migration = migration_of g.O.RouteSource.table g.N.RouteSource.table c.args.mixed.now in
    let lines = line_bytes c.args.text.now c.in-Some.entries.now in
    IfOk-weaker c.judge_started.result (IsStartedVerdict move lines) (LeavesNoRestWhereClosed move c.args.text.now)
    (λ verdict is. rest_refutes move c.args.text.now verdict
    (behind_rest_header verdict (record { lines = lines; text_is = c.in-Some.ensures.behind; holds = is })))
    c.judge_started.ensures

pub returns-clause-verdict : goal.returns-clause-verdict
returns-clause-verdict g c =
    let move : Migration = migration_of g.O.RouteSource.table g.N.RouteSource.table c.args.mixed.now in
    subst (IsRestVerdict move c.args.text.now) (sym c.wrong.ensures) (no_rest_header c.in-None.ensures.none)
