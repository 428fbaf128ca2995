use Rattle.std.proofs.Common.{arith}
use Rattle.std.proofs.lemmas.Grind.{common_steps}
use Rattle.std.proofs.Common.{All, IfOk, List, ap, subst, sym}
use Rattle.std.proofs.lemmas.List.Elements.{All-head, All-tail}
use Rattle.std.proofs.lemmas.Result.{IfOk-weaker, MatchResult-at_err, MatchResult-at_ok}
use Rattle.net_addr.specs.Spans.{LiesIn, bytes_of}
use Rattle.net_addr.specs.declared.line.Line.{Line}
use Rattle.net_model.specs.Network.{Network}
use Rattle.igp_theory.specs.Migrations.{Migration}
use Rattle.igp_theory.specs.declared.phase.Phase.{Phase}
use Rattle.plan_theory.specs.declared.items.Items.TheVariants.{Routers}
use Rattle.rib_mix.specs.Mixture.{migration_of}
use Rattle.refutation_check.specs.RestVerdicts.{IsStartedVerdict, from_start, no_start_line, wrong_start_line}
use Rattle.refutation_check.specs.StartLines.{SaysStart, WrongStart}
use Rattle.refutation_check.specs.TreeLines.{pieces_of}
use Rattle.refutation_check.specs.Verdicts.{IsLinesVerdict}
use Rattle.refutation_check.specs.WrongLines.{IsLowestKind}
use Rattle.refutation_check.specs.steps.Judged.{started_of}
use Rattle.refutation_check.specs.steps.Reading.{line_bytes}
use Rattle.refutation_check.proofs.EntryFacts.{none_left}
use Rattle.refutation_check.proofs.judge.judge_started.Goals as goal

pub read_start-requires-clause-inside : goal.read_start-requires-clause-inside
read_start-requires-clause-inside g c =
    All-head (λ (line : Line). LiesIn c.args.text.now line.span) c.in-Some.line.now c.in-Some.nodes.now
    (subst (All (λ (line : Line). LiesIn c.args.text.now line.span)) c.in-Some.ensures.cases.0 c.requires.inside)

pub judge_from-requires-clause-inside : goal.judge_from-requires-clause-inside
judge_from-requires-clause-inside g c =
    All-tail (λ (line : Line). LiesIn c.args.text.now line.span) c.in-Some.line.now c.in-Some.nodes.now
    (subst (All (λ (line : Line). LiesIn c.args.text.now line.span)) c.in-Some.ensures.cases.0 c.requires.inside)

pub judge_from-requires-clause-each : goal.judge_from-requires-clause-each
judge_from-requires-clause-each g c = grind (arith, common_steps, MatchResult-at_ok)

pub returns-in_default : goal.returns-in_default
returns-in_default g c =
    let move : Migration = migration_of g.O.RouteSource.table g.N.RouteSource.table c.args.mixed.now in
    subst (IsStartedVerdict move (line_bytes c.args.text.now c.args.entries.now)) (sym c.wrong.ensures)
    (no_start_line (ap (line_bytes c.args.text.now) (none_left c.args.entries.now c.in_default.ensures.cases)))

pub returns-in-Err : goal.returns-in-Err
returns-in-Err g c =
    let move : Migration = migration_of g.O.RouteSource.table g.N.RouteSource.table c.args.mixed.now in
    let text = c.args.text.now in
    let words = pieces_of (bytes_of text c.in-Some.line.now.span) in
    let low = MatchResult-at_err (λ start. SaysStart c.net.result.now words start.items)
    (IsLowestKind (WrongStart c.net.result.now words)) c.in-Err.kind c.in-Err.is
    c.in_ok-start.ensures in
    subst (IsStartedVerdict move (line_bytes text c.args.entries.now)) (sym c.wrong-in-Err.ensures)
    (wrong_start_line (bytes_of text c.in-Some.line.now.span) (line_bytes text c.in-Some.nodes.now) c.in-Err.kind
    (ap (line_bytes text) c.in-Some.ensures.cases.0)
    (subst (λ (net : Network). IsLowestKind (WrongStart net words) c.in-Err.kind) c.net.ensures low))

pub returns-in-Ok : goal.returns-in-Ok
returns-in-Ok g c =
    let m = c.args.mixed.now in
    let move : Migration = migration_of g.O.RouteSource.table g.N.RouteSource.table m in
    let text = c.args.text.now in
    let lines = line_bytes text c.in-Some.nodes.now in
    let start : List Phase = c.in-Ok.start.items in
    let words = pieces_of (bytes_of text c.in-Some.line.now.span) in
    let says = MatchResult-at_ok (λ start. SaysStart c.net.result.now words start.items)
    (IsLowestKind (WrongStart c.net.result.now words)) c.in-Ok.start c.in-Ok.is
    c.in_ok-start.ensures in
    let judged = subst (λ (phases : List Phase). IfOk c.judge_from.result
    (IsLinesVerdict Routers (started_of g.O.RouteSource.table g.N.RouteSource.table m phases) 3 lines)) c.as_slice.ensures.value c.judge_from.ensures in
    IfOk-weaker c.judge_from.result (IsLinesVerdict Routers (started_of g.O.RouteSource.table g.N.RouteSource.table m start) 3 lines)
    (IsStartedVerdict move (line_bytes text c.args.entries.now))
    (λ verdict is. from_start start verdict (record {
      line = bytes_of text c.in-Some.line.now.span;
      nodes = lines;
      lines_are = ap (line_bytes text) c.in-Some.ensures.cases.0;
      says = subst (λ (net : Network). SaysStart net words start) c.net.ensures says;
      holds = is;
    }))
    judged
