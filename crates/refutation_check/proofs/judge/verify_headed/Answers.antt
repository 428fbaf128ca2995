use Rattle.std.proofs.Common.{arith}
use Rattle.std.proofs.lemmas.Grind.{common_steps}
use Rattle.std.proofs.Common.{◌≡◌, ℕ, List, [], ◌∷◌, subst, sym, ◌∙◌}
use Rattle.std.proofs.lemmas.List.{length-replicate}
use Rattle.std.proofs.lemmas.Result.{IfOk-weaker}
use Rattle.net_addr.specs.Lines.{line_texts}
use Rattle.igp_theory.specs.Migrations.{Migration}
use Rattle.rib_mix.specs.Mixture.{migration_of}
use Rattle.refutation_check.specs.Verdicts.{IsHeadedVerdict, IsLinesVerdict, header_missing, tree_header_of}
use Rattle.refutation_check.specs.steps.Judged.{started_of}
use Rattle.refutation_check.specs.steps.Reading.{StandBehind, line_bytes}
use Rattle.refutation_check.proofs.Heads.{headed_verdict, old_started}
use Rattle.refutation_check.proofs.judge.verify_headed.Goals as goal

pub returns-in_default-clause-verdict : goal.returns-in_default-clause-verdict
returns-in_default-clause-verdict g c =
    let move : Migration = migration_of g.O.RouteSource.table g.N.RouteSource.table c.args.mixed.now in
    let header = tree_header_of c.args.items in
    let none : (lines : List (List ℕ)) → ¬ (line_texts c.args.text.now ≡ header ∷ lines) =
    subst (λ (h : List ℕ). (lines : List (List ℕ)) → ¬ (line_texts c.args.text.now ≡ h ∷ lines)) c.header_of.ensures c.in_default.ensures.none in
    subst (IsHeadedVerdict c.args.items header move c.args.text.now) (sym c.wrong.ensures) (header_missing none)

pub invariant_of-asked : goal.invariant_of-asked
invariant_of-asked g c = grind (arith, common_steps, length-replicate)

pub returns-clause-verdict : goal.returns-clause-verdict
returns-clause-verdict g c =
    let m = c.args.mixed.now in
    let move : Migration = migration_of g.O.RouteSource.table g.N.RouteSource.table m in
    let items = c.args.items in
    let text = c.args.text.now in
    let header = tree_header_of items in
    let entries = c.in-Some.entries.now in
    let lines = line_bytes text entries in
    let start = c.as_slice-2.result.now in
    let begun : Migration = started_of g.O.RouteSource.table g.N.RouteSource.table m start in
    let behind : StandBehind (header ∷ []) text entries =
    subst (λ (h : List ℕ). StandBehind (h ∷ []) text entries) c.header_of.ensures c.in-Some.ensures.behind in
    let same : begun ≡ move = old_started g.O.RouteSource.table g.N.RouteSource.table m start c.routers.result
    (c.as_slice-2.ensures.value ∙ c.in_ok-start.ensures) in
    IfOk-weaker c.judge_lines.result (IsLinesVerdict items begun 2 lines) (IsHeadedVerdict items header move text)
    (λ verdict is. headed_verdict items header move text lines verdict behind (subst (λ (v : Migration). IsLinesVerdict items v 2 lines verdict) same is))
    c.judge_lines.ensures
