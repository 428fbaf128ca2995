use Rattle.std.proofs.Common.{arith}
use Rattle.std.proofs.lemmas.Grind.{common_steps}
use Rattle.std.proofs.Common.{◌≡◌, List, Contains, ap, subst, ◌∙◌}
use Rattle.std.proofs.lemmas.Option.{slice_get_within}
use Rattle.net_addr.specs.Addresses.{Block}
use Rattle.net_addr.specs.LongestMatches.{HasNoMatch, MatchAt}
use Rattle.route_core.specs.steps.Matches.{AreBlocks}
use Rattle.route_core.specs.Rows.{KeptTable, kept_in, listed, row_prefixes, rows_in}
use Rattle.route_core.specs.Tables.{table_prefixes}
use Rattle.route_core.proofs.RowLaws.{if_none_by, prefixes_of_rows, table_rows}
use Rattle.route_core.proofs.TableLaws.{entry_at, longest_stands}
use Rattle.route_core.proofs.table.Table.longest.Goals as goal

-- the prefixes of the rows of the parts are those of the table
same_prefixes : (own kept : KeptTable) → own ≡ kept → row_prefixes own.prefixes (rows_in own) ≡ table_prefixes (listed kept)
same_prefixes own kept same = prefixes_of_rows own.prefixes own.entries (rows_in own) ∙ ap (λ (k : KeptTable). table_prefixes (listed k)) same

pub returns-in_err-found-clause-none : goal.returns-in_err-found-clause-none
returns-in_err-found-clause-none c =
    if_none_by c.from_residual.result (HasNoMatch (Contains (table_prefixes (listed c.args.self.now))) c.args.a)
    (subst (λ (l : List Block). HasNoMatch (Contains l) c.args.a) (same_prefixes (kept_in c.parts.result) c.args.self.now c.parts.ensures.parts)
    c.in_err-found.ensures.cases)

pub returns-clause-found : goal.returns-clause-found
returns-clause-found c =
    let found : MatchAt (table_prefixes (listed c.args.self.now)) c.args.a c.in_ok-found.found =
    subst (λ (l : List Block). MatchAt l c.args.a c.in_ok-found.found) (same_prefixes (kept_in c.parts.result) c.args.self.now c.parts.ensures.parts)
    c.in_ok-found.ensures.cases in
    found.at

pub returns-clause-only : goal.returns-clause-only
returns-clause-only c = λ dest entry.
    let same : row_prefixes c.parts.result.prefixes.now (rows_in (kept_in c.parts.result)) ≡ table_prefixes (listed c.args.self.now) =
    same_prefixes (kept_in c.parts.result) c.args.self.now c.parts.ensures.parts in
    let found : MatchAt (table_prefixes (listed c.args.self.now)) c.args.a c.in_ok-found.found =
    subst (λ (l : List Block). MatchAt l c.args.a c.in_ok-found.found) same c.in_ok-found.ensures.cases in
    longest_stands (listed c.args.self.now) c.args.a c.in_ok-found.found.place dest entry
    (table_rows c.args.self.now c.parts.ensures.table).distinct
    (subst (λ (l : List Block). AreBlocks l c.args.a) same c.longest_match.ensures.blocks)
    found.at

pub returns-clause-within : goal.returns-clause-within
returns-clause-within c = grind (arith, common_steps, entry_at, same_prefixes, slice_get_within)
