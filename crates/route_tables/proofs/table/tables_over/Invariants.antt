use Rattle.std.proofs.Common.{◌≡◌, All, map}
use Rattle.route_core.specs.Rows.{IsTable}
use Rattle.route_tables.specs.declared.table.RouterNumbers.{RouterNumbers}
use Rattle.route_tables.specs.steps.Sharing.{kept_with}
use Rattle.route_tables.proofs.table.tables_over.Given as goal

abbrev pub invariant-loop-own : goal.invariant-loop-own
invariant-loop-own l = record {
  tables : l.tables.items ≡ map (kept_with l.prefixes.value.items l.entries.value.items) l.yielded;
  rest : All (λ (own : RouterNumbers). IsTable (kept_with l.prefixes.value.items l.entries.value.items own)) l.own-iterator.rest.items;
}
