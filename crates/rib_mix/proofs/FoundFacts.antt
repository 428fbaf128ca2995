-- The rows of a table: what lawful tables keep, and the entry of a row that is found.
use Rattle.std.proofs.Common.{arith}
use Rattle.std.proofs.lemmas.Grind.{common_steps}
use Rattle.std.proofs.Common.{◌≡◌, ℕ, ◌<◌, List, length, map, get_or, Some, All, Contains, slice_get, ap, sym, subst, ◌∙◌}
use Rattle.std.proofs.lemmas.List.{length-map}
use Rattle.std.proofs.lemmas.Option.{same_Some, slice_get-get_or, slice_get-map, slice_get_within, get_or_from_slice_get}
use Rattle.std.specs.Option.{option_map}
use Rattle.net_addr.specs.Addresses.{Block, IsBlock}
use Rattle.route_core.specs.Rows.{Row, kept_in, listed_row, row_prefix, rows_in}
use Rattle.route_core.specs.Tables.{IsListed, table_prefixes}
use Rattle.route_core.specs.declared.entry.Entry.{Entry}
use Rattle.route_core.specs.declared.entry.Entry.TheVariants.{Discard}
use Rattle.route_core.specs.declared.table.TableParts.{TableParts}
use Rattle.route_core.proofs.RowLaws.{prefixes_of_rows}
use Rattle.route_core.proofs.TableLaws.{Contains-from_place, prefix_of_entry}
use Rattle.prefix_atoms.specs.Longest.{number_at}
use Rattle.rib_mix.specs.Sites.{table_of}
use Rattle.rib_mix.specs.steps.Sites.{HasTableRows, IsLawfulTable, prefixes_in}
use Rattle.prefix_atoms.proofs.Pushed.{at_place}
use Rattle.rib_mix.proofs.RowSteps.{lawful_from}

-- the prefixes of the rows are those of the entries
pub rows_prefixes : (parts : TableParts) → prefixes_in parts ≡ table_prefixes (table_of parts)
rows_prefixes parts = prefixes_of_rows parts.prefixes.now parts.entries.now (rows_in (kept_in parts))

-- what the rows of a table keep, whose prefixes are blocks
pub lawful_table : (parts : TableParts) → HasTableRows parts → All IsBlock (prefixes_in parts)
    → IsLawfulTable (table_of parts)
lawful_table parts rows blocks =
    lawful_from (table_of parts) (subst (All IsBlock) (rows_prefixes parts) blocks) rows.distinct

-- the prefixes that a table has entries for are those of its rows
pub prefix_listed : (parts : TableParts) (p : Block) → (e : Entry) × IsListed (table_of parts) p e → Contains (prefixes_in parts) p
prefix_listed parts p listed = grind (arith, common_steps, prefix_of_entry, rows_prefixes)

-- the entry of a row is kept under its number
pub entry_kept : (parts : TableParts) (place number : ℕ) (p : Block) → HasTableRows parts → slice_get (prefixes_in parts) place ≡ Some p
    → number_at (rows_in (kept_in parts)) place ≡ number → (e : Entry) × (slice_get parts.entries.now number ≡ Some e) × IsListed (table_of parts) p e
entry_kept parts place number p rows stands number_is =
    let list : List Row = rows_in (kept_in parts) in
    let many : place < length list = subst (λ (n : ℕ). place < n) (length-map list (row_prefix parts.prefixes.now))
    (slice_get_within (prefixes_in parts) place p stands) in
    let row : (row : Row) × (slice_get list place ≡ Some row) = at_place list place many in
    let dest : row_prefix parts.prefixes.now row.0 ≡ p =
    same_Some (row_prefix parts.prefixes.now row.0) p
    (sym (slice_get-map (row_prefix parts.prefixes.now) list place ∙ ap (option_map (row_prefix parts.prefixes.now)) row.1) ∙ stands) in
    let same : row.0.number ≡ number =
    sym (get_or_from_slice_get (map (λ (r : Row). r.number) list) place row.0.number 0
    (slice_get-map (λ (r : Row). r.number) list place ∙ ap (option_map (λ (r : Row). r.number)) row.1)) ∙ number_is in
    let below : row.0.number < length parts.entries.now =
    subst (λ (r : Row). r.number < length parts.entries.now) (get_or_from_slice_get list place row.0 row.0 row.1) (rows.numbers place row.0 many) in
    let entry : Entry = get_or parts.entries.now row.0.number Discard in
    let listed : IsListed (table_of parts) (row_prefix parts.prefixes.now row.0) entry =
    Contains-from_place (table_of parts) place (row_prefix parts.prefixes.now row.0, entry)
    (slice_get-map (listed_row parts.prefixes.now parts.entries.now) list place ∙ ap (option_map (listed_row parts.prefixes.now parts.entries.now)) row.1) in (
      entry,
      subst (λ (n : ℕ). slice_get parts.entries.now n ≡ Some entry) same (slice_get-get_or parts.entries.now row.0.number Discard below),
      subst (λ (b : Block). IsListed (table_of parts) b entry) dest listed,
    )
