use Rattle.std.proofs.Common.{◌≡◌, List, All, map, [], ◌∷◌, ◌++◌, subst}
use Rattle.std.proofs.lemmas.List.{map-append}
use Rattle.std.proofs.lemmas.List.Elements.{All-tail}
use Rattle.net_addr.specs.Addresses.{Block}
use Rattle.route_core.specs.Rows.{IsTable}
use Rattle.route_core.specs.declared.entry.Entry.{Entry}
use Rattle.route_tables.specs.declared.table.RouterNumbers.{RouterNumbers}
use Rattle.route_tables.specs.steps.Sharing.{kept_with}
use Rattle.route_tables.proofs.table.tables_over.Goals as goal

one_more : {X Y : Type 0} (kept : X → Y) (yielded : List X) (own : X) (tables new : List Y) (table : Y) → tables ≡ map kept yielded →
    table ≡ kept own → new ≡ tables ++ table ∷ [] → new ≡ map kept (yielded ++ own ∷ [])
one_more kept yielded own tables new table so_far is pushed = let more = map-append kept yielded (own ∷ []) in cc

pub loop-own-preserved : goal.loop-own-preserved
loop-own-preserved c =
    let prefixes : List Block = c.in_ok-prefixes.prefixes.value.items in
    let entries : List Entry = c.in_ok-entries.entries.value.items in
    let is : RouterNumbers → Type 0 = λ own. IsTable (kept_with prefixes entries own) in
    record {
      tables = one_more (kept_with prefixes entries) c.loop-own.yielded c.in-Some.own c.loop-own.tables.items c.push.new.self.items c.in_ok-of_kinds.field-0
          c.loop-own.invariant.tables c.in_ok-of_kinds.ensures c.in_ok-push.ensures.items;
      rest = All-tail is c.in-Some.own c.next.new.self.rest.items (subst (All is) c.in-Some.ensures.steps.0 c.loop-own.invariant.rest);
    }
