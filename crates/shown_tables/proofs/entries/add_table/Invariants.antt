use Rattle.std.proofs.Common.{◌≡◌, ◌++◌, take}
use Rattle.std.specs.List.{flat_map}
use Rattle.net_model.specs.RouterNames.{names_of}
use Rattle.route_core.specs.Rows.{kept_in}
use Rattle.shown_tables.specs.TablesTexts.{shown_text}
use Rattle.shown_tables.specs.steps.Places.{shown_at}
use Rattle.shown_tables.proofs.entries.add_table.Given as goal

abbrev pub invariant-loop-placed : goal.invariant-loop-placed
invariant-loop-placed l =
    l.text.items ≡ l.initial.text.items ++ shown_text (names_of l.owner.net.now)
    (flat_map (shown_at l.owner.router l.owner.igp (kept_in l.parts)) (take l.placed-index l.places))
