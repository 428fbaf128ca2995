use Rattle.std.proofs.Common.{◌∙◌, sym}
use Rattle.toml.specs.View.{table_view}
use Rattle.design_file.proofs.AreaLaws.{some_area}
use Rattle.design_file.proofs.reading.said.Goals as goal

pub unreachable-requires : goal.unreachable-requires
unreachable-requires c = some_area (table_view c.args.document.now) c.requires (sym c.in_ok-area.ensures ∙ c.in_default.is)
