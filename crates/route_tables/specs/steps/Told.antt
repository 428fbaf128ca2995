-- What the leads of a router tell of its entries for the prefixes of a kind.
use Rattle.std.specs.Prelude.{◌<◌, ℕ, Option, length, slice_index_or}
use Rattle.route_tables.specs.declared.lane.Decision.TheVariants.{Unknown}
use Rattle.route_tables.specs.declared.table.LedLane.{LedLane}
use Rattle.route_tables.specs.steps.Kinds.{open_behind}
use Rattle.route_tables.specs.steps.Leads.{IsTold, IsToldBeyond}

-- they tell this number by what decides for the kind, or by what decides behind that
pub data IsToldOfKind (led : LedLane) (kind : ℕ) (number : Option ℕ) : Type 0 where
  told_first : IsTold led.leads.now led.lane.router (slice_index_or led.lane.decisions.now kind Unknown) number → IsToldOfKind led kind number
  told_beyond : kind < length led.lane.behind.now →
      IsToldBeyond led.leads.now led.behind.now led.lane.router (slice_index_or led.lane.behind.now kind open_behind) number →
      IsToldOfKind led kind number
