-- Lists of what a relation holds of.
pub use Rattle.route_tables.specs.Lists.{Exactly, Adds}
