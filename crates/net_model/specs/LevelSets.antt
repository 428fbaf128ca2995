-- Which levels of IS-IS are among those that a router or an interface runs.
use Rattle.std.specs.Prelude.{Bool, false, true}
use Rattle.net_model.specs.declared.config.Levels.{Levels}
use Rattle.net_model.specs.declared.config.Levels.TheVariants.{One, Two, Both}

-- level 1 is among them
abbrev pub has_level_one : Levels → Bool
has_level_one One = true
has_level_one Two = false
has_level_one Both = true

-- level 2 is among them
abbrev pub has_level_two : Levels → Bool
has_level_two One = false
has_level_two Two = true
has_level_two Both = true
