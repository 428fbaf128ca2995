-- What the values of a design say, and why they are faulty.
use Rattle.std.specs.Prelude.{ℕ, ℤ, pos, negsuc, Bool, ◌&&◌, Option, Some, None, bytes_eq, codes, if◌then◌else◌, length, nat_le, is_some}
use Rattle.ios_lines.specs.IsisLines.{is_area_address}
use Rattle.net_model.specs.declared.bounds.TheConstants.{MOST_METRIC}
use Rattle.net_model.specs.declared.config.Levels.{Levels}
use Rattle.net_model.specs.declared.config.Levels.TheVariants.{One, Two, Both}
use Rattle.toml.specs.Data.{Data, string, integer, boolean, table}
use Rattle.ios_lines.specs.Words.{Word}
use Rattle.design_file.specs.declared.key.Key.{Key}
use Rattle.design_file.specs.declared.key.Key.TheVariants.{Area, Level, Metric, Leak, Passive, Table}
use Rattle.design_file.specs.declared.refusal.DesignKind.{DesignKind}
use Rattle.design_file.specs.declared.refusal.DesignKind.TheVariants.{UnknownKey, WrongKind, BadArea, BadLevel, BadMetric}
use Rattle.design_file.specs.declared.value.TheConstants.{MOST_AREA}

-- an area: two hexadecimal digits, then at most six groups of a dot and four hexadecimal digits
abbrev pub is_area : Word → Bool
is_area word = nat_le (length word) MOST_AREA && is_area_address word

-- the area that a value says
abbrev pub as_area : Data → Option Word
as_area (string word) = if is_area word then Some word else None
as_area _ = None

-- the levels that a word says
abbrev pub levels_named : Word → Option Levels
levels_named word =
    if bytes_eq word (codes "1") then Some One else
    if bytes_eq word (codes "1-2") then Some Both else
    if bytes_eq word (codes "2") then Some Two else
    None

-- the levels that a value says
abbrev pub as_levels : Data → Option Levels
as_levels (string word) = levels_named word
as_levels _ = None

-- the metric that a number is
abbrev pub metric_within : ℤ → Option ℕ
metric_within (pos n) = if nat_le 1 n && nat_le n MOST_METRIC then Some n else None
metric_within (negsuc _) = None

-- the metric that a value says
abbrev pub as_metric : Data → Option ℕ
as_metric (integer number) = metric_within number
as_metric _ = None

-- the truth that a value says
abbrev pub as_flag : Data → Option Bool
as_flag (boolean flag) = Some flag
as_flag _ = None

-- the fault of a value that says nothing
abbrev pub unless : Bool → DesignKind → Option DesignKind
unless good kind = if good then None else Some kind

-- the fault of a value: it is of another kind than its key asks, or it is off its grammar
abbrev pub value_fault : Key → Data → Option DesignKind
value_fault Area (string word) = unless (is_area word) BadArea
value_fault Level (string word) = unless (is_some (levels_named word)) BadLevel
value_fault Metric (integer number) = unless (is_some (metric_within number)) BadMetric
value_fault Leak (boolean _) = None
value_fault Passive (boolean _) = None
value_fault (Table _) (table _) = None
value_fault _ _ = Some WrongKind

-- the fault of an entry: its table has no such key, or its value is faulty
abbrev pub entry_fault : Option Key → Data → Option DesignKind
entry_fault None value = Some UnknownKey
entry_fault (Some key) value = value_fault key value
