-- The names of what is refused of configurations and of their network, as they are printed.
use Rattle.std.specs.Prelude.{ℕ, List, codes}
use Rattle.ios_lines.specs.declared.kind.ReadKind.{ReadKind}
use Rattle.ios_lines.specs.declared.kind.ReadKind.TheVariants.{NoHostname, NoEnd, BadAddress, BadMask, BadCost, BadArea, SecondProcess, Unsupported}
use Rattle.ios_lines.specs.declared.kind.ReadKind.TheVariants.{LoopbackMask, BadNet, BadLevel, BadMetric, BadDistance, DistanceClash, NoBandwidth}
use Rattle.net_model.specs.declared.refusal.LimitWhat.{LimitWhat}
use Rattle.net_model.specs.declared.refusal.LimitWhat.TheVariants.{Routers, Interfaces, Dests}

-- why a line of a configuration is faulty
abbrev pub read_kind_name : ReadKind → List ℕ
read_kind_name NoHostname = codes "NoHostname"
read_kind_name NoEnd = codes "NoEnd"
read_kind_name BadAddress = codes "BadAddress"
read_kind_name BadMask = codes "BadMask"
read_kind_name BadCost = codes "BadCost"
read_kind_name BadArea = codes "BadArea"
read_kind_name SecondProcess = codes "SecondProcess"
read_kind_name Unsupported = codes "Unsupported"
read_kind_name LoopbackMask = codes "LoopbackMask"
read_kind_name BadNet = codes "BadNet"
read_kind_name BadLevel = codes "BadLevel"
read_kind_name BadMetric = codes "BadMetric"
read_kind_name BadDistance = codes "BadDistance"
read_kind_name DistanceClash = codes "DistanceClash"
read_kind_name NoBandwidth = codes "NoBandwidth"

-- what a network has too many of
abbrev pub limit_name : LimitWhat → List ℕ
limit_name Routers = codes "routers"
limit_name Interfaces = codes "interfaces"
limit_name Dests = codes "prefixes"
