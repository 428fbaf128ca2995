-- The lines of `router isis` that have a meaning, what they say, and why they are faulty.
use Rattle.std.specs.Prelude.{ℕ, ◌+◌, ◌-◌, ◌*◌, ◌%◌, ◌^◌, Bool, true, false, ◌&&◌, ◌||◌, List, [], ◌∷◌, Option, Some, None, Result, Ok, Err, length, take}
use Rattle.std.specs.Prelude.{drop, codes, if◌then◌else◌, nat_eq, nat_le, bytes_eq, slice_index}
use Rattle.std.specs.Char.{is_ascii_digit}
use Rattle.ios_lines.specs.Words.{Word, word_at, says, begins_with_two, begins_with_three, lacks, number_from, levels_of, is_dot}
use Rattle.ios_lines.specs.InterfaceLines.{fault_in}
use Rattle.net_model.specs.declared.bounds.TheConstants.{ISIS_DISTANCE, MOST_DISTANCE, MOST_METRIC}
use Rattle.ios_lines.specs.declared.kind.ReadKind.{ReadKind}
use Rattle.ios_lines.specs.declared.kind.ReadKind.TheVariants.{Unsupported, BadNet, BadMetric, BadDistance}
use Rattle.ios_lines.specs.declared.title.Title.{Title}
use Rattle.ios_lines.specs.declared.isis_line.IsisLine.{IsisLine}
use Rattle.ios_lines.specs.declared.isis_line.IsisLine.TheVariants.{Net, Levels as LevelsLine, MetricStyle, Metric, Distance, Passive, Leak, Faulty, Skipped}

-- a hexadecimal digit, a letter of it small or capital
abbrev pub is_hex : ℕ → Bool
is_hex b = is_ascii_digit b || (nat_le 65 b && nat_le b 70) || (nat_le 97 b && nat_le b 102)

-- what a hexadecimal digit stands for, 0 for any other byte
abbrev pub hex_value : ℕ → ℕ
hex_value b =
    if is_ascii_digit b then b - 48 else
    if nat_le 65 b && nat_le b 70 then b - 55 else
    if nat_le 97 b && nat_le b 102 then b - 87 else
    0

-- the four hexadecimal digits from a place on as one number
abbrev pub group_value : Word → ℕ → ℕ
group_value word k =
    4096 * hex_value (slice_index word k) + 256 * hex_value (slice_index word (k + 1)) + 16 * hex_value (slice_index word (k + 2))
    + hex_value (slice_index word (k + 3))

-- a byte at a place of a group: a dot, then four hexadecimal digits
abbrev pub is_grouped : ℕ → ℕ → Bool
is_grouped place b = if nat_eq place 0 then is_dot b else is_hex b

-- groups of a dot and four hexadecimal digits, from this place in a group on
abbrev pub grouped_from : ℕ → List ℕ → Bool
grouped_from place [] = nat_eq place 0
grouped_from place (b ∷ bs) = is_grouped place b && grouped_from ((place + 1) % 5) bs

-- an area address: two hexadecimal digits, then groups
abbrev pub is_area_address : List ℕ → Bool
is_area_address (a ∷ b ∷ groups) = is_hex a && is_hex b && grouped_from 0 groups
is_area_address _ = false

-- a title without its selector, the last three bytes
abbrev pub front_part : Word → List ℕ
front_part word = take (length word - 3) word

-- the system id of a title: the three groups before its selector
abbrev pub system_part : Word → List ℕ
system_part word = drop (length (front_part word) - 15) (front_part word)

-- the area address of a title: what stands before its system id
abbrev pub area_part : Word → List ℕ
area_part word = take (length (front_part word) - 15) (front_part word)

-- the system id as a number
abbrev pub system_value : List ℕ → ℕ
system_value groups = 2 ^ 32 * group_value groups 1 + 2 ^ 16 * group_value groups 6 + group_value groups 11

-- a title: an area address with at most six groups, three groups of system id, and the selector `.00`
abbrev pub is_title : Word → Bool
is_title word =
    nat_le 20 (length word) && nat_le (length word) 50
    && is_area_address (area_part word) && grouped_from 0 (system_part word)
    && bytes_eq (drop (length word - 3) word) (codes ".00")

-- `net X`
unfoldable pub title_of : Word → Option Title
title_of word =
    if is_title word
    then Some (record { area = area_part word; system = system_value (system_part word) })
    else None

-- `metric-style wide`, and nothing else
abbrev pub is_wide : List Word → Bool
is_wide words = says words 1 (codes "wide") && lacks words 2

-- a distance of IS-IS is the one that it has during a migration, or the greatest
abbrev pub isis_distance : Result ℕ ReadKind → Result ℕ ReadKind
isis_distance (Err kind) = Err kind
isis_distance (Ok n) = if nat_eq n ISIS_DISTANCE || nat_eq n MOST_DISTANCE then Ok n else Err BadDistance

-- `passive-interface NAME`, its name at this place
abbrev pub isis_passive : List Word → ℕ → Bool → IsisLine
isis_passive words k passive =
    if lacks words k then Skipped else
    if says words k (codes "default") then Faulty Unsupported else
    Passive (record { name = word_at words k; passive = passive })

-- `redistribute isis ip level-2 into level-1`, and nothing else
abbrev pub is_leak : List Word → Bool
is_leak words =
    begins_with_three words (codes "redistribute") (codes "isis") (codes "ip")
    && says words 3 (codes "level-2") && says words 4 (codes "into") && says words 5 (codes "level-1") && lacks words 6

-- what isn't supported in `router isis`, where it isn't the line that leaks
abbrev pub is_unsupported_isis : Word → Bool
is_unsupported_isis word =
    bytes_eq word (codes "redistribute") || bytes_eq word (codes "default-information") || bytes_eq word (codes "summary-address")
    || bytes_eq word (codes "set-overload-bit") || bytes_eq word (codes "max-metric") || bytes_eq word (codes "advertise")
    || bytes_eq word (codes "distribute-list")

-- the other lines of `router isis`
abbrev pub plain_of_isis : List Word → IsisLine
plain_of_isis words =
    if says words 0 (codes "metric") then Metric (number_from 1 MOST_METRIC BadMetric (word_at words 1)) else
    if says words 0 (codes "distance") then Distance (isis_distance (number_from 1 MOST_DISTANCE BadDistance (word_at words 1))) else
    if says words 0 (codes "passive-interface") then isis_passive words 1 true else
    if begins_with_two words (codes "no") (codes "passive-interface") then isis_passive words 2 false else
    if is_leak words then Leak else
    if is_unsupported_isis (word_at words 0) then Faulty Unsupported else
    Skipped

-- what a line of `router isis` says
abbrev pub isis_line : List Word → IsisLine
isis_line words =
    if says words 0 (codes "net") then Net (title_of (word_at words 1)) else
    if says words 0 (codes "is-type") then LevelsLine (levels_of (word_at words 1)) else
    if says words 0 (codes "metric-style") then MetricStyle (is_wide words) else
    plain_of_isis words

-- the fault of a title that isn't there
abbrev pub title_fault : Option Title → Option ReadKind
title_fault None = Some BadNet
title_fault (Some _) = None

-- the fault that a line of `router isis` has by itself
abbrev pub isis_line_fault : IsisLine → Option ReadKind
isis_line_fault (Net title) = title_fault title
isis_line_fault (LevelsLine r) = fault_in r
isis_line_fault (MetricStyle wide) = if wide then None else Some Unsupported
isis_line_fault (Metric r) = fault_in r
isis_line_fault (Distance r) = fault_in r
isis_line_fault (Faulty kind) = Some kind
isis_line_fault _ = None
