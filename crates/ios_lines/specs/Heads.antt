-- What a line at indent 0 says: the lines that have a meaning there.
use Rattle.std.specs.Prelude.{ℕ, Bool, not, ◌&&◌, ◌||◌, List, ◌++◌, Result, Ok, Err, length, codes, if◌then◌else◌, nat_eq, nat_le, bytes_eq}
use Rattle.std.specs.List.{list_all, list_any}
use Rattle.std.specs.Char.{is_ascii_digit}
use Rattle.ios_lines.specs.Words.{Word, word_at, says, begins_with_two, lacks, number_from, is_printable, is_letter}
use Rattle.net_model.specs.declared.bounds.TheConstants.{MOST_PROCESS}
use Rattle.ios_lines.specs.declared.kind.ReadKind.{ReadKind}
use Rattle.ios_lines.specs.declared.kind.ReadKind.TheVariants.{NoHostname, SecondProcess, Unsupported}
use Rattle.ios_lines.specs.declared.head.Head.{Head}
use Rattle.ios_lines.specs.declared.head.Head.TheVariants.{Hostname, Interface, Ospf, Isis, Faulty, Other}

-- the bytes of a router's name: letters, digits, `-`, `_` and `.`
abbrev pub is_name_byte : ℕ → Bool
is_name_byte b = is_letter b || is_ascii_digit b || nat_eq b 45 || nat_eq b 95 || nat_eq b 46

-- a router's name has 1 to 63 of these bytes
abbrev pub is_router_name : Word → Bool
is_router_name word = nat_le 1 (length word) && nat_le (length word) 63 && list_all is_name_byte word

-- `hostname NAME`
abbrev pub hostname_of : Word → Result Word ReadKind
hostname_of word = if is_router_name word then Ok word else Err NoHostname

-- the name of an interface: where the first word after `interface` has no digit the next one is joined to it
abbrev pub interface_name : List Word → Word
interface_name words =
    if list_any is_ascii_digit (word_at words 1) then word_at words 1 else word_at words 1 ++ word_at words 2

-- a name that is there, isn't `default` and has printable bytes alone
abbrev pub is_interface_name : Word → Bool
is_interface_name name =
    nat_le 1 (length name) && not (bytes_eq name (codes "default")) && list_all is_printable name

-- `interface NAME`
abbrev pub interface_of : Word → Result Word ReadKind
interface_of name = if is_interface_name name then Ok name else Err Unsupported

-- the lines that begin with `router`; a process of a VRF is skipped
abbrev pub router_head : List Word → Head
router_head words =
    if says words 1 (codes "ospf") then
    (if says words 3 (codes "vrf") && not (lacks words 4) then Other
    else Ospf (number_from 1 MOST_PROCESS SecondProcess (word_at words 2)))
    else
    if says words 1 (codes "isis") then Isis (word_at words 2) else
    if says words 1 (codes "eigrp") || says words 1 (codes "rip") then Faulty Unsupported else
    Other

-- what a line at indent 0 says
abbrev pub head_of : List Word → Head
head_of words =
    if says words 0 (codes "hostname") then Hostname (hostname_of (word_at words 1)) else
    if says words 0 (codes "interface") then Interface (interface_of (interface_name words)) else
    if says words 0 (codes "router") then router_head words else
    if begins_with_two words (codes "ip") (codes "route") && not (says words 2 (codes "vrf")) then Faulty Unsupported else
    Other
