-- The keys of a design: which ones each kind of table has, and what their entries say.
use Rattle.std.specs.Prelude.{[], ◌∷◌, ◌++◌, Option, Some, None, bytes_eq, codes, if◌then◌else◌}
use Rattle.ios_lines.specs.Words.{Word}
use Rattle.design_file.specs.declared.key.Key.{Key}
use Rattle.design_file.specs.declared.key.Key.TheVariants.{Area, Level, Metric, Leak, Passive, Table}
use Rattle.design_file.specs.declared.key.Place.{Place}
use Rattle.design_file.specs.declared.key.Place.TheVariants.{Top, Routers, Router, Interfaces, Interface}

-- the whole document: what holds for every router, and the routers
abbrev pub top_key : Word → Option Key
top_key word =
    if bytes_eq word (codes "area") then Some Area else
    if bytes_eq word (codes "level") then Some Level else
    if bytes_eq word (codes "metric") then Some Metric else
    if bytes_eq word (codes "routers") then Some (Table Routers) else
    None

-- a router: what holds for it in place of that, and its interfaces
abbrev pub router_key : Word → Option Key
router_key word =
    if bytes_eq word (codes "area") then Some Area else
    if bytes_eq word (codes "level") then Some Level else
    if bytes_eq word (codes "metric") then Some Metric else
    if bytes_eq word (codes "leak") then Some Leak else
    if bytes_eq word (codes "interfaces") then Some (Table Interfaces) else
    None

-- an interface
abbrev pub interface_key : Word → Option Key
interface_key word =
    if bytes_eq word (codes "metric") then Some Metric else
    if bytes_eq word (codes "level") then Some Level else
    if bytes_eq word (codes "passive") then Some Passive else
    None

-- what the entry of a key says; in a table by names each key is a name
abbrev pub key_in : Place → Word → Option Key
key_in Top word = top_key word
key_in Routers word = Some (Table Router)
key_in Router word = router_key word
key_in Interfaces word = Some (Table Interface)
key_in Interface word = interface_key word

-- the path of a key in a table of this path, which is empty for the whole document
abbrev pub below : Word → Word → Word
below [] word = word
below (byte ∷ path) word = (byte ∷ path) ++ 46 ∷ word
