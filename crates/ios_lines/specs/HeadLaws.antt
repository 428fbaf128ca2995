-- The law of the lines at indent 0: the table of those that say something, one form a line, with its words.
use Rattle.std.specs.Prelude.{◌≡◌, ◌≢◌, ◌↔◌, ◌⊎◌, true, false, not, ◌&&◌, List, Ok, Err, codes}
use Rattle.ios_lines.specs.Words.{Word, word_at, says, lacks, number_from}
use Rattle.ios_lines.specs.Heads.{is_router_name, interface_name, interface_of, head_of}
use Rattle.net_model.specs.declared.bounds.TheConstants.{MOST_PROCESS}
use Rattle.ios_lines.specs.declared.kind.ReadKind.TheVariants.{NoHostname, SecondProcess, Unsupported}
use Rattle.ios_lines.specs.declared.head.Head.{Head}
use Rattle.ios_lines.specs.declared.head.Head.TheVariants.{Hostname, Interface, Ospf, Isis, Faulty, Other}

-- a line `router ospf P vrf X` is of a process that isn't the router's
abbrev pub IsOfVrf : List Word → Type 0
IsOfVrf words = (says words 3 (codes "vrf") && not (lacks words 4)) ≡ true

-- a line at indent 0 says something: `hostname NAME`, with a name that a router may have or another; `interface NAME`; `router ospf P`,
-- not of a VRF; `router isis`, with a tag or without; `router eigrp` and `router rip`, which aren't supported; `ip route`, not of a VRF,
-- which isn't either
pub data SaysHead (words : List Word) : Head → Type 0 where
  names_router : word_at words 0 ≡ codes "hostname" → is_router_name (word_at words 1) ≡ true → SaysHead words (Hostname (Ok (word_at words 1)))
  names_badly : word_at words 0 ≡ codes "hostname" → is_router_name (word_at words 1) ≡ false → SaysHead words (Hostname (Err NoHostname))
  opens_interface : word_at words 0 ≡ codes "interface" → SaysHead words (Interface (interface_of (interface_name words)))
  opens_ospf : word_at words 0 ≡ codes "router" → word_at words 1 ≡ codes "ospf" → (IsOfVrf words → ⊥) →
      SaysHead words (Ospf (number_from 1 MOST_PROCESS SecondProcess (word_at words 2)))
  opens_isis : word_at words 0 ≡ codes "router" → word_at words 1 ≡ codes "isis" → SaysHead words (Isis (word_at words 2))
  opens_other : word_at words 0 ≡ codes "router" → (word_at words 1 ≡ codes "eigrp") ⊎ (word_at words 1 ≡ codes "rip") → SaysHead words (Faulty Unsupported)
  static_route : word_at words 0 ≡ codes "ip" → word_at words 1 ≡ codes "route" → says words 2 (codes "vrf") ≡ false → SaysHead words (Faulty Unsupported)

-- a line at indent 0 says something exactly where it has one of these forms, and this is what it says
abbrev pub HeadLaw : Type 0
HeadLaw = (words : List Word) (head : Head) → head ≢ Other → (head_of words ≡ head) ↔ SaysHead words head
