-- The two changes that a migration makes on each router (Vanbever et al., SIGCOMM 2011).
use Rattle.std.specs.Prelude.{ℕ}

-- a change of a router: the first sets the distance of IS-IS to 115 and takes it from Old to Middle, the
-- second sets that of OSPF to 255 and takes it from Middle to New
pub data Change : Type 0 where
  first : ℕ → Change
  second : ℕ → Change

-- the router that a change is made on
abbrev pub changed : Change → ℕ
changed (first u) = u
changed (second u) = u
