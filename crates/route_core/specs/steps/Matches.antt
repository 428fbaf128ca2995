-- What a search for the longest match knows.
use Rattle.std.specs.Prelude.{ℕ, List, Contains}
use Rattle.net_addr.specs.Addresses.{Block, ContainsAddress, IsBlock}

-- each prefix that contains the address is a block of addresses
abbrev pub AreBlocks : List Block → ℕ → Type 0
AreBlocks prefixes a = (p : Block) → Contains prefixes p → ContainsAddress p a → IsBlock p
