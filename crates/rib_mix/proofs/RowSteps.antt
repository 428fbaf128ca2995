-- Lists that are made place by place.
use Rattle.std.proofs.Common.{◌≡◌, List, get_or, All, arith, subst}
use Rattle.std.proofs.lemmas.List.{length-map, get_or-map, get_or_default}
use Rattle.std.proofs.lemmas.List.Elements.{All-contains}
use Rattle.net_addr.specs.Addresses.{Block, IsBlock}
use Rattle.route_core.specs.declared.entry.Entry.{Entry}
use Rattle.route_core.specs.Tables.{HasDistinctPrefixes, table_prefixes}
use Rattle.rib_mix.specs.steps.Sites.{IsLawfulTable, AreAmong}

-- what holds of all prefixes holds of all entries
entries_all : (P : Block → Type 0) (entries : List (Block × Entry)) → All P (table_prefixes entries) → All (λ x. P x.0) entries
entries_all P entries h k d l =
    let at : get_or (table_prefixes entries) k d.0 ≡ (get_or entries k d).0 = get_or-map (λ (x : Block × Entry). x.0) entries k d d.0 l in
    subst P at (h k d.0 (omega (arith, length-map entries (λ (x : Block × Entry). x.0))))

pub lawful_from : (entries : List (Block × Entry)) → All IsBlock (table_prefixes entries) → HasDistinctPrefixes entries → IsLawfulTable entries
lawful_from entries blocks distinct = record { blocks = entries_all IsBlock entries blocks; distinct = distinct }

-- prefixes that are among blocks are blocks
pub among_blocks : (prefixes own : List Block) → All IsBlock prefixes → AreAmong prefixes own → All IsBlock own
among_blocks prefixes own blocks among k d l =
    All-contains IsBlock prefixes (get_or own k d) blocks (among (get_or own k d) (k, l, get_or_default own k (get_or own k d) d l))
