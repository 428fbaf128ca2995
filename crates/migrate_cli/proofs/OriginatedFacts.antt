-- The sorted list of prefixes without repeats is what is counted of a network.
use Rattle.std.proofs.Common.{◌≡◌, ℕ, ◌+◌, List, [], ◌∷◌, ◌++◌, length, take, Some, IsPermutation, append-nil, refl, sym, ap, ◌∙◌}
use Rattle.std.specs.List.{dedup, filter_map, slice_get}
use Rattle.std.specs.List.Sorted.{IsSorted}
use Rattle.std.proofs.lemmas.Option.{slice_get_within, get_or_from_slice_get}
use Rattle.std.proofs.lemmas.List.{take_more}
use Rattle.std.proofs.lemmas.List.Concat.{flat_map-append}
use Rattle.net_addr.specs.Addresses.{Block}
use Rattle.net_addr.proofs.BlockOrder.{apart_once, block_cmp, block_eq, same_prefixes}
use Rattle.net_model.specs.Configuration.{Configuration}
use Rattle.net_model.specs.Network.{Network}
use Rattle.net_model.specs.declared.interface.Interface.{Interface}
use Rattle.net_model.proofs.Members.{length-same_from_distinct}
use Rattle.prefix_atoms.specs.Originated.{all_originated, originated_subnet}
use Rattle.prefix_atoms.proofs.Occurrences.{list_from_originated, originated_from_list}
use Rattle.migrate_cli.specs.OriginatedPrefixes.{CountsOriginated}

-- ---- the list with repeats ----

-- those of a router
abbrev own_originated : Configuration → List Block
own_originated config = filter_map originated_subnet config.interfaces

-- the next router's
pub originated_more : (net : Network) (u : ℕ) (config : Configuration) (interfaces : List Interface) (old new : List Block) →
    slice_get net u ≡ Some config → interfaces ≡ config.interfaces → old ≡ all_originated (take u net) →
    new ≡ old ++ filter_map originated_subnet interfaces → new ≡ all_originated (take (u + 1) net)
originated_more net u config interfaces old new at same has more =
    let one_more : take (u + 1) net ≡ take u net ++ config ∷ [] =
    take_more net u config (slice_get_within net u config at) ∙ ap (λ some. take u net ++ some ∷ []) (get_or_from_slice_get net u config config at) in
    more ∙ ap (λ (some : List Interface). old ++ filter_map originated_subnet some) same
    ∙ ap (λ (some : List Block). some ++ own_originated config) has
    ∙ ap (λ (some : List Block). all_originated (take u net) ++ some) (sym (append-nil (own_originated config)))
    ∙ sym (ap all_originated one_more ∙ flat_map-append own_originated (take u net) (config ∷ []))

-- ---- sorted, and each once ----

pub counts_sorted : (net : Network) (ys zs : List Block) → IsPermutation (all_originated net) ys → IsSorted block_cmp ys → zs ≡ dedup block_eq ys →
    CountsOriginated net (length zs)
counts_sorted net ys zs moved up is = record {
  prefixes = zs;
  once = apart_once ys zs up is;
  exact = λ p. let same = same_prefixes (all_originated net) ys zs p moved is in
      (λ c. originated_from_list net p (same.0 c), λ o. same.1 (list_from_originated net p o));
  count_is = refl;
}

-- ---- a network has one count ----

pub one_count : (net : Network) (m n : ℕ) → CountsOriginated net m → CountsOriginated net n → m ≡ n
one_count net m n one other =
    sym one.count_is
    ∙ length-same_from_distinct one.prefixes other.prefixes one.once other.once
    (λ p c. (other.exact p).1 ((one.exact p).0 c)) (λ p c. (one.exact p).1 ((other.exact p).0 c))
    ∙ other.count_is
