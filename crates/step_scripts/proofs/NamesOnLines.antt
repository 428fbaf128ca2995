-- Names on a line, one by one.
use Rattle.std.proofs.lemmas.Grind.{common_steps}
use Rattle.std.proofs.Common.{ℕ, ◌+◌, ◌<◌, List, [], ◌∷◌, ◌++◌, length, get_or, take, map, Bor, Contains, subst, arith}
use Rattle.std.specs.List.{AllZip}
use Rattle.std.proofs.lemmas.List.{get_or-map, length-map, map_more}
use Rattle.std.proofs.lemmas.List.Elements.{Contains-get_or}
use Rattle.net_model.specs.Lookups.{IsNamed}
use Rattle.net_model.specs.Network.{Network}
use Rattle.step_scripts.specs.steps.ReadWaves.{HasUnknown}
use Rattle.std.proofs.lemmas.Slice.Zip.{all_zipped_more}

-- what names point to
abbrev pub bytes_all : List (Bor (List ℕ)) → List (List ℕ)
bytes_all names = map (λ name. name.now) names

pub unknown_at : (net : Network) (names : List (Bor (List ℕ))) (i : ℕ) (d : Bor (List ℕ)) → i < length names →
    ((u : ℕ) → IsNamed net (get_or names i d).now u → ⊥) → HasUnknown net (bytes_all names)
unknown_at net names i d l none =
    let long = length-map names (λ (name : Bor (List ℕ)). name.now) in
    record {
      name = (get_or names i d).now;
      among = subst (Contains (bytes_all names)) (get_or-map (λ (name : Bor (List ℕ)). name.now) names i d [] l)
          (Contains-get_or (bytes_all names) i [] (omega (arith, long, l)));
      unknown = none;
    }

pub named_more : (net : Network) (names : List (Bor (List ℕ))) (i : ℕ) (d : Bor (List ℕ)) (routers : List ℕ) (u : ℕ) → i < length names →
    AllZip (IsNamed net) (bytes_all (take i names)) routers → IsNamed net (get_or names i d).now u →
    AllZip (IsNamed net) (bytes_all (take (i + 1) names)) (routers ++ u ∷ [])
named_more net names i d routers u l before here = grind (arith, common_steps, all_zipped_more, map_more)
