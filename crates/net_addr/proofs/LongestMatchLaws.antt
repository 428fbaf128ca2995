-- Laws of the longest match: one more prefix, other prefixes and addresses, and that there is one.
use Rattle.std.proofs.lemmas.Grind.{common_steps}
use Rattle.std.proofs.Common.{◌≡◌, ℕ, zero, suc, ◌<◌, ◌≤◌, ◌↔◌, List, [], ◌∷◌, ◌++◌, length, slice_get, Option, Some, None, Contains}
use Rattle.std.proofs.Common.{refl, sym, arith, subst, ⊎_elim}
use Rattle.std.proofs.lemmas.Bool.{cases_lt}
use Rattle.std.proofs.lemmas.List.Elements.{Contains-push, Contains-append_left, Contains-push_cases}
use Rattle.net_addr.specs.Addresses.{Block, ContainsAddress, IsBlock}
use Rattle.net_addr.specs.LongestMatches.{IsLongestMatch, HasNoMatch, MatchAt, IsMatch, TakesLonger}
use Rattle.net_addr.specs.declared.matches.Match.{Match}
use Rattle.net_addr.proofs.Blocks.{same_block}

-- Other prefixes on offer, and other addresses

-- the same prefixes on offer have the same longest match
pub IsLongestMatch-same : (one two : Block → Type 0) (a : ℕ) (p : Block) → ((q : Block) → one q ↔ two q) → IsLongestMatch one a p → IsLongestMatch two a p
IsLongestMatch-same one two a p same h = grind (arith, common_steps)

pub HasNoMatch-same : (one two : Block → Type 0) (a : ℕ) → ((q : Block) → one q ↔ two q) → HasNoMatch one a → HasNoMatch two a
HasNoMatch-same one two a same h = λ q on inside. h q ((same q).1 on) inside

-- two addresses that the same prefixes on offer contain have the same longest match
pub IsLongestMatch-alike : (offered : Block → Type 0) (a b : ℕ) (p : Block) → ((q : Block) → offered q → ContainsAddress q a ↔ ContainsAddress q b)
    → IsLongestMatch offered a p → IsLongestMatch offered b p
IsLongestMatch-alike offered a b p alike h = grind (arith, common_steps)

pub HasNoMatch-alike : (offered : Block → Type 0) (a b : ℕ) → ((q : Block) → offered q → ContainsAddress q a ↔ ContainsAddress q b)
    → HasNoMatch offered a → HasNoMatch offered b
HasNoMatch-alike offered a b alike h = λ q on inside. h q on ((alike q on).1 inside)

-- there is one longest match, since blocks as long that contain one address are the same
pub one_longest_match : (offered : Block → Type 0) (a : ℕ) (p q : Block) → IsBlock p → IsBlock q → IsLongestMatch offered a p
    → IsLongestMatch offered a q → p ≡ q
one_longest_match offered a p q block_p block_q one other = grind (arith, common_steps, same_block)

-- Places of a list

-- what an element is stays so as the list grows
pub slice_get-push_old : {X : Type 0} (xs : List X) (y : X) (i : ℕ) (x : X) → slice_get xs i ≡ Some x → slice_get (xs ++ y ∷ []) i ≡ Some x
slice_get-push_old [] y i x h = cc
slice_get-push_old (z ∷ xs) y zero x h = h
slice_get-push_old (z ∷ xs) y (suc i) x h = slice_get-push_old xs y i x h

-- the element that was added stands last
pub slice_get-push_new : {X : Type 0} (xs : List X) (y : X) → slice_get (xs ++ y ∷ []) (length xs) ≡ Some y
slice_get-push_new [] y = refl
slice_get-push_new (z ∷ xs) y = slice_get-push_new xs y

-- a prefix that doesn't contain the address, or isn't longer, changes nothing
kept : (xs : List Block) (a : ℕ) (next : Block) (found : Match) → MatchAt xs a found → (ContainsAddress next a → next.len ≤ found.len)
    → MatchAt (xs ++ next ∷ []) a found
kept xs a next found h short = record {
  at = record {
    prefix = h.at.prefix;
    stands = slice_get-push_old xs next found.place h.at.prefix h.at.stands;
    match = record {
      is_offered = Contains-append_left xs (next ∷ []) h.at.prefix h.at.match.is_offered;
      contains = h.at.match.contains;
      longest = λ q has inside. ⊎_elim
          (λ earlier. h.at.match.longest q earlier inside)
          (λ same.
          let in_next : ContainsAddress next a = subst (λ (r : Block). ContainsAddress r a) (sym same) inside in
          let le : next.len ≤ found.len = short in_next in
          let len : h.at.prefix.len ≡ found.len = h.len_is in
          subst (λ (r : Block). r.len ≤ h.at.prefix.len) same (let short_next : next.len ≤ h.at.prefix.len = omega arith in short_next))
          (Contains-push_cases xs next q has);
    };
  };
  len_is = h.len_is;
}

-- the next prefix is the longest match where those before that contain the address are no longer
taken : (xs : List Block) (a : ℕ) (next : Block) → ContainsAddress next a → ((q : Block) → Contains xs q → ContainsAddress q a → q.len ≤ next.len)
    → MatchAt (xs ++ next ∷ []) a (record { place = length xs; len = next.len })
taken xs a next inside longest = record {
  at = record {
    prefix = next;
    stands = slice_get-push_new xs next;
    match = record {
      is_offered = Contains-push xs next;
      contains = inside;
      longest = λ q has in_q. ⊎_elim
          (λ earlier. longest q earlier in_q)
          (λ same. subst (λ (r : Block). r.len ≤ next.len) same (let le : next.len ≤ next.len = omega arith in le))
          (Contains-push_cases xs next q has);
    };
  };
  len_is = refl;
}

-- the next prefix doesn't contain the address
pub IsMatch-out : (xs : List Block) (a : ℕ) (next : Block) (found : Option Match) → IsMatch xs a found → ¬ ContainsAddress next a
    → IsMatch (xs ++ next ∷ []) a found
IsMatch-out xs a next found h out = grind (arith, common_steps, Contains-push_cases, kept)

-- the next prefix contains the address
pub IsMatch-in : (xs : List Block) (a : ℕ) (next : Block) (found : Option Match) (r : Match) → IsMatch xs a found → ContainsAddress next a
    → TakesLonger found (record { place = length xs; len = next.len }) r → IsMatch (xs ++ next ∷ []) a (Some r)
IsMatch-in xs a next None r h inside takes =
    subst (MatchAt (xs ++ next ∷ []) a) (sym takes) (taken xs a next inside (λ q has in_q. absurd (h q has in_q)))
IsMatch-in xs a next (Some old) r h inside takes = ⊎_elim
    (λ (l : old.len < next.len). subst (MatchAt (xs ++ next ∷ []) a) (sym (takes.0 l))
    (taken xs a next inside (λ q has in_q.
    let le : q.len ≤ h.at.prefix.len = h.at.match.longest q has in_q in
    let len : h.at.prefix.len ≡ old.len = h.len_is in
    omega arith)))
    (λ (l : next.len ≤ old.len). subst (MatchAt (xs ++ next ∷ []) a) (sym (takes.1 l)) (kept xs a next old h (λ _. l)))
    (cases_lt old.len next.len)
