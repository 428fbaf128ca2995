-- What the search finds has the name; where it finds nothing, each name is below the one sought or above it.
use Rattle.std.proofs.lemmas.Grind.{common_steps}
use Rattle.std.proofs.Common.{◌≡◌, ℕ, ◌+◌, ◌<◌, ◌≤◌, List, [], ◌∷◌, length, get_or, Result, Ok, Err, MatchOption, ap, ◌∙◌, ⊎_elim, arith}
use Rattle.std.specs.Cmp.{tied_itself}
use Rattle.std.specs.Cmp.Lexicographic.{slice_cmp, nat_list_cmp_total}
use Rattle.std.specs.List.Sorted.{IsBinarySearchResult, IsSearchInRange}
use Rattle.std.specs.Ordering.{nat_cmp, is_lt, ordering_reverse}
use Rattle.std.specs.Result.{result_ok}
use Rattle.std.specs.declared.cmp.Ordering.TheVariants.{Equal}
use Rattle.std.proofs.lemmas.Bool.{cases_lt}
use Rattle.std.proofs.lemmas.Fn.{always_returns_same}
use Rattle.std.proofs.lemmas.List.Sorted.{searchable_from_sorted}
use Rattle.net_model.specs.Configuration.{Configuration}
use Rattle.net_model.specs.Lookups.{IsNamed}
use Rattle.net_model.specs.Refusals.{NamesAscend}
use Rattle.net_model.proofs.Names.{named_at, named_from, named_within, same_name}
use Rattle.net_model.proofs.naming.place_of.Goals as goal

named_by_search : (net : List Configuration) (name : List ℕ) (r : Result ℕ ℕ) → NamesAscend net → IsSearchInRange r (length net) →
    IsBinarySearchResult (λ c. slice_cmp nat_cmp c.name name) net r → MatchOption (result_ok r) ((u : ℕ) → IsNamed net name u → ⊥) (IsNamed net name)
named_by_search [] name (Ok u) up within tied = absurd (omega arith)
named_by_search (d ∷ net) name (Ok u) up within tied = named_from (d ∷ net) name u d within (same_name _ _ (tied d))
named_by_search net name (Err place) up within position = λ u n.
    let point = position (searchable_from_sorted nat_list_cmp_total (λ c. c.name) net name
    (λ k d a b. ap is_lt (nat_list_cmp_total.antisymm (get_or net (k + 1) d).name (get_or net k d).name
    ∙ ap ordering_reverse (up k (k + 1) d (omega arith) b)))) in
    let tied : slice_cmp nat_cmp (get_or net u n.config).name name ≡ Equal =
    ap (λ m. slice_cmp nat_cmp m name) (named_at net name u n.config n) ∙ tied_itself nat_list_cmp_total name in
    ⊎_elim
    (λ (l : u < place). let less = point.0 u n.config (omega arith) l in let none : ⊥ = cc in none)
    (λ (l : place ≤ u). let more = point.1 u n.config l (named_within net name u n) in let none : ⊥ = cc in none)
    (cases_lt u place)

pub returns-clause-named : goal.returns-clause-named
returns-clause-named c = grind (arith, common_steps, always_returns_same, named_by_search)
