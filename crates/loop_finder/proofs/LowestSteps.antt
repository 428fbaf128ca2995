-- The lowest-numbered marked router so far.
use Rattle.std.proofs.Common.{◌≡◌, ℕ, ◌⊎◌, Bool, true, false, List, ◌∷◌, [], ◌++◌, Option, Some, None, Contains, get_or, refl, sym, ◌∙◌, inl, inr}
use Rattle.std.proofs.lemmas.Bool.{false≢true}
use Rattle.std.proofs.lemmas.List.Elements.{Contains-append_left, Contains-append_right, Contains-append_cases}
use Rattle.net_model.specs.Links.{lower_of}
use Rattle.order_core.specs.Marks.{IsMarked}
use Rattle.loop_finder.specs.steps.Live.{LowestMarked}
use Rattle.loop_finder.specs.steps.Walks.{LowestMarkedHop}
use Rattle.loop_finder.proofs.LowestHops.{lowest_hop_of}

-- a router is marked or it isn't
pub marked_cases : (marks : List Bool) (r : ℕ) → IsMarked marks r ⊎ (¬ IsMarked marks r)
marked_cases marks r = by_test (get_or marks r false) refl
  where
    by_test : (b : Bool) → get_or marks r false ≡ b → IsMarked marks r ⊎ (¬ IsMarked marks r)
    by_test true e = inl e
    by_test false e = inr (λ m. false≢true (sym e ∙ m))

-- one router more
pub lowest_more : (marks : List Bool) (xs : List ℕ) (known : Option ℕ) (r : ℕ) (one : Option ℕ) → LowestMarked xs marks known
    → LowestMarked (r ∷ []) marks one → LowestMarked (xs ++ r ∷ []) marks (lower_of known one)
lowest_more marks xs known r one was is = among_all (lower_of known one)
    (lowest_hop_of (λ u h. Contains (xs ++ r ∷ []) h) marks 0 xs (r ∷ []) known one (λ h. (
      (λ either. elim either [ inl before ↦ Contains-append_left xs (r ∷ []) h before | inr here ↦ Contains-append_right xs (r ∷ []) h here ]),
      Contains-append_cases xs (r ∷ []) h,
    )) was is)
  where
    among_all : (lowest : Option ℕ) → LowestMarkedHop (λ u h. Contains (xs ++ r ∷ []) h) marks 0 lowest → LowestMarked (xs ++ r ∷ []) marks lowest
    among_all None none = none
    among_all (Some h) least = record { among = least.steps; marked = least.marked; lowest = least.lowest }
