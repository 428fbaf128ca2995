-- Lists of the changes that may come next.
use Rattle.std.proofs.Common.{◌≡◌, ℕ, ◌+◌, ◌<◌, List, [], ◌∷◌, ◌++◌, get_or, Option, None, sym, subst, inl, inr, arith, length-append}
use Rattle.std.proofs.lemmas.Bool.{cases_lt}
use Rattle.std.proofs.lemmas.List.{get_or_append_left, get_or_push}
use Rattle.state_replay.specs.Journals.{IsNextOn}
use Rattle.state_replay.specs.declared.half.Half.{Half}
use Rattle.migrate_cli.specs.ReplayDecision.{AreNext}

-- with the change of the next router there is one router more
pub next_more : (ranks done : List ℕ) (routers : ℕ) (nexts : List (Option Half)) (next : Option Half) → AreNext ranks done routers nexts
    → IsNextOn ranks done routers next → AreNext ranks done (routers + 1) (nexts ++ next ∷ [])
next_more ranks done routers nexts next are is = record {
  each = let long = are.each in omega (arith, length-append nexts (next ∷ []), long);
  next = λ u below. elim (cases_lt u routers) [
    | inl lower ↦ subst (IsNextOn ranks done u)
        (sym (get_or_append_left nexts (next ∷ []) None u (subst (λ n. u < n) (sym are.each) lower))) (are.next u lower)
    | inr higher ↦ let same : u ≡ routers = omega arith in
        subst (λ v. IsNextOn ranks done v (get_or (nexts ++ next ∷ []) v None)) (sym same)
        (subst (IsNextOn ranks done routers) (sym (get_or_push nexts next None routers are.each)) is)
  ];
}
