use Rattle.std.proofs.Common.{◌≡◌, ℕ, List, Some, Contains, ap, sym, subst, ◌∙◌, inl, inr}
use Rattle.std.proofs.lemmas.Result.{on_ok_weaker}
use Rattle.walk_core.specs.BestOffers.{total_towards}
use Rattle.walk_core.specs.Reach.{Reach, listed_hops_of}
use Rattle.walk_core.proofs.walks.LeastWalks.push_hops.Goals as goal

pub returns : goal.returns
returns c =
    let reach : Reach = c.args.self.now in
    let hops : c.hops_to.result.now ≡ listed_hops_of reach c.args.offer.now.at = c.hops_to.ensures.hops in
    let total : total_towards reach c.args.offer.now ≡ Some c.args.cost = sym c.total.ensures ∙ c.in-Some.is ∙ ap Some c.if-total-cost.false in
    on_ok_weaker c.push_below.result
    (λ adds h. (
      λ has. elim ((adds h).0 has) [
        | inl older ↦ inl older
        | inr both ↦ inr (both.0, record { total = total; hop = subst (λ (l : List ℕ). Contains l h) hops both.1 })
      ],
      λ either. elim either [
        | inl older ↦ (adds h).1 (inl older)
        | inr both ↦ (adds h).1 (inr (both.0, subst (λ (l : List ℕ). Contains l h) (sym hops) both.1.hop))
      ],
    ))
    c.push_below.ensures.ok
