use Rattle.std.proofs.Common.{◌∙◌, ℕ, List, Contains, eq-eqb, length, subst, sym}
use Rattle.std.proofs.lemmas.Bool.{false≢true}
use Rattle.rib_mix.specs.Answers.{NextLeadsTo}
use Rattle.rib_mix.specs.declared.next.Next.{Next}
use Rattle.explained_texts.proofs.Lacking.{some_inside}
use Rattle.explained_texts.proofs.way.leads_nowhere.Goals as goal

pub returns-in-Via-clause-some : goal.returns-in-Via-clause-some
returns-in-Via-clause-some c = λ no.
    let hops = c.as_slice.result.now in
    let some = some_inside hops (λ none. false≢true (sym no ∙ c.is_empty.ensures ∙ eq-eqb (length hops) 0 none)) in (
      some.0,
      subst (λ (n : Next). NextLeadsTo n some.0) (sym c.in-Via.is)
          (subst (λ (l : List ℕ). Contains l some.0) c.as_slice.ensures some.1),
    )
