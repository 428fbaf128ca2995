use Rattle.std.proofs.Common.{◌≡◌, List, Any, sym, ap, subst, ◌∙◌, ⊎_elim, inl, inr}
use Rattle.net_model.specs.Configuration.{Configuration}
use Rattle.net_model.specs.declared.interface.Interface.{Interface}
use Rattle.ospf_pair.specs.RouterConditions.{HasNoneAlike}
use Rattle.ospf_pair.proofs.conditions.OtherInterfacesPairCondition.is_met.Goals as goal

-- the same interfaces are missing from the same ones
same_missing : (ones twos others theirs : List Interface) → ones ≡ twos → others ≡ theirs → Any (HasNoneAlike others) ones → Any (HasNoneAlike theirs) twos
same_missing ones twos others theirs e f any =
    subst (λ (l : List Interface). Any (HasNoneAlike theirs) l) e (subst (λ (l : List Interface). Any (HasNoneAlike l) ones) f any)

pub returns-then-lacks_some : goal.returns-then-lacks_some
returns-then-lacks_some c =
    let near = c.as_slice.ensures ∙ ap (λ (x : Configuration). x.interfaces) c.old.view_is in
    let far = c.as_slice-2.ensures ∙ ap (λ (x : Configuration). x.interfaces) c.new.view_is in
    (λ t. inl (same_missing _ _ _ _ near far (c.lacks_some.ensures.0 t)), λ _. c.if-lacks_some.true)

pub returns-else-lacks_some : goal.returns-else-lacks_some
returns-else-lacks_some c =
    let near = c.as_slice.ensures ∙ ap (λ (x : Configuration). x.interfaces) c.old.view_is in
    let far = c.as_slice-2.ensures ∙ ap (λ (x : Configuration). x.interfaces) c.new.view_is in
    let far2 = c.as_slice-else-lacks_some.ensures ∙ ap (λ (x : Configuration). x.interfaces) c.new.view_is in
    let near2 = c.as_slice-else-lacks_some-2.ensures ∙ ap (λ (x : Configuration). x.interfaces) c.old.view_is in (
      λ t. inr (same_missing _ _ _ _ far2 near2 (c.lacks_some-else-lacks_some.ensures.0 t)),
      ⊎_elim
          (λ a. absurd (let t = c.lacks_some.ensures.1 (same_missing _ _ _ _ (sym near) (sym far) a) in let f = c.if-lacks_some.false in cc))
          (λ b. c.lacks_some-else-lacks_some.ensures.1 (same_missing _ _ _ _ (sym far2) (sym near2) b)),
    )
