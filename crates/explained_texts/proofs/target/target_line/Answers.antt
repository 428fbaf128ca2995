use Rattle.std.proofs.Common.{◌≡◌, ◌++◌, ◌∷◌, [], List, ℕ, Some, length, slice_get, subst}
use Rattle.std.proofs.lemmas.Result.{IfOk-weaker}
use Rattle.net_model.specs.Network.{Network}
use Rattle.prefix_atoms.specs.Classes.{Classes, HasTarget, IsInClass}
use Rattle.explained_texts.specs.WayTexts.{IsTargetLine}
use Rattle.explained_texts.specs.steps.Mixing.{NamesOriginators}
use Rattle.explained_texts.proofs.LineParts.{target_line_is}
use Rattle.explained_texts.proofs.target.target_line.Goals as goal

pub unreachable-requires : goal.unreachable-requires
unreachable-requires g c =
    let k = c.of.result in
    let a = c.args.a in
    let atoms_are = c.atoms-atoms.ensures.atoms in
    subst (HasTarget c.args.mixed.now.net a) c.in_default.is (c.atoms-atoms.ensures.classes.target k a c.target.result
    (subst (λ (l : Classes). IsInClass l k a) atoms_are c.of.ensures)
    (subst (λ (l : Classes). slice_get l.targets k ≡ Some c.target.result) atoms_are c.target.ensures)) c.requires.0 c.requires.1

pub returns : goal.returns
returns g c =
    let net = c.args.mixed.now.net in
    let k = c.of.result in
    let a = c.args.a in
    let p = c.in-Some.target in
    let named = c.in_ok-word.field-0 in
    let atoms_are = c.atoms-atoms.ensures.atoms in
    let is = subst (HasTarget net a) c.in-Some.is (c.atoms-atoms.ensures.classes.target k a c.target.result
    (subst (λ (l : Classes). IsInClass l k a) atoms_are c.of.ensures)
    (subst (λ (l : Classes). slice_get l.targets k ≡ Some c.target.result) atoms_are c.target.ensures)) in
    IfOk-weaker c.with_originators.result (NamesOriginators c.net.result.now p (length c.net.result.now) named)
    (λ (l : List ℕ). IsTargetLine net a (l ++ 10 ∷ []))
    (λ l names. target_line_is net a p is c.in_ok-start.ensures c.in_ok-line.ensures c.in_ok-word.ensures
    (subst (λ (n : Network). NamesOriginators n p (length n) named l) c.net.ensures names))
    c.with_originators.ensures
