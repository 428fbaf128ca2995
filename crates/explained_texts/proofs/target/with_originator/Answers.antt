use Rattle.std.proofs.Common.{◌≡◌, ◌∙◌, ◌+◌, ◌++◌, ◌∷◌, List, ℕ, ap, sym}
use Rattle.std.proofs.lemmas.Bool.{false≢true}
use Rattle.std.proofs.lemmas.Result.{IfOk-weaker}
use Rattle.explained_texts.specs.steps.Mixing.{NamesOriginators}
use Rattle.explained_texts.proofs.LineParts.{none_more, one_more}
use Rattle.explained_texts.proofs.target.with_originator.Goals as goal

pub returns-then-originates : goal.returns-then-originates
returns-then-originates c = λ start.
    let net = c.args.net.now in
    let p = c.args.target in
    let u = c.args.router in
    let line = c.args.line in
    IfOk-weaker c.word.result (λ (longer : List ℕ). longer ≡ line ++ 32 ∷ c.name_of.result.now)
    (λ longer. NamesOriginators net p u start line → NamesOriginators net p (u + 1) start longer)
    (λ longer is named. one_more net p u start line named longer (c.originates.ensures.0 c.if-originates.true)
    (is ∙ ap (λ (w : List ℕ). line ++ 32 ∷ w) c.name_of.ensures))
    c.word.ensures

pub returns-else-originates : goal.returns-else-originates
returns-else-originates c = λ start named.
    none_more c.args.net.now c.args.target c.args.router start c.args.line named
    (λ at. false≢true (sym c.if-originates.false ∙ c.originates.ensures.1 at))
