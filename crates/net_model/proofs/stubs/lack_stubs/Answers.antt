use Rattle.std.proofs.Common.{◌≡◌, ◌<◌, [], All, length, ap, sym, subst, ◌∙◌, arith}
use Rattle.std.proofs.lemmas.Grind.{common_steps}
use Rattle.std.proofs.lemmas.List.{take_all}
use Rattle.std.proofs.lemmas.List.Elements.{All-more}
use Rattle.net_model.specs.Configuration.{Configuration}
use Rattle.net_model.proofs.stubs.lack_stubs.Goals as goal

pub loop-config-preserved : goal.loop-config-preserved
loop-config-preserved c =
    let xs = c.args.configs.now in
    let i = c.loop-config.config-index in
    let x = c.config-item.result in
    let here : i < length xs = omega arith in
    let own = c.as_slice.ensures ∙ ap (λ (z : Configuration). z.stubs) (c.config.view_is ∙ c.config-item.is) in
    let none : c.as_slice.result.now ≡ [] = grind (arith, common_steps) in
    All-more (λ (z : Configuration). z.stubs ≡ []) xs i x here c.loop-config.invariant (sym own ∙ none)

pub returns : goal.returns
returns c =
    subst (All (λ (z : Configuration). z.stubs ≡ []))
    (take_all c.loop-config.config-index c.args.configs.now c.loop-config-test.false) c.loop-config.invariant
