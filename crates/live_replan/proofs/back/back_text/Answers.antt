use Rattle.std.proofs.Common.{◌≡◌, ◌<◌, ◌-◌, ◌+◌, ◌++◌, length, get_or, take, reverse, sym, ap, ◌∙◌, arith}
use Rattle.std.specs.List.{enumerate_from, flat_map}
use Rattle.std.proofs.lemmas.List.{take_all}
use Rattle.printed_lines.specs.Texts.{text_of}
use Rattle.live_replan.specs.BackTexts.{back_text, undo_part}
use Rattle.live_replan.specs.steps.ToldChanges.{changes_told}
use Rattle.live_replan.proofs.ToldFacts.{change_told, parts_long, text_more}
use Rattle.live_replan.proofs.back.back_text.Goals as goal

pub loop-back-preserved : goal.loop-back-preserved
loop-back-preserved c =
    let changes = c.in_ok-changes.changes.items in
    let t = c.index.result.now in
    let back = c.loop-back.back in
    let within : back < length changes = omega (arith, c.loop-back-test.true, c.len-back-end.ensures) in
    let count : c.len.result ≡ length changes = omega (arith, c.len.ensures) in
    let is : t ≡ get_or changes (length changes - 1 - back) t = c.index.ensures ∙ ap (λ n. get_or changes (n - 1 - back) t) count in
    c.in_ok-text.ensures ∙ ap (λ n. c.loop-back.text ++ text_of (undo_part c.args.net.now (n - 1 - back + 1, change_told t))) count
    ∙ ap (λ l. l ++ text_of (undo_part c.args.net.now (length changes - 1 - back + 1, change_told t))) c.loop-back.invariant
    ∙ sym (text_more c.args.net.now changes back t within is)

pub returns : goal.returns
returns c = λ changes tells.
    let told = c.in_ok-changes.changes.items in
    let parts = reverse (enumerate_from 1 (changes_told told)) in
    let all : take c.loop-back.back parts ≡ parts =
    take_all c.loop-back.back parts (omega (arith, parts_long c.args.net.now told, c.len-back-end.ensures, c.loop-back-test.false)) in
    c.finish.ensures ∙ c.loop-back.invariant ∙ ap (λ l. text_of (flat_map (undo_part c.args.net.now) l)) all
    ∙ ap (back_text c.args.net.now) (sym (c.in_ok-changes.ensures.told changes tells))
