use Rattle.std.proofs.lemmas.Grind.{common_steps}
use Rattle.std.proofs.Common.{◌≡◌, ◌-◌, ◌∙◌, ℕ, List, ap, arith, drop, length, sym, take}
use Rattle.std.proofs.lemmas.List.{length-map}
use Rattle.std.specs.Borrow.{Bor}
use Rattle.migrate_cli.specs.CommandFiles.{text_names}
use Rattle.migrate_cli.proofs.FileFacts.{split_count, split_names}
use Rattle.migrate_cli.proofs.judging.split_texts.Goals as goal

pub overflow_sub-place : goal.overflow_sub-place
overflow_sub-place c =
    let command = c.args.command.now in
    let names = c.text_names.result.now in
    let bytes : Bor (List ℕ) → List ℕ = λ name. name.now in
    let count : length names ≡ length (text_names command) = sym (length-map names bytes) ∙ ap length c.text_names.ensures in
    let all = split_count command c.args.texts.items c.requires.reads c.requires.short in
    grind (arith, common_steps, all, count)

pub returns : goal.returns
returns c =
    let texts = c.args.texts.items in
    let names = c.text_names.result.now in
    let own = c.split_off.new.self.items in
    let configs = c.in_ok-configs.configs.items in
    let front : own ≡ take (length texts - length names) texts = grind (arith, common_steps) in
    let rest : configs ≡ drop (length texts - length names) texts = grind (arith, common_steps) in
    split_names c.args.command.now texts c.requires.reads c.requires.short names own configs c.text_names.ensures front rest
