use Rattle.std.proofs.Common.{arith}
use Rattle.std.proofs.lemmas.Grind.{common_steps}
use Rattle.std.proofs.lemmas.Bool.Decides.{nat_tests}
use Rattle.ios_lines.proofs.WordCuts.{by_parts}
use Rattle.ios_lines.proofs.words.begins_with.Goals as goal

pub returns-then-text-bytes : goal.returns-then-text-bytes
returns-then-text-bytes c =
    grind (arith, common_steps, nat_tests, (by_parts c.args.bytes.now c.args.text.now c.requires.bare c.requires.one_word).1)

pub returns-else-text-bytes : goal.returns-else-text-bytes
returns-else-text-bytes c =
    grind (arith, common_steps, nat_tests, (by_parts c.args.bytes.now c.args.text.now c.requires.bare c.requires.one_word).1)

pub returns-else-starts_with : goal.returns-else-starts_with
returns-else-starts_with c =
    grind (arith, common_steps, (by_parts c.args.bytes.now c.args.text.now c.requires.bare c.requires.one_word).0)
