use Rattle.std.proofs.Common.{◌≡◌, ◌+◌, ◌++◌, ◌<◌, length, List, [], ℕ, map, take, get_or, sym, ap, ◌∙◌, subst, arith}
use Rattle.std.specs.Borrow.{Bor}
use Rattle.std.proofs.lemmas.List.{length-map, get_or-map}
use Rattle.isis_writer.specs.ReadTexts.{ReadsTexts}
use Rattle.migrate_cli.proofs.ConfigurationFacts.{unread_first, ReadsTexts-next}
use Rattle.migrate_cli.proofs.StopFacts.{element}
use Rattle.migrate_cli.proofs.configurations.read_all.Goals as goal

pub returns-in-Err-clause-err : goal.returns-in-Err-clause-err
returns-in-Err-clause-err c =
    let words = c.args.names.now in
    let bytes_of : Bor (List ℕ) → List ℕ = λ name. name.now in
    let names = map bytes_of words in
    let i = c.loop-i.i in
    let nothing : Bor (List ℕ) = record { ref_ptr = (0, 0); now = [] } in
    let item = get_or words i nothing in
    let name = item.now in
    let lengths : length names ≡ length c.args.texts.now = length-map words bytes_of ∙ c.requires.lengths in
    let within : i < length words = omega (arith, c.requires.lengths, c.loop-i-test.true) in
    let named : name ≡ get_or names i name = ap bytes_of (element words i nothing item within) ∙ sym (get_or-map bytes_of words i item name within) in
    unread_first names c.args.texts.now i name c.index-texts-i.result c.loop-i.all.items c.in-Err.unread lengths c.loop-i-test.true named c.index-texts-i.is
    c.loop-i.invariant c.in-Err.ensures.err

pub loop-i-preserved : goal.loop-i-preserved
loop-i-preserved c =
    let texts = c.args.texts.now in
    let all : c.append.new.self.items ≡ c.loop-i.all.items ++ c.in-Ok.more.items = grind arith in
    subst (ReadsTexts (take (c.loop-i.i + 1) texts)) (sym all)
    (ReadsTexts-next texts c.loop-i.i c.index-texts-i.result c.loop-i.all.items c.in-Ok.more.items c.loop-i-test.true c.index-texts-i.is
    c.loop-i.invariant c.in-Ok.ensures.ok)
