use Rattle.std.proofs.Common.{◌≡◌, ◌∙◌, ◌<◌, List, [], ℕ, ap, arith, get_or, length, map, refl, sym}
use Rattle.std.specs.Borrow.{Bor}
use Rattle.std.proofs.lemmas.List.{get_or-map, length-map}
use Rattle.migrate_cli.proofs.ConfigurationFacts.{ReadsTexts-next, unread_first}
use Rattle.migrate_cli.proofs.StopFacts.{element}
use Rattle.migrate_cli.proofs.configurations.read_two.Goals as goal

pub returns-in-Err-clause-err : goal.returns-in-Err-clause-err
returns-in-Err-clause-err c =
    let words = c.args.names.now in
    let bytes_of : Bor (List ℕ) → List ℕ = λ name. name.now in
    let nothing : Bor (List ℕ) = record { ref_ptr = (0, 0); now = [] } in
    let item = get_or words 0 nothing in
    let lengths : length (map bytes_of words) ≡ length c.args.texts.now = length-map words bytes_of ∙ c.requires.names ∙ sym c.requires.texts in
    let within : 0 < length words = omega (arith, c.requires.names) in
    let here : 0 < length c.args.texts.now = omega (arith, c.requires.texts) in
    let named = ap bytes_of (element words 0 nothing item within) ∙ sym (get_or-map bytes_of words 0 item item.now within) in
    unread_first (map bytes_of words) c.args.texts.now 0 item.now c.index-texts-0.result [] c.in-Err.unread lengths here named c.index-texts-0.is refl
    c.in-Err.ensures.err

pub returns-in-Err-read_one-clause-err : goal.returns-in-Err-read_one-clause-err
returns-in-Err-read_one-clause-err c =
    let words = c.args.names.now in
    let bytes_of : Bor (List ℕ) → List ℕ = λ name. name.now in
    let nothing : Bor (List ℕ) = record { ref_ptr = (0, 0); now = [] } in
    let item = get_or words 1 nothing in
    let lengths : length (map bytes_of words) ≡ length c.args.texts.now = length-map words bytes_of ∙ c.requires.names ∙ sym c.requires.texts in
    let within : 1 < length words = omega (arith, c.requires.names) in
    let here : 0 < length c.args.texts.now = omega (arith, c.requires.texts) in
    let there : 1 < length c.args.texts.now = omega (arith, c.requires.texts) in
    let named = ap bytes_of (element words 1 nothing item within) ∙ sym (get_or-map bytes_of words 1 item item.now within) in
    let first = ReadsTexts-next c.args.texts.now 0 c.index-texts-0.result [] c.in-Ok.old.items here c.index-texts-0.is refl c.in-Ok.ensures.ok in
    unread_first (map bytes_of words) c.args.texts.now 1 item.now c.index-texts-1.result c.in-Ok.old.items c.in-Err-read_one.unread lengths there named
    c.index-texts-1.is first c.in-Err-read_one.ensures.err
