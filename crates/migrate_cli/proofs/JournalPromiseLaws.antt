-- What is said of calls that take an order file and a journal.
use Rattle.std.proofs.Common.{arith}
use Rattle.std.proofs.lemmas.Grind.{common_steps}
use Rattle.std.proofs.Common.{◌≡◌, ◌∷◌, ℕ, List, [], take}
use Rattle.std.proofs.Common.{ap, sym, ◌∙◌}
use Rattle.migrate_cli.specs.Reading.{NamedText, named_text, named_texts}

-- the texts of two own files
pub two_texts : (file journal_file : List ℕ) (texts : List (List ℕ)) (order journal : NamedText) →
    named_texts (file ∷ journal_file ∷ []) (take 2 texts) ≡ order ∷ journal ∷ [] → take 2 texts ≡ order.text ∷ journal.text ∷ []
two_texts file journal_file texts order journal same = grind (arith, common_steps)

-- what is said of the two own texts is said of the files that are decided on
pub order_and_journal : (file journal_file : List ℕ) {own : List (List ℕ)} {order journal : List ℕ} {one other : NamedText} →
    own ≡ order ∷ journal ∷ [] → named_texts (file ∷ journal_file ∷ []) own ≡ one ∷ other ∷ [] → order ≡ one.text
order_and_journal file journal_file {order = order} {journal = journal} {one = one} {other = other} first second =
    let lists : named_text file order ∷ named_text journal_file journal ∷ [] ≡ one ∷ other ∷ [] =
    ap (named_texts (file ∷ journal_file ∷ [])) (sym first) ∙ second in
    let same : named_text file order ≡ one = cc lists in
    ap (λ (x : NamedText). x.text) same
