-- A text is read in one way or is refused in one way, and so are the texts of several files.
use Rattle.std.proofs.Common.{◌≡◌, ℕ, List, [], ◌∷◌, ◌++◌, refl, sym, ap, ◌∙◌}
use Rattle.net_model.specs.Configuration.{Configuration}
use Rattle.ios_reader.specs.declared.kind.ReadKind.{ReadKind}
use Rattle.ios_reader.proofs.TextLaws.{one_reading as one_text, read_or_refused, one_refusal}
use Rattle.isis_writer.specs.ReadTexts.{ReadsTexts}
use Rattle.migrate_cli.specs.Configurations.{IsFirstRefused, line_fault}
use Rattle.migrate_cli.specs.Configurations.IsFirstRefused.{here, later}

-- texts give one list of configurations
pub one_reading : (texts : List (List ℕ)) (one other : List Configuration) → ReadsTexts texts one → ReadsTexts texts other → one ≡ other
one_reading [] one other a b = a ∙ sym b
one_reading (text ∷ texts) one other a b =
    let first : a.one ≡ b.one = one_text text a.one b.one a.reads b.reads in
    let rest : a.others ≡ b.others = one_reading texts a.others b.others a.rest b.rest in
    a.all ∙ ap (λ some. some ++ a.others) first ∙ ap (λ some. b.one ++ some) rest ∙ sym b.all

-- where all texts are read none is refused
pub none_refused : {line : ℕ} {kind : ReadKind} {files texts : List (List ℕ)} {file : List ℕ} → IsFirstRefused (line_fault line kind) files texts file
    → (configs : List Configuration) → ReadsTexts texts configs → ⊥
none_refused {line = line} {kind = kind} (here {text = text} refused) configs read = read_or_refused text read.one line kind read.reads refused
none_refused (later reads refused) configs read = none_refused refused read.others read.rest

-- one file is the first that is refused, with one line and one kind
pub one_refused : {l m : ℕ} {k j : ReadKind} {files texts : List (List ℕ)} {file other : List ℕ} → IsFirstRefused (line_fault l k) files texts file
    → IsFirstRefused (line_fault m j) files texts other → (file ≡ other) × (l ≡ m) × (k ≡ j)
one_refused {l = l} {m = m} {k = k} {j = j} (here {text = text} one) (here other) =
    let same = one_refusal text l m k j one other in (refl, same.0, same.1)
one_refused {l = l} {k = k} (here {text = text} one) (later {configs = configs} reads other) = absurd (read_or_refused text configs l k reads one)
one_refused {m = m} {j = j} (later {text = text} {configs = configs} reads one) (here other) = absurd (read_or_refused text configs m j reads other)
one_refused (later reads one) (later again other) = one_refused one other
