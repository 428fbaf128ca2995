-- Configurations read file by file.
use Rattle.std.proofs.lemmas.Grind.{common_steps}
use Rattle.std.proofs.Common.{◌≡◌, ℕ, zero, suc, ◌+◌, ◌<◌, List, [], ◌∷◌, ◌++◌, length, take, get_or, arith, sym, subst}
use Rattle.std.proofs.lemmas.List.{take_more}
use Rattle.ios_reader.specs.Texts.{ReadsText, IsRefusedText}
use Rattle.ios_reader.specs.declared.kind.ReadKind.{ReadKind}
use Rattle.net_model.specs.Configuration.{Configuration}
use Rattle.isis_writer.specs.ReadTexts.{ReadsTexts}
use Rattle.migrate_cli.specs.Configurations.{IsFirstRefused, line_fault}
use Rattle.migrate_cli.specs.Configurations.IsFirstRefused.{here, later}
use Rattle.migrate_cli.specs.steps.Unread.{IsUnreadText, IsUnread}
use Rattle.migrate_cli.specs.declared.configurations.Unread.{Unread}
use Rattle.migrate_cli.proofs.GroupLaws.{reads_append}

-- one more text was read
pub ReadsTexts-next : (texts : List (List ℕ)) (i : ℕ) (text : List ℕ) (configs more : List Configuration) → i < length texts → text ≡ get_or texts i text
    → ReadsTexts (take i texts) configs → ReadsText text more → ReadsTexts (take (i + 1) texts) (configs ++ more)
ReadsTexts-next texts i text configs more within at first reads = grind (arith, common_steps, reads_append, take_more)

-- after texts that were read the first faulty one
pub first_refused : (names texts : List (List ℕ)) (i : ℕ) (name text : List ℕ) (configs : List Configuration) (line : ℕ) (kind : ReadKind) →
    length names ≡ length texts
    → i < length texts → name ≡ get_or names i name → text ≡ get_or texts i text → ReadsTexts (take i texts) configs → IsRefusedText text line kind
    → IsFirstRefused (line_fault line kind) names texts name
first_refused names [] i name text configs line kind lengths within named at first refused = absurd (omega arith)
first_refused [] (t ∷ texts) i name text configs line kind lengths within named at first refused = absurd (omega arith)
first_refused (n ∷ names) (t ∷ texts) zero name text configs line kind lengths within named at first refused =
    subst (λ file. IsFirstRefused (line_fault line kind) (n ∷ names) (t ∷ texts) file) (sym named)
    (here (subst (λ some. IsRefusedText some line kind) at refused))
first_refused (n ∷ names) (t ∷ texts) (suc i) name text configs line kind lengths within named at first refused =
    later first.reads (first_refused names texts i name text first.others line kind (omega arith) (omega arith) named at first.rest refused)

-- why one text isn't read is why some texts aren't
pub unread_first : (names texts : List (List ℕ)) (i : ℕ) (name text : List ℕ) (configs : List Configuration) (unread : Unread) → length names ≡ length texts
    → i < length texts → name ≡ get_or names i name → text ≡ get_or texts i text → ReadsTexts (take i texts) configs → IsUnreadText name text unread
    → IsUnread names texts unread
unread_first names texts i name text configs unread lengths within named at first refused =
    grind (arith, common_steps, first_refused)
