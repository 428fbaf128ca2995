-- The laws of reading a text.
use Rattle.std.specs.Prelude.{◌≡◌, ◌⊎◌, ℕ, List}
use Rattle.net_model.specs.Configuration.{Configuration}
use Rattle.ios_reader.specs.Texts.{ReadsText, IsRefusedText}
use Rattle.ios_lines.specs.declared.kind.ReadKind.{ReadKind}

-- a text is read as one list of configurations at most
abbrev pub OneReadingLaw : Type 0
OneReadingLaw = (text : List ℕ) (one other : List Configuration) → ReadsText text one → ReadsText text other → one ≡ other

-- a text that is read isn't refused
abbrev pub ReadOrRefusedLaw : Type 0
ReadOrRefusedLaw =
    (text : List ℕ) (configurations : List Configuration) (line : ℕ) (kind : ReadKind) →
    ReadsText text configurations → IsRefusedText text line kind → ⊥

-- a text is refused at one line at most, and with one kind
abbrev pub OneReadRefusalLaw : Type 0
OneReadRefusalLaw =
    (text : List ℕ) (line other_line : ℕ) (kind other_kind : ReadKind) →
    IsRefusedText text line kind → IsRefusedText text other_line other_kind → (line ≡ other_line) × (kind ≡ other_kind)

-- each text is read or refused
abbrev pub SomeAnswerLaw : Type 0
SomeAnswerLaw =
    (text : List ℕ) →
    ((configurations : List Configuration) × ReadsText text configurations) ⊎ ((line : ℕ) × (kind : ReadKind) × IsRefusedText text line kind)
