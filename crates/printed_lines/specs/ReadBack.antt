-- What is printed reads back: the laws between printing and the readers of lines, words, numbers and addresses.
use Rattle.std.specs.Prelude.{◌≡◌, ℕ, ◌+◌, ◌^◌, ◌<◌, ◌≤◌, List, [], ◌∷◌, length, map, slice_index, All, Option, Some, decimal}
use Rattle.net_addr.specs.declared.span.Span.{Span}
use Rattle.net_addr.specs.Spans.{bytes_of}
use Rattle.net_addr.specs.Readers.{Reads}
use Rattle.net_addr.specs.Numerals.{IsNumeralUpTo}
use Rattle.net_addr.specs.AddressWords.{IsAddressWord}
use Rattle.net_addr.specs.Blanks.{indent_of, spans_of, word_spans, words_in}
use Rattle.net_addr.specs.Lines.{line_texts, lines_of, text_lines}
use Rattle.printed_lines.specs.Words.{IsPrintedWord, spaced, joined, dotted}
use Rattle.printed_lines.specs.Texts.{IsPrintedLine, line, text_of}

-- a text reads as these lines: they follow one another from its start on, numbered from 1
pub record ReadsAsLines (text : List ℕ) (printed : List (List ℕ)) : Type 0 where
  pub lines : text_lines text ≡ lines_of 1 0 printed
  pub texts : line_texts text ≡ printed

-- printed lines, each ended by a line feed, read as just these lines
abbrev pub LinesReadBack : Type 0
LinesReadBack = (printed : List (List ℕ)) → All IsPrintedLine printed → ReadsAsLines (text_of printed) printed

-- a text of one line, made of words, reads as just this line
abbrev pub LineReadsBack : Type 0
LineReadsBack = (first : List ℕ) (more : List (List ℕ)) → All IsPrintedWord (first ∷ more) →
    ReadsAsLines (line first more) (joined (first ∷ more) ∷ [])

-- a line reads as these words, which follow one another behind its leading blanks
pub record ReadsAsWords (bytes : List ℕ) (blanks : ℕ) (printed : List (List ℕ)) : Type 0 where
  pub words : words_in bytes ≡ printed
  pub spans : (text : List ℕ) (span : Span) → bytes_of text span ≡ bytes → word_spans text span ≡ spans_of (span.start + blanks) printed
  pub indent : 0 < length printed → indent_of bytes ≡ blanks

-- words joined by one blank read as just these words, at indent 0; where a blank stands before each, at indent 1
abbrev pub WordsReadBack : Type 0
WordsReadBack = (printed : List (List ℕ)) → All IsPrintedWord printed → ReadsAsWords (joined printed) 0 printed ×
    ReadsAsWords (spaced printed) 1 printed

-- words with one blank between them, or before each, are a line that can be printed
abbrev pub WordsMakeLines : Type 0
WordsMakeLines = (printed : List (List ℕ)) → All IsPrintedWord printed → IsPrintedLine (joined printed) × IsPrintedLine (spaced printed)

-- lines of words joined by one blank, each ended by a line feed, read as just these lines of just these words
abbrev pub TextsReadBack : Type 0
TextsReadBack =
    (printed : List (List (List ℕ))) → All (All IsPrintedWord) printed → map words_in (line_texts (text_of (map joined printed))) ≡ printed

-- a printed word reads as x: it stands for x, and that is what each reader of its grammar answers
pub record ReadsBackAs (StandsFor : ℕ → Type 0) (x : ℕ) : Type 0 where
  pub stands : StandsFor x
  pub answer : (read : Option ℕ) → Reads read StandsFor → read ≡ Some x

-- a number in decimal is a word, and it begins with a zero (48) only where it is this digit alone
pub record IsPrintedNumber (digits : List ℕ) : Type 0 where
  pub word : IsPrintedWord digits
  pub no_zeros : slice_index digits 0 ≡ 48 → digits ≡ 48 ∷ []

-- a number in decimal reads as this number
abbrev pub NumbersReadBack : Type 0
NumbersReadBack = (n most : ℕ) → n < 2 ^ 64 → n ≤ most → IsPrintedNumber (decimal n) × ReadsBackAs (IsNumeralUpTo most (decimal n)) n

-- an address in dotted decimal is a word, and reads as this address
abbrev pub AddressesReadBack : Type 0
AddressesReadBack = (a : ℕ) → a < 2 ^ 32 → IsPrintedWord (dotted a) × ReadsBackAs (IsAddressWord (dotted a)) a
