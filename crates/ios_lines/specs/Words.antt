-- The words of a line, and what a word stands for.
use Rattle.std.specs.Prelude.{ℕ, ◌+◌, ◌-◌, ◌*◌, ◌^◌, Bool, List, [], ◌&&◌, ◌||◌, Option, Some, None, Result, Ok, Err, length, slice_get, unwrap_or}
use Rattle.std.specs.Prelude.{bytes_eq, nat_eq, nat_le, nat_lt, find, codes, if◌then◌else◌}
use Rattle.std.specs.List.{list_all, before_first, after_first, range_with_len}
use Rattle.std.specs.Char.{is_ascii_digit}
use Rattle.net_addr.specs.Numerals.{decimal_value}
use Rattle.net_model.specs.declared.config.Levels.{Levels}
use Rattle.net_model.specs.declared.config.Levels.TheVariants.{One, Two, Both}
use Rattle.ios_lines.specs.declared.kind.ReadKind.{ReadKind}
use Rattle.ios_lines.specs.declared.kind.ReadKind.TheVariants.{BadLevel}

-- a word is its bytes
abbrev pub Word : Type 0
Word = List ℕ

-- the word at a place; past the last word it is the empty word, which no word of a line is
abbrev pub word_at : List Word → ℕ → Word
word_at words k = unwrap_or (slice_get words k) []

-- the word at a place is this text
abbrev pub says : List Word → ℕ → Word → Bool
says words k text = bytes_eq (word_at words k) text

-- the line begins with these two words
abbrev pub begins_with_two : List Word → Word → Word → Bool
begins_with_two words one two = says words 0 one && says words 1 two

-- the line begins with these three words
abbrev pub begins_with_three : List Word → Word → Word → Word → Bool
begins_with_three words one two three = begins_with_two words one two && says words 2 three

-- the line has no word at a place
abbrev pub lacks : List Word → ℕ → Bool
lacks words k = nat_eq (length (word_at words k)) 0

-- the number for which a word stands, at most `most`: digits, with leading zeros or without
abbrev pub number_of : ℕ → Word → Option ℕ
number_of most word =
    if nat_lt 0 (length word) && list_all is_ascii_digit word && nat_le (decimal_value word) most
    then Some (decimal_value word) else None

-- a number that is at least `least`, or a fault
abbrev pub at_least : ℕ → ReadKind → Option ℕ → Result ℕ ReadKind
at_least least kind None = Err kind
at_least least kind (Some n) = if nat_le least n then Ok n else Err kind

-- a number from `least` to `most`, or the fault of a word that is none
abbrev pub number_from : ℕ → ℕ → ReadKind → Word → Result ℕ ReadKind
number_from least most kind word = at_least least kind (number_of most word)

-- the byte `.`
abbrev pub is_dot : ℕ → Bool
is_dot b = nat_eq b 46

-- an octet: one to three digits, of value at most 255
abbrev pub octet_of : Word → Option ℕ
octet_of word = if nat_le (length word) 3 then number_of 255 word else None

-- four octets as one number, the first counting most
abbrev pub joined_octets : Option ℕ → Option ℕ → Option ℕ → Option ℕ → Option ℕ
joined_octets (Some a) (Some b) (Some c) (Some d) = Some (2 ^ 24 * a + 2 ^ 16 * b + 2 ^ 8 * c + d)
joined_octets _ _ _ _ = None

-- the address for which a word stands: four octets joined by dots
unfoldable pub address_of : Word → Option ℕ
address_of word =
    let second = after_first is_dot word in
    let third = after_first is_dot second in
    let fourth = after_first is_dot third in
    joined_octets (octet_of (before_first is_dot word)) (octet_of (before_first is_dot second)) (octet_of (before_first is_dot third)) (octet_of fourth)

-- the mask of `len` ones
abbrev pub mask_with : ℕ → ℕ
mask_with len = 2 ^ 32 - 2 ^ (32 - len)

-- how many ones an address that is a mask begins with: it has at least one, and all else are zeros
abbrev pub mask_length : Option ℕ → Option ℕ
mask_length None = None
mask_length (Some a) = find (λ len. nat_eq (mask_with len) a) (range_with_len 1 32)

-- the length of the mask for which a word stands
unfoldable pub mask_of : Word → Option ℕ
mask_of word = mask_length (address_of word)

-- the first of two that is there
abbrev pub first_there : Option ℕ → Option ℕ → Option ℕ
first_there (Some a) _ = Some a
first_there None other = other

-- the number of an area: a number, or an address
abbrev pub area_of : Word → Option ℕ
area_of word = first_there (number_of 4294967295 word) (address_of word)

-- a level as `is-type` and `isis circuit-type` write it
abbrev pub levels_of : Word → Result Levels ReadKind
levels_of word =
    if bytes_eq word (codes "level-1") then Ok One else
    if bytes_eq word (codes "level-2-only") then Ok Two else
    if bytes_eq word (codes "level-1-2") then Ok Both else
    Err BadLevel

-- the bytes that are neither blanks nor control characters, from `!` to `~`
abbrev pub is_printable : ℕ → Bool
is_printable b = nat_le 33 b && nat_le b 126

-- a letter of the alphabet
abbrev pub is_letter : ℕ → Bool
is_letter b = (nat_le 65 b && nat_le b 90) || (nat_le 97 b && nat_le b 122)
