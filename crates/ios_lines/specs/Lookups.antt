-- Looking up lines by their form.
use Rattle.std.specs.Prelude.{not, Bool, List, [], ◌∷◌, Option, Some, None, Result, Ok, Err, filter, bytes_eq, unwrap_or, if◌then◌else◌}
use Rattle.ios_lines.specs.Words.{Word}
use Rattle.ios_lines.specs.declared.kind.ReadKind.{ReadKind}

-- the later of two, where there is one
abbrev pub later : {A : Type 0} → Option A → Option A → Option A
later before (Some a) = Some a
later before None = before

-- what the last line of a form says
abbrev pub last_of : {A B : Type 0} → (A → Option B) → List A → Option B
last_of form [] = None
last_of form (x ∷ xs) = later (form x) (last_of form xs)

-- the earlier of two, where there is one
abbrev pub earlier : {A : Type 0} → Option A → Option A → Option A
earlier (Some a) after = Some a
earlier None after = after

-- what the first line of a form says
abbrev pub first_of : {A B : Type 0} → (A → Option B) → List A → Option B
first_of form [] = None
first_of form (x ∷ xs) = earlier (form x) (first_of form xs)

-- a value takes the place of the first one that is the same, or else goes last
abbrev pub replaced : {A : Type 0} → (A → A → Bool) → List A → A → List A
replaced same [] x = x ∷ []
replaced same (y ∷ ys) x = if same y x then x ∷ ys else y ∷ replaced same ys x

-- each name once, in the order in which they come first
abbrev pub first_seen : List Word → List Word
first_seen [] = []
first_seen (name ∷ names) = name ∷ filter (λ other. not (bytes_eq name other)) (first_seen names)

-- a value that is there and good
abbrev pub good_value : {A : Type 0} → Option (Result A ReadKind) → Option A
good_value None = None
good_value (Some (Ok a)) = Some a
good_value (Some (Err _)) = None

-- a value that is there and good, or else the one that holds without a line
abbrev pub value_or : {A : Type 0} → Option (Result A ReadKind) → A → A
value_or r default = unwrap_or (good_value r) default
