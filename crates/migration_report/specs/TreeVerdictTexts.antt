-- What is printed of a tree file.
use Rattle.std.specs.Prelude.{ℕ, List, [], ◌∷◌, codes, decimal}
use Rattle.printed_lines.specs.Texts.{line}
use Rattle.refutation_check.specs.WrongLines.{kind_number}
use Rattle.refutation_check.specs.declared.verdict.Verdict.{Verdict}
use Rattle.refutation_check.specs.declared.verdict.Verdict.TheVariants.{Closed, Unfinished, Wrong}
use Rattle.refutation_check.specs.declared.verdict.WrongKind.{WrongKind}
use Rattle.migration_report.specs.Kinds.{wrong_kind_name}

-- a tree is closed: how many of its lines are branches, and how many are leaves
abbrev pub closed_text : ℕ → ℕ → List ℕ
closed_text branches leaves = line (codes "closed") (decimal branches ∷ decimal leaves ∷ [])

-- how many places of a tree are unvisited
abbrev pub open_text : ℕ → List ℕ
open_text unvisited = line (codes "open") (decimal unvisited ∷ [])

-- the number of the first wrong line, and its lowest kind by number and name
abbrev pub wrong_text : ℕ → WrongKind → List ℕ
wrong_text number kind = line (codes "wrong") (decimal number ∷ decimal (kind_number kind) ∷ wrong_kind_name kind ∷ [])

-- what is found of a tree file
abbrev pub verdict_text : Verdict → List ℕ
verdict_text (Closed branches leaves) = closed_text branches leaves
verdict_text (Unfinished unvisited) = open_text unvisited
verdict_text (Wrong number kind) = wrong_text number kind
