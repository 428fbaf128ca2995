-- The line that tells why two networks make no pair.
use Rattle.std.specs.Prelude.{ℕ, List, [], ◌∷◌, codes}
use Rattle.printed_lines.specs.Texts.{line}
use Rattle.ospf_pair.specs.declared.refusal.PairRefusal.{PairRefusal}
use Rattle.ospf_pair.specs.declared.refusal.PairRefusal.TheVariants.{RouterMissing, InterfacesDiffer, HasIsis, ProcessClash, NotIdle, OutOfMemory}

-- the kind of a refusal and the name of its router
abbrev pub pair_line : List ℕ → List ℕ → List ℕ
pair_line kind name = line (codes "refused") (codes "pair" ∷ kind ∷ name ∷ [])

-- why two networks make no pair; want of memory is never printed
abbrev pub pair_refusal_text : PairRefusal → List ℕ
pair_refusal_text (RouterMissing name) = pair_line (codes "RouterMissing") name
pair_refusal_text (InterfacesDiffer name) = pair_line (codes "InterfacesDiffer") name
pair_refusal_text (HasIsis name) = pair_line (codes "HasIsis") name
pair_refusal_text (ProcessClash name) = pair_line (codes "ProcessClash") name
pair_refusal_text (NotIdle name) = pair_line (codes "NotIdle") name
pair_refusal_text OutOfMemory = []
