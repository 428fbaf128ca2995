-- The texts that are printed, each one line.
use Rattle.std.specs.Prelude.{◌≢◌, ℕ, List, [], ◌∷◌, map, codes, decimal}
use Rattle.net_model.specs.declared.refusal.NetRefusal.TheVariants.{OutOfMemory}
use Rattle.igp_theory.specs.Loops.{Fault, missing, loop}
use Rattle.order_core.specs.Turns.{routers_of}
use Rattle.order_core.specs.declared.turn.Turn.{Turn}
use Rattle.printed_lines.specs.Words.{dotted, router_word}
use Rattle.printed_lines.specs.Texts.{line}
use Rattle.migration_report.specs.declared.refusal.Refusal.{Refusal}
use Rattle.migration_report.specs.declared.refusal.Refusal.TheVariants.{Network as NoNetwork}

-- the names of the routers of a ring, in order
abbrev pub ring_words : List (List ℕ) → List Turn → List (List ℕ)
ring_words names ring = map (router_word names) (routers_of ring)

-- what is wrong in a state, and at which address, by the names of the routers
abbrev pub fault_words : List (List ℕ) → Fault → List (List ℕ)
fault_words names (missing a u) = dotted a ∷ codes "missing" ∷ router_word names u ∷ []
fault_words names (loop a ring) = dotted a ∷ codes "loop" ∷ ring_words names ring

-- an order is safe: the count of its changes
abbrev pub safe_text : ℕ → List ℕ
safe_text changes = line (codes "safe") (decimal changes ∷ [])

-- an order isn't safe: the number of its first unsound state, and what is wrong there
abbrev pub unsafe_text : List (List ℕ) → ℕ → Fault → List ℕ
unsafe_text names state fault = line (codes "unsafe") (decimal state ∷ fault_words names fault)

-- a wave list is safe: the count of its changes, and how many waves it has
abbrev pub waves_safe_text : ℕ → ℕ → List ℕ
waves_safe_text changes waves = line (codes "safe") (decimal changes ∷ codes "waves" ∷ decimal waves ∷ [])

-- a wave list isn't safe: the number of its first wave with an unsound state, from 1, and what is wrong there
abbrev pub waves_unsafe_text : List (List ℕ) → ℕ → Fault → List ℕ
waves_unsafe_text names wave fault = line (codes "unsafe") (codes "wave" ∷ decimal wave ∷ fault_words names fault)

-- a line of a file is faulty
abbrev pub faulty_text : List ℕ → ℕ → List ℕ → List ℕ
faulty_text file number kind = line (codes "refused") (file ∷ decimal number ∷ kind ∷ [])

-- a router isn't where a migration starts
abbrev pub off_start_text : List ℕ → List ℕ
off_start_text name = line (codes "refused") (codes "network" ∷ codes "NotAtStart" ∷ name ∷ [])

-- the words of the command are other words
abbrev pub words_refused_text : List ℕ
words_refused_text = line (codes "words") (codes "refused" ∷ [])

-- a file can't be read
abbrev pub read_fault_text : List ℕ → List ℕ
read_fault_text file = line (codes "read") (codes "fault" ∷ file ∷ [])

-- there are too many files
abbrev pub many_files_text : ℕ → List ℕ
many_files_text number = line (codes "limit") (codes "files" ∷ decimal number ∷ [])

-- a file is too long
abbrev pub long_file_text : List ℕ → List ℕ
long_file_text file = line (codes "limit") (codes "bytes" ∷ file ∷ [])

-- the files are too long together
abbrev pub long_files_text : ℕ → List ℕ
long_files_text number = line (codes "limit") (codes "total" ∷ decimal number ∷ [])

-- a refusal that is printed isn't want of memory
abbrev pub IsPrinted : Refusal → Type 0
IsPrinted (NoNetwork refusal) = refusal ≢ OutOfMemory
IsPrinted _ = Unit {0}
