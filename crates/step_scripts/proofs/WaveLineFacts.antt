-- What a line of an order file can say: a wave or a chain, and not both.
use Rattle.std.proofs.lemmas.Grind.{common_steps}
use Rattle.std.proofs.Common.{◌≡◌, ℕ, ◌<◌, Bool, true, cond, ◌&&◌, Option, Some, None, List, [], ◌∷◌, length, refl}
use Rattle.std.proofs.Common.{ap, arith}
use Rattle.std.specs.Prelude.{codes, bytes_eq}
use Rattle.std.specs.List.{AllZip}
use Rattle.std.proofs.lemmas.Bool.{and_parts}
use Rattle.std.proofs.lemmas.Slice.Eq.{bytes_eq-Decides}
use Rattle.step_scripts.specs.WaveLines.{header_of, are_names, named_pieces, wave_on, chain_on, waves_on, chains_on}
use Rattle.step_scripts.specs.WaveFiles.{MayFollowWaves}
use Rattle.step_scripts.specs.declared.version.Version.{Version}

-- a line is the wave of these names
abbrev pub Says : Version → List ℕ → List (List ℕ) → Type 0
Says version line wave = wave_on version line ≡ Some wave

-- two headers are of one version
pub one_header : (version its : Version) → header_of version ≡ header_of its → version ≡ its
one_header version its same = grind arith

-- what stands behind a word
pub record IsBehind (word first : List ℕ) (rest names : List (List ℕ)) : Type 0 where
  pub word_is : first ≡ word
  pub names_are : names ≡ rest
  pub are : are_names rest ≡ true

behind : (word first : List ℕ) (rest names : List (List ℕ)) (b : Bool) → (bytes_eq first word && are_names rest) ≡ b →
    cond b (Some rest) None ≡ Some names → IsBehind word first rest names
behind word first rest names b is same = grind (arith, common_steps, and_parts, bytes_eq-Decides)

pub behind_first : (word first : List ℕ) (rest names : List (List ℕ)) → named_pieces word (first ∷ rest) ≡ Some names →
    IsBehind word first rest names
behind_first word first rest names same = behind word first rest names (bytes_eq first word && are_names rest) refl same

another_word : (pieces : List (List ℕ)) (names : List (List ℕ)) → named_pieces (codes "chain") pieces ≡ Some names →
    named_pieces (codes "wave") pieces ≡ None
another_word pieces names same = grind (arith, common_steps, behind_first)

-- a chain is no wave
pub chain_no_wave : (version : Version) (line : List ℕ) (names : List (List ℕ)) → chain_on version line ≡ Some names → wave_on version line ≡ None
chain_no_wave version line names same = grind (arith, common_steps, another_word)

-- a wave is no chain
pub wave_no_chain : (version : Version) (line : List ℕ) (names : List (List ℕ)) → Says version line names → chain_on version line ≡ None
wave_no_chain version line names says = by_case (chain_on version line) refl
  where
    by_case : (chain : Option (List (List ℕ))) → chain_on version line ≡ chain → chain_on version line ≡ None
    by_case None is = is
    by_case (Some other) is = absurd (let none = chain_no_wave version line other is in cc)

some_behind : (word : List ℕ) (pieces names : List (List ℕ)) → named_pieces word pieces ≡ Some names → 0 < length names
some_behind word pieces names same = grind arith

-- a wave has a name
pub wave_some : (version : Version) (line : List ℕ) (names : List (List ℕ)) → Says version line names → 0 < length names
wave_some version line names says = grind (arith, common_steps, some_behind)

-- the waves of lines that are waves
pub waves_of : (version : Version) (lines : List (List ℕ)) (waves : List (List (List ℕ))) → AllZip (Says version) lines waves →
    waves_on version lines ≡ waves
waves_of version [] [] each = refl
waves_of version [] (wave ∷ waves) each = absurd each
waves_of version (line ∷ lines) [] each = absurd each
waves_of version (line ∷ lines) (wave ∷ waves) each = rw each.0 (ap (λ l. wave ∷ l) (waves_of version lines waves each.1))

-- no chain is among them
pub no_chains : (version : Version) (lines : List (List ℕ)) (waves : List (List (List ℕ))) → AllZip (Says version) lines waves →
    chains_on version lines ≡ []
no_chains version [] [] each = refl
no_chains version [] (wave ∷ waves) each = absurd each
no_chains version (line ∷ lines) [] each = absurd each
no_chains version (line ∷ lines) (wave ∷ waves) each = rw (wave_no_chain version line wave each.0) (no_chains version lines waves each.1)

-- no wave is in what may end
pub end_no_wave : (version : Version) (waves : List (List (List ℕ))) (ending : List (List ℕ)) → MayFollowWaves version waves ending →
    waves_on version ending ≡ []
end_no_wave version waves ending ends = grind (arith, common_steps, chain_no_wave)
