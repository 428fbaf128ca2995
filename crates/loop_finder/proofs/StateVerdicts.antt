-- A state is sound for all addresses where it is for the least address of each class.
use Rattle.std.proofs.lemmas.Grind.{common_steps}
use Rattle.std.proofs.Common.{◌≡◌, ◌≢◌, ℕ, ◌^◌, ◌<◌, ◌≤◌, List, length, get_or, arith, subst, inl, inr}
use Rattle.std.specs.List.{AllPairs}
use Rattle.std.proofs.lemmas.Bool.{cases_lt}
use Rattle.std.proofs.lemmas.List.Kept.{AllPairs-from_increasing}
use Rattle.net_addr.specs.Addresses.{Block}
use Rattle.net_addr.specs.Boundaries.{SameBlocksContain}
use Rattle.net_model.specs.Network.{Network}
use Rattle.route_core.specs.declared.entry.Entry.{Entry}
use Rattle.igp_theory.specs.Laws.{HaveSameTables}
use Rattle.igp_theory.specs.Migrations.{migration, listed_migration}
use Rattle.igp_theory.specs.Phases.{State}
use Rattle.igp_theory.proofs.SameTables.{sound_at_over, same_tables_sym}
use Rattle.prefix_atoms.specs.Classes.{AreSamples, Classes, IsInClass, SourceEntry}
use Rattle.prefix_atoms.specs.Laws.{ActAlike}
use Rattle.prefix_atoms.proofs.ClassLaws.{one_class_acts_alike}
use Rattle.order_core.proofs.DistinctLists.{length-le_from_distinct}
use Rattle.loop_finder.specs.Mixes.{sample_of, Mix, migration_in}
use Rattle.loop_finder.specs.Soundness.{ClassesOf, SoundAt, Sound}
use Rattle.loop_finder.specs.steps.Verdicts.{SoundBelow}
use Rattle.loop_finder.proofs.ClassVerdicts.{sample_in}

-- the samples ascend, so their number is one of 32 bits
pub classes_few : (prefixes : List Block) (samples : List ℕ) → AreSamples prefixes samples → length samples ≤ 2 ^ 32
classes_few prefixes samples are =
    let apart : AllPairs (λ u v. u ≢ v) samples = λ i j d before within same. let less : get_or samples i d < get_or samples j d =
    AllPairs-from_increasing samples are.ascending i j d before within in omega (arith, less, same) in
    length-le_from_distinct samples (2 ^ 32) apart are.addresses

-- at the routers of the network a source has the entries of its tables
same_entries : (net : Network) (old new : ℕ → List (Block × Entry)) → HaveSameTables (listed_migration net old new) (SourceEntry (length net) old)
    (SourceEntry (length net) new)
same_entries net old new = grind (arith, common_steps)

-- a state that is sound for one address of a class is sound for another
sound_alike : (m : Mix) (state : State) (k a b : ℕ) → ClassesOf m → IsInClass m.classes k a → IsInClass m.classes k b
    → SoundAt m state a → SoundAt m state b
sound_alike m state k a b are in_a in_b sound =
    let same : HaveSameTables (migration_in m) (SourceEntry (length m.net) m.old)
    (SourceEntry (length m.net) m.new) = same_entries m.net m.old m.new in
    let alike : ActAlike (migration m.net (SourceEntry (length m.net) m.old) (SourceEntry (length m.net) m.new)) a b =
    one_class_acts_alike (migration m.net (SourceEntry (length m.net) m.old) (SourceEntry (length m.net) m.new)) m.classes k a b are in_a in_b in
    sound_at_over (same_tables_sym same) ((alike.sound state).0 (sound_at_over same sound))

-- an address is in a class whose least address isn't above it
record HasClass (c : Classes) (a : ℕ) : Type 0 where
  pub class : ℕ
  pub inside : IsInClass c class a
  pub least : get_or c.samples class 0 ≤ a

class_of : (c : Classes) (a : ℕ) → AreSamples c.prefixes c.samples → a < 2 ^ 32 → HasClass c a
class_of c a are address =
    let at : (k : ℕ) × (k < length c.samples) × SameBlocksContain c.prefixes (get_or c.samples k 0) a = are.all a address in
    record {
      class = at.0;
      inside = record { class = at.1; address = address; alike = at.2 };
      least = elim (cases_lt a (get_or c.samples at.0 0)) [
        | inl below ↦ absurd (are.least at.0 a at.1 below at.2)
        | inr above ↦ above
      ];
    }

-- where a state is sound for the least addresses of the classes before one, it's sound for all lower addresses
pub below_from : (m : Mix) (state : State) (k : ℕ) → ClassesOf m → k < length m.classes.samples
    → ((j : ℕ) → j < k → SoundAt m state (sample_of m.classes j)) → SoundBelow m state (sample_of m.classes k)
below_from m state k are within sound b below =
    let address : get_or m.classes.samples k 0 < 2 ^ 32 = are.classing.samples.addresses k 0 within in
    let at : HasClass m.classes b = class_of m.classes b are.classing.samples (omega (arith, address, below)) in
    elim (cases_lt at.class k) [
      | inl before ↦ sound_alike m state at.class (sample_of m.classes at.class) b are (sample_in m.classes at.class are at.inside.class) at.inside
          (sound at.class before)
      | inr after ↦ elim (cases_lt k at.class) [
        | inl past ↦
            let less : get_or m.classes.samples k 0 < get_or m.classes.samples at.class 0 =
            AllPairs-from_increasing m.classes.samples are.classing.samples.ascending k at.class 0 past at.inside.class in
            absurd (omega (arith, less, below, at.least))
        | inr equal ↦
            let same : at.class ≡ k = omega (arith, after, equal) in
            let least : get_or m.classes.samples k 0 ≤ b = subst (λ (n : ℕ). get_or m.classes.samples n 0 ≤ b) same at.least in
            absurd (omega (arith, least, below))
      ]
    ]

-- where it is for the least addresses of all classes, it's sound
pub sound_from_classes : (m : Mix) (state : State) (n : ℕ) → ClassesOf m → length m.classes.samples ≤ n
    → ((j : ℕ) → j < n → SoundAt m state (sample_of m.classes j)) → Sound m state
sound_from_classes m state n are whole sound a address =
    let at : HasClass m.classes a = class_of m.classes a are.classing.samples address in
    sound_alike m state at.class (sample_of m.classes at.class) a are (sample_in m.classes at.class are at.inside.class) at.inside
    (sound at.class (omega (arith, at.inside.class, whole)))
