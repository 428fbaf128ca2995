-- The parts of classes that loops can take, and how they tell of all classes.
use Rattle.std.specs.Prelude.{◌≡◌, ℕ, ◌<◌, ◌⊎◌, Bool, List, [], length, slice_index_or, All, AllPairs, Contains}
use Rattle.std.specs.Bool.{OnTrue}
use Rattle.igp_theory.specs.Forwarding.{MustForward, Steps, HasStep}
use Rattle.igp_theory.specs.Phases.{State}
use Rattle.igp_theory.specs.States.{Follows}
use Rattle.igp_theory.specs.declared.phase.Phase.{Phase}
use Rattle.igp_theory.specs.declared.phase.Phase.TheVariants.{Old, Middle, New}
use Rattle.loop_finder.specs.Mixes.{sample_of, Mix, migration_in, ClassIn, class_in, least_of}
use Rattle.loop_finder.specs.Soundness.{ClassesOf, SoundAt}

-- Parts

-- the hops of a router in each phase
pub record PhaseHops : Type 0 where
  pub old : List ℕ
  pub middle : List ℕ
  pub new : List ℕ

abbrev pub hops_of : PhaseHops → Phase → List ℕ
hops_of row Old = row.old
hops_of row Middle = row.middle
hops_of row New = row.new

abbrev pub no_hops : PhaseHops
no_hops = record { old = []; middle = []; new = [] }

-- a class, whether all its routers are known to move in both networks, and hops of each router
pub record ClassPart : Type 0 where
  pub atom : ℕ
  pub moves : Bool
  pub rows : List PhaseHops

-- the hops of router u in a phase
abbrev pub part_hops : ClassPart → ℕ → Phase → List ℕ
part_hops part u phase = hops_of (slice_index_or part.rows u no_hops) phase

-- a router steps to another in a phase, for the addresses of a class
abbrev pub StepsOf : ClassIn → ℕ → Phase → ℕ → Type 0
StepsOf c u phase h = Steps (migration_in c.mixture) u phase (least_of c) h

-- a router has a step in a phase
abbrev pub HasStepOf : ClassIn → ℕ → Phase → Type 0
HasStepOf c u phase = HasStep (migration_in c.mixture) u phase (least_of c)

-- the steps of both networks: a router steps to another in Old or in New
abbrev pub StepsEver : ClassIn → ℕ → ℕ → Type 0
StepsEver c u h = StepsOf c u Old h ⊎ StepsOf c u New h

-- each router that has to pass packets on has a step in both networks
abbrev pub AllMove : ClassIn → Type 0
AllMove c = (u : ℕ) → MustForward c.mixture.net (least_of c) u → HasStepOf c u Old × HasStepOf c u New

-- some rows have each step of a class from which a walk over the steps of both networks leads back
abbrev pub HaveReturning : ClassIn → List PhaseHops → Type 0
HaveReturning c rows = (u h : ℕ) (hops : List ℕ) (phase : Phase) → StepsOf c u phase h → Follows (StepsEver c) h hops u →
    Contains (hops_of (slice_index_or rows u no_hops) phase) h

-- the part of a class: it has only steps of the class, and each step from which a walk over the steps of both
-- networks leads back
pub record IsPart (m : Mix) (part : ClassPart) : Type 0 where
  pub class : part.atom < length m.classes.samples
  pub many : length part.rows ≡ length m.net
  pub moves : OnTrue part.moves (AllMove (class_in m part.atom))
  pub steps : (u h : ℕ) (phase : Phase) → Contains (part_hops part u phase) h → StepsOf (class_in m part.atom) u phase h
  pub returns : HaveReturning (class_in m part.atom) part.rows

-- What the parts tell

-- every state is sound for a class
abbrev pub NeverUnsound : Mix → ℕ → Type 0
NeverUnsound m atom = (state : State) → SoundAt m state (sample_of m.classes atom)

-- a state that is sound for class j is sound for class k
abbrev pub SoundWith : Mix → ℕ → ℕ → Type 0
SoundWith m j k = (state : State) → SoundAt m state (sample_of m.classes j) → SoundAt m state (sample_of m.classes k)

-- a class has one of some parts
pub record IsOneOf (parts : List ClassPart) (k : ℕ) : Type 0 where
  pub part : ClassPart
  pub among : Contains parts part
  pub is : part.atom ≡ k

-- a class has one of some parts, or every state is sound for it, or every state that is sound for an earlier class
-- that has one
pub data IsCovered (m : Mix) (parts : List ClassPart) (k : ℕ) : Type 0 where
  has_part : IsOneOf parts k → IsCovered m parts k
  never_unsound : NeverUnsound m k → IsCovered m parts k
  as_earlier : (part : ClassPart) → Contains parts part → part.atom < k → SoundWith m part.atom k → IsCovered m parts k

-- parts, ascending, that tell of the first n classes
pub record AreParts (m : Mix) (parts : List ClassPart) (n : ℕ) : Type 0 where
  pub classes : ClassesOf m
  pub each : All (IsPart m) parts
  pub ascending : AllPairs (λ (part other : ClassPart). part.atom < other.atom) parts
  pub below : All (λ (part : ClassPart). part.atom < n) parts
  pub covered : (k : ℕ) → k < n → IsCovered m parts k
