-- What is read of classes, and what parts are made with.
use Rattle.std.specs.Prelude.{All, ◌≡◌, ℕ, ◌<◌, ◌↔◌, ◌⊎◌, List, length, vec_len, Contains, IfSome}
use Rattle.igp_theory.specs.declared.phase.Phase.{Phase}
use Rattle.igp_theory.specs.declared.phase.Phase.TheVariants.{Old, New}
use Rattle.prefix_atoms.specs.Classes.{IsInClass}
use Rattle.rib_mix.specs.Answers.{IsAlikeToKnown, IsNextOf, NextLeadsTo}
use Rattle.rib_mix.specs.declared.next.Next.{Next}
use Rattle.loop_finder.specs.steps.Ends.{ReadHops, EndStep, AreNoHops, HasBothSteps, hops_at}
use Rattle.loop_finder.specs.steps.Parts.{AreAllBut}
use Rattle.loop_finder.specs.steps.Returns.{MarksReturns}
use Rattle.loop_finder.specs.Mixes.{Mix, migration_in, ClassIn, class_in, least_of}
use Rattle.loop_finder.specs.declared.making.Making.{Making}
use Rattle.loop_finder.specs.declared.making.Makings.{Makings}

-- nothing is read yet of n routers
pub record AreNoEnds (n : ℕ) (lists : ReadHops) : Type 0 where
  pub olds : AreNoHops n lists.olds
  pub news : AreNoHops n lists.news

-- the same was read of router u
pub record IsSameAt (one other : ReadHops) (u : ℕ) : Type 0 where
  pub olds : hops_at one.olds u ≡ hops_at other.olds u
  pub news : hops_at one.news u ≡ hops_at other.news u

-- these are the hops of what router u does in a phase with the packets of a class
pub record IsHopsOf (c : ClassIn) (u : ℕ) (phase : Phase) (hops : List ℕ) : Type 0 where
  pub next : Next
  pub is : IsNextOf (migration_in c.mixture) c.mixture.classes u c.atom phase next
  pub leads : (h : ℕ) → Contains hops h ↔ NextLeadsTo next h

-- this was read of router u for a class
pub record IsReadAt (c : ClassIn) (lists : ReadHops) (u : ℕ) : Type 0 where
  pub olds : IsHopsOf c u Old (hops_at lists.olds u)
  pub news : IsHopsOf c u New (hops_at lists.news u)

-- this was read of a class, which has its least address
pub record IsRead (c : ClassIn) (lists : ReadHops) : Type 0 where
  pub least : IsInClass c.mixture.classes c.atom (least_of c)
  pub olds_many : length lists.olds ≡ length c.mixture.net
  pub news_many : length lists.news ≡ length c.mixture.net
  pub each : (u : ℕ) → u < length c.mixture.net → IsReadAt c lists u

-- the routers that are seen were read for a class, and of the others it's still what was read at first
pub record ReadsSeen (c : ClassIn) (seen : List ℕ) (first lists : ReadHops) : Type 0 where
  pub read : (u : ℕ) → Contains seen u → IsReadAt c lists u
  pub rest : (u : ℕ) → Contains seen u ⊎ IsSameAt first lists u

-- this was read of the class that is known
abbrev pub IsKnownClass : Mix → Making → Type 0
IsKnownClass m making = IfSome making.known (λ atom. IsRead (class_in m atom) making.lists)

-- what was read is of n routers, and those to which a walk over the steps of both networks may return are marked
pub record IsMaking (n : ℕ) (making : Making) : Type 0 where
  pub olds_many : length making.lists.olds ≡ n
  pub news_many : length making.lists.news ≡ n
  pub marks_many : vec_len making.marks ≡ n
  pub returns : MarksReturns (EndStep making.lists) making.marks.items

-- the routers without a step in Old or in New are listed, of n, with others maybe
abbrev pub AreStill : ℕ → Making → Type 0
AreStill n making = AreAllBut (HasBothSteps making.lists) n making.still.items

-- where a class is known they are
pub record IsKnownStill (n : ℕ) (making : Making) : Type 0 where
  pub below : All (λ u. u < n) making.still.items
  pub listed : IfSome making.known (λ atom. AreStill n making)

-- it's known which class was read, which routers lack a step, and to which routers a walk over its steps may return
pub record KnowsClass (m : Mix) (making : Making) : Type 0 where
  pub making_is : IsMaking (length m.net) making
  pub known_is : IsKnownClass m making
  pub still_is : IsKnownStill (length m.net) making

-- and which routers aren't known to do the same for another class
pub record KnowsUnlike (m : Mix) (atom : ℕ) (making : Making) : Type 0 where
  pub class : KnowsClass m making
  pub unlike : AreAllBut (IsAlikeToKnown (migration_in m) m.classes making.known atom) (length m.net) making.changed.items

-- that is known of the two latest classes
pub record KnowsBoth (m : Mix) (makings : Makings) : Type 0 where
  pub recent_is : KnowsClass m makings.recent
  pub older_is : KnowsClass m makings.older
