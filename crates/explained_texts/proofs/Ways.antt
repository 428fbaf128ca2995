-- The way of a fault, from its lines.
use Rattle.std.proofs.Common.{◌≡◌, ℕ, ◌<◌, List, [], ◌∷◌, All, Contains, length, get_or, arith, subst, sym}
use Rattle.std.proofs.lemmas.List.Elements.{All-contains, Contains-get_or}
use Rattle.net_addr.specs.Addresses.{Block, IsBlock}
use Rattle.net_model.specs.Network.{Network}
use Rattle.net_model.specs.Refusals.{IsNetwork}
use Rattle.net_model.proofs.Members.{Contains-first}
use Rattle.order_core.specs.declared.turn.Turn.{Turn}
use Rattle.route_core.specs.Tables.{AreTables, HasEntry}
use Rattle.route_core.specs.declared.entry.Entry.{Entry}
use Rattle.route_core.proofs.TableLaws.{one_entry}
use Rattle.igp_theory.specs.Forwarding.{HasStep, IsTarget, MustForward, Steps}
use Rattle.igp_theory.specs.Laws.{HaveSameTables}
use Rattle.igp_theory.specs.Loops.{AroundRing, loop, missing}
use Rattle.igp_theory.specs.Migrations.{Migration, listed_migration, migration}
use Rattle.igp_theory.specs.declared.phase.Phase.{Phase}
use Rattle.igp_theory.proofs.Rings.{around_at, around_inside}
use Rattle.igp_theory.proofs.SameTables.{has_step_over, same_tables_sym}
use Rattle.prefix_atoms.specs.Classes.{AreClasses, Classes, SourceEntry, new_occurs, old_occurs}
use Rattle.explained_texts.specs.TextLaws.{HasOneEntry}
use Rattle.explained_texts.specs.WayTexts.{InSpan, IsFirstLacking, IsTargetLine, IsUseLine, IsWayText, IsFaultInSpan, StateSpan, UsesTowards}
use Rattle.explained_texts.specs.WayTexts.{goes_round, lacks_step, of_ring, turn_phase}
use Rattle.explained_texts.specs.steps.Mixing.{HasLawfulTables}
use Rattle.explained_texts.specs.ToldItems.{TellsAll}
use Rattle.explained_texts.proofs.OneUse.{uses_towards}

-- ---- what is asked of a fault ----

module _ (move : Migration) (span : StateSpan) where
  -- round a ring each router steps to the next in the phase that is told of it
  pub record GoesSo (a : ℕ) (ring : List Turn) : Type 0 where
    pub some : 0 < length ring
    pub goes : AroundRing (λ (r s : Turn). Steps move r.router (turn_phase span r) a s.router) ring

  pub round_of : {a : ℕ} {ring : List Turn} → IsFaultInSpan move span (loop a ring) → GoesSo a ring
  round_of (goes_round a ring address some goes) = record { some = some; goes = goes }

  pub must_of : {a : ℕ} {ring : List Turn} → GoesSo a ring → (turn : Turn) → Contains ring turn → MustForward move.net a turn.router
  must_of {a} {ring} round turn inside =
      (around_at (λ (r s : Turn). Steps move r.router (turn_phase span r) a s.router) ring turn round.goes inside).1.must

  pub ring_inside : {a : ℕ} {ring : List Turn} → IsFaultInSpan move span (loop a ring) → All (λ (turn : Turn). turn.router < length move.net) ring
  ring_inside {a} {ring} stands k d below =
      (must_of (round_of stands) (get_or ring k d) (Contains-get_or ring k d below)).router

  pub ring_target : {a : ℕ} {ring : List Turn} → IsFaultInSpan move span (loop a ring) → (p : Block) × IsTarget move.net a p
  ring_target {a} {ring} stands = first_target ring (round_of stands)
    where
      first_target : (turns : List Turn) → GoesSo a turns → (p : Block) × IsTarget move.net a p
      first_target [] round = let some = round.some in absurd (omega (arith, some))
      first_target (turn ∷ rest) round = let must = must_of round turn (Contains-first turn rest) in (must.target, must.is_target)

  -- the router that lacks a step has to pass packets on, and lacks it in some phase
  pub record LacksSo (a u : ℕ) : Type 0 where
    pub must : MustForward move.net a u
    pub some : (phase : Phase) × InSpan span u phase × (¬ HasStep move u phase a)

  pub lack_of : {a u : ℕ} → IsFaultInSpan move span (missing a u) → LacksSo a u
  lack_of (lacks_step a u phase address must between lacks) = record { must = must; some = (phase, between, lacks) }

-- ---- the texts ----

pub ring_way : (move : Migration) → HasLawfulTables move → (span : StateSpan) (a : ℕ) (ring : List Turn) → IsFaultInSpan move span (loop a ring) →
    (first longer : List ℕ) → IsTargetLine move.net a first →
    TellsAll (λ (turn : Turn). IsUseLine move a turn.router (turn_phase span turn)) ring first longer →
    IsWayText move span (loop a ring) longer
ring_way move lawful span a ring stands first longer target tells =
    let round = round_of move span stands in
    subst (IsWayText move span (loop a ring)) (sym tells.longer_is) (of_ring a ring first tells.more target
    (around_inside (λ (r s : Turn). Steps move r.router (turn_phase span r) a s.router)
    (λ (r s : Turn). UsesTowards move r.router (turn_phase span r) a s.router) ring
    (λ r s inside steps. uses_towards move lawful.network lawful.one_old lawful.one_new r.router steps.must.router (turn_phase span r)
    (λ p e. lawful.old_blocks r.router p e steps.must.router) (λ p e. lawful.new_blocks r.router p e steps.must.router) a s.router steps)
    round.goes) tells.told)

-- ---- what tables keep ----

module _ (net : Network) (old new mixed_old mixed_new : ℕ → List (Block × Entry)) (classes : Classes)
    (same : HaveSameTables (listed_migration net old new) (HasEntry mixed_old) (HasEntry mixed_new))
    (are : AreClasses (migration net (SourceEntry (length net) mixed_old) (SourceEntry (length net) mixed_new)) classes) where
  old_is_block : (u : ℕ) (p : Block) (e : Entry) → u < length net → HasEntry old u p e → IsBlock p
  old_is_block u p e below has =
      All-contains IsBlock classes.prefixes p are.classing.nested.blocks
      ((are.occur p).1 (old_occurs u e (below, (same.same_old u p e below).0 has)))

  new_is_block : (u : ℕ) (p : Block) (e : Entry) → u < length net → HasEntry new u p e → IsBlock p
  new_is_block u p e below has =
      All-contains IsBlock classes.prefixes p are.classing.nested.blocks
      ((are.occur p).1 (new_occurs u e (below, (same.same_new u p e below).0 has)))

  one_of : (routers : ℕ) (table : ℕ → List (Block × Entry)) (linked : ℕ → ℕ → Type 0) → routers ≡ length net →
      AreTables routers table linked → HasOneEntry net (HasEntry table)
  one_of routers table linked many lawful u p e f below one other =
      one_entry (table u) p e f (lawful.distinct u (omega (arith, below, many))) one other

  pub are_lawful : (o n : ℕ) (link other : ℕ → ℕ → Type 0) → IsNetwork net → o ≡ length net → n ≡ length net →
      AreTables o old link → AreTables n new other → HasLawfulTables (listed_migration net old new)
  are_lawful o n link other network many as_many one two = record {
    network = network;
    one_old = one_of o old link many one;
    one_new = one_of n new other as_many two;
    old_blocks = old_is_block;
    new_blocks = new_is_block;
  }

-- ---- mixed forwarding over the same entries ----

module _ (net other : Network) (old new mixed_old mixed_new : ℕ → List (Block × Entry)) (is : other ≡ net)
    (same : HaveSameTables (listed_migration net old new) (HasEntry mixed_old) (HasEntry mixed_new)) where
  pub step_there : (u a : ℕ) (phase : Phase) → HasStep (listed_migration net old new) u phase a →
      HasStep (listed_migration other mixed_old mixed_new) u phase a
  step_there u a phase has =
      subst (λ (n : Network). HasStep (listed_migration n mixed_old mixed_new) u phase a) (sym is) (has_step_over same has)

  pub step_back : (u a : ℕ) (phase : Phase) → HasStep (listed_migration other mixed_old mixed_new) u phase a →
      HasStep (listed_migration net old new) u phase a
  step_back u a phase has =
      has_step_over (same_tables_sym same) (subst (λ (n : Network). HasStep (listed_migration n mixed_old mixed_new) u phase a) is has)

  pub lacking_back : (span : StateSpan) (a u : ℕ) (phase : Phase) →
      IsFirstLacking (listed_migration other mixed_old mixed_new) span a u phase → IsFirstLacking (listed_migration net old new) span a u phase
  lacking_back span a u phase lacking = record {
    must = subst (λ (n : Network). MustForward n a u) is lacking.must;
    between = lacking.between;
    lacks = λ has. lacking.lacks (step_there u a phase has);
    earlier = λ p between before. step_back u a p (lacking.earlier p between before);
  }
