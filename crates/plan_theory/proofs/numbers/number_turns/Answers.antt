use Rattle.std.proofs.Common.{◌+◌, ◌<◌, List, [], length, get_or, take, All, arith, sym, subst}
use Rattle.std.proofs.lemmas.List.{take_all}
use Rattle.std.proofs.lemmas.List.Elements.{All-nil, All-push}
use Rattle.igp_theory.specs.Forwarding.{MustForward}
use Rattle.igp_theory.specs.Migrations.{Migration, started}
use Rattle.igp_theory.specs.Phases.{State}
use Rattle.order_core.specs.declared.turn.Tag.TheVariants.{Old}
use Rattle.order_core.specs.declared.turn.Turn.{Turn}
use Rattle.plan_theory.specs.Ranked.{size_of}
use Rattle.prefix_atoms.specs.Classes.{Classes, IsInClass}
use Rattle.rib_mix.specs.Mixture.{migration_of}
use Rattle.plan_theory.specs.Numbers.{AreNumbered, turn_of}
use Rattle.plan_theory.proofs.NumberedTurns.{none_numbered, numbered_more}
use Rattle.plan_theory.proofs.numbers.number_turns.Goals as goal

abbrev no_turn : Turn
no_turn = record { router = 0; tag = Old }

pub loop-turn-init : goal.loop-turn-init
loop-turn-init g c =
    let move : State → Migration = λ start. started start (migration_of g.O.RouteSource.table g.N.RouteSource.table c.args.mixed.now) in
    let below : Turn → Type 0 = λ (t : Turn). t.router < size_of c.args.items (length c.args.mixed.now.net) in
    record {
      numbered = λ start. subst (λ (l : List Turn). AreNumbered c.args.items (move start) c.args.address [] l) (sym c.clear.ensures.items)
          (none_numbered c.args.items (move start) c.args.address);
      below = subst (λ (l : List Turn). All below l) (sym c.clear.ensures.items) (All-nil below);
      count = c.clear.ensures.len;
      room = omega (arith, c.requires.room, c.clear.ensures.capacity);
      capacity = omega (arith, c.clear.ensures.capacity);
    }

pub number_at-router-requires-clause-router : goal.number_at-router-requires-clause-router
number_at-router-requires-clause-router g c = (c.requires.must c.loop-turn.turn-index no_turn c.loop-turn-test.true).router

pub number_at-router-requires-clause-atom : goal.number_at-router-requires-clause-atom
number_at-router-requires-clause-atom g c =
    subst (λ (x : Classes). c.of-atom.result < length x.samples) c.atoms.ensures.atoms c.of-atom.ensures.class

pub loop-turn-preserved : goal.loop-turn-preserved
loop-turn-preserved g c =
    let m = c.args.mixed.now in
    let items = c.args.items in
    let a = c.args.address in
    let move : State → Migration = λ start. started start (migration_of g.O.RouteSource.table g.N.RouteSource.table m) in
    let turns = c.args.turns.now in
    let i = c.loop-turn.turn-index in
    let turn = get_or turns i no_turn in
    let number = c.number_at-router.result in
    let all = c.loop-turn.numbered.items in
    let below : Turn → Type 0 = λ (t : Turn). t.router < size_of items (length m.net) in
    let inside : IsInClass m.classes c.of-atom.result a =
    subst (λ (x : Classes). IsInClass x c.of-atom.result a) c.atoms.ensures.atoms c.of-atom.ensures in
    let must : MustForward m.net a turn.router = c.requires.must i no_turn c.loop-turn-test.true in
    record {
      numbered = λ start. subst (λ (l : List Turn). AreNumbered items (move start) a (take (i + 1) turns) l) (sym c.push_reserved.ensures.items)
          (numbered_more items (move start) a turns all i number no_turn c.loop-turn-test.true (c.loop-turn.invariant.numbered start)
          (c.number_at-router.ensures.router start turn.tag) (c.number_at-router.ensures.names start a turn.tag inside must));
      below = subst (λ (l : List Turn). All below l) (sym c.push_reserved.ensures.items)
          (All-push below all (turn_of number turn.tag) c.loop-turn.invariant.below c.number_at-router.ensures.below);
      count = omega (arith, c.push_reserved.ensures.len, c.loop-turn.invariant.count);
      room = omega (arith, c.loop-turn.invariant.room, c.push_reserved.ensures.capacity);
      capacity = omega (arith, c.loop-turn.invariant.capacity, c.push_reserved.ensures.capacity);
    }

pub returns-clause-numbered : goal.returns-clause-numbered
returns-clause-numbered g c = λ start.
    let move : Migration = started start (migration_of g.O.RouteSource.table g.N.RouteSource.table c.args.mixed.now) in
    subst (λ (l : List Turn). AreNumbered c.args.items move c.args.address l c.loop-turn.numbered.items)
    (take_all c.loop-turn.turn-index c.args.turns.now (omega (arith, c.loop-turn-test.false)))
    (c.loop-turn.invariant.numbered start)
