use Rattle.std.proofs.Common.{arith}
use Rattle.std.proofs.lemmas.Grind.{common_steps}
use Rattle.std.proofs.Common.{◌≡◌, ◌↔◌, ℕ, ◌<◌, Bool, false, IsTrue, List, length, All, Some, None, sym, ◌∙◌, subst}
use Rattle.std.specs.List.{slice_get}
use Rattle.std.proofs.lemmas.Bool.{false≢true}
use Rattle.net_addr.specs.Addresses.{Block}
use Rattle.net_model.specs.Network.{Network}
use Rattle.igp_theory.specs.Forwarding.{IsTarget, MustForward}
use Rattle.order_core.specs.declared.turn.Turn.{Turn}
use Rattle.prefix_atoms.specs.Classes.{Classes, IsInClass}
use Rattle.refutation_check.specs.steps.Judged.{started_of}
use Rattle.refutation_check.proofs.BranchFacts.{SomeOriginates, no_target_lowest, originates_lowest, off_step_lowest, one_sided_lowest, all_must}
use Rattle.refutation_check.proofs.branch.branch_fault.Goals as goal

pub returns-in_default-clause-wrong : goal.returns-in_default-clause-wrong
returns-in_default-clause-wrong g c =
    let m = c.args.asked.now.mixed.now in
    let inside : IsInClass m.classes c.of-atom.result c.args.address = subst (λ (x : Classes). IsInClass x c.of-atom.result c.args.address)
    c.atoms.ensures.atoms c.of-atom.ensures in
    let told : slice_get m.classes.targets c.of-atom.result ≡ Some None = subst (λ (x : Classes). slice_get x.targets c.of-atom.result ≡ Some None)
    c.atoms-2.ensures.atoms c.in_default.ensures in
    no_target_lowest (started_of g.O.RouteSource.table g.N.RouteSource.table m c.args.asked.now.start.now) c.args.address c.args.turns.now
    (c.atoms.ensures.classes.target c.of-atom.result c.args.address None inside told)

pub returns-then-some_originates-clause-wrong : goal.returns-then-some_originates-clause-wrong
returns-then-some_originates-clause-wrong g c =
    let m = c.args.asked.now.mixed.now in
    let inside : IsInClass m.classes c.of-atom.result c.args.address = subst (λ (x : Classes). IsInClass x c.of-atom.result c.args.address)
    c.atoms.ensures.atoms c.of-atom.ensures in
    let told : slice_get m.classes.targets c.of-atom.result ≡ Some (Some c.in-Some.target) = subst
    (λ (x : Classes). slice_get x.targets c.of-atom.result ≡ Some (Some c.in-Some.target)) c.atoms-2.ensures.atoms c.in-Some.ensures in
    originates_lowest (started_of g.O.RouteSource.table g.N.RouteSource.table m c.args.asked.now.start.now) c.args.address c.args.turns.now
    c.in-Some.target
    (c.atoms.ensures.classes.target c.of-atom.result c.args.address (Some c.in-Some.target) inside told)
    (subst (λ (n : Network). SomeOriginates n c.args.turns.now c.in-Some.target) c.net.ensures (c.some_originates.ensures.0 c.if-some_originates.true))

pub goes_round-requires-clause-atom : goal.goes_round-requires-clause-atom
goes_round-requires-clause-atom g c = grind (arith, common_steps)

-- routers of turns none of which originates the target have to pass packets on
away : (net shown : Network) (a : ℕ) (turns : List Turn) (p : Block) (some : Bool) → shown ≡ net → IsTarget net a p →
    (IsTrue some ↔ SomeOriginates shown turns p) → some ≡ false → All (λ (turn : Turn). turn.router < length net) turns
    → (¬ SomeOriginates net turns p) × All (λ (turn : Turn). MustForward net a turn.router) turns
away net shown a turns p some same target told off below =
    let none : ¬ SomeOriginates net turns p =
    λ has. false≢true (sym off ∙ told.1 (subst (λ (n : Network). SomeOriginates n turns p) (sym same) has)) in
    (none, all_must net a turns p target none below)

pub returns-then-not-goes_round-clause-wrong : goal.returns-then-not-goes_round-clause-wrong
returns-then-not-goes_round-clause-wrong g c =
    let m = c.args.asked.now.mixed.now in
    let inside : IsInClass m.classes c.of-atom.result c.args.address = subst (λ (x : Classes). IsInClass x c.of-atom.result c.args.address)
    c.atoms.ensures.atoms c.of-atom.ensures in
    let told : slice_get m.classes.targets c.of-atom.result ≡ Some (Some c.in-Some.target) = subst
    (λ (x : Classes). slice_get x.targets c.of-atom.result ≡ Some (Some c.in-Some.target)) c.atoms-2.ensures.atoms c.in-Some.ensures in
    let target = c.atoms.ensures.classes.target c.of-atom.result c.args.address (Some c.in-Some.target) inside told in
    let off = away m.net c.net.result.now c.args.address c.args.turns.now c.in-Some.target c.some_originates.result c.net.ensures target
    c.some_originates.ensures c.if-some_originates.false c.requires.below in
    off_step_lowest (started_of g.O.RouteSource.table g.N.RouteSource.table m c.args.asked.now.start.now) c.args.address c.args.turns.now c.in-Some.target
    c.requires.network target off.0
    (λ round. false≢true (sym c.if-not-goes_round.true ∙ (c.goes_round.ensures c.args.address inside off.1).1 round))

pub returns-then-not-has_both_tags-clause-wrong : goal.returns-then-not-has_both_tags-clause-wrong
returns-then-not-has_both_tags-clause-wrong g c =
    let m = c.args.asked.now.mixed.now in
    let inside : IsInClass m.classes c.of-atom.result c.args.address = subst (λ (x : Classes). IsInClass x c.of-atom.result c.args.address)
    c.atoms.ensures.atoms c.of-atom.ensures in
    let told : slice_get m.classes.targets c.of-atom.result ≡ Some (Some c.in-Some.target) = subst
    (λ (x : Classes). slice_get x.targets c.of-atom.result ≡ Some (Some c.in-Some.target)) c.atoms-2.ensures.atoms c.in-Some.ensures in
    let target = c.atoms.ensures.classes.target c.of-atom.result c.args.address (Some c.in-Some.target) inside told in
    let off = away m.net c.net.result.now c.args.address c.args.turns.now c.in-Some.target c.some_originates.result c.net.ensures target
    c.some_originates.ensures c.if-some_originates.false c.requires.below in
    one_sided_lowest (started_of g.O.RouteSource.table g.N.RouteSource.table m c.args.asked.now.start.now) c.args.address c.args.turns.now
    c.in-Some.target c.requires.network target off.0
    ((c.goes_round.ensures c.args.address inside off.1).0 c.if-not-goes_round.false)
    (λ both. false≢true (sym c.if-not-has_both_tags.true ∙ c.has_both_tags.ensures.1 both))

pub returns-clause-right : goal.returns-clause-right
returns-clause-right g c =
    let m = c.args.asked.now.mixed.now in
    let inside : IsInClass m.classes c.of-atom.result c.args.address = subst (λ (x : Classes). IsInClass x c.of-atom.result c.args.address)
    c.atoms.ensures.atoms c.of-atom.ensures in
    let told : slice_get m.classes.targets c.of-atom.result ≡ Some (Some c.in-Some.target) = subst
    (λ (x : Classes). slice_get x.targets c.of-atom.result ≡ Some (Some c.in-Some.target)) c.atoms-2.ensures.atoms c.in-Some.ensures in
    let off = away m.net c.net.result.now c.args.address c.args.turns.now c.in-Some.target c.some_originates.result c.net.ensures
    (c.atoms.ensures.classes.target c.of-atom.result c.args.address (Some c.in-Some.target) inside told)
    c.some_originates.ensures c.if-some_originates.false c.requires.below in
    record {
      address = inside.address;
      tags = (c.goes_round.ensures c.args.address inside off.1).0 c.if-not-goes_round.false;
      both = c.has_both_tags.ensures.0 c.if-not-has_both_tags.false;
    }
