use Rattle.std.proofs.Common.{◌↔◌, ℕ, List, MatchOption, Option, subst}
use Rattle.std.proofs.lemmas.Result.{on_ok_weaker}
use Rattle.walk_core.specs.declared.ways.Aim.{Aim}
use Rattle.walk_core.specs.declared.segment.Port.{Port}
use Rattle.walk_core.specs.steps.Flooding.{segment_at}
use Rattle.walk_core.specs.steps.SegmentWalks.{IsBehind, IsEndAt, IsLinkEnd, IsLan, Mesh}
use Rattle.walk_core.proofs.AddingLaws.{adds_same}
use Rattle.walk_core.proofs.SegmentSteps.{adds_over}
use Rattle.walk_core.proofs.ways.Ways.add_hops.Goals as goal

pub returns-in-Some-to : goal.returns-in-Some-to
returns-in-Some-to c =
    let mesh : Mesh = c.args.self.now in
    let ports : List Port = segment_at mesh.segments c.args.outlet.place in
    let rest : Aim = c.in-Some.rest in
    let old : List ℕ = c.args.found.now.items in
    let new : List ℕ = c.add_end.new.found.items in
    let alone : (r : Aim) (h : ℕ) → IsBehind c.args.aim c.args.outlet.cost r → IsEndAt mesh.rows ports r h ↔ IsLinkEnd mesh.rows r c.in-Some-to.to h =
    subst (λ (o : Option ℕ). MatchOption o (IsLan ports)
    (λ t. (r : Aim) (h : ℕ) → IsBehind c.args.aim c.args.outlet.cost r → IsEndAt mesh.rows ports r h ↔ IsLinkEnd mesh.rows r t h))
    c.in-Some-to.is c.requires.far in
    on_ok_weaker c.add_end.result
    (λ adds. adds_over mesh c.args.aim c.args.outlet rest old new c.in-Some.ensures
    (adds_same (IsLinkEnd mesh.rows rest c.in-Some-to.to) (IsEndAt mesh.rows ports rest) old new (λ h. (alone rest h c.in-Some.ensures).1)
    (λ h. (alone rest h c.in-Some.ensures).0) adds))
    c.add_end.ensures

pub returns-in-None : goal.returns-in-None
returns-in-None c =
    on_ok_weaker c.add_ends_of.result
    (adds_over c.args.self.now c.args.aim c.args.outlet c.in-Some.rest c.args.found.now.items c.add_ends_of.new.found.items c.in-Some.ensures)
    c.add_ends_of.ensures
