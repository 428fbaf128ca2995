use Rattle.std.proofs.lemmas.Grind.{common_steps}
use Rattle.std.proofs.Common.{ℕ, ◌≤◌, ◌+◌, ◌++◌, ◌∷◌, [], List, ap, get_or, sym, subst, ◌∙◌, arith}
use Rattle.walk_core.specs.Reach.{Reach, AreWalksBelow}
use Rattle.walk_core.specs.Segments.{SendsAcross}
use Rattle.walk_core.specs.Walks.{Arcs}
use Rattle.walk_core.specs.declared.outlets.Outlet.{Outlet}
use Rattle.walk_core.proofs.RowLaws.{joined_below, lone_more}
use Rattle.walk_core.proofs.over_segments.whole_walks.Goals as goal

pub new-graph-requires : goal.new-graph-requires
new-graph-requires c =
    joined_below c.args.segments.now c.args.count c.joined_end-end.result c.args.outlets.now c.requires.segments c.requires.outlets c.joined_end-end.ensures

pub loop-root-init : goal.loop-root-init
loop-root-init c = grind (arith, common_steps)

pub loop-root-preserved : goal.loop-root-preserved
loop-root-preserved c =
    let arc : Arcs = SendsAcross c.args.segments.now in
    let u : ℕ = c.loop-root.root in
    let all : List (List Outlet) = c.args.outlets.now in
    let walks : List Reach = c.loop-root.all.items in
    let past : c.joined_end-end.result ≤ u = omega (arith, c.loop-root.auto.root) in
    subst (λ (l : List Reach). AreWalksBelow arc c.args.count (u + 1) l)
    (sym (c.in_ok-push.ensures.items ∙ ap (λ (r : Reach). walks ++ r ∷ []) c.of_lone.ensures))
    (lone_more c.args.segments.now c.args.count u (get_or all u []) walks c.requires.segments c.loop-root-test.true
    (c.requires.outlets.each u c.loop-root-test.true)
    (c.joined_end-end.ensures.lone u past (omega (arith, c.requires.outlets.long, c.loop-root-test.true))) c.loop-root.invariant)
