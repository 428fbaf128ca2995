use Rattle.std.proofs.Common.{◌≡◌, ℕ, List, Option, length, ap, sym, subst, ◌∙◌}
use Rattle.walk_core.specs.Segments.{AreSegments, SendsAcross}
use Rattle.walk_core.specs.declared.outlets.Outlet.{Outlet}
use Rattle.walk_core.specs.declared.segment.Port.{Port}
use Rattle.walk_core.specs.steps.FirstHops.{AreAllHops}
use Rattle.walk_core.specs.steps.Members.{AreMemberLists, Numbering, placed}
use Rattle.walk_core.specs.steps.Rows.{AreDistanceRows}
use Rattle.walk_core.specs.steps.SegmentWalks.{AreAllOutlets, Joined}
use Rattle.walk_core.proofs.MemberFacts.{member_lists, placed_fit}
use Rattle.walk_core.proofs.over_segments.member_walks.Goals as goal

pub all_outlets-requires : goal.all_outlets-requires
all_outlets-requires c =
    let m : Numbering = c.args.members.now in
    subst (λ (n : ℕ). AreSegments n c.as_slice.result.now) (sym c.len-count.ensures)
    (subst (λ (l : List (List Port)). AreSegments (length m.vertices) l) (sym (c.as_slice.ensures.value ∙ c.in_ok-placed.ensures))
    (placed_fit c.args.segments.now m c.requires))

pub new-graph-requires : goal.new-graph-requires
new-graph-requires c =
    let m : Numbering = c.args.members.now in
    record {
      segments = subst (λ (n : ℕ). AreSegments n c.as_slice-2.result.now) (sym c.len-count.ensures)
          (subst (λ (l : List (List Port)). AreSegments (length m.vertices) l)
          (sym (c.as_slice-2.ensures.value ∙ c.in_ok-placed.ensures))
          (placed_fit c.args.segments.now m c.requires));
      outlets = subst (λ (l : List (List Port)). AreAllOutlets l c.len-count.result c.as_slice-3.result.now)
          (c.as_slice.ensures.value ∙ sym c.as_slice-2.ensures.value)
          (subst (λ (l : List (List Outlet)). AreAllOutlets c.as_slice.result.now c.len-count.result l)
          (sym c.as_slice-3.ensures.value)
          c.in_ok-outlets.ensures);
    }

pub spread_all-requires-clause-lists : goal.spread_all-requires-clause-lists
spread_all-requires-clause-lists c =
    let m : Numbering = c.args.members.now in
    let same : c.new-graph.result.segments ≡ placed m c.args.segments.now =
    ap (λ (j : Joined). j.segments) c.new-graph.ensures ∙ c.as_slice-2.ensures.value ∙ c.in_ok-placed.ensures in
    let count : c.new-graph.result.count ≡ length m.vertices = ap (λ (j : Joined). j.count) c.new-graph.ensures
    ∙ c.len-count.ensures in
    let hops : AreAllHops (SendsAcross (placed m c.args.segments.now)) (length m.vertices) c.in_ok-lists.lists.items =
    subst (λ (n : ℕ). AreAllHops (SendsAcross (placed m c.args.segments.now)) n c.in_ok-lists.lists.items) count
    (subst (λ (l : List (List Port)). AreAllHops
    (SendsAcross l) c.new-graph.result.count c.in_ok-lists.lists.items) same c.in_ok-lists.ensures) in
    subst (λ (l : List (List (List ℕ))). AreMemberLists (length m.vertices) l) (sym c.as_slice-6.ensures.value)
    (member_lists (placed m c.args.segments.now) (length m.vertices) c.in_ok-lists.lists.items
    (placed_fit c.args.segments.now m c.requires) hops)

pub returns : goal.returns
returns c =
    let m : Numbering = c.args.members.now in
    let n : ℕ = length m.vertices in
    let segments : List (List Port) = placed m c.args.segments.now in
    let same : c.new-graph.result.segments ≡ segments =
    ap (λ (j : Joined). j.segments) c.new-graph.ensures ∙ c.as_slice-2.ensures.value ∙ c.in_ok-placed.ensures in
    let count : c.new-graph.result.count ≡ n = ap (λ (j : Joined). j.count) c.new-graph.ensures ∙ c.len-count.ensures in
    c.in_ok-all.ensures c.args.segments.now c.requires (record {
      rows = subst (λ (l : List (List (Option ℕ))). AreDistanceRows (SendsAcross segments) n n l) (sym c.as_slice-5.ensures.value)
          (subst (λ (k : ℕ). AreDistanceRows (SendsAcross segments) k k c.in_ok-rows.rows.items) count
          (subst (λ (l : List (List Port)). AreDistanceRows
          (SendsAcross l) c.new-graph.result.count c.new-graph.result.count c.in_ok-rows.rows.items)
          same c.in_ok-rows.ensures));
      lists = subst (λ (l : List (List (List ℕ))). AreAllHops (SendsAcross segments) n l) (sym c.as_slice-6.ensures.value)
          (subst (λ (k : ℕ). AreAllHops (SendsAcross segments) k c.in_ok-lists.lists.items) count
          (subst (λ (l : List (List Port)). AreAllHops
          (SendsAcross l) c.new-graph.result.count c.in_ok-lists.lists.items) same c.in_ok-lists.ensures));
    })
