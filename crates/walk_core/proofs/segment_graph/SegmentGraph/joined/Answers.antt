use Rattle.std.proofs.Common.{◌<◌, ◌+◌, ◌++◌, ◌∷◌, ℕ, List, [], Option, length, length-set, get_or, refl, ap, sym, subst, ◌∙◌, arith}
use Rattle.std.proofs.lemmas.Option.{slice_get_within}
use Rattle.walk_core.specs.steps.Rows.{IsDistanceRow}
use Rattle.walk_core.specs.Reach.{Reach, AreWalksBelow}
use Rattle.walk_core.specs.steps.Ascending.{AreAscending}
use Rattle.walk_core.specs.Segments.{SendsAcross}
use Rattle.walk_core.specs.Walks.{Arcs}
use Rattle.walk_core.specs.steps.FirstHops.{AreAllHops, ListFirstHops}
use Rattle.walk_core.proofs.ReachLaws.{rest_kept, walks_more}
use Rattle.walk_core.proofs.segment_graph.SegmentGraph.joined.Goals as goal

pub loop-root-init : goal.loop-root-init
loop-root-init c =
    let arc : Arcs = SendsAcross c.args.self.now.segments in
    let lists : AreAllHops arc c.args.self.now.count c.args.lists.items = c.requires.lists in
    record {
      walks = subst (λ (l : List Reach). AreWalksBelow arc c.args.self.now.count 0 l) (sym c.in_ok-all.ensures.items) (record {
        long = refl;
        least = λ u reach at. absurd (omega (arith, slice_get_within [] u reach at));
        near = λ u reach at. absurd (omega (arith, slice_get_within [] u reach at));
      });
      long = c.requires.rows.long;
      many = lists.long;
      rows = λ u past below. c.requires.rows.each u below;
      exact = λ u past below. lists.exact u below;
      ascending = λ u past below. lists.ascending u below;
    }

pub loop-root-preserved : goal.loop-root-preserved
loop-root-preserved c =
    let arc : Arcs = SendsAcross c.args.self.now.segments in
    let count : ℕ = c.args.self.now.count in
    let root : ℕ = c.loop-root.root in
    let rows : List (List (Option ℕ)) = c.loop-root.rows.items in
    let lists : List (List (List ℕ)) = c.loop-root.lists.items in
    let is = c.loop-root.invariant in
    let within : root < count = omega (arith, c.loop-root-test.true, c.count-count.ensures.value) in
    let reach : Reach = record { distances = c.take_row-distances.result; hops = c.take_hops-hops.result } in
    let row : IsDistanceRow arc count root reach.distances =
    subst (λ (l : List (Option ℕ)). IsDistanceRow arc count root l) (sym c.take_row-distances.ensures.taken)
    (is.rows root (omega arith) within) in
    let hops : ListFirstHops arc root reach.hops =
    subst (λ (l : List (List ℕ)). ListFirstHops arc root l) (sym c.take_hops-hops.ensures.taken) (is.exact root (omega arith) within) in
    record {
      walks = subst (λ (l : List Reach). AreWalksBelow arc count (root + 1) l)
          (sym (c.in_ok-push.ensures.items ∙ ap (λ (r : Reach). c.loop-root.all.items ++ r ∷ []) c.in_ok-walks.ensures))
          (walks_more arc count root c.loop-root.all.items reach is.walks row hops);
      long = ap (λ (l : List (List (Option ℕ))). length l) c.take_row-distances.ensures.others ∙ length-set rows root [] ∙ is.long;
      many = ap (λ (l : List (List (List ℕ))). length l) c.take_hops-hops.ensures.others ∙ length-set lists root [] ∙ is.many;
      rows = λ u past below. subst (λ (l : List (List (Option ℕ))). IsDistanceRow arc count u (get_or l u [])) (sym c.take_row-distances.ensures.others)
          (rest_kept (IsDistanceRow arc count) rows [] root count is.rows u past below);
      exact = λ u past below. subst (λ (l : List (List (List ℕ))). ListFirstHops arc u (get_or l u [])) (sym c.take_hops-hops.ensures.others)
          (rest_kept (ListFirstHops arc) lists [] root count is.exact u past below);
      ascending = λ u past below. subst (λ (l : List (List (List ℕ))). AreAscending (get_or l u [])) (sym c.take_hops-hops.ensures.others)
          (rest_kept (λ n l. AreAscending l) lists [] root count is.ascending u past below);
    }
