use Rattle.std.proofs.Common.{◌≡◌, ◌++◌, ℕ, List, Some, sym, ap, subst, ◌∙◌}
use Rattle.walk_core.specs.Reach.{Reach, distance_of, listed_hops_of, HasHop}
use Rattle.walk_core.specs.steps.Adding.{AddsNumbers}
use Rattle.walk_core.specs.steps.Flooding.{segment_at}
use Rattle.walk_core.specs.steps.SegmentWalks.{IsEndAt, Mesh}
use Rattle.walk_core.proofs.AddingLaws.{adds_list, adds_nothing, adds_same}
use Rattle.walk_core.proofs.SegmentSteps.{end_is_nearest}
use Rattle.walk_core.proofs.ways.Ways.add_ends_of.Goals as goal

pub returns-in_ok-add_behind : goal.returns-in_ok-add_behind
returns-in_ok-add_behind c =
    let mesh : Mesh = c.args.self.now in
    let reach : Reach = c.walks-walks.result.now in
    let v : ℕ = c.args.rest.vertex in
    let old : List ℕ = c.args.found.now.items in
    let from = c.walks-walks.ensures c.requires.lan in
    let near : distance_of reach v ≡ Some c.args.rest.distance = sym c.distance.ensures ∙ c.is_at.ensures.0 c.if-is_at.true in
    let P : ℕ → Type 0 = IsEndAt mesh.rows (segment_at mesh.segments c.args.place) c.args.rest in
    let grown : c.add_behind.new.numbers.items ≡ old ++ listed_hops_of reach v =
    c.in_ok-add_behind.ensures.added ∙ ap (λ (l : List ℕ). old ++ l) c.hops_to.ensures.hops in
    subst (λ (l : List ℕ). AddsNumbers P old l) (sym grown)
    (adds_same (λ h. HasHop reach v h) P old (old ++ listed_hops_of reach v)
    (λ h has. ((from.ends v c.requires.vertex).some c.args.rest.distance h near).0 has)
    (λ h end. ((from.ends v c.requires.vertex).some c.args.rest.distance h near).1 end)
    (adds_list old (listed_hops_of reach v)))

pub returns-else-is_at : goal.returns-else-is_at
returns-else-is_at c =
    let mesh : Mesh = c.args.self.now in
    adds_nothing (IsEndAt mesh.rows (segment_at mesh.segments c.args.place) c.args.rest) c.args.found.now.items (λ h end.
    let is =
    end_is_nearest mesh c.args.place c.args.rest c.walks-walks.result.now (c.walks-walks.ensures c.requires.lan) c.requires.vertex
    c.requires.near h end in
    let yes = c.is_at.ensures.1 (c.distance.ensures ∙ is) in
    let no = c.if-is_at.false in cc (yes, no))
