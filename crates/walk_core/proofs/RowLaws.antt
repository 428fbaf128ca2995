-- The walks from a vertex that reaches itself alone.
use Rattle.std.proofs.Common.{◌≡◌, ◌∙◌, ℕ, ◌+◌, ◌<◌, zero, suc, List, [], ◌∷◌, ◌++◌, Option, Some, None, length, length-append, length-take-le}
use Rattle.std.proofs.Common.{replicate, refl, sym, take}
use Rattle.std.proofs.Common.{Contains, ap, get_or, inl, inr, subst, arith}
use Rattle.std.proofs.lemmas.Bool.{cases_lt}
use Rattle.std.proofs.lemmas.List.{get_or-take, get_or_default, length-replicate}
use Rattle.walk_core.specs.declared.outlets.Outlet.{Outlet}
use Rattle.walk_core.specs.declared.segment.Port.{Port}
use Rattle.walk_core.specs.Distances.{distance_at}
use Rattle.walk_core.specs.steps.Rows.{IsDistanceRow}
use Rattle.walk_core.specs.Reach.{Reach, AreWalksBelow}
use Rattle.walk_core.specs.Segments.{SendsAcross, AreSegments, IsPort}
use Rattle.walk_core.specs.steps.Flooding.{segment_at}
use Rattle.walk_core.specs.Walks.{Arcs}
use Rattle.walk_core.specs.steps.Relaxing.{AreWalked, IsTightFrom}
use Rattle.walk_core.specs.KeptWalks.{lone_row}
use Rattle.walk_core.specs.steps.SegmentWalks.{AreAllOutlets, AreOutlets, HasOutlet, IsJoined, IsJoinedEnd}
use Rattle.walk_core.proofs.FloodLaws.{sends_at_place, sends_below}
use Rattle.walk_core.proofs.ReachLaws.{lists_of_all, no_hops_listed, walks_more}
use Rattle.walk_core.proofs.RelaxLaws.{distances_from_tight}

pub lone_at_root : (root : ℕ) → distance_at (lone_row root) root ≡ Some 0
lone_at_root zero = refl
lone_at_root (suc root) = lone_at_root root

lone_elsewhere : (root v d : ℕ) → distance_at (lone_row root) v ≡ Some d → (v ≡ root) × (d ≡ 0)
lone_elsewhere zero zero d is = (refl, let k : Some 0 ≡ Some d = is in cc)
lone_elsewhere zero (suc v) d is = absurd (let k : None ≡ Some d = is in cc)
lone_elsewhere (suc root) zero d is = absurd (let k : None ≡ Some d = is in cc)
lone_elsewhere (suc root) (suc v) d is = let there = lone_elsewhere root v d is in (ap suc there.0, there.1)

-- a vertex without a port has no arc
pub no_arc : (segments : List (List Port)) (root : ℕ) (outlets : List Outlet) → AreOutlets segments root (length segments) outlets → length outlets ≡ 0 →
    (v c : ℕ) → SendsAcross segments root v c → ⊥
no_arc segments root outlets are none v c arc =
    let at = sends_at_place segments root v c arc.over in
    let listed : HasOutlet outlets at.0 at.2.near.cost = are.every at.0 at.1 at.2.near at.2.near_among at.2.from in
    omega (arith, none, listed.among.1)

-- a vertex without an arc reaches itself alone
pub row_alone : (segments : List (List Port)) (count root : ℕ) → root < count → AreSegments count segments → ((v c : ℕ) → SendsAcross segments root v c → ⊥) →
    IsDistanceRow (SendsAcross segments) count root (lone_row root)
row_alone segments count root below are alone = record {
  least = distances_from_tight arc count root (lone_row root) below (λ u v c in_range over. sends_below segments count u v c are over.over) tight walked;
  within = omega (arith, below, length-append (replicate {A = Option ℕ} root None) (Some 0 ∷ []), length-replicate {A = Option ℕ} root None);
  near = λ v d is. omega (arith, below, (lone_elsewhere root v d is).1);
}
  where
    arc : Arcs
    arc = SendsAcross segments

    tight : (u : ℕ) → u < count → IsTightFrom arc u (lone_row root)
    tight u in_range v c d over is =
        let over_root : arc root v c = subst (λ (n : ℕ). arc n v c) (lone_elsewhere root u d is).0 over in
        absurd (alone v c over_root)

    walked : AreWalked arc root (lone_row root)
    walked = record {
      start = lone_at_root root;
      walked = λ v d is. let at = lone_elsewhere root v d is in record { legs = []; leads = sym at.0; costs = sym at.1 };
    }

-- so does one without a port
pub row_of_lone : (segments : List (List Port)) (count root : ℕ) (outlets : List Outlet) → root < count → AreSegments count segments →
    AreOutlets segments root (length segments) outlets → length outlets ≡ 0 → IsDistanceRow (SendsAcross segments) count root (lone_row root)
row_of_lone segments count root outlets below are listed none = row_alone segments count root below are (no_arc segments root outlets listed none)

-- the ports are of vertices before the last one that has one
ports_below : (segments : List (List Port)) (count end : ℕ) (all : List (List Outlet)) → AreSegments count segments → AreAllOutlets segments count all →
    IsJoinedEnd all end → AreSegments end segments
ports_below segments count end all are listed is segment among port at = record {
  vertex = elim (cases_lt port.vertex end) [
    | inl below ↦ below
    | inr past ↦
        let within : among.0 < length segments = among.1 in
        let here : segment_at segments among.0 ≡ segment = get_or_default segments among.0 [] segment within ∙ among.2 in
        let on : Contains (segment_at segments among.0) port = subst (λ (s : List Port). Contains s port) (sym here) at in
        let of : HasOutlet (get_or all port.vertex []) among.0 port.cost = (listed.each port.vertex fits.vertex).every among.0 within port on refl in
        absurd (omega (arith, of.among.1, is.lone port.vertex past (omega (arith, fits.vertex, listed.long))))
  ];
  cost = fits.cost;
  most = fits.most;
}
  where
    fits : IsPort count port
    fits = are segment among port at

-- so the vertices before that one are joined by all segments
pub joined_below : (segments : List (List Port)) (count end : ℕ) (all : List (List Outlet)) → AreSegments count segments →
    AreAllOutlets segments count all → IsJoinedEnd all end → IsJoined (record { count = end; segments = segments; outlets = take end all })
joined_below segments count end all are listed is = record {
  segments = ports_below segments count end all are listed is;
  outlets = record {
    long = length-take-le end all is.within;
    each = λ u below. subst (λ (l : List Outlet). AreOutlets segments u (length segments) l) (sym (get_or-take end all u [] below))
        (listed.each u (omega (arith, below, is.within, listed.long)));
  };
}

-- the walks from a vertex that reaches itself alone come behind others
pub alone_more : (segments : List (List Port)) (count u : ℕ) (walks : List Reach) → AreSegments count segments → u < count →
    ((v c : ℕ) → SendsAcross segments u v c → ⊥) → AreWalksBelow (SendsAcross segments) count u walks →
    AreWalksBelow (SendsAcross segments) count (u + 1) (walks ++ record { distances = lone_row u; hops = [] } ∷ [])
alone_more segments count u walks are below alone before =
    let arc : Arcs = SendsAcross segments in
    let row : IsDistanceRow arc count u (lone_row u) = row_alone segments count u below are alone in
    walks_more arc count u walks (record { distances = lone_row u; hops = [] }) before row
    (lists_of_all arc u count 0 (lone_row u) [] row (no_hops_listed arc u) (inr alone))

pub lone_more : (segments : List (List Port)) (count u : ℕ) (outlets : List Outlet) (walks : List Reach) → AreSegments count segments → u < count →
    AreOutlets segments u (length segments) outlets → length outlets ≡ 0 → AreWalksBelow (SendsAcross segments) count u walks →
    AreWalksBelow (SendsAcross segments) count (u + 1) (walks ++ record { distances = lone_row u; hops = [] } ∷ [])
lone_more segments count u outlets walks are below listed none before =
    alone_more segments count u walks are below (no_arc segments u outlets listed none) before
