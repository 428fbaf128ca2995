-- Prefixes with the same features are alike at every router.
use Rattle.std.proofs.Common.{◌≡◌, ◌<◌, ℕ, Bool, true, false, List, Option, Some, None, get_or, ap, arith, length, not, refl}
use Rattle.std.proofs.Common.{slice_get, subst}
use Rattle.std.specs.Bool.{OnFalse, OnTrue}
use Rattle.std.proofs.lemmas.Option.{slice_get_within}
use Rattle.rib_mix.specs.steps.Features.{AreLanesOf, AreOneKind, HasKindsBefore, HasLane, HaveLanesOf, HaveSameFeatures}
use Rattle.rib_mix.specs.steps.Features.{HaveSameNumbers, IsOneAt}
use Rattle.rib_mix.specs.steps.Likeness.{AreLike}
use Rattle.rib_mix.specs.steps.Spots.{number_at_spot}
use Rattle.route_core.specs.Rows.{kept_in}
use Rattle.rib_mix.specs.declared.both_tables.BothTables.{BothTables}
use Rattle.rib_mix.specs.declared.features.Features.{Features}
use Rattle.rib_mix.specs.declared.lanes.Lane.{Lane}
use Rattle.rib_mix.specs.declared.lanes.Lanes.{Lanes}
use Rattle.rib_mix.specs.declared.spots.Spots.{Spots}

-- each prefix has the features that it has
pub features_itself : (features : Features) (i : ℕ) → HaveSameFeatures features i i
features_itself features i = record { olds = λ parts lane. refl; news = λ parts lane. refl; homes = refl }

-- of prefixes of one kind in each lane the tables of the lanes have the same
pub one_kind_numbers : (lanes : List Lane) (one other : Option ℕ) → AreOneKind lanes one other → HaveSameNumbers lanes one other
one_kind_numbers lanes None None are parts lane = refl
one_kind_numbers lanes None (Some other) are parts lane = absurd are
one_kind_numbers lanes (Some one) None are parts lane = absurd are
one_kind_numbers lanes (Some one) (Some other) are parts lane =
    let own : get_or lane.lane.kinds.now one 0 ≡ get_or lane.lane.kinds.now other 0 =
    subst (IsOneAt one other) lane.among.2 (are lane.among.0 lane.lane lane.among.1) in
    let same : get_or parts.kinds.now one 0 ≡ get_or parts.kinds.now other 0 =
    subst (λ (ks : List ℕ). get_or ks one 0 ≡ get_or ks other 0) lane.kinds_are own in
    ap (λ (kind : ℕ). get_or parts.numbers.now kind None) same

-- prefixes with the same features are alike at every router
pub features_alike : (tables : List BothTables) (features : Features) (spots : Spots) (i j : ℕ)
    → AreLanesOf tables (length tables) features.lanes.now → features.spots.now ≡ spots
    → HaveSameFeatures features i j → AreLike (record { spots = spots; homes = features.homes.items }) tables i j
features_alike tables features spots i j are is same u both at =
    let lanes : HaveLanesOf features.lanes.now both = are.have u both (slice_get_within tables u both at) at in
    record {
      olds = subst
          (λ (ss : Spots). number_at_spot (kept_in both.old) (get_or ss.olds.items i None)
          ≡ number_at_spot (kept_in both.old) (get_or ss.olds.items j None)) is
          (same.olds both.old lanes.olds);
      news = subst
          (λ (ss : Spots). number_at_spot (kept_in both.new) (get_or ss.news.items i None)
          ≡ number_at_spot (kept_in both.new) (get_or ss.news.items j None)) is
          (same.news both.new lanes.news);
      homes = same.homes;
    }

-- the next router has lanes among those that are known then
pub next_lanes : (tables : List BothTables) (n : ℕ) (old new : Lanes) (both : BothTables) (goes : Bool)
    → ((one : BothTables) → HaveLanesOf old one → HaveLanesOf new one) → OnTrue goes (HasKindsBefore tables n both)
    → OnFalse goes (HaveLanesOf new both)
    → ((u : ℕ) (one : BothTables) → u < n → slice_get tables u ≡ Some one → HaveLanesOf old one) → HaveLanesOf new both
next_lanes tables n old new both false kept on has have = has
next_lanes tables n old new both true kept on has have =
    let was : HaveLanesOf new on.one = kept on.one (have on.before on.one (omega (arith, on.next)) on.at) in
    record {
      olds = subst (HasLane new.olds.items) on.same.olds was.olds;
      news = subst (HasLane new.news.items) on.same.news was.news;
    }

-- a router that wasn't found to go on begins other kinds
pub begins_next : (goes : Bool) (A : Type 0) → OnTrue goes A → OnFalse (not goes) A
begins_next true A holds = holds
begins_next false A holds = tt
