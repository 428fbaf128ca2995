-- Routers that are reached over shared subnets: the first one, then the neighbors of each, until all are done.
use Rattle.std.proofs.Common.{◌≡◌, ℕ, ◌<◌, ◌≤◌, Bool, true, false, List, [], ◌∷◌, ◌++◌, length, get_or, set, replicate}
use Rattle.std.proofs.Common.{Option, Some, None, MatchOption, ◌⊎◌, ⊎_elim, inl, inr, refl, sym, subst, ap, ◌∙◌, arith, length-set}
use Rattle.std.proofs.lemmas.Bool.{cases_eq, cases_lt, false≢true}
use Rattle.std.proofs.lemmas.List.{get_or-replicate, get_or-set_same, get_or-set_other, get_or_past, length-replicate}
use Rattle.std.proofs.lemmas.List.Elements.{Contains-push, Contains-push_cases, Contains-append_left}
use Rattle.net_addr.specs.Addresses.{Block}
use Rattle.net_model.specs.Least.{IsLowest}
use Rattle.net_model.specs.Network.{Network, Connected}
use Rattle.net_model.proofs.NetworkFacts.{UpInterface-within}
use Rattle.order_core.specs.Marks.{IsMarked}
use Rattle.network_survey.specs.Joined.{AreJoinedRouters, AllJoined, IsCutOff, MeetOnSubnet}
use Rattle.network_survey.specs.Joined.AreJoinedRouters.{here, further}
use Rattle.network_survey.specs.Ports.{Port, IsUpPort, ListsUpPorts}
use Rattle.network_survey.specs.steps.Reached.{AreReachedSoFar, HasPortOn, HaveMarks, IsLowestUnmarked, IsUnvisited, MarksWhere, MeetIn}
use Rattle.network_survey.proofs.SharingFacts.{Connected-port, UpInterface-port, slice_get-Contains}

-- marks that come in two steps
pub MarksWhere-then : (P Q R : ℕ → Type 0) (old mid new : List Bool) → ((v : ℕ) → R v → P v ⊎ Q v) → ((v : ℕ) → P v → R v) → ((v : ℕ) → Q v → R v) →
    MarksWhere P old mid → MarksWhere Q mid new → MarksWhere R old new
MarksWhere-then P Q R old mid new split one two first second v = (
  λ m. ⊎_elim (λ l. ⊎_elim inl (λ p. inr (one v p)) ((first v).0 l)) (λ q. inr (two v q)) ((second v).0 m),
  λ s. ⊎_elim (λ l. (second v).1 (inl ((first v).1 (inl l))))
      (λ r. ⊎_elim (λ p. (second v).1 (inl ((first v).1 (inr p)))) (λ q. (second v).1 (inr q)) (split v r)) s,
)

pub MarksWhere-none : (P : ℕ → Type 0) (marks : List Bool) → ((v : ℕ) → P v → ⊥) → MarksWhere P marks marks
MarksWhere-none P marks none v = (inl, λ s. ⊎_elim (λ m. m) (λ p. absurd (none v p)) s)

-- the mark of one router
pub MarksWhere-one : (marks : List Bool) (r : ℕ) → r < length marks → MarksWhere (λ (v : ℕ). r ≡ v) marks (set marks r true)
MarksWhere-one marks r within v = (
  λ m. ⊎_elim (λ e. inr (sym e)) (λ apart. inl (sym (get_or-set_other marks r v true false apart) ∙ m)) (cases_eq v r),
  λ s. ⊎_elim old (λ e. at v (sym e)) s,
)
  where
    at : (w : ℕ) → w ≡ r → IsMarked (set marks r true) w
    at w e = subst (IsMarked (set marks r true)) (sym e) (get_or-set_same marks r true false within)

    old : IsMarked marks v → IsMarked (set marks r true) v
    old m = ⊎_elim (at v) (λ apart. get_or-set_other marks r v true false apart ∙ m) (cases_eq v r)

pub HasPortOn-wider : (xs : List Port) (y : Port) (v : ℕ) (p : Block) → HasPortOn xs v p → HasPortOn (xs ++ y ∷ []) v p
HasPortOn-wider xs y v p h =
    record { port = h.port; among = Contains-append_left xs (y ∷ []) h.port h.among; router_is = h.router_is; subnet_is = h.subnet_is }

pub HasPortOn-last : (xs : List Port) (y : Port) (v : ℕ) (p : Block) → (y.router ≡ v) × (y.subnet ≡ p) → HasPortOn (xs ++ y ∷ []) v p
HasPortOn-last xs y v p is = record { port = y; among = Contains-push xs y; router_is = is.0; subnet_is = is.1 }

pub HasPortOn-cases : (xs : List Port) (y : Port) (v : ℕ) (p : Block) → HasPortOn (xs ++ y ∷ []) v p → HasPortOn xs v p ⊎ ((y.router ≡ v) × (y.subnet ≡ p))
HasPortOn-cases xs y v p h =
    ⊎_elim (λ l. inl (record { port = h.port; among = l; router_is = h.router_is; subnet_is = h.subnet_is }))
    (λ e. inr (ap (λ (x : Port). x.router) e ∙ h.router_is, ap (λ (x : Port). x.subnet) e ∙ h.subnet_is)) (Contains-push_cases xs y h.port h.among)

pub MeetIn-cases : (xs ports : List Port) (y : Port) (u v : ℕ) → MeetIn (xs ++ y ∷ []) ports u v →
    MeetIn xs ports u v ⊎ ((y.router ≡ u) × HasPortOn ports v y.subnet)
MeetIn-cases xs ports y u v m =
    ⊎_elim (λ l. inl (record { subnet = m.subnet; near = l; far = m.far }))
    (λ e. inr (e.0, subst (HasPortOn ports v) (sym e.1) m.far)) (HasPortOn-cases xs y u m.subnet m.near)

pub MeetIn-last : (xs ports : List Port) (y : Port) (u v : ℕ) → (y.router ≡ u) × HasPortOn ports v y.subnet → MeetIn (xs ++ y ∷ []) ports u v
MeetIn-last xs ports y u v is = record { subnet = y.subnet; near = HasPortOn-last xs y u y.subnet (is.0, refl); far = is.1 }

module _ (net : Network) (ports : List Port) (lists : ListsUpPorts (IsUpPort net) ports) where
  pub HaveMarks-of : (marks : List Bool) → length marks ≡ length net → HaveMarks ports marks
  HaveMarks-of marks e = record {
    router = λ x c. subst (λ n. x.router < n) (sym e) (UpInterface-within net x.router x.interface (UpInterface-port net x ((lists.exact x).0 c)));
  }

  connected : (v : ℕ) (p : Block) → HasPortOn ports v p → Connected net v p
  connected v p h =
      subst (λ w. Connected net w p) h.router_is
      (subst (Connected net h.port.router) h.subnet_is (Connected-port net h.port ((lists.exact h.port).0 h.among)))

  has : (v : ℕ) (p : Block) → Connected net v p → HasPortOn ports v p
  has v p to =
      let port : Port = record { router = v; place = to.up.among.0; subnet = p; interface = to.interface } in
      let is : IsUpPort net port = record {
        config = to.up.config;
        router = to.up.router;
        at = slice_get-Contains to.up.config.interfaces to.interface to.up.among;
        up = to.up.up;
        subnet = to.subnet;
      } in
      record { port = port; among = (lists.exact port).1 is; router_is = refl; subnet_is = refl }

  pub AreReachedSoFar-more : (reached new done : List Bool) (u : ℕ) → IsUnvisited reached done u → length new ≡ length reached →
      MarksWhere (MeetIn ports ports u) reached new → AreReachedSoFar net reached done → AreReachedSoFar net new (set done u true)
  AreReachedSoFar-more reached new done u is long marks all = record {
    joined = λ v m. ⊎_elim (all.joined v)
        (λ meet. further u v (all.joined u is.is_reached)
        (record { subnet = meet.subnet; one = connected u meet.subnet meet.near; other = connected v meet.subnet meet.far })) ((marks v).0 m);
    first = λ some. (marks 0).1 (inl (all.first some));
    spread = λ w v d share. ⊎_elim
        (λ e. let at = subst (λ z. MeetOnSubnet net z v) e share in
        (marks v).1 (inr (record { subnet = at.subnet; near = has u at.subnet at.one; far = has v at.subnet at.other })))
        (λ apart. (marks v).1 (inl (all.spread w v (sym (get_or-set_other done u w true false apart) ∙ d) share))) (cases_eq w u);
    reached_count = long ∙ all.reached_count;
    done_count = length-set done u true ∙ all.done_count;
  }

pub IsMarked-replicate : (n v : ℕ) → ¬ IsMarked (replicate n false) v
IsMarked-replicate n v m =
    ⊎_elim (λ l. false≢true (sym (get_or-replicate n v false false l) ∙ m))
    (λ g. false≢true (sym (get_or_past (replicate n false) v false (subst (λ k. k ≤ v) (sym (length-replicate n false)) g)) ∙ m)) (cases_lt v n)

pub AreReachedSoFar-first : (net : Network) (reached done : List Bool) → ((v : ℕ) → ¬ IsMarked reached v) → ((v : ℕ) → ¬ IsMarked done v) →
    length reached ≡ length net → length done ≡ length net → AreReachedSoFar net (set reached 0 true) done
AreReachedSoFar-first net reached done bare none long same = record {
  joined = λ v m. ⊎_elim (λ e. subst (AreJoinedRouters net 0) (sym e) here)
      (λ apart. absurd (bare v (sym (get_or-set_other reached 0 v true false apart) ∙ m))) (cases_eq v 0);
  first = λ some. get_or-set_same reached 0 true false (subst (λ n. 0 < n) (sym long) some);
  spread = λ u v d share. absurd (none u d);
  reached_count = length-set reached 0 true ∙ long;
  done_count = same;
}

module _ (net : Network) (reached done : List Bool) (all : AreReachedSoFar net reached done) (none : (u : ℕ) → IsUnvisited reached done u → ⊥) where
  is_done : (w : ℕ) → IsMarked reached w → (b : Bool) → get_or done w false ≡ b → IsMarked done w
  is_done w m true e = e
  is_done w m false e = absurd (none w (record { is_reached = m; not_done = λ d. false≢true (sym e ∙ d) }))

  marked_if : (v : ℕ) → 0 < length net → AreJoinedRouters net 0 v → IsMarked reached v
  marked_if v some here = all.first some
  marked_if v some (further w v' j share) = all.spread w v (is_done w (marked_if w some j) (get_or done w false) refl) share

share_back : (net : Network) (u v : ℕ) → MeetOnSubnet net u v → MeetOnSubnet net v u
share_back net u v s = record { subnet = s.subnet; one = s.other; other = s.one }

join : (net : Network) (u v w : ℕ) → AreJoinedRouters net u v → AreJoinedRouters net v w → AreJoinedRouters net u w
join net u v w a here = a
join net u v w a (further x w' b share) = further x w (join net u v x a b) share

back : (net : Network) (u v : ℕ) → AreJoinedRouters net u v → AreJoinedRouters net v u
back net u v here = here
back net u v (further w v' a share) = join net v w u (further v w here (share_back net w v share)) (back net u w a)

module _ (net : Network) (reached done : List Bool) (all : AreReachedSoFar net reached done) (none : (u : ℕ) → IsUnvisited reached done u → ⊥) where
  all_joined : ((v : ℕ) → v < length reached → IsMarked reached v) → AllJoined net
  all_joined marked u v l m =
      let long = all.reached_count in
      let to : (w : ℕ) → w < length net → AreJoinedRouters net 0 w = λ w k. all.joined w (marked w (subst (λ n. w < n) (sym long) k)) in
      join net u 0 v (back net 0 u (to u l)) (to v m)

  lowest_cut : (v : ℕ) → IsLowestUnmarked reached v → IsLowest (IsCutOff net) v
  lowest_cut v low =
      let within = subst (λ n. v < n) all.reached_count low.within in
      let some : 0 < length net = omega (arith, within) in
      record {
        holds = record { router = within; cut = λ j. low.unmarked (marked_if net reached done all none v some j) };
        least = λ w is. ⊎_elim (λ l. absurd (is.cut (all.joined w (low.before w l)))) (λ g. g) (cases_lt w v);
      }

  pub CutOff-from : (lowest : Option ℕ) → MatchOption lowest ((v : ℕ) → v < length reached → IsMarked reached v) (IsLowestUnmarked reached) →
      MatchOption lowest (AllJoined net) (IsLowest (IsCutOff net))
  CutOff-from None marked = all_joined marked
  CutOff-from (Some v) low = lowest_cut v low
