-- Least differences: the names of a network ascend by the numbers of its routers.
use Rattle.std.proofs.Common.{◌≡◌, ℕ, ◌<◌, ◌≤◌, inl, inr, List, [], ◌∷◌, Option, Some, None, MatchOption, Ordering, length, get_or, refl, sym, ap, subst, ◌∙◌, ◌↔◌, arith}
use Rattle.std.specs.Cmp.Lexicographic.{slice_cmp, nat_list_cmp_total}
use Rattle.std.specs.Ordering.{nat_cmp, ordering_reverse}
use Rattle.std.specs.declared.cmp.Ordering.TheVariants.{Less, Greater}
use Rattle.std.proofs.lemmas.Bool.{cases_lt, cases_eq}
use Rattle.std.proofs.lemmas.Option.{slice_get-get_or, slice_get_within}
use Rattle.net_model.specs.Configuration.{Configuration}
use Rattle.net_model.specs.Lookups.{IsNamed}
use Rattle.net_model.specs.Network.{Network, HasConfiguration}
use Rattle.net_model.specs.Refusals.{IsBelow, NamesAscend}
use Rattle.net_model.proofs.Adjacency.{HasConfiguration-unique}
use Rattle.net_model.proofs.Names.{IsBelow-irrefl, named_at, named_within, neither_below}
use Rattle.net_model.proofs.NetworkFacts.{IsNamed-unique}
use Rattle.observed_night.specs.Differences.{AreOneNight, DiffersIn, IsLeastDifference, NamesNone, gone, new, other}
use Rattle.observed_night.specs.Parts.{AreAlikeIn, DifferFirstIn, part_place}
use Rattle.observed_night.specs.declared.part.Part.{Part}
use Rattle.observed_night.specs.declared.part.Part.TheVariants.{Name}
use Rattle.observed_night.specs.steps.Sights.{AreAlikeAt, DifferAtNumber, DifferBy, StandsFirst, lesser, greater}
use Rattle.observed_night.specs.steps.Sights as sight
use Rattle.observed_night.proofs.PartFacts.{one_part}

pub below_trans : (one mid last : List ℕ) → IsBelow one mid → IsBelow mid last → IsBelow one last
below_trans one mid last = nat_list_cmp_total.trans one mid last

pub below_greater : (one its : List ℕ) → slice_cmp nat_cmp one its ≡ Greater → IsBelow its one
below_greater one its e = nat_list_cmp_total.antisymm its one ∙ ap ordering_reverse e

-- ---- names and numbers of one network ----

pub configured_at : (net : Network) (u : ℕ) → u < length net → (c : Configuration) × HasConfiguration net u c
configured_at [] u below = absurd (omega (arith, below))
configured_at (c ∷ net) u below = (get_or (c ∷ net) u c, slice_get-get_or (c ∷ net) u c below)

pub named_as : (net : Network) (u : ℕ) (c : Configuration) → HasConfiguration net u c → IsNamed net c.name u
named_as net u c at = record { config = c; router = at; name_is = refl }

pub one_name_at : (net : Network) (one its : List ℕ) (u : ℕ) → IsNamed net one u → IsNamed net its u → one ≡ its
one_name_at net one its u h k =
    sym h.name_is ∙ ap (λ (c : Configuration). c.name) (HasConfiguration-unique net u h.config k.config h.router k.router) ∙ k.name_is

names_later : (net : Network) (one its : List ℕ) (u v : ℕ) → NamesAscend net → IsNamed net one u → IsNamed net its v → u < v → IsBelow one its
names_later net one its u v up h k later =
    let d = h.config in
    let step = up u v d later (named_within net its v k) in
    let P : List ℕ → List ℕ → Type 0 = λ a b. IsBelow a b in
    subst (λ a. P a its) (named_at net one u d h) (subst (P (get_or net u d).name) (named_at net its v d k) step)

number_lower : (net : Network) (name its : List ℕ) (u v : ℕ) → NamesAscend net → IsNamed net name u → IsNamed net its v → IsBelow its name → v < u
number_lower net name its u v up h k below = elim (cases_lt v u) [
  | inl lower ↦ lower
  | inr from ↦ absurd (elim (cases_eq u v) [
    | inl same ↦ IsBelow-irrefl name (subst (λ (n : List ℕ). IsBelow n name)
        (one_name_at net its name v k (subst (IsNamed net name) same h)) below)
    | inr apart ↦ IsBelow-irrefl name (below_trans name its name
        (names_later net name its u v up h k (omega (arith, from, apart))) below)
  ])
]

named_before : (net : Network) (name : List ℕ) (u v : ℕ) → IsNamed net name v → u < v → (its : List ℕ) × IsNamed net its u
named_before net name u v k lower =
    let within : u < length net = let inside = named_within net name v k in omega (arith, inside, lower) in
    let at = configured_at net u within in
    (at.0.name, named_as net u at.0 at.1)

-- ---- two networks with the same names below a number, where the first has the lesser one there ----

module _ (net far : Network) (u : ℕ) (name : List ℕ) (up : NamesAscend net) (far_up : NamesAscend far)
    (same : (v : ℕ) → v < u → (its : List ℕ) → IsNamed net its v ↔ IsNamed far its v) (first : StandsFirst net far u name) where
  comes_later : (its : List ℕ) (v : ℕ) → u ≤ v → IsNamed far its v → IsBelow name its
  comes_later its v from k = elim (cases_eq u v) [
    | inl is ↦ first.1 its (subst (IsNamed far its) (sym is) k)
    | inr apart ↦
        let later : u < v = omega (arith, from, apart) in
        let mid = named_before far its u v k later in
        below_trans name mid.0 its (first.1 mid.0 mid.1) (names_later far mid.0 its u v far_up mid.1 k later)
  ]

  named_there_not : NamesNone far name
  named_there_not v k = elim (cases_lt v u) [
    | inl lower ↦ let is : v ≡ u = IsNamed-unique net name v u up ((same v lower name).1 k) first.0 in omega (arith, lower, is)
    | inr from ↦ IsBelow-irrefl name (comes_later name v from k)
  ]

  far_lower : (its : List ℕ) (v : ℕ) → IsBelow its name → IsNamed far its v → v < u
  far_lower its v below k = elim (cases_lt v u) [
    | inl lower ↦ lower
    | inr from ↦ absurd (IsBelow-irrefl name (below_trans name its name (comes_later its v from k) below))
  ]

  near_lower : (its : List ℕ) (v : ℕ) → IsBelow its name → IsNamed net its v → v < u
  near_lower its v below k = number_lower net name its u v up first.0 k below

-- ---- the least difference ----

module _ (before now : Network) (u : ℕ) (before_up : NamesAscend before) (now_up : NamesAscend now)
    (same : (v : ℕ) → v < u → AreAlikeAt before now v) where
  -- what stands at lower numbers alone doesn't differ
  no_lower : (its : List ℕ) {part : Part} → ((v : ℕ) → IsNamed before its v → v < u) → ((v : ℕ) → IsNamed now its v → v < u) →
      DiffersIn before now its part → ⊥
  no_lower its olds news (gone v named none) = none v (((same v (olds v named)).same its).0 named)
  no_lower its olds news (new v named none) = none v (((same v (news v named)).same its).1 named)
  no_lower its olds news (other part v w one two first) =
      let at : AreAlikeAt before now v = same v (olds v one) in
      let is : w ≡ v = IsNamed-unique now its w v now_up two ((at.same its).0 one) in
      first.differ (at.alike one.config two.config one.router (subst (λ (k : ℕ). HasConfiguration now k two.config) is two.router) part)

  forth : (v : ℕ) → v < u → (its : List ℕ) → IsNamed before its v ↔ IsNamed now its v
  forth v lower its = (same v lower).same its

  back : (v : ℕ) → v < u → (its : List ℕ) → IsNamed now its v ↔ IsNamed before its v
  back v lower its = let both = (same v lower).same its in (both.1, both.0)

  pub least_at : (name : List ℕ) {part : Part} → DifferAtNumber before now u name part → IsLeastDifference before now name part
  least_at name (sight.gone first) = record {
    differs = gone u first.0 (named_there_not before now u name before_up now_up forth first);
    least = λ its part differs below. no_lower its
        (λ v k. near_lower before now u name before_up now_up forth first its v below k)
        (λ v k. far_lower before now u name before_up now_up forth first its v below k) differs;
  }
  least_at name (sight.new first) = record {
    differs = new u first.0 (named_there_not now before u name now_up before_up back first);
    least = λ its part differs below. no_lower its
        (λ v k. far_lower now before u name now_up before_up back first its v below k)
        (λ v k. near_lower now before u name now_up before_up back first its v below k) differs;
  }
  least_at name (sight.by_part part one its first) = record {
    differs = other part u u one its first;
    least = λ name2 part2 differs below. no_lower name2
        (λ v k. number_lower before name name2 u v before_up one k below)
        (λ v k. number_lower now name name2 u v now_up its k below) differs;
  }

-- ---- what differs at a number ----

module _ (before now : Network) (u : ℕ) where
  pub by_configurations : (c d : Configuration) (name : List ℕ) {part : Part} → HasConfiguration before u c → HasConfiguration now u d →
      DifferBy c d name part → DifferAtNumber before now u name part
  by_configurations c d name old its (lesser is below) =
      sight.gone (
        subst (λ (n : List ℕ). IsNamed before n u) (sym is) (named_as before u c old),
        λ far k. subst (λ (n : List ℕ). IsBelow n far) (sym is)
            (subst (IsBelow c.name) (one_name_at now d.name far u (named_as now u d its) k) below),
      )
  by_configurations c d name old its (greater is below) =
      sight.new (
        subst (λ (n : List ℕ). IsNamed now n u) (sym is) (named_as now u d its),
        λ far k. subst (λ (n : List ℕ). IsBelow n far) (sym is)
            (subst (IsBelow d.name) (one_name_at before c.name far u (named_as before u c old) k) below),
      )
  by_configurations c d name old its (sight.part_of part is same first) =
      sight.by_part part (record { config = c; router = old; name_is = sym is }) (record { config = d; router = its; name_is = sym same ∙ sym is }) first

  pub alone_before : (c : Configuration) (name : List ℕ) (part : Part) → HasConfiguration before u c → name ≡ c.name → part ≡ Name →
      ((d : Configuration) → HasConfiguration now u d → ⊥) → DifferAtNumber before now u name part
  alone_before c name part old is name_is none =
      subst (DifferAtNumber before now u name) (sym name_is)
      (sight.gone (record { config = c; router = old; name_is = sym is }, λ far k. absurd (none k.config k.router)))

  pub alone_now : (d : Configuration) (name : List ℕ) (part : Part) → HasConfiguration now u d → name ≡ d.name → part ≡ Name →
      ((c : Configuration) → HasConfiguration before u c → ⊥) → DifferAtNumber before now u name part
  alone_now d name part its is name_is none =
      subst (DifferAtNumber before now u name) (sym name_is)
      (sight.new (record { config = d; router = its; name_is = sym is }, λ far k. absurd (none k.config k.router)))

  pub alike_by : (c d : Configuration) → HasConfiguration before u c → HasConfiguration now u d → ((part : Part) → AreAlikeIn part c d) →
      AreAlikeAt before now u
  alike_by c d old its alike = record {
    same = λ name. (
      λ k. let is : c.name ≡ name = one_name_at before c.name name u (named_as before u c old) k in
          record { config = d; router = its; name_is = sym (alike Name) ∙ is },
      λ k. let is : d.name ≡ name = one_name_at now d.name name u (named_as now u d its) k in
          record { config = c; router = old; name_is = alike Name ∙ is },
    );
    alike = λ e f one two part.
        let first : c ≡ e = HasConfiguration-unique before u c e old one in
        let second : d ≡ f = HasConfiguration-unique now u d f its two in
        subst (λ (x : Configuration). AreAlikeIn part x f) first (subst (λ (y : Configuration). AreAlikeIn part c y) second (alike part));
  }

  pub by_both : {A : Type 0} (name_of : A → List ℕ) (part_of : A → Part) (c d : Configuration) → HasConfiguration before u c →
      HasConfiguration now u d → (found : Option A) →
      MatchOption found ((part : Part) → AreAlikeIn part c d) (λ it. DifferBy c d (name_of it) (part_of it)) →
      MatchOption found (AreAlikeAt before now u) (λ it. DifferAtNumber before now u (name_of it) (part_of it))
  by_both name_of part_of c d old its None alike = alike_by c d old its alike
  by_both name_of part_of c d old its (Some it) differ = by_configurations c d (name_of it) old its differ

  pub none_alike : ((c : Configuration) → HasConfiguration before u c → ⊥) → ((d : Configuration) → HasConfiguration now u d → ⊥) →
      AreAlikeAt before now u
  none_alike no_old no_new = record {
    same = λ name. (λ k. absurd (no_old k.config k.router), λ k. absurd (no_new k.config k.router));
    alike = λ c d old its part. absurd (no_old c old);
  }

-- ---- what two configurations differ in ----

pub compared_as : (one its name far : List ℕ) (order : Ordering) → one ≡ name → its ≡ far → slice_cmp nat_cmp one its ≡ order →
    slice_cmp nat_cmp name far ≡ order
compared_as one its name far order first second is =
    subst (λ a. slice_cmp nat_cmp a far ≡ order) first (subst (λ b. slice_cmp nat_cmp one b ≡ order) second is)

pub lesser_told : (c d : Configuration) (name : List ℕ) (part : Part) → name ≡ c.name → part ≡ Name → slice_cmp nat_cmp c.name d.name ≡ Less →
    DifferBy c d name part
lesser_told c d name part is name_is below = subst (DifferBy c d name) (sym name_is) (lesser is below)

pub greater_told : (c d : Configuration) (name : List ℕ) (part : Part) → name ≡ d.name → part ≡ Name → slice_cmp nat_cmp c.name d.name ≡ Greater →
    DifferBy c d name part
greater_told c d name part is name_is above = subst (DifferBy c d name) (sym name_is) (greater is (below_greater c.name d.name above))

-- ---- networks that differ in nothing ----

pub night_of : (before now : Network) (n : ℕ) → length before ≤ n → length now ≤ n → ((v : ℕ) → v < n → AreAlikeAt before now v) →
    AreOneNight before now
night_of before now n few many same = record {
  routers = elim (cases_lt (length before) (length now)) [
    | inl less ↦ absurd (
        let at = configured_at now (length before) less in
        let named = ((same (length before) (omega (arith, less, many))).same at.0.name).1 (named_as now (length before) at.0 at.1) in
        let within = named_within before at.0.name (length before) named in omega (arith, within))
    | inr no_less ↦ elim (cases_lt (length now) (length before)) [
      | inl less ↦ absurd (
          let at = configured_at before (length now) less in
          let named = ((same (length now) (omega (arith, less, few))).same at.0.name).0 (named_as before (length now) at.0 at.1) in
          let within = named_within now at.0.name (length now) named in omega (arith, within))
      | inr no_more ↦ omega (arith, no_less, no_more)
    ]
  ];
  alike = λ u c d old its part.
      let within = slice_get_within before u c old in
      (same u (omega (arith, within, few))).alike c d old its part;
}

-- networks of one night have the same names
same_names : (before now : Network) → AreOneNight before now → (name : List ℕ) (u : ℕ) → IsNamed before name u ↔ IsNamed now name u
same_names before now night name u = (
  λ k.
      let within = named_within before name u k in
      let long = night.routers in
      let at = configured_at now u (omega (arith, within, long)) in
      record { config = at.0; router = at.1; name_is = sym (night.alike u k.config at.0 k.router at.1 Name) ∙ k.name_is },
  λ k.
      let within = named_within now name u k in
      let long = night.routers in
      let at = configured_at before u (omega (arith, within, long)) in
      record { config = at.0; router = at.1; name_is = night.alike u at.0 k.config at.1 k.router Name ∙ k.name_is },
)

pub night_differs_not : (before now : Network) (name : List ℕ) {part : Part} → NamesAscend before → AreOneNight before now →
    DiffersIn before now name part → ⊥
night_differs_not before now name up night (gone u named none) = none u ((same_names before now night name u).0 named)
night_differs_not before now name up night (new u named none) = none u ((same_names before now night name u).1 named)
night_differs_not before now name up night (other part u v one its first) =
    let is : v ≡ u = IsNamed-unique before name v u up ((same_names before now night name v).1 its) one in
    first.differ (night.alike u one.config its.config one.router (subst (λ (k : ℕ). HasConfiguration now k its.config) is its.router) part)

-- ---- there is one difference ----

one_first : (c d : Configuration) (one its : Part) → DifferFirstIn c d one → DifferFirstIn c d its → one ≡ its
one_first c d one its h k = elim (cases_lt (part_place one) (part_place its)) [
  | inl lower ↦ absurd (h.differ (k.before one lower))
  | inr up ↦ elim (cases_lt (part_place its) (part_place one)) [
    | inl lower ↦ absurd (k.differ (h.before its lower))
    | inr down ↦ one_part one its (omega (arith, up, down))
  ]
]

module _ (before now : Network) (name : List ℕ) (before_up : NamesAscend before) (now_up : NamesAscend now) where
  same_part : {one its : Part} → DiffersIn before now name one → DiffersIn before now name its → one ≡ its
  same_part (gone u named none) (gone v again not) = refl
  same_part (gone u named none) (new v again not) = refl
  same_part (gone u named none) (other part v w one two first) = absurd (none w two)
  same_part (new u named none) (gone v again not) = refl
  same_part (new u named none) (new v again not) = refl
  same_part (new u named none) (other part v w one two first) = absurd (none v one)
  same_part (other part v w one two first) (gone u named none) = absurd (none w two)
  same_part (other part v w one two first) (new u named none) = absurd (none v one)
  same_part (other part v w one two first) (other its x y three four second) =
      let old : x ≡ v = IsNamed-unique before name x v before_up three one in
      let now_is : y ≡ w = IsNamed-unique now name y w now_up four two in
      let c : three.config ≡ one.config =
      HasConfiguration-unique before v three.config one.config (subst (λ (k : ℕ). HasConfiguration before k three.config) old three.router) one.router in
      let d : four.config ≡ two.config =
      HasConfiguration-unique now w four.config two.config (subst (λ (k : ℕ). HasConfiguration now k four.config) now_is four.router) two.router in
      one_first one.config two.config part its first
      (subst (λ (e : Configuration). DifferFirstIn e two.config its) c (subst (λ (f : Configuration). DifferFirstIn three.config f its) d second))

pub one_difference : (before now : Network) (name its : List ℕ) (part far : Part) → NamesAscend before → NamesAscend now →
    IsLeastDifference before now name part → IsLeastDifference before now its far → (name ≡ its) × (part ≡ far)
one_difference before now name its part far before_up now_up one two =
    let same : name ≡ its = neither_below name its (two.least name part one.differs) (one.least its far two.differs) in
    (same, same_part before now its before_up now_up (subst (λ (n : List ℕ). DiffersIn before now n part) same one.differs) two.differs)
