-- Runs of attachments whose subnets begin alike, and the segments that they make.
use Rattle.std.proofs.lemmas.Grind.{common_steps}
use Rattle.std.proofs.Common.{◌≡◌, ◌≢◌, ℕ, ◌⊎◌, ◌+◌, ◌-◌, ◌<◌, ◌≤◌, zero, suc, List, [], ◌∷◌, ◌++◌, length, get_or, take, drop, refl, sym, ap, subst, ◌∙◌}
use Rattle.std.proofs.Common.{inl, inr, arith}
use Rattle.std.specs.List.{Contains}
use Rattle.std.specs.List.Sorted.{IsNonDecreasingBy}
use Rattle.std.proofs.lemmas.Bool.{cases_lt, cases_eq}
use Rattle.std.proofs.lemmas.List.{get_or_default, get_or-take, get_or-drop, length-take-le, length-drop, take-append-drop}
use Rattle.std.proofs.lemmas.List.Elements.{Contains-append_left, Contains-append_right, Contains-push, Contains-push_cases}
use borrow.Author.Count.{below_more}
use Rattle.net_addr.specs.Addresses.{Block}
use Rattle.walk_core.specs.declared.segment.Port.{Port}
use Rattle.zone_graph.specs.steps.Attachments.{AreOfOneSegment, IsPortOf, MakesPort, ArePortsLike, HasBoth, IsOfAttachments, AreTheSegments}
use Rattle.zone_graph.specs.steps.Runs.{IsAttachmentAt, HasEarlier, IsRunEnd, JoinsFrom, AreSegmentsTo}
use Rattle.zone_graph.specs.declared.attachments.Attachment.{Attachment}

-- the attachments from one place to another
abbrev pub run_of : List Attachment → ℕ → ℕ → List Attachment
run_of all place end = take (end - place) (drop place all)

-- what stands between the two places is in the run
pub in_run : (all : List Attachment) (place end i : ℕ) (a : Attachment) → IsAttachmentAt all i a → place ≤ i → i < end → end ≤ length all →
    Contains (run_of all place end) a
in_run all place end i a at after before within = (
  i - place,
  omega (arith, length-take-le (end - place) (drop place all) (omega (arith, length-drop place all, within)), after, before),
  get_or-take (end - place) (drop place all) (i - place) a (omega (arith, after, before))
      ∙ get_or-drop place all (i - place) a
      ∙ ap (λ (n : ℕ). get_or all n a) (omega (arith, after)) ∙ at.1,
)

-- and what is in the run is among all
pub from_run : (all : List Attachment) (place end : ℕ) (a : Attachment) → Contains (run_of all place end) a → Contains all a
from_run all place end a has = grind (arith, common_steps, Contains-append_left, Contains-append_right, take-append-drop)

-- one attachment stands at a place
pub one_stands : (all : List Attachment) (place : ℕ) (a b : Attachment) → IsAttachmentAt all place a → IsAttachmentAt all place b → a ≡ b
one_stands all place a b one other = sym one.1 ∙ get_or_default all place a b one.0 ∙ other.1

-- a later attachment of one segment with that of a place is in the run
pub before_end : (all : List Attachment) (place end i : ℕ) (like a : Attachment) → IsNonDecreasingBy (λ (x : Attachment). x.link.subnet.base) all →
    IsRunEnd all place end → IsAttachmentAt all place like → IsAttachmentAt all i a → place ≤ i → AreOfOneSegment a like → i < end
before_end all place end i like a sorted run at a_at after same =
    elim (cases_lt i end) [
      | inl before ↦ before
      | inr past ↦
          let here : end < length all = omega (arith, past, a_at.0) in
          let b : Attachment = get_or all end a in
          let place_is : get_or all place a ≡ like = one_stands all place (get_or all place a) like
          (at.0, get_or_default all place (get_or all place a) a at.0) at in
          let low : (get_or all place a).link.subnet.base ≤ b.link.subnet.base = sorted place end a (omega (arith, run.after)) here in
          let high : b.link.subnet.base ≤ (get_or all i a).link.subnet.base = sorted end i a past a_at.0 in
          let low_is : (get_or all place a).link.subnet.base ≡ like.link.subnet.base = ap (λ (x : Attachment). x.link.subnet.base) place_is in
          let high_is : (get_or all i a).link.subnet.base ≡ a.link.subnet.base = ap (λ (x : Attachment). x.link.subnet.base) a_at.1 in
          let same_base : a.link.subnet.base ≡ like.link.subnet.base = ap (λ (p : Block). p.base) same.subnet in
          absurd (run.other like b at (here, get_or_default all end b a here) (omega (arith, low, high, low_is, high_is, same_base)))
    ]

-- the port of an attachment
abbrev pub port_of : Attachment → Port
port_of a = record { vertex = a.router; cost = a.link.cost }

-- two ports of a list of at most one are the same
pub lone_port : (ports : List Port) (p q : Port) → length ports ≤ 1 → Contains ports p → Contains ports q → p ≡ q
lone_port ports p q few one other = grind (arith, common_steps, get_or_default)

-- ports that stand in segments stay so when another one comes
pub both_kept : (segments : List (List Port)) (segment : List Port) (a b : Attachment) → HasBoth segments a b → HasBoth (segments ++ segment ∷ []) a b
both_kept segments segment a b both = grind (arith, common_steps, Contains-append_left)

-- what is known where the ports of a run are found
pub record IsRun (all : List Attachment) (place end : ℕ) (like : Attachment) (ports : List Port) : Type 0 where
  pub sorted : IsNonDecreasingBy (λ (x : Attachment). x.link.subnet.base) all
  pub run : IsRunEnd all place end
  pub at : IsAttachmentAt all place like
  pub ports_like : ArePortsLike (run_of all place end) like ports

-- the port of an attachment from the place on that is of its segment is among them
port_among : (all : List Attachment) (place end : ℕ) (like : Attachment) (ports : List Port) (other : Attachment) (i : ℕ) (a : Attachment) →
    IsRun all place end like ports → IsAttachmentAt all place other → place ≤ i → IsAttachmentAt all i a → AreOfOneSegment a other → Contains ports (port_of a)
port_among all place end like ports other i a is other_at after a_at same =
    let like_is : other ≡ like = one_stands all place other like other_at is.at in
    let here : AreOfOneSegment a like = subst (λ (x : Attachment). AreOfOneSegment a x) like_is same in
    let before : i < end = before_end all place end i like a is.sorted is.run is.at a_at after here in
    (is.ports_like (port_of a)).1 (record {
      attachment = a;
      among = in_run all place end i a a_at after before is.run.within;
      same = here;
      port_is = record { vertex = refl; cost = refl };
    })

-- the ports of a run are of one segment
pub run_is_sound : (all : List Attachment) (place end : ℕ) (like : Attachment) (ports : List Port) → IsRun all place end like ports → IsOfAttachments all ports
run_is_sound all place end like ports is = record {
  like = like;
  each = λ port has. let made = (is.ports_like port).0 has in record {
    attachment = made.attachment;
    among = from_run all place end made.attachment made.among;
    same = made.same;
    port_is = made.port_is;
  };
}

-- one more segment
pub segment_pushed : (all : List Attachment) (place end : ℕ) (like : Attachment) (ports : List Port) (segments : List (List Port)) →
    IsRun all place end like ports →
    AreSegmentsTo all place segments → AreSegmentsTo all (place + 1) (segments ++ ports ∷ [])
segment_pushed all place end like ports segments is are = record {
  sound = λ segment has. elim (Contains-push_cases segments ports segment has) [
    | inl earlier ↦ are.sound segment earlier
    | inr same ↦ subst (λ (s : List Port). IsOfAttachments all s) same (run_is_sound all place end like ports is)
  ];
  every = below_more (λ p. (HasEarlier all p → ⊥) → JoinsFrom all p (segments ++ ports ∷ [])) place
      (λ p below first other other_at i j a b pi pj a_at b_at a_same b_same apart.
      both_kept segments ports a b (are.every p below first other other_at i j a b pi pj a_at b_at a_same b_same apart))
      (λ first other other_at i j a b pi pj a_at b_at a_same b_same apart. record {
        segment = ports;
        among = Contains-push segments ports;
        one = port_of a;
        two = port_of b;
        one_among = port_among all place end like ports other i a is other_at pi a_at a_same;
        two_among = port_among all place end like ports other j b is other_at pj b_at b_same;
        one_is = record { vertex = refl; cost = refl };
        two_is = record { vertex = refl; cost = refl };
      });
}

-- a run of one port joins nothing
pub segment_alone : (all : List Attachment) (place end : ℕ) (like : Attachment) (ports : List Port) (segments : List (List Port)) →
    IsRun all place end like ports →
    length ports ≤ 1 → AreSegmentsTo all place segments → AreSegmentsTo all (place + 1) segments
segment_alone all place end like ports segments is few are = record {
  sound = are.sound;
  every = below_more (λ p. (HasEarlier all p → ⊥) → JoinsFrom all p segments) place are.every
      (λ first other other_at i j a b pi pj a_at b_at a_same b_same apart.
      let same : port_of a ≡ port_of b = lone_port ports (port_of a) (port_of b) few
      (port_among all place end like ports other i a is other_at pi a_at a_same) (port_among all place end like ports other j b is other_at pj b_at b_same) in
      absurd (apart (ap (λ (p : Port). p.vertex) same)));
}

-- a place that isn't the first of its segment has none of its own
pub segment_earlier : (all : List Attachment) (place : ℕ) (segments : List (List Port)) → HasEarlier all place → AreSegmentsTo all place segments →
    AreSegmentsTo all (place + 1) segments
segment_earlier all place segments earlier are = record {
  sound = are.sound;
  every = below_more (λ p. (HasEarlier all p → ⊥) → JoinsFrom all p segments) place are.every (λ first. absurd (first earlier));
}

-- two attachments are of one segment or they aren't
one_segment_cases : (a b : Attachment) → AreOfOneSegment a b ⊎ (AreOfOneSegment a b → ⊥)
one_segment_cases a b = grind (arith, common_steps, cases_eq)

-- the first place of a segment
pub record IsFirstOf (all : List Attachment) (like : Attachment) (place : ℕ) : Type 0 where
  pub own : Attachment
  pub at : IsAttachmentAt all place own
  pub same : AreOfOneSegment own like
  pub none_before : (i : ℕ) (a : Attachment) → i < place → IsAttachmentAt all i a → AreOfOneSegment a like → ⊥

-- among the first n there is the first of a segment, or none of it
first_among : (all : List Attachment) (like : Attachment) (n : ℕ) → n ≤ length all →
    ((place : ℕ) × IsFirstOf all like place) ⊎ ((i : ℕ) (a : Attachment) → i < n → IsAttachmentAt all i a → AreOfOneSegment a like → ⊥)
first_among all like zero within = inr (λ i a below. absurd (omega (arith, below)))
first_among all like (suc n) within =
    elim (first_among all like n (omega (arith, within))) [
      | inl found ↦ inl found
      | inr none ↦
          let here : n < length all = omega (arith, within) in
          let own : Attachment = get_or all n like in
          let at : IsAttachmentAt all n own = (here, get_or_default all n own like here) in
          elim (one_segment_cases own like) [
            | inl same ↦ inl (n, record { own = own; at = at; same = same; none_before = none })
            | inr other ↦ inr (λ i a below a_at a_same. elim (cases_lt i n) [
              | inl earlier ↦ none i a earlier a_at a_same
              | inr late ↦
                  let is : i ≡ n = omega (arith, below, late) in
                  let a_here : IsAttachmentAt all n a = subst (λ (m : ℕ). IsAttachmentAt all m a) is a_at in
                  other (subst (λ (x : Attachment). AreOfOneSegment x like) (one_stands all n a own a_here at) a_same)
            ])
          ]
    ]

-- the segments of the first places are those that the attachments make
pub segments_of_all : (all : List Attachment) (n : ℕ) (segments : List (List Port)) → length all ≤ n → AreSegmentsTo all n segments →
    AreTheSegments all segments
segments_of_all all n segments past are = record {
  sound = are.sound;
  every = λ a b a_has b_has same apart. elim (first_among all a (length all) (omega arith)) [
    | inl found ↦ joined a b a_has b_has same apart found.0 found.1
    | inr none ↦ absurd (none a_has.0 a a_has.1 (a_has.1, a_has.2) (record { subnet = refl; group = refl }))
  ];
}
  where
    not_before : (a : Attachment) (place : ℕ) → IsFirstOf all a place → (i : ℕ) (x : Attachment) → IsAttachmentAt all i x → AreOfOneSegment x a → place ≤ i
    not_before a place first i x at same = elim (cases_lt i place) [
      | inl before ↦ absurd (first.none_before i x before at same)
      | inr after ↦ after
    ]

    joined : (a b : Attachment) → Contains all a → Contains all b → AreOfOneSegment a b → a.router ≢ b.router → (place : ℕ) → IsFirstOf all a place →
        HasBoth segments a b
    joined a b a_has b_has same apart place first =
        let own : Attachment = first.own in
        let b_like : AreOfOneSegment b a = record { subnet = sym same.subnet; group = sym same.group } in
        let a_own : AreOfOneSegment a own = record { subnet = sym first.same.subnet; group = sym first.same.group } in
        let b_own : AreOfOneSegment b own = record { subnet = b_like.subnet ∙ a_own.subnet; group = b_like.group ∙ a_own.group } in
        let none_earlier : HasEarlier all place → ⊥ = λ earlier.
        let own_is : earlier.own ≡ own = one_stands all place earlier.own own earlier.own_at first.at in
        let to_own : AreOfOneSegment earlier.earlier own = subst (λ (x : Attachment). AreOfOneSegment earlier.earlier x) own_is earlier.same in
        first.none_before earlier.before earlier.earlier earlier.is_before earlier.earlier_at
        (record { subnet = to_own.subnet ∙ first.same.subnet; group = to_own.group ∙ first.same.group })
        in
        are.every place (omega (arith, first.at.0, past)) none_earlier own first.at a_has.0 b_has.0 a b
        (not_before a place first a_has.0 a (a_has.1, a_has.2) (record { subnet = refl; group = refl }))
        (not_before a place first b_has.0 b (b_has.1, b_has.2) b_like) (a_has.1, a_has.2) (b_has.1, b_has.2) a_own b_own apart

-- the ports so far, and one more attachment
pub no_ports : (all : List Attachment) (like : Attachment) → ArePortsLike (take 0 all) like []
no_ports all like port = (λ has. absurd (omega (arith, has.1)), λ made. absurd (omega (arith, made.among.1)))

made_kept : (front : List Attachment) (a like : Attachment) (port : Port) → MakesPort front like port → MakesPort (front ++ a ∷ []) like port
made_kept front a like port made = grind (arith, common_steps, Contains-append_left)

-- an attachment makes one port
one_port : (a : Attachment) (p q : Port) → IsPortOf a p → IsPortOf a q → p ≡ q
one_port a p q one other = grind (arith, common_steps)

pub port_yes : (front : List Attachment) (a like : Attachment) (ports : List Port) (port : Port) → ArePortsLike front like ports → AreOfOneSegment a like →
    IsPortOf a port → ArePortsLike (front ++ a ∷ []) like (ports ++ port ∷ [])
port_yes front a like ports port are same is p = (
  λ has. elim (Contains-push_cases ports port p has) [
    | inl earlier ↦ made_kept front a like p ((are p).0 earlier)
    | inr here ↦ subst (λ (x : Port). MakesPort (front ++ a ∷ []) like x) here
        (record { attachment = a; among = Contains-push front a; same = same; port_is = is })
  ],
  λ made. elim (Contains-push_cases front a made.attachment made.among) [
    | inl earlier ↦ Contains-append_left ports (port ∷ []) p
        ((are p).1 (record { attachment = made.attachment; among = earlier; same = made.same; port_is = made.port_is }))
    | inr here ↦
        let made_is : IsPortOf a p = subst (λ (x : Attachment). IsPortOf x p) (sym here) made.port_is in
        subst (λ (x : Port). Contains (ports ++ port ∷ []) x) (one_port a port p is made_is) (Contains-push ports port)
  ],
)

pub port_no : (front : List Attachment) (a like : Attachment) (ports : List Port) → ArePortsLike front like ports → (AreOfOneSegment a like → ⊥) →
    ArePortsLike (front ++ a ∷ []) like ports
port_no front a like ports are other p = (
  λ has. made_kept front a like p ((are p).0 has),
  λ made. elim (Contains-push_cases front a made.attachment made.among) [
    | inl earlier ↦ (are p).1 (record { attachment = made.attachment; among = earlier; same = made.same; port_is = made.port_is })
    | inr here ↦ absurd (other (subst (λ (x : Attachment). AreOfOneSegment x like) (sym here) made.same))
  ],
)

-- of no places there are no segments
pub no_segments : (all : List Attachment) → AreSegmentsTo all 0 []
no_segments all = grind (arith, common_steps)

-- a place that is read
pub stands_at : (all : List Attachment) (place : ℕ) (a : Attachment) → place < length all → a ≡ get_or all place a → IsAttachmentAt all place a
stands_at all place a within is = (within, sym is)
