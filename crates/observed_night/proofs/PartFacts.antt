-- The parts in their order, and items that are the same.
use Rattle.std.proofs.Common.{◌≡◌, ◌↔◌, ℕ, ◌+◌, ◌<◌, inl, inr, Bool, true, List, [], ◌∷◌, length, All, Contains, get_or, refl, sym, ap, subst, ◌∙◌, arith}
use Rattle.std.proofs.lemmas.List.Elements.{All-contains, Contains-get_or}
use Rattle.std.proofs.lemmas.List.{get_or_default}
use Rattle.std.proofs.lemmas.Bool.{cases_lt}
use Rattle.net_model.specs.Configuration.{Configuration}
use Rattle.net_model.specs.declared.interface.Interface.{Interface}
use Rattle.observed_night.specs.Parts.{AreAlikeIn, HaveSameItems, part_place}
use Rattle.observed_night.specs.declared.part.Part.{Part}
use Rattle.observed_night.specs.declared.part.Part.TheVariants.{Name, Interfaces, Process, Isis, Tag, Area, System, Levels, Leak, Ranges, Stubs, Rfc1583}
use Rattle.observed_night.specs.steps.SameItems.{HaveSameHead, HaveSameOspf, HaveSameIsis}

parts : List Part
parts = Name ∷ Interfaces ∷ Process ∷ Isis ∷ Tag ∷ Area ∷ System ∷ Levels ∷ Leak ∷ Ranges ∷ Stubs ∷ Rfc1583 ∷ []

stands_at : (part : Part) → get_or parts (part_place part) Name ≡ part
unfolding parts
stands_at Name = refl
stands_at Interfaces = refl
stands_at Process = refl
stands_at Isis = refl
stands_at Tag = refl
stands_at Area = refl
stands_at System = refl
stands_at Levels = refl
stands_at Leak = refl
stands_at Ranges = refl
stands_at Stubs = refl
stands_at Rfc1583 = refl

pub place_below : (part : Part) → part_place part < 12
place_below Name = omega arith
place_below Interfaces = omega arith
place_below Process = omega arith
place_below Isis = omega arith
place_below Tag = omega arith
place_below Area = omega arith
place_below System = omega arith
place_below Levels = omega arith
place_below Leak = omega arith
place_below Ranges = omega arith
place_below Stubs = omega arith
place_below Rfc1583 = omega arith

-- a part is told by its place
pub one_part : (part other : Part) → part_place part ≡ part_place other → part ≡ other
one_part part other same = sym (stands_at part) ∙ ap (λ k. get_or parts k Name) same ∙ stands_at other

-- with one part more
pub alike_more : (c d : Configuration) (k : ℕ) (part : Part) → part_place part ≡ k → AreAlikeIn part c d →
    ((other : Part) → part_place other < k → AreAlikeIn other c d) → (other : Part) → part_place other < k + 1 → AreAlikeIn other c d
alike_more c d k part at alike before other below = elim (cases_lt (part_place other) k) [
  | inl lower ↦ before other lower
  | inr up ↦
      let same : part_place part ≡ part_place other = omega (arith, at, up, below) in
      subst (λ (p : Part). AreAlikeIn p c d) (one_part part other same) alike
]

-- ---- items that are the same ----

pub same_interface : (i j : Interface) → HaveSameHead i j → HaveSameOspf i j → HaveSameIsis i j → i ≡ j
same_interface i j head ospf isis = λ k. record {
  name = head.name k;
  address = head.address k;
  subnet = head.subnet k;
  up = head.up k;
  loopback = head.loopback k;
  area = ospf.area k;
  cost = ospf.cost k;
  ospf_passive = ospf.passive k;
  level1 = isis.level1 k;
  level2 = isis.level2 k;
  metric1 = isis.metric1 k;
  metric2 = isis.metric2 k;
  isis_passive = isis.passive k;
}

pub head_of : (i j : Interface) → i ≡ j → HaveSameHead i j
head_of i j e = record {
  name = ap (λ (x : Interface). x.name) e;
  address = ap (λ (x : Interface). x.address) e;
  subnet = ap (λ (x : Interface). x.subnet) e;
  up = ap (λ (x : Interface). x.up) e;
  loopback = ap (λ (x : Interface). x.loopback) e;
}

pub ospf_of : (i j : Interface) → i ≡ j → HaveSameOspf i j
ospf_of i j e = record {
  area = ap (λ (x : Interface). x.area) e;
  cost = ap (λ (x : Interface). x.cost) e;
  passive = ap (λ (x : Interface). x.ospf_passive) e;
}

pub isis_of : (i j : Interface) → i ≡ j → HaveSameIsis i j
isis_of i j e = record {
  level1 = ap (λ (x : Interface). x.level1) e;
  level2 = ap (λ (x : Interface). x.level2) e;
  metric1 = ap (λ (x : Interface). x.metric1) e;
  metric2 = ap (λ (x : Interface). x.metric2) e;
  passive = ap (λ (x : Interface). x.isis_passive) e;
}

-- each of some items is among others, and the other way round
pub same_items : {A : Type 0} (ones others : List A) → All (Contains others) ones → All (Contains ones) others → HaveSameItems ones others
same_items ones others forth back = λ item. (
  λ inside. All-contains (Contains others) ones item forth inside,
  λ inside. All-contains (Contains ones) others item back inside,
)

pub all_among : {A : Type 0} (ones others : List A) → ((item : A) → Contains ones item → Contains others item) → All (Contains others) ones
all_among ones others inside k d within = inside (get_or ones k d) (Contains-get_or ones k d within)

-- of some items each one up to a place is among others, with the one at the place
pub among_more : {A : Type 0} (items others : List A) (i : ℕ) (item : A) → i < length items → item ≡ get_or items i item → Contains others item →
    ((k : ℕ) (d : A) → k < i → Contains others (get_or items k d)) → (k : ℕ) (d : A) → k < i + 1 → Contains others (get_or items k d)
among_more items others i item within at inside before k d below = elim (cases_lt k i) [
  | inl lower ↦ before k d lower
  | inr up ↦
      let same : i ≡ k = omega (arith, up, below) in
      let is : item ≡ get_or items k d = at ∙ get_or_default items i item d within ∙ ap (λ j. get_or items j d) same in
      subst (Contains others) is inside
]

pub all_gives : {A : Type 0} (items others : List A) (i : ℕ) (item : A) → i < length items → item ≡ get_or items i item →
    All (Contains others) items → Contains others item
all_gives items others i item within at all = subst (Contains others) (sym at) (all i item within)

-- whether two lists have the same items, told of equal lists
pub same_lists_decide : {A : Type 0} (decides : Bool) (ones others twos theirs : List A) → ones ≡ twos → others ≡ theirs →
    (decides ≡ true) ↔ HaveSameItems ones others → (decides ≡ true) ↔ HaveSameItems twos theirs
same_lists_decide {A} decides ones others twos theirs one other both =
    subst (λ (l : List A). (decides ≡ true) ↔ HaveSameItems l theirs) one
    (subst (λ (l : List A). (decides ≡ true) ↔ HaveSameItems ones l) other both)
