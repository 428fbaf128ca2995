-- What a list of parts tells of all classes.
use Rattle.std.proofs.Common.{◌≡◌, ℕ, ◌+◌, ◌<◌, List, [], ◌∷◌, ◌++◌, length, get_or, Bool, Contains, inl, inr, arith, ap, ◌∙◌, subst, below_more}
use Rattle.std.specs.List.{AllPairs}
use Rattle.std.proofs.lemmas.Bool.{cases_lt}
use Rattle.std.proofs.lemmas.List.{get_or_default}
use Rattle.std.proofs.lemmas.List.Elements.{All-contains, All-push, Contains-append_left, Contains-push}
use Rattle.std.proofs.lemmas.List.Quantifiers.{all_pairs_push}
use Rattle.igp_theory.specs.Phases.{State}
use Rattle.rib_mix.specs.Laws.{HaveAnswers}
use Rattle.loop_finder.specs.Parts.{ClassPart, AllMove, HaveReturning, IsPart, StepsEver, AreParts}
use Rattle.loop_finder.specs.Parts.{IsCovered, has_part, never_unsound, as_earlier}
use Rattle.loop_finder.specs.steps.PartRows.{HasEarlierHops, Serves, by_hops, by_likeness}
use Rattle.loop_finder.specs.Mixes.{sample_of, Mix, class_in, migration_in}
use Rattle.loop_finder.specs.Soundness.{ClassesOf, SoundAt}
use Rattle.loop_finder.proofs.AlikeLaws.{alike_returning}
use Rattle.loop_finder.proofs.PartLaws.{sound_with}
use Rattle.loop_finder.proofs.PartRows.{have_returning}
use Rattle.loop_finder.specs.steps.Returns.{MarksReturns}

-- What they tell

-- a state that is sound for the parts of the classes below n is sound for all classes below n
from_covered : (m : Mix) (parts : List ClassPart) (n k : ℕ) (state : State) → k < n
    → ((part : ClassPart) → Contains parts part → part.atom < n → SoundAt m state (sample_of m.classes part.atom)) → IsCovered m parts k →
    SoundAt m state (sample_of m.classes k)
from_covered m parts n k state below sound (has_part is) =
    subst (λ (j : ℕ). SoundAt m state (sample_of m.classes j)) is.is (sound is.part is.among (let e : is.part.atom ≡ k = is.is in omega (arith, e, below)))
from_covered m parts n k state below sound (never_unsound never) = never state
from_covered m parts n k state below sound (as_earlier part among before with) = with state (sound part among (omega (arith, before, below)))

-- where a number rises along a list, an element of which it is less than of that at a place stands before the place
pub stands_before : {X : Type 0} (of : X → ℕ) (xs : List X) (p : ℕ) (d x : X) → AllPairs (λ (one other : X). of one < of other) xs → p < length xs
    → (among : Contains xs x) → of x < of (get_or xs p d) → among.0 < p
stands_before of xs p d x rises within among less = elim (cases_lt among.0 p) [
  | inl before ↦ before
  | inr after ↦
      let here : of (get_or xs p x) ≡ of (get_or xs p d) = ap of (get_or_default xs p x d within) in
      let there : of (get_or xs among.0 x) ≡ of x = ap of among.2 in
      elim (cases_lt p among.0) [
        | inl past ↦
            let more : of (get_or xs p x) < of (get_or xs among.0 x) = rises p among.0 x past among.1 in
            absurd (omega (arith, more, here, there, less))
        | inr equal ↦
            let place : among.0 ≡ p = omega (arith, after, equal) in
            let same : of (get_or xs among.0 x) ≡ of (get_or xs p x) = ap (λ (q : ℕ). of (get_or xs q x)) place in
            absurd (omega (arith, same, here, there, less))
      ]
]

-- so a state that is sound for the parts before a place is sound for the classes before that of the place
pub sound_before : (m : Mix) (parts : List ClassPart) (n p : ℕ) (d : ClassPart) (state : State) → AreParts m parts n → p < length parts
    → ((q : ℕ) → q < p → SoundAt m state (sample_of m.classes (get_or parts q d).atom)) → (k : ℕ) → k < (get_or parts p d).atom →
    SoundAt m state (sample_of m.classes k)
sound_before m parts n p d state are within sound k below =
    let last : (get_or parts p d).atom < n = are.below p d within in
    from_covered m parts (get_or parts p d).atom k state below (λ part among less.
    let before : among.0 < p = stands_before (λ (x : ClassPart). x.atom) parts p d part are.ascending within among less in
    let is : get_or parts among.0 d ≡ part = get_or_default parts among.0 d part among.1 ∙ among.2 in
    subst (λ (x : ClassPart). SoundAt m state (sample_of m.classes x.atom)) is (sound among.0 before)) (are.covered k (omega (arith, below, last)))

-- one that is sound for all parts is sound for all classes
pub sound_whole : (m : Mix) (parts : List ClassPart) (n : ℕ) (d : ClassPart) (state : State) → AreParts m parts n
    → ((q : ℕ) → q < length parts → SoundAt m state (sample_of m.classes (get_or parts q d).atom)) → (k : ℕ) → k < n → SoundAt m state (sample_of m.classes k)
sound_whole m parts n d state are sound k below = from_covered m parts n k state below (λ part among less.
    let is : get_or parts among.0 d ≡ part = get_or_default parts among.0 d part among.1 ∙ among.2 in
    subst (λ (x : ClassPart). SoundAt m state (sample_of m.classes x.atom)) is (sound among.0 among.1)) (are.covered k below)

-- How they are made

-- the next class has no part of its own
pub AreParts-more : (m : Mix) (parts : List ClassPart) (n : ℕ) → AreParts m parts n → IsCovered m parts n → AreParts m parts (n + 1)
AreParts-more m parts n are covered = record {
  classes = are.classes;
  each = are.each;
  ascending = are.ascending;
  below = λ k d within. let less : (get_or parts k d).atom < n = are.below k d within in omega (arith, less);
  covered = below_more (IsCovered m parts) n are.covered covered;
}

-- a class stays covered where a part is added
still_covered : (m : Mix) (parts : List ClassPart) (more : ClassPart) (k : ℕ) → IsCovered m parts k → IsCovered m (parts ++ more ∷ []) k
still_covered m parts more k (has_part is) =
    has_part (record { part = is.part; among = Contains-append_left parts (more ∷ []) is.part is.among; is = is.is })
still_covered m parts more k (never_unsound never) = never_unsound never
still_covered m parts more k (as_earlier part among before with) = as_earlier part (Contains-append_left parts (more ∷ []) part among) before with

-- a part that has a class's steps between marked routers has those by which its walks return
serves_returning : (m : Mix) (part : ClassPart) (n : ℕ) (marks : List Bool) → ClassesOf m → HaveAnswers (migration_in m) m.classes
    → n < length m.classes.samples → IsPart m part → length marks ≡ length m.net → MarksReturns (StepsEver (class_in m n)) marks
    → Serves m marks part n → HaveReturning (class_in m n) part.rows
serves_returning m part n marks classes answers within is many marked (by_hops have) =
    have_returning (class_in m n) marks part.rows many marked have
serves_returning m part n marks classes answers within is many marked (by_likeness alike) =
    alike_returning m part n marks classes answers within is marked alike

-- a class of which an earlier one's part has all steps between marked routers, where all its routers move
pub earlier_covers : (m : Mix) (parts : List ClassPart) (n : ℕ) (marks : List Bool) → AreParts m parts n
    → HaveAnswers (migration_in m) m.classes → n < length m.classes.samples → length marks ≡ length m.net
    → MarksReturns (StepsEver (class_in m n)) marks → AllMove (class_in m n) → HasEarlierHops m marks parts n → IsCovered m parts n
earlier_covers m parts n marks are answers within many marked move has =
    let is : IsPart m has.earlier = All-contains (IsPart m) parts has.earlier are.each has.among in
    as_earlier has.earlier has.among (All-contains (λ x. x.atom < n) parts has.earlier are.below has.among)
    (sound_with m has.earlier n is
    (serves_returning m has.earlier n marks are.classes answers within is many marked has.serves) move)

-- the next class has one
pub AreParts-push : (m : Mix) (parts : List ClassPart) (part : ClassPart) (n : ℕ) → AreParts m parts n → IsPart m part
    → part.atom ≡ n → AreParts m (parts ++ part ∷ []) (n + 1)
AreParts-push m parts part n are is atom = record {
  classes = are.classes;
  each = All-push (IsPart m) parts part are.each is;
  ascending = all_pairs_push (λ (one other : ClassPart). one.atom < other.atom) parts part are.ascending (λ k d within.
      let less : (get_or parts k d).atom < n = are.below k d within in omega (arith, less, atom));
  below = All-push (λ (x : ClassPart). x.atom < n + 1) parts part (λ k d within. let less : (get_or parts k d).atom < n = are.below k d within in
      omega (arith, less)) (omega (arith, atom));
  covered = below_more (IsCovered m (parts ++ part ∷ [])) n (λ k below. still_covered m parts part k (are.covered k below))
      (has_part (record { part = part; among = Contains-push parts part; is = atom }));
}
