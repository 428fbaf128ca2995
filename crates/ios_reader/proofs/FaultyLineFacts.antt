-- The faulty lines of a text, from its faults in order.
use Rattle.std.proofs.Common.{sym, ◌≡◌, ℕ, ◌+◌, ◌<◌, ◌≤◌, Bool, true, false, not, List, [], ◌∷◌, ◌++◌, length, take, get_or, Option, Some, None, refl}
use Rattle.std.proofs.Common.{ap, subst, ◌∙◌, cond, nat_eq, nat_lt, arith, ⊎_elim, zero, suc}
use Rattle.std.specs.Prelude.{All, Contains}
use Rattle.std.specs.List.Sorted.{IsPermutation}
use Rattle.std.specs.Ordering.{nat_cmp}
use Rattle.std.proofs.Common.{◌*◌, ◌&&◌, ◌||◌, Less, Equal, Greater}
use Rattle.std.proofs.lemmas.Bool.Decides.{nat_tests}
use Rattle.std.proofs.lemmas.List.{get_or-take, get_or_default}
use Rattle.std.proofs.lemmas.List.Elements.{All-nil, All-push, All-contains, All-weaker, Contains-push, Contains-append_left, Contains-push_cases}
use Rattle.std.proofs.lemmas.List.Elements.{Contains-get_or}
use Rattle.std.proofs.lemmas.List.Quantifiers.{all_pairs_push}
use Rattle.std.proofs.lemmas.List.Sorted.{IsPermutation-sym, All-permutation, Contains-permutation}
use Rattle.std.proofs.lemmas.Grind.{common_steps}
use Rattle.net_model.proofs.Members.{Contains-none}
use Rattle.ios_lines.specs.FaultOrder.{rank, is_before, least_fault}
use Rattle.ios_lines.specs.declared.fault.Fault.{Fault}
use Rattle.ios_lines.specs.declared.kind.ReadKind.{ReadKind}
use Rattle.ios_sections.specs.TextLines.{lines_in}
use Rattle.ios_reader.specs.Faults.{faults_in}
use Rattle.ios_reader.specs.Configurations.{IsNotAfter, IsLeastFault}
use Rattle.ios_reader.specs.FaultyLines.{IsLeastOnLine, AreLeastOnLines, AreFaultyLines}
use Rattle.ios_reader.specs.Texts.{IsRefusedText}
use Rattle.ios_reader.specs.steps.ToldFaults.{order_of, is_further, AreFaultsInOrder, AreToldUpTo}
use Rattle.ios_reader.proofs.LeastFaults.{none_least}
use Rattle.ios_reader.proofs.ReadFacts.{least_is}
use Rattle.ios_reader.proofs.TextLaws.{kind_at, kind_back}

-- ---- two faults ----

-- where the second is on the line of the first, its kind isn't less
abbrev NoLess : Fault → Fault → Type 0
NoLess f g = g.line ≡ f.line → rank f.kind ≤ rank g.kind

-- the second doesn't come behind the first
abbrev UpTo : Fault → Fault → Type 0
UpTo x f = order_of f ≤ order_of x

-- the second is on a lesser line than the first
abbrev Lower : Fault → Fault → Type 0
Lower x f = f.line < x.line

rank_small : (kind : ReadKind) → rank kind < 16
rank_small kind = grind arith

no_less : (f x : Fault) → UpTo x f → x.line ≡ f.line → rank f.kind ≤ rank x.kind
no_less f x up same = omega arith

lower_by : (x p g : Fault) → UpTo x p → (p.line ≡ x.line → ⊥) → UpTo p g → g.line < x.line
lower_by x p g up other before = omega (arith, rank_small p.kind, rank_small x.kind)

lower_not : (f g : Fault) → Lower g f → g.line ≡ f.line → rank f.kind ≤ rank g.kind
lower_not f g low same = absurd (omega arith)

higher_not : (x g : Fault) → Lower x g → g.line ≡ x.line → rank x.kind ≤ rank g.kind
higher_not x g low same = absurd (omega arith)

same_fault : (f g : Fault) → f.line ≡ g.line → rank f.kind ≡ rank g.kind → f ≡ g
same_fault f g lines kinds = grind (arith, common_steps, kind_at, kind_back)

-- ---- one more fault ----

module _ (faults : List Fault) (x : Fault) where
  all_before : (P : Fault → Type 0) → All P (faults ++ x ∷ []) → All P faults
  all_before P h k d below =
      All-contains P (faults ++ x ∷ []) (get_or faults k d) h
      (Contains-append_left faults (x ∷ []) (get_or faults k d) (Contains-get_or faults k d below))

  least_before : (f : Fault) → IsLeastOnLine (faults ++ x ∷ []) f → Contains faults f → IsLeastOnLine faults f
  least_before f h inside = record { among = inside; least = all_before (NoLess f) h.least }

  -- on the line of the last fault the kind isn't less, and nothing more is told
  told_same : (p : Fault) (told : List Fault) → AreLeastOnLines faults told → Contains faults p → All (UpTo p) faults → All (UpTo x) faults →
      p.line ≡ x.line → AreLeastOnLines (faults ++ x ∷ []) told
  told_same p told t inside low up same = record {
    ascending = t.ascending;
    each = λ f. (
      λ w.
          let h : IsLeastOnLine faults f = (t.each f).0 w in
          let behind : UpTo x f = All-contains (UpTo x) faults f up h.among in
          record {
            among = Contains-append_left faults (x ∷ []) f h.among;
            least = All-push (NoLess f) faults x h.least (no_less f x behind);
          },
      λ h.
          ⊎_elim (λ w. (t.each f).1 (least_before f h w)) (λ is. again f h is) (Contains-push_cases faults x f h.among),
    );
  }
    where
      again : (f : Fault) → IsLeastOnLine (faults ++ x ∷ []) f → x ≡ f → Contains told f
      again f h is =
          let here : Contains (faults ++ x ∷ []) p = Contains-append_left faults (x ∷ []) p inside in
          let line : p.line ≡ f.line = same ∙ ap (λ (g : Fault). g.line) is in
          let least : rank f.kind ≤ rank p.kind = All-contains (NoLess f) (faults ++ x ∷ []) p h.least here line in
          let behind : UpTo x p = All-contains (UpTo x) faults p up inside in
          let greatest : rank p.kind ≤ rank x.kind = no_less p x behind (sym same) in
          let kind : rank x.kind ≡ rank f.kind = ap (λ (g : Fault). rank g.kind) is in
          let one : p ≡ f = same_fault p f line (omega arith) in
          (t.each f).1 (least_before f h (subst (Contains faults) one inside))

  -- a fault on a further line is told
  told_more : (told : List Fault) → AreLeastOnLines faults told → All (Lower x) faults → AreLeastOnLines (faults ++ x ∷ []) (told ++ x ∷ [])
  told_more told t low = record {
    ascending = all_pairs_push (λ (f g : Fault). f.line < g.line) told x t.ascending
        (λ k d below. All-contains (Lower x) faults (get_or told k d) low ((t.each (get_or told k d)).0 (Contains-get_or told k d below)).among);
    each = λ f. (
      λ w. ⊎_elim (λ v. old f v) (λ is. subst (IsLeastOnLine (faults ++ x ∷ [])) is new) (Contains-push_cases told x f w),
      λ h. ⊎_elim (λ v. Contains-append_left told (x ∷ []) f ((t.each f).1 (least_before f h v)))
          (λ is. subst (Contains (told ++ x ∷ [])) is (Contains-push told x)) (Contains-push_cases faults x f h.among),
    );
  }
    where
      new : IsLeastOnLine (faults ++ x ∷ []) x
      new = record {
        among = Contains-push faults x;
        least = All-push (NoLess x) faults x (All-weaker (Lower x) (NoLess x) (λ g lower. higher_not x g lower) faults low) (λ _. omega arith);
      }

      old : (f : Fault) → Contains told f → IsLeastOnLine (faults ++ x ∷ []) f
      old f v =
          let h : IsLeastOnLine faults f = (t.each f).0 v in
          let lower : Lower x f = All-contains (Lower x) faults f low h.among in
          record {
            among = Contains-append_left faults (x ∷ []) f h.among;
            least = All-push (NoLess f) faults x h.least (lower_not f x lower);
          }

  last_now : All (UpTo x) faults → Contains (faults ++ x ∷ []) x × All (UpTo x) (faults ++ x ∷ [])
  last_now up = (Contains-push faults x, All-push (UpTo x) faults x up (omega arith))

other_line : (l m : ℕ) → nat_eq l m ≡ false → l ≡ m → ⊥
other_line l m t e = grind (arith, nat_tests)

that_line : (l m : ℕ) → nat_eq l m ≡ true → l ≡ m
that_line l m t = grind (arith, nat_tests)

-- one more fault of a loop over faults in order
pub told_next : (faults : List Fault) (before : Option Fault) (x : Fault) (told after : List Fault) → AreToldUpTo faults before told →
    All (UpTo x) faults → after ≡ cond (is_further before x) (told ++ x ∷ []) told → AreToldUpTo (faults ++ x ∷ []) (Some x) after
told_next faults None x told after h up is = record {
  told_are = subst (AreLeastOnLines (faults ++ x ∷ [])) (sym is)
      (told_more faults x told h.told_are (subst (λ (w : List Fault). All (Lower x) w) (sym h.last) (All-nil (Lower x))));
  last = last_now faults x up;
}
told_next faults (Some p) x told after h up is = record { told_are = by_line (nat_eq p.line x.line) refl; last = last_now faults x up }
  where
    by_line : (t : Bool) → nat_eq p.line x.line ≡ t → AreLeastOnLines (faults ++ x ∷ []) after
    by_line true t =
        subst (AreLeastOnLines (faults ++ x ∷ [])) (sym (is ∙ ap (λ (b : Bool). cond (not b) (told ++ x ∷ []) told) t))
        (told_same faults x p told h.told_are h.last.0 h.last.1 up (that_line p.line x.line t))
    by_line false t =
        let behind : UpTo x p = All-contains (UpTo x) faults p up h.last.0 in
        subst (AreLeastOnLines (faults ++ x ∷ [])) (sym (is ∙ ap (λ (b : Bool). cond (not b) (told ++ x ∷ []) told) t))
        (told_more faults x told h.told_are
        (All-weaker (UpTo p) (Lower x) (λ g low. lower_by x p g behind (other_line p.line x.line t) low) faults h.last.1))

-- in order, the faults before a place don't come behind the one there
pub up_to : (sorted : List Fault) (i : ℕ) (x : Fault) → AreFaultsInOrder sorted → i < length sorted → x ≡ get_or sorted i x → All (UpTo x) (take i sorted)
up_to sorted i x up within is k d below =
    let inside : k < i = grind (arith, common_steps) in
    let read : get_or (take i sorted) k d ≡ get_or sorted k d = get_or-take i sorted k d inside in
    let here : get_or sorted i d ≡ x = get_or_default sorted i d x within ∙ sym is in
    let before : order_of (get_or sorted k d) ≤ order_of (get_or sorted i d) = up k i d (omega arith) within in
    subst (λ (f : Fault). order_of f ≤ order_of x) (sym read) (subst (λ (f : Fault). order_of (get_or sorted k d) ≤ order_of f) here before)

-- nothing is told of no faults
pub none_told : AreToldUpTo [] None []
none_told = grind (arith, common_steps, Contains-none)

-- ---- the order ----

-- the faulty lines of some faults are those of the same faults in order
pub told_in_order : (faults sorted told : List Fault) → IsPermutation faults sorted → AreLeastOnLines sorted told → AreLeastOnLines faults told
told_in_order faults sorted told moved t = record {
  ascending = t.ascending;
  each = λ f. (
    λ w.
        let h : IsLeastOnLine sorted f = (t.each f).0 w in
        let back : IsPermutation sorted faults = IsPermutation-sym faults sorted moved in
        record {
          among = Contains-permutation sorted faults f back h.among;
          least = All-permutation (NoLess f) sorted faults back h.least;
        },
    λ h. (t.each f).1 (record {
      among = Contains-permutation faults sorted f moved h.among;
      least = All-permutation (NoLess f) faults sorted moved h.least;
    }),
  );
}

-- a fault comes before another exactly where its place is less
before_at : (l m r s : ℕ) → r < 16 → s < 16 → (nat_lt l m || (nat_eq l m && nat_lt r s)) ≡ nat_lt (l * 16 + r) (m * 16 + s)
before_at l m r s one other = grind (arith, nat_tests)

before_is : (f g : Fault) → is_before f g ≡ nat_lt (order_of f) (order_of g)
before_is f g = before_at f.line g.line (rank f.kind) (rank g.kind) (rank_small f.kind) (rank_small g.kind)

cmp_less : (a b : ℕ) → nat_lt a b ≡ true → nat_cmp a b ≡ Less
cmp_less a b t = grind (arith, nat_tests)

cmp_greater : (a b : ℕ) → nat_lt b a ≡ true → nat_cmp a b ≡ Greater
cmp_greater a b t = grind (arith, nat_tests)

cmp_equal : (a b : ℕ) → nat_lt a b ≡ false → nat_lt b a ≡ false → nat_cmp a b ≡ Equal
cmp_equal a b t u = grind (arith, nat_tests)

pub order_less : (f g : Fault) → is_before f g ≡ true → nat_cmp (order_of f) (order_of g) ≡ Less
order_less f g t = cmp_less (order_of f) (order_of g) (sym (before_is f g) ∙ t)

pub order_greater : (f g : Fault) → is_before g f ≡ true → nat_cmp (order_of f) (order_of g) ≡ Greater
order_greater f g t = cmp_greater (order_of f) (order_of g) (sym (before_is g f) ∙ t)

pub order_equal : (f g : Fault) → is_before f g ≡ false → is_before g f ≡ false → nat_cmp (order_of f) (order_of g) ≡ Equal
order_equal f g t u = cmp_equal (order_of f) (order_of g) (sym (before_is f g) ∙ t) (sym (before_is g f) ∙ u)

-- ---- the first one ----

not_after_less : (f g : Fault) → IsNotAfter f g → g.line ≡ f.line → rank f.kind ≤ rank g.kind
not_after_less f g before same = grind arith

-- the least of some faults is told
least_told : (faults told : List Fault) (f : Fault) → AreLeastOnLines faults told → IsLeastFault faults f → Contains told f
least_told faults told f t h =
    (t.each f).1 (record {
      among = h.among;
      least = All-weaker (IsNotAfter f) (NoLess f) (λ g before. not_after_less f g before) faults h.least;
    })

-- some line is told where there are faults
pub some_told : (faults told : List Fault) → AreLeastOnLines faults told → (faults ≡ [] → ⊥) → 0 < length told
some_told faults told t some = by_least (least_fault faults) refl
  where
    by_least : (o : Option Fault) → least_fault faults ≡ o → 0 < length told
    by_least None e = absurd (some (none_least faults e))
    by_least (Some f) e = let w : Contains told f = least_told faults told f t (least_is faults f e) in omega (arith, w.1)

not_before : (l f : Fault) → IsNotAfter l f → f.line < l.line → ⊥
not_before l f before less = grind arith

-- the first faulty line is the one that the text is refused for
pub first_refused : (text : List ℕ) (first : Fault) (more : List Fault) → AreFaultyLines text (first ∷ more) → IsRefusedText text first.line first.kind
first_refused text first more h = by_least (least_fault (faults_in (lines_in text))) refl
  where
    first_among : Contains (faults_in (lines_in text)) first
    first_among = ((h.all.each first).0 (zero, omega arith, refl)).among

    by_place : (f : Fault) → IsLeastFault (faults_in (lines_in text)) f → (k : ℕ) → k < length (first ∷ more) → get_or (first ∷ more) k f ≡ f → f ≡ first
    by_place f least zero below is = sym is
    by_place f least (suc k) below is =
        let less : first.line < (get_or (first ∷ more) (suc k) f).line = h.all.ascending zero (suc k) f (omega arith) below in
        absurd (not_before f first (All-contains (IsNotAfter f) (faults_in (lines_in text)) first least.least first_among)
        (subst (λ (g : Fault). first.line < g.line) is less))

    by_least : (o : Option Fault) → least_fault (faults_in (lines_in text)) ≡ o → IsRefusedText text first.line first.kind
    by_least None e =
        absurd (Contains-none first (subst (λ (w : List Fault). Contains w first) (none_least (faults_in (lines_in text)) e) first_among))
    by_least (Some f) e =
        let least : IsLeastFault (faults_in (lines_in text)) f = least_is (faults_in (lines_in text)) f e in
        let told : Contains (first ∷ more) f = least_told (faults_in (lines_in text)) (first ∷ more) f h.all least in
        subst (IsLeastFault (faults_in (lines_in text))) (by_place f least told.0 told.1 told.2) least
