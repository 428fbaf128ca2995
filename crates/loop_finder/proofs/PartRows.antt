-- How the part of a class is made of its rows.
use Rattle.std.proofs.lemmas.Grind.{common_steps}
use Rattle.std.proofs.Common.{◌≡◌, ℕ, ◌+◌, ◌<◌, ◌≤◌, ◌↔◌, ◌⊎◌, Bool, List, [], ◌∷◌, ◌++◌, length, map, replicate, get_or, Contains}
use Rattle.std.proofs.Common.{All, inl, inr, arith, ap, ◌∙◌, sym, subst, below_more, Option, Some, None, IfSome}
use Rattle.std.specs.Bool.{OnTrue}
use Rattle.std.proofs.lemmas.Bool.{cases_eq, cases_lt}
use Rattle.std.proofs.lemmas.List.{get_or_past, get_or-replicate, length_push, length-map, length-replicate}
use Rattle.std.proofs.lemmas.List.Elements.{All-push, Contains-append_left, Contains-get_or, Contains-push, Contains-push_cases}
use Rattle.std.proofs.Math.ListN.{get_or-append, get_or-map}
use Rattle.std.proofs.Math.Seq.{get_or-append_seam}
use Rattle.net_addr.specs.Addresses.{Block}
use Rattle.net_model.proofs.Members.{Contains-none}
use Rattle.net_model.specs.Network.{Connected}
use Rattle.net_model.specs.Refusals.{IsNetwork}
use Rattle.igp_theory.specs.Forwarding.{IsTarget, MustForward}
use Rattle.igp_theory.specs.Phases.{state_in}
use Rattle.igp_theory.specs.declared.phase.Phase.{Phase}
use Rattle.igp_theory.specs.declared.phase.Phase.TheVariants.{Old, Middle, New}
use Rattle.igp_theory.proofs.LoopLaws.{old_or_new_step}
use Rattle.igp_theory.proofs.SameTables.{follows_over}
use Rattle.order_core.specs.Marks.{IsMarked}
use Rattle.prefix_atoms.specs.Classes.{IsInClass}
use Rattle.rib_mix.specs.Answers.{AddsAllBut, IsAlikeAt, IsAlikeToKnown}
use Rattle.loop_finder.specs.steps.Ends.{ReadHops, AreNoHops, EndStep, HasBothSteps, hops_at}
use Rattle.loop_finder.specs.steps.Making.{IsHopsOf, IsMaking, IsRead, IsReadAt, IsSameAt, KnowsUnlike, ReadsSeen}
use Rattle.loop_finder.specs.steps.PartRows.{AreKept, HasHops, HasMarked, HaveHops, IsRowOf, AreFirstRows}
use Rattle.loop_finder.specs.Parts.{ClassPart, PhaseHops, hops_of, no_hops, StepsOf, StepsEver, HasStepOf, AllMove, HaveReturning, IsPart}
use Rattle.loop_finder.specs.steps.Parts.{AreAllBut, AreSteppers, AddsUnless, PartStep}
use Rattle.loop_finder.specs.steps.Returns.{MarksAgain, MarksReturns}
use Rattle.loop_finder.specs.Mixes.{Mix, migration_in, class_in, ClassIn, least_of, sample_of}
use Rattle.loop_finder.specs.declared.making.Making.{Making}
use Rattle.loop_finder.proofs.ClassFacts.{steps_to_those}
use Rattle.loop_finder.proofs.ClassVerdicts.{one_target}
use Rattle.loop_finder.proofs.Returning.{follows_on}

-- Both ends

-- of routers without hops none has any
pub none_in : {A : Type 0} (f : A → List ℕ) (a : A) (n : ℕ) → f a ≡ [] → AreNoHops n (map f (replicate n a))
none_in f a n bare = record {
  many = length-map (replicate n a) f ∙ length-replicate n a;
  none = λ u h among. Contains-none h (subst (λ (hops : List ℕ). Contains hops h) (at u) among);
}
  where
    same : (u : ℕ) → get_or (replicate n a) u a ≡ a
    same u = elim (cases_lt u n) [
      | inl below ↦ get_or-replicate n u a a below
      | inr past ↦ get_or_past (replicate n a) u a (omega (arith, past, length-replicate n a))
    ]

    at : (u : ℕ) → hops_at (map f (replicate n a)) u ≡ []
    at u = subst (λ (hops : List ℕ). get_or (map f (replicate n a)) u hops ≡ hops) bare (get_or-map f (replicate n a) u a ∙ ap f (same u))

-- what was read of a router is so where the same was read
pub read_same : (c : ClassIn) (one other : ReadHops) (u : ℕ) → IsReadAt c one u → IsSameAt one other u → IsReadAt c other u
read_same c one other u read same = grind (arith, common_steps)

-- and for a class for whose packets the router does the same
pub read_alike : (m : Mix) (atom other : ℕ) (lists : ReadHops) (u : ℕ) → IsReadAt (class_in m atom) lists u → IsAlikeAt (migration_in m) m.classes u atom other
    → IsReadAt (class_in m other) lists u
read_alike m atom other lists u read alike = record {
  olds = record { next = read.olds.next; is = (alike Old read.olds.next).0 read.olds.is; leads = read.olds.leads };
  news = record { next = read.news.next; is = (alike New read.news.next).0 read.news.is; leads = read.news.leads };
}

-- the same was read of a router twice
pub same_twice : (one other third : ReadHops) (u : ℕ) → IsSameAt one other u → IsSameAt other third u → IsSameAt one third u
same_twice one other third u first second = record { olds = first.olds ∙ second.olds; news = first.news ∙ second.news }

-- only a router that is there has hops
inside : (lists : List (List ℕ)) (u h : ℕ) → Contains (hops_at lists u) h → u < length lists
inside lists u h among = elim (cases_lt u (length lists)) [
  | inl below ↦ below
  | inr past ↦ absurd (Contains-none h (subst (λ (hops : List ℕ). Contains hops h) (get_or_past lists u [] past) among))
]

-- so no others step on
pub steps_within : (lists : ReadHops) (n x y : ℕ) → length lists.olds ≡ n → length lists.news ≡ n → EndStep lists x y → x < n
steps_within lists n x y olds news it_6 = grind (arith, common_steps, inside)

-- where a walk passes none of the routers that changed, it was one before
pub returns_again : (one other : ReadHops) (n : ℕ) (changed : List ℕ) (before marks : List Bool) → length other.olds ≡ n → length other.news ≡ n
    → AreAllBut (IsSameAt one other) n changed → MarksReturns (EndStep one) before
    → MarksAgain (EndStep other) changed before marks → MarksReturns (EndStep other) marks
returns_again one other n changed before marks olds news same returns again u h hops follows = elim (again u h hops follows) [
  | inl marked ↦ marked
  | inr stays ↦ stays.0 (returns u h hops (follows_over (λ x y steps. over x y steps.0 steps.1) u (h ∷ hops) u stays.1))
]
  where
    was : (x y : ℕ) → IsSameAt one other x → EndStep other x y → EndStep one x y
    was x y is (inl among) = inl (subst (λ (xs : List ℕ). Contains xs y) (sym is.olds) among)
    was x y is (inr among) = inr (subst (λ (xs : List ℕ). Contains xs y) (sym is.news) among)

    over : (x y : ℕ) → EndStep other x y → (¬ Contains changed x) → EndStep one x y
    over x y steps apart = elim (same.whole x (steps_within other n x y olds news steps)) [
      | inl among ↦ absurd (apart among)
      | inr is ↦ was x y is steps
    ]

-- where each router has a step in both ends or is one of the target's, all others move
pub all_move_from : (c : ClassIn) (p : Block) (lists : ReadHops)
    → IsNetwork c.mixture.net → IsTarget c.mixture.net (least_of c) p → IsRead c lists
    → ((u : ℕ) → u < length c.mixture.net → HasBothSteps lists u ⊎ Connected c.mixture.net u p) → AllMove c
all_move_from c p lists network target read each u must = elim (each u must.router) [
  | inl both ↦ (
    step Old (hops_at lists.olds u) (read.each u must.router).olds both.0,
    step New (hops_at lists.news u) (read.each u must.router).news both.1,
  )
  | inr connected ↦ absurd (must.away (subst (λ (q : Block). Connected c.mixture.net u q)
      (one_target c.mixture.net (least_of c) p must.target network target must.is_target) connected))
]
  where
    step : (phase : Phase) (hops : List ℕ) → IsHopsOf c u phase hops → 0 < length hops → HasStepOf c u phase
    step phase hops are some = record {
      hop = get_or hops 0 0;
      steps = (steps_to_those c u phase hops read.least are must (get_or hops 0 0)).0 (Contains-get_or hops 0 0 some);
    }

-- a step of both networks is one of what was read
over_read : (c : ClassIn) (lists : ReadHops) (x y : ℕ) → IsRead c lists → StepsEver c x y → EndStep lists x y
over_read c lists x y read (inl one) =
    inl ((steps_to_those c x Old (hops_at lists.olds x) read.least (read.each x one.must.router).olds one.must y).1 one)
over_read c lists x y read (inr other) =
    inr ((steps_to_those c x New (hops_at lists.news x) read.least (read.each x other.must.router).news other.must y).1 other)

-- the routers that are returned to, by what is known of the class that was read
pub returns_known : (c : ClassIn) (making : Making) (marks : List Bool)
    → IsMaking (length c.mixture.net) making → IsRead c making.lists → marks ≡ making.marks.items → MarksReturns (StepsEver c) marks
returns_known c making marks is read same u h hops follows = subst (λ (xs : List Bool). IsMarked xs u) (sym same)
    (is.returns u h hops (follows_over (λ x y steps. over_read c making.lists x y read steps) u (h ∷ hops) u follows))

-- Rows

-- a row with what is kept of the hops of each phase
pub row_made : (c : ClassIn) (marks : List Bool) (u : ℕ)
    (olds middles news kept_olds kept_middles kept_news : List ℕ)
    → IsInClass c.mixture.classes c.atom (least_of c) → MustForward c.mixture.net (least_of c) u → IsHopsOf c u Old olds → IsHopsOf c u Middle middles
    → IsHopsOf c u New news → AreKept olds marks kept_olds → AreKept middles marks kept_middles → AreKept news marks kept_news
    → IsRowOf c marks u (record { old = kept_olds; middle = kept_middles; new = kept_news })
row_made c marks u olds middles news kept_olds kept_middles kept_news least must is_old is_middle is_new are_old are_middle are_new =
    record { steps = steps; all = all }
  where
    exact : (phase : Phase) (hops : List ℕ) → IsHopsOf c u phase hops → (h : ℕ) → Contains hops h ↔ StepsOf c u phase h
    exact phase hops are = steps_to_those c u phase hops least are must

    steps : (phase : Phase) (h : ℕ) → Contains (hops_of (record { old = kept_olds; middle = kept_middles; new = kept_news }) phase) h
        → StepsOf c u phase h
    steps Old h among = (exact Old olds is_old h).0 (are_old.from h among)
    steps Middle h among = (exact Middle middles is_middle h).0 (are_middle.from h among)
    steps New h among = (exact New news is_new h).0 (are_new.from h among)

    all : (phase : Phase) (h : ℕ) → StepsOf c u phase h → IsMarked marks u → IsMarked marks h
        → Contains (hops_of (record { old = kept_olds; middle = kept_middles; new = kept_news }) phase) h
    all Old h one here there = are_old.all h ((exact Old olds is_old h).1 one) there
    all Middle h one here there = are_middle.all h ((exact Middle middles is_middle h).1 one) there
    all New h one here there = are_new.all h ((exact New news is_new h).1 one) there

-- nothing is among no hops
pub none_among : (phase : Phase) (h : ℕ) → Contains (hops_of no_hops phase) h → ⊥
none_among phase h = grind (arith, common_steps, Contains-none)

-- a router may have none that has no mark, or has no packets to pass on
pub row_none : (c : ClassIn) (marks : List Bool) (u : ℕ) (row : PhaseHops)
    → row ≡ no_hops → (IsMarked marks u → ¬ MustForward c.mixture.net (least_of c) u) → IsRowOf c marks u row
row_none c marks u row none never = grind (arith, common_steps, none_among)

-- a row with the marked ones of a router's hops has all of these
pub row_has : (c : ClassIn) (marks : List Bool) (u : ℕ) (row own : PhaseHops) → IsInClass c.mixture.classes c.atom (least_of c)
    → ((phase : Phase) → IsHopsOf c u phase (hops_of own phase)) → HasMarked marks row.old own.old → HasMarked marks row.middle own.middle
    → HasMarked marks row.new own.new → HasHops c marks u row
row_has c marks u row own least are olds middles news = all
  where
    among : (phase : Phase) (h : ℕ) → StepsOf c u phase h → Contains (hops_of own phase) h
    among phase h steps = (steps_to_those c u phase (hops_of own phase) least (are phase) steps.must h).1 steps

    all : HasHops c marks u row
    all Old h steps here there = olds h (among Old h steps) there
    all Middle h steps here there = middles h (among Middle h steps) there
    all New h steps here there = news h (among New h steps) there

-- what holds of n elements and of one more
pub each_more : {X : Type 0} (Is : ℕ → X → Type 0) (xs longer : List X) (x d : X) (n : ℕ) → longer ≡ xs ++ x ∷ [] → length xs ≡ n
    → ((u : ℕ) → u < n → Is u (get_or xs u d)) → Is n x → (length longer ≡ n + 1) × ((u : ℕ) → u < n + 1 → Is u (get_or longer u d))
each_more {X} Is xs longer x d n is many each one = subst (λ (ys : List X). (length ys ≡ n + 1) × ((u : ℕ) → u < n + 1 → Is u (get_or ys u d))) (sym is) (
  omega (arith, length_push xs x, many),
  below_more (λ (u : ℕ). Is u (get_or (xs ++ x ∷ []) u d)) n
      (λ u below. subst (Is u) (sym (get_or-append xs (x ∷ []) d u (omega (arith, below, many)))) (each u below))
      (subst (λ (k : ℕ). Is n (get_or (xs ++ x ∷ []) k d)) many (subst (Is n) (sym (get_or-append_seam xs x [] d)) one)),
)

-- one row more
pub AreFirstRows-more : (c : ClassIn) (marks : List Bool) (n : ℕ)
    (rows longer : List PhaseHops) (row : PhaseHops) → longer ≡ rows ++ row ∷ [] → AreFirstRows c marks n rows
    → IsRowOf c marks n row → AreFirstRows c marks (n + 1) longer
AreFirstRows-more c marks n rows longer row is are one =
    let more = each_more (IsRowOf c marks) rows longer row no_hops n is are.many are.each one in
    record { many = more.0; each = more.1 }

-- The part

-- rows with all hops between marked routers have each step from which a walk leads back
pub have_returning : (c : ClassIn) (marks : List Bool) (rows : List PhaseHops) → length marks ≡ length c.mixture.net
    → MarksReturns (StepsEver c) marks → HaveHops c marks rows → HaveReturning c rows
have_returning c marks rows many marked have u h hops phase steps follows =
    let here : IsMarked marks u = marked u h hops (old_or_new_step phase steps, follows) in
    let next = follows_on (StepsEver c) u h hops (old_or_new_step phase steps) follows in
    let there : IsMarked marks h = marked h next.first next.rest next.follows in
    have.each u (omega (arith, many, steps.must.router)) phase h steps here there

-- the part with the rows of all routers, for the addresses of a class
pub part_made : (m : Mix) (atom : ℕ) (marks : List Bool) (moves : Bool)
    (rows : List PhaseHops) → atom < length m.classes.samples → length marks ≡ length m.net → MarksReturns (StepsEver (class_in m atom)) marks
    → OnTrue moves (AllMove (class_in m atom)) → AreFirstRows (class_in m atom) marks (length marks) rows →
    IsPart m (record { atom = atom; moves = moves; rows = rows })
part_made m atom marks moves rows within many marked move are = record {
  class = within;
  many = omega (arith, are.many, many);
  moves = move;
  steps = steps;
  returns = have_returning (class_in m atom) marks rows many marked (record { many = are.many; each = λ u below. (are.each u below).all });
}
  where
    steps : (u h : ℕ) (phase : Phase) → Contains (hops_of (get_or rows u no_hops) phase) h → StepsOf (class_in m atom) u phase h
    steps u h phase among = elim (cases_lt u (length marks)) [
      | inl below ↦ (are.each u below).steps phase h among
      | inr past ↦ absurd (none_among phase h (subst (λ (row : PhaseHops). Contains (hops_of row phase) h)
          (get_or_past rows u no_hops (omega (arith, past, are.many))) among))
    ]

-- Which routers are listed

-- the next router
pub AreAllBut-more : (Is : ℕ → Type 0) (n : ℕ) (old new : List ℕ) → AreAllBut Is n old → AddsUnless (Is n) n old new → AreAllBut Is (n + 1) new
AreAllBut-more Is n old new are (inl added) = subst (λ (xs : List ℕ). AreAllBut Is (n + 1) xs) (sym added) (record {
  below = All-push (λ (u : ℕ). u < n + 1) old n (λ k d inside. let less : get_or old k d < n = are.below k d inside in omega (arith, less)) (omega arith);
  whole = below_more (λ (u : ℕ). Contains (old ++ n ∷ []) u ⊎ Is u) n
      (λ u below. elim (are.whole u below) [ inl among ↦ inl (Contains-append_left old (n ∷ []) u among) | inr is ↦ inr is ]) (inl (Contains-push old n));
})
AreAllBut-more Is n old new are (inr none) = subst (λ (xs : List ℕ). AreAllBut Is (n + 1) xs) (sym none.0) (record {
  below = λ k d inside. let less : get_or old k d < n = are.below k d inside in omega (arith, less);
  whole = below_more (λ (u : ℕ). Contains old u ⊎ Is u) n are.whole (inr none.1);
})

-- a router that steps on in one of two states has hops by its row
pub steppers_step : (part : ClassPart) (first last : List Phase) (steppers : List ℕ) → AreSteppers part.rows steppers
    → (u h : ℕ) → PartStep part first last u h → Contains steppers u
steppers_step part first last steppers are u h steps = elim (cases_lt u (length part.rows)) [
  | inl below ↦ elim (are.whole u below) [
    | inl among ↦ among
    | inr bare ↦ absurd (elim steps [ inl one ↦ bare (state_in first u) h one | inr other ↦ bare (state_in last u) h other ])
  ]
  | inr past ↦ absurd (elim steps [ inl one ↦ none_past past (state_in first u) one | inr other ↦ none_past past (state_in last u) other ])
]
  where
    none_past : length part.rows ≤ u → (phase : Phase) → ¬ Contains (hops_of (get_or part.rows u no_hops) phase) h
    none_past past phase among =
        none_among phase h (subst (λ (row : PhaseHops). Contains (hops_of row phase) h) (get_or_past part.rows u no_hops past) among)

-- one router more was read
pub reads_next : (c : ClassIn) (seen : List ℕ) (router : ℕ) (first before after : ReadHops) → ReadsSeen c seen first before
    → IsReadAt c after router → ((u : ℕ) → (¬ (u ≡ router)) → IsSameAt before after u)
    → ReadsSeen c (seen ++ router ∷ []) first after
reads_next c seen router first before after reads here others = record {
  read = λ u among. elim (cases_eq u router) [
    | inl same ↦ subst (IsReadAt c after) (sym same) here
    | inr apart ↦ elim (Contains-push_cases seen router u among) [
      | inl was ↦ read_same c before after u (reads.read u was) (others u apart)
      | inr is ↦ absurd (apart (sym is))
    ]
  ];
  rest = λ u. elim (cases_eq u router) [
    | inl same ↦ inl (subst (Contains (seen ++ router ∷ [])) (sym same) (Contains-push seen router))
    | inr apart ↦ elim (reads.rest u) [
      | inl was ↦ inl (Contains-append_left seen (router ∷ []) u was)
      | inr is ↦ inr (same_twice first before after u is (others u apart))
    ]
  ];
}

-- those that were added to none are all but those for which something holds
pub all_but_added : (Is : ℕ → Type 0) (n : ℕ) (old new shown : List ℕ) → old ≡ [] → shown ≡ new → AddsAllBut Is n old new
    → AreAllBut Is n shown
all_but_added Is n old new shown none is added =
    let same : added.added ≡ shown = sym (is ∙ added.new_is ∙ ap (λ (xs : List ℕ). xs ++ added.added) none) in
    subst (AreAllBut Is n) same (record { below = added.below; whole = added.whole })

-- what was read of a router for a class that is known was read for one for whose packets it does the same
known_read : (m : Mix) (known : Option ℕ) (atom : ℕ) (lists : ReadHops) (u : ℕ) → u < length m.net
    → IfSome known (λ other. IsRead (class_in m other) lists) → IsAlikeToKnown (migration_in m) m.classes known atom u
    → IsReadAt (class_in m atom) lists u
known_read m None atom lists u router known alike = absurd alike
known_read m (Some other) atom lists u router known alike = read_alike m other atom lists u (known.each u router) alike

-- so each router is read, where those are that aren't known to do the same as for the class that is known
pub reads_all : (m : Mix) (known : Option ℕ) (atom : ℕ) (first lists : ReadHops) (seen : List ℕ)
    → IfSome known (λ other. IsRead (class_in m other) first) → ReadsSeen (class_in m atom) seen first lists
    → AreAllBut (IsAlikeToKnown (migration_in m) m.classes known atom) (length m.net) seen → (u : ℕ) → u < length m.net
    → IsReadAt (class_in m atom) lists u
reads_all m known atom first lists seen was reads all u router = elim (all.whole u router) [
  | inl among ↦ reads.read u among
  | inr alike ↦ elim (reads.rest u) [
    | inl among ↦ reads.read u among
    | inr same ↦ read_same (class_in m atom) first lists u (known_read m known atom first u router was alike) same
  ]
]

-- so the class is read
pub is_read : (m : Mix) (making : Making) (atom : ℕ) (lists : ReadHops) → IsInClass m.classes atom (sample_of m.classes atom)
    → KnowsUnlike m atom making → length lists.olds ≡ length m.net → length lists.news ≡ length m.net
    → ReadsSeen (class_in m atom) making.changed.items making.lists lists → IsRead (class_in m atom) lists
is_read m making atom lists least knows olds news reads = record {
  least = least;
  olds_many = olds;
  news_many = news;
  each = reads_all m making.known atom making.lists lists making.changed.items knows.class.known_is reads knows.unlike;
}

-- Routers that lack a step

-- what is kept of these, of n routers, once some of them were seen
pub record AreAdded (lists : ReadHops) (n : ℕ) (start seen still : List ℕ) : Type 0 where
  pub below : All (λ u. u < n) start → All (λ u. u < n) still
  pub kept : (u : ℕ) → Contains start u → Contains still u
  pub added : (u : ℕ) → Contains seen u → HasBothSteps lists u ⊎ Contains still u

-- one router more
pub AreAdded-more : (lists : ReadHops) (n : ℕ) (start seen old new : List ℕ) (u : ℕ) → u < n → AreAdded lists n start seen old
    → AddsUnless (HasBothSteps lists u ⊎ Contains old u) u old new → AreAdded lists n start (seen ++ u ∷ []) new
AreAdded-more lists n start seen old new u within are (inl is) = subst (AreAdded lists n start (seen ++ u ∷ [])) (sym is) (record {
  below = λ first. All-push (λ (v : ℕ). v < n) old u (are.below first) within;
  kept = λ v among. Contains-append_left old (u ∷ []) v (are.kept v among);
  added = λ v among. elim (Contains-push_cases seen u v among) [
    | inl was ↦ elim (are.added v was) [ inl both ↦ inl both | inr here ↦ inr (Contains-append_left old (u ∷ []) v here) ]
    | inr same ↦ inr (subst (Contains (old ++ u ∷ [])) same (Contains-push old u))
  ];
})
AreAdded-more lists n start seen old new u within are (inr is) = subst (AreAdded lists n start (seen ++ u ∷ [])) (sym is.0) (record {
  below = are.below;
  kept = are.kept;
  added = λ v among. elim (Contains-push_cases seen u v among) [
    | inl was ↦ are.added v was
    | inr same ↦ subst (λ (x : ℕ). HasBothSteps lists x ⊎ Contains old x) same is.1
  ];
})

-- the routers that lack a step for a class that is read are those that lacked one before, or changed
pub are_still : (m : Mix) (making : Making) (atom : ℕ) (lists : ReadHops) (still : List ℕ) → KnowsUnlike m atom making
    → ReadsSeen (class_in m atom) making.changed.items making.lists lists → All (λ u. u < length m.net) still
    → ((u : ℕ) → Contains making.still.items u → HasBothSteps lists u ⊎ Contains still u)
    → ((u : ℕ) → Contains making.changed.items u → HasBothSteps lists u ⊎ Contains still u)
    → AreAllBut (HasBothSteps lists) (length m.net) still
are_still m making atom lists still knows reads below was changed = record {
  below = below;
  whole = λ u router. elim (knows.unlike.whole u router) [
    | inl among ↦ swap (changed u among)
    | inr alike ↦ elim (reads.rest u) [
      | inl among ↦ swap (changed u among)
      | inr same ↦ elim (listed u making.known alike knows.class.still_is.listed u router) [
        | inl among ↦ swap (was u among)
        | inr both ↦ inr (both_still u same both)
      ]
    ]
  ];
}
  where
    swap : {P Q : Type 0} → P ⊎ Q → Q ⊎ P
    swap (inl p) = inr p
    swap (inr q) = inl q

    both_still : (u : ℕ) → IsSameAt making.lists lists u → HasBothSteps making.lists u → HasBothSteps lists u
    both_still u same both = (subst (λ (xs : List ℕ). 0 < length xs) same.olds both.0, subst (λ (xs : List ℕ). 0 < length xs) same.news both.1)

    listed : (u : ℕ) (known : Option ℕ) → IsAlikeToKnown (migration_in m) m.classes known atom u
        → IfSome known (λ other. AreAllBut (HasBothSteps making.lists) (length m.net) making.still.items)
        → (v : ℕ) → v < length m.net → Contains making.still.items v ⊎ HasBothSteps making.lists v
    listed u None alike still = absurd alike
    listed u (Some other) alike still = still.whole
