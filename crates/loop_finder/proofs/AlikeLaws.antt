-- Classes that every router treats alike are sound in the same states.
use Rattle.std.proofs.Common.{◌≡◌, ℕ, ◌<◌, Bool, List, [], ◌∷◌, length, get_or, inl, inr, arith, refl, sym, subst}
use Rattle.std.proofs.lemmas.List.Elements.{Contains-get_or}
use Rattle.net_addr.specs.Addresses.{Block}
use Rattle.net_model.specs.Network.{Network, Connected}
use Rattle.net_model.specs.Refusals.{IsNetwork}
use Rattle.igp_theory.specs.Forwarding.{IsTarget, MustForward}
use Rattle.igp_theory.specs.States.{Follows}
use Rattle.igp_theory.specs.declared.phase.Phase.{Phase}
use Rattle.igp_theory.specs.declared.phase.Phase.TheVariants.{Old, New}
use Rattle.igp_theory.proofs.LoopLaws.{old_or_new_step}
use Rattle.igp_theory.proofs.SameTables.{follows_over}
use Rattle.rib_mix.specs.Answers.{AreAlike, IsNextOf}
use Rattle.rib_mix.specs.Laws.{HaveAnswers}
use Rattle.rib_mix.specs.declared.next.Next.{Next}
use Rattle.rib_mix.proofs.NextLaws.{steps_to_hops}
use Rattle.loop_finder.specs.Mixes.{Mix, class_in, migration_in, sample_of}
use Rattle.loop_finder.specs.Parts.{ClassPart, HaveReturning, IsPart, SoundWith, StepsEver, StepsOf, no_hops, part_hops}
use Rattle.loop_finder.specs.Parts.{IsCovered, as_earlier, has_part, never_unsound}
use Rattle.loop_finder.specs.steps.PartRows.{HasRowHop, ServeAlike}
use Rattle.loop_finder.specs.steps.Returns.{MarksReturns}
use Rattle.loop_finder.specs.Soundness.{ClassesOf}
use Rattle.loop_finder.proofs.ClassVerdicts.{one_target, sample_in}
use Rattle.loop_finder.proofs.Returning.{returning}

-- where the targets of two addresses are connected at the same routers, a router that has to pass the packets of one on has to
-- pass those of the other on
must_alike : (net : Network) (a b u : ℕ) (one other : Block) → IsNetwork net → IsTarget net a one → IsTarget net b other
    → (Connected net u other → Connected net u one) → MustForward net a u → MustForward net b u
must_alike net a b u one other network one_is other_is home must = record {
  router = must.router;
  target = other;
  is_target = other_is;
  away = λ connected. must.away (subst (λ (p : Block). Connected net u p)
      (one_target net a one must.target network one_is must.is_target) (home connected));
}

-- a router that does the same with the packets of two classes, and has to pass both on, makes the same steps
steps_alike : (m : Mix) (j k u h : ℕ) (phase : Phase) (next : Next) → ClassesOf m → j < length m.classes.samples
    → k < length m.classes.samples → IsNextOf (migration_in m) m.classes u j phase next → IsNextOf (migration_in m) m.classes u k phase next
    → MustForward m.net (sample_of m.classes k) u → StepsOf (class_in m j) u phase h → StepsOf (class_in m k) u phase h
steps_alike m j k u h phase next classes in_j in_k is_j is_k must steps =
    let a : ℕ = sample_of m.classes j in
    let b : ℕ = sample_of m.classes k in
    (steps_to_hops (migration_in m) u phase b next h (is_k b (sample_in m.classes k classes in_k)) must).1
    ((steps_to_hops (migration_in m) u phase a next h (is_j a (sample_in m.classes j classes in_j)) steps.must).0 steps)

-- two classes that every router treats alike are sound in the same states
pub sound_alike : (m : Mix) (j k : ℕ) → IsNetwork m.net → ClassesOf m → HaveAnswers (migration_in m) m.classes
    → j < length m.classes.samples → k < length m.classes.samples → AreAlike (migration_in m) m.classes j k → SoundWith m j k
sound_alike m j k network classes answers in_j in_k alike state sound = record {
  forwards = λ u must.
      let has = sound.forwards u (earlier u must) in
      let answer = answers u j (state u) must.router in_j in
      record {
        hop = has.hop;
        steps = steps_alike m j k u has.hop (state u) answer.next classes in_j in_k answer.is
            ((alike.each u must.router (state u) answer.next).0 answer.is) must has.steps;
      };
  returns_never = λ u h hops follows. sound.returns_never u h hops
      (follows_over (λ x y steps. back x y (state x) steps) u (h ∷ hops) u follows);
}
  where
    earlier : (x : ℕ) → MustForward m.net (sample_of m.classes k) x → MustForward m.net (sample_of m.classes j) x
    earlier x must = must_alike m.net (sample_of m.classes k) (sample_of m.classes j) x alike.another alike.one network
        alike.other_is alike.one_is (alike.homes x).0 must

    back : (x y : ℕ) (phase : Phase) → StepsOf (class_in m k) x phase y → StepsOf (class_in m j) x phase y
    back x y phase steps =
        let answer = answers x j phase steps.must.router in_j in
        let other = (alike.each x steps.must.router phase answer.next).0 answer.is in
        steps_alike m k j x y phase answer.next classes in_k in_j other answer.is (earlier x steps.must) steps

-- where each marked router does the same for a class as for that of a part, in which it has a hop, the part has each step of
-- the class from which a walk leads back
pub alike_returning : (m : Mix) (part : ClassPart) (k : ℕ) (marks : List Bool) → ClassesOf m
    → HaveAnswers (migration_in m) m.classes → k < length m.classes.samples → IsPart m part
    → MarksReturns (StepsEver (class_in m k)) marks → ServeAlike m marks part.rows part.atom k
    → HaveReturning (class_in m k) part.rows
alike_returning m part k marks classes answers within is marked alike u h hops phase steps follows =
    let closed : Follows Ever u (h ∷ hops) u = (old_or_new_step phase steps, follows) in
    let own : Follows Own u (h ∷ hops) u = returning Ever Ever Own (λ x y step. step) ever u u [] (h ∷ hops) refl closed in
    is.returns u h hops phase (own_step u h hops phase steps follows) own.1
  where
    Ever : ℕ → ℕ → Type 0
    Ever = StepsEver (class_in m k)

    Own : ℕ → ℕ → Type 0
    Own = StepsEver (class_in m part.atom)

    home_in : (x : ℕ) (at : Phase) → 0 < length (part_hops part x at) → MustForward m.net (sample_of m.classes part.atom) x
    home_in x at some = (is.steps x (get_or (part_hops part x at) 0 0) at (Contains-get_or (part_hops part x at) 0 0 some)).must

    home : (x : ℕ) → HasRowHop (get_or part.rows x no_hops) → MustForward m.net (sample_of m.classes part.atom) x
    home x (inl some) = home_in x Old some
    home x (inr some) = home_in x New some

    own_step : (x y : ℕ) (rest : List ℕ) (at : Phase) → StepsOf (class_in m k) x at y → Follows Ever y rest x
        → StepsOf (class_in m part.atom) x at y
    own_step x y rest at step back =
        let same = alike x step.must.router (marked x y rest (old_or_new_step at step, back)) in
        let answer = answers x part.atom at step.must.router is.class in
        let other = (same.alike at answer.next).0 answer.is in
        steps_alike m k part.atom x y at answer.next classes within is.class other answer.is (home x same.hop) step

    ever : (x y : ℕ) (rest : List ℕ) → Ever x y → Follows Ever y rest x → Own x y
    ever x y rest (inl one) back = inl (own_step x y rest Old one back)
    ever x y rest (inr other) back = inr (own_step x y rest New other back)

-- two classes that every router treats alike: one is covered where the other is, an earlier one
pub covered_alike : (m : Mix) (parts : List ClassPart) (j k : ℕ) → j < k → SoundWith m j k → IsCovered m parts j
    → IsCovered m parts k
covered_alike m parts j k less with (has_part is) =
    as_earlier is.part is.among (let same : is.part.atom ≡ j = is.is in omega (arith, same, less))
    (subst (λ (i : ℕ). SoundWith m i k) (sym is.is) with)
covered_alike m parts j k less with (never_unsound never) = never_unsound (λ state. with state (never state))
covered_alike m parts j k less with (as_earlier part among before first) =
    as_earlier part among (omega (arith, before, less)) (λ state sound. with state (first state sound))
