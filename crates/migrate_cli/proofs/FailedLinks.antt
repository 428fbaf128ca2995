-- The links of a network are one list, and a list of routers comes to one thing without each.
use Rattle.std.proofs.lemmas.Grind.{common_steps}
use Rattle.std.proofs.Common.{◌≡◌, ◌≢◌, ◌⊎◌, ◌↔◌, inl, inr, ℕ, suc, List, [], ◌∷◌, All, AllPairs, Contains, ap, arith, map, refl, subst, sym}
use Rattle.std.proofs.lemmas.List.Elements.{All-contains}
use Rattle.net_addr.specs.Addresses.{Block}
use Rattle.net_model.specs.Least.{IsBlockAtMost}
use Rattle.net_model.specs.Network.{Network}
use Rattle.net_model.specs.declared.refusal.NetRefusal.{NetRefusal}
use Rattle.net_model.proofs.RefusalLaws.{Refuses-unique, block_antisymmetric}
use Rattle.igp_theory.specs.Migrations.{Migration}
use Rattle.igp_theory.specs.Timetables.{router_times}
use Rattle.igp_theory.proofs.FaultLaws.{fault_unique, faulty_not_seamless, faulty_not_sound, first_fault_unique}
use Rattle.igp_theory.proofs.WaveFaultLaws.{times_fault_unique, times_fault_unsound}
use Rattle.plan_theory.proofs.OnePlan.{told_once}
use Rattle.plan_theory.specs.declared.planned.EndFault.{EndFault}
use Rattle.step_scripts.specs.declared.version.Version.{Version}
use Rattle.failed_links.proofs.DownFacts.{StandsOrIsRefused-all}
use Rattle.failed_links.specs.SharedLinks.{ListsLinks}
use Rattle.failed_links.specs.ShutDown.{shut_down}
use Rattle.failure_texts.specs.declared.verdict.FailedLink.{FailedLink}
use Rattle.failure_texts.specs.declared.verdict.LinkVerdict.{LinkVerdict}
use Rattle.failure_texts.specs.declared.verdict.LinkVerdict.TheVariants.{Breaks, BreaksWave, UnsoundOld, UnsoundNew, Refused}
use Rattle.migrate_cli.specs.FailuresDecision.{AreFailedLinks, IsLinkVerdict, IsVerdictOver}
use Rattle.migrate_cli.specs.FailuresDecision.IsLinkVerdict.{refused, judged}
use Rattle.migrate_cli.specs.FailuresDecision.IsVerdictOver.{old_end, new_end, order_kept, order_broken, waves_kept, waves_broken}

-- ---- ascending lists of prefixes, each once ----

in_first_or_rest : (x : Block) (xs : List Block) (p : Block) → Contains (x ∷ xs) p → (x ≡ p) ⊎ Contains xs p
in_first_or_rest x xs p it_3 = grind (arith, common_steps)

in_more : (x : Block) (xs : List Block) (p : Block) → Contains xs p → Contains (x ∷ xs) p
in_more x xs p (k, within, at) = (suc k, omega arith, at)

-- a list that ascends and has each prefix once
record Ascends (xs : List Block) : Type 0 where
  up : AllPairs IsBlockAtMost xs
  once : AllPairs (λ (p q : Block). p ≢ q) xs

rest_up : (x : Block) (xs : List Block) → Ascends (x ∷ xs) → Ascends xs
rest_up x xs is = record {
  up = λ i j d before within. is.up (suc i) (suc j) d (omega arith) (omega arith);
  once = λ i j d before within. is.once (suc i) (suc j) d (omega arith) (omega arith);
}

first_at_most : (x : Block) (xs : List Block) → Ascends (x ∷ xs) → (p : Block) → Contains xs p → IsBlockAtMost x p
first_at_most x xs is p inside =
    All-contains (λ (q : Block). IsBlockAtMost x q) xs p (λ k d within. is.up 0 (suc k) d (omega arith) (omega arith)) inside

first_apart : (x : Block) (xs : List Block) → Ascends (x ∷ xs) → (p : Block) → Contains xs p → x ≢ p
first_apart x xs is p inside =
    All-contains (λ (q : Block). x ≢ q) xs p (λ k d within. is.once 0 (suc k) d (omega arith) (omega arith)) inside

begin_alike : (x : Block) (xs : List Block) (y : Block) (ys : List Block) → Ascends (x ∷ xs) → Ascends (y ∷ ys) →
    ((p : Block) → Contains (x ∷ xs) p ↔ Contains (y ∷ ys) p) → x ≡ y
begin_alike x xs y ys one other same =
    let there : Contains (y ∷ ys) x = (same x).0 (0, omega arith, refl) in
    let here : Contains (x ∷ xs) y = (same y).1 (0, omega arith, refl) in
    elim (in_first_or_rest y ys x there) [
      | inl e ↦ sym e
      | inr in_ys ↦ elim (in_first_or_rest x xs y here) [
        | inl e ↦ e
        | inr in_xs ↦ block_antisymmetric x y (first_at_most x xs one y in_xs) (first_at_most y ys other x in_ys)
      ]
    ]

stays_in_rest : (x : Block) (xs : List Block) (y : Block) (ys : List Block) → Ascends (x ∷ xs) → x ≡ y →
    ((p : Block) → Contains (x ∷ xs) p → Contains (y ∷ ys) p) → (p : Block) → Contains xs p → Contains ys p
stays_in_rest x xs y ys one begins over p inside =
    elim (in_first_or_rest y ys p (over p (in_more x xs p inside))) [
      | inl e ↦ let same : x ≡ p = cc in absurd (first_apart x xs one p inside same)
      | inr rest ↦ rest
    ]

one_ascending : (xs ys : List Block) → Ascends xs → Ascends ys → ((p : Block) → Contains xs p ↔ Contains ys p) → xs ≡ ys
one_ascending [] [] one other same = refl
one_ascending [] (y ∷ ys) one other same =
    let none : Contains {X = Block} [] y = (same y).1 (0, omega arith, refl) in absurd (omega (arith, none.1))
one_ascending (x ∷ xs) [] one other same =
    let none : Contains {X = Block} [] x = (same x).0 (0, omega arith, refl) in absurd (omega (arith, none.1))
one_ascending (x ∷ xs) (y ∷ ys) one other same =
    let begins : x ≡ y = begin_alike x xs y ys one other same in
    let rest : xs ≡ ys = one_ascending xs ys (rest_up x xs one) (rest_up y ys other)
    (λ p. (stays_in_rest x xs y ys one begins (λ q. (same q).0) p, stays_in_rest y ys x xs other (sym begins) (λ q. (same q).1) p)) in
    cc

-- the links of a network are one list
pub one_list_of_links : (net : Network) (links others : List Block) → ListsLinks net links → ListsLinks net others → links ≡ others
one_list_of_links net links others one other =
    one_ascending links others (record { up = one.ascending; once = one.once }) (record { up = other.ascending; once = other.once })
    (λ p. (λ inside. (other.exact p).1 ((one.exact p).0 inside), λ inside. (one.exact p).1 ((other.exact p).0 inside)))

-- ---- verdicts ----

-- a list comes to one thing in a migration
pub one_verdict_over : {move : Migration} {ranks : List ℕ} {version : Version} {v w : LinkVerdict} → IsVerdictOver move ranks version v →
    IsVerdictOver move ranks version w → v ≡ w
one_verdict_over (old_end f is) (old_end g too) = ap (λ (e : EndFault). UnsoundOld e) (told_once f g (fault_unique is too))
one_verdict_over (old_end f is) (new_end g too) = absurd (faulty_not_sound is too.first)
one_verdict_over (old_end f is) (order_kept ends _ _) = absurd (faulty_not_sound is ends.first)
one_verdict_over (old_end f is) (order_broken _ _ ends _) = absurd (faulty_not_sound is ends.first)
one_verdict_over (old_end f is) (waves_kept ends _) = absurd (faulty_not_sound is ends.first)
one_verdict_over (old_end f is) (waves_broken _ _ ends _) = absurd (faulty_not_sound is ends.first)
one_verdict_over (new_end f is) (old_end g too) = absurd (faulty_not_sound too is.first)
one_verdict_over (new_end f is) (new_end g too) = ap (λ (e : EndFault). UnsoundNew e) (told_once f g (fault_unique is.last too.last))
one_verdict_over (new_end f is) (order_kept ends _ _) = absurd (faulty_not_sound is.last ends.last)
one_verdict_over (new_end f is) (order_broken _ _ ends _) = absurd (faulty_not_sound is.last ends.last)
one_verdict_over (new_end f is) (waves_kept ends _) = absurd (faulty_not_sound is.last ends.last)
one_verdict_over (new_end f is) (waves_broken _ _ ends _) = absurd (faulty_not_sound is.last ends.last)
one_verdict_over (order_kept ends _ _) (old_end g too) = absurd (faulty_not_sound too ends.first)
one_verdict_over (order_kept ends _ _) (new_end g too) = absurd (faulty_not_sound too.last ends.last)
one_verdict_over (order_kept _ _ _) (order_kept _ _ _) = refl
one_verdict_over (order_kept _ seamless _) (order_broken _ _ _ first) = absurd (faulty_not_seamless first seamless)
one_verdict_over (order_broken _ _ ends _) (old_end g too) = absurd (faulty_not_sound too ends.first)
one_verdict_over (order_broken _ _ ends _) (new_end g too) = absurd (faulty_not_sound too.last ends.last)
one_verdict_over (order_broken _ _ _ first) (order_kept _ seamless _) = absurd (faulty_not_seamless first seamless)
one_verdict_over (order_broken k f _ first) (order_broken j g _ again) =
    let same = first_fault_unique first again in
    let told : f ≡ g = told_once f g same.1 in
    λ i. Breaks (same.0 i) (told i)
one_verdict_over (waves_kept ends _) (old_end g too) = absurd (faulty_not_sound too ends.first)
one_verdict_over (waves_kept ends _) (new_end g too) = absurd (faulty_not_sound too.last ends.last)
one_verdict_over (waves_kept _ _) (waves_kept _ _) = refl
one_verdict_over {move} {ranks} (waves_kept _ seamless) (waves_broken w f _ first) =
    absurd (times_fault_unsound move (router_times move.start ranks) w _ first seamless.throughout)
one_verdict_over (waves_broken _ _ ends _) (old_end g too) = absurd (faulty_not_sound too ends.first)
one_verdict_over (waves_broken _ _ ends _) (new_end g too) = absurd (faulty_not_sound too.last ends.last)
one_verdict_over {move} {ranks} (waves_broken w f _ first) (waves_kept _ seamless) =
    absurd (times_fault_unsound move (router_times move.start ranks) w _ first seamless.throughout)
one_verdict_over (waves_broken w f _ first) (waves_broken x g _ again) =
    let same = times_fault_unique first again in
    let told : f ≡ g = told_once f g same.1 in
    λ i. BreaksWave (same.0 i) (told i)

module _ (net : Network) (version : Version) (ranks : List ℕ) where
  -- and without a link
  pub one_link_verdict : (p : Block) {v w : LinkVerdict} → IsLinkVerdict net version ranks p v → IsLinkVerdict net version ranks p w → v ≡ w
  one_link_verdict p (refused r is) (refused s too) =
      ap (λ (x : NetRefusal). Refused x) (Refuses-unique (shut_down p net) r s is.told too.told is.refuses too.refuses)
  one_link_verdict p (refused r is) (judged _ stands _) = absurd (StandsOrIsRefused-all p net r stands is)
  one_link_verdict p (judged _ stands _) (refused r is) = absurd (StandsOrIsRefused-all p net r stands is)
  one_link_verdict p (judged _ _ is) (judged _ _ too) = one_verdict_over is too

  abbrev HasVerdict : FailedLink → Type 0
  HasVerdict x = IsLinkVerdict net version ranks x.link x.verdict

  same_verdicts : (xs ys : List FailedLink) → map (λ (x : FailedLink). x.link) xs ≡ map (λ (x : FailedLink). x.link) ys →
      All HasVerdict xs → All HasVerdict ys → xs ≡ ys
  same_verdicts [] [] links one other = refl
  same_verdicts [] (y ∷ ys) links one other = absurd (Prim.cc links)
  same_verdicts (x ∷ xs) [] links one other = absurd (Prim.cc links)
  same_verdicts (x ∷ xs) (y ∷ ys) links one other =
      let link : x.link ≡ y.link = cc links in
      let rest : map (λ (f : FailedLink). f.link) xs ≡ map (λ (f : FailedLink). f.link) ys = cc links in
      let first : HasVerdict x = one 0 x (omega arith) in
      let again : HasVerdict y = other 0 y (omega arith) in
      let verdict : x.verdict ≡ y.verdict =
      one_link_verdict y.link (subst (λ (p : Block). IsLinkVerdict net version ranks p x.verdict) link first) again in
      let begins : x ≡ y = λ i. record { link = link i; verdict = verdict i } in
      let others : xs ≡ ys = same_verdicts xs ys rest (λ k d within. one (suc k) d (omega arith)) (λ k d within. other (suc k) d (omega arith)) in
      cc

  -- so it is told of each link in one way
  pub one_failed_links : (failed others : List FailedLink) → AreFailedLinks net version ranks failed → AreFailedLinks net version ranks others →
      failed ≡ others
  one_failed_links failed others one other =
      same_verdicts failed others (one_list_of_links net _ _ one.links other.links) one.verdicts other.verdicts
