-- The comments of changes in a script: one for each change of its flat run, with its number and its router.
use Rattle.std.proofs.lemmas.Grind.{common_steps}
use Rattle.std.proofs.Common.{◌≡◌, ℕ, zero, suc, ◌+◌, ◌^◌, ◌<◌, Bool, true, false, ◌&&◌, if◌then◌else◌, List, [], ◌∷◌, ◌++◌, length}
use Rattle.std.proofs.Common.{filter, Option, Some, slice_get, refl, ap, ◌∙◌, append-nil, arith}
use Rattle.std.specs.Char.{is_ascii_digit, IsAsciiDigit}
use Rattle.std.proofs.lemmas.Bool.Decides.{nat_tests}
use Rattle.std.proofs.lemmas.List.{get_or_append_left}
use Rattle.std.proofs.lemmas.List.Elements.{filter-append}
use Rattle.net_model.specs.Configuration.{Configuration}
use Rattle.net_model.specs.Network.{Network}
use Rattle.net_model.specs.declared.bounds.TheConstants.{ISIS_DISTANCE}
use Rattle.order_core.specs.Rankings.{rank_of, flat_of}
use Rattle.igp_theory.specs.Changes.{Change, first, second, changed}
use Rattle.igp_theory.specs.Waves.{run_along}
use Rattle.printed_lines.proofs.NumberFacts.{decimal-IsNumeral}
use Rattle.step_scripts.specs.declared.version.Version.{Version}
use Rattle.step_scripts.specs.Scripts.{isis_head, distance_line, name_on, change_comment, isis_change_lines, ospf_change_lines}
use Rattle.step_scripts.specs.Scripts.{by_configuration, change_lines, wave_comment, wave_comments, shows_waves, opens_wave}
use Rattle.step_scripts.specs.Scripts.{change_part, change_parts, end_lines, end_comment, lacks_process, script_lines, Scripted, scripted}
use Rattle.step_scripts.specs.ScriptLaws.{is_change_comment, AreNumberedComments}
use Rattle.std.specs.List.{list_any}

-- ---- which lines are such comments ----

digit_true : (b : ℕ) → IsAsciiDigit b → is_ascii_digit b ≡ true
digit_true b h = grind (arith, nat_tests)

comment_is : (number : ℕ) (name : List ℕ) → number < 2 ^ 64 → is_change_comment (change_comment number name) ≡ true
comment_is number name fits = grind (arith, common_steps, decimal-IsNumeral, digit_true, get_or_append_left)

none_isis : (c : Configuration) → filter is_change_comment (isis_change_lines c) ≡ []
none_isis c = by_isis c.isis c.tag
  where
    by_isis : (isis : Bool) (tag : List ℕ) →
        filter is_change_comment (if isis then isis_head tag ∷ distance_line ISIS_DISTANCE ∷ [] else []) ≡ []
    by_isis false tag = refl
    by_isis true [] = refl
    by_isis true (b ∷ tag) = refl

none_process : (process : Option ℕ) → filter is_change_comment (ospf_change_lines process) ≡ []
none_process process = grind (arith, common_steps)

none_by : (f : Configuration → List (List ℕ)) → ((c : Configuration) → filter is_change_comment (f c) ≡ []) → (o : Option Configuration) →
    filter is_change_comment (by_configuration f o) ≡ []
none_by f each o = grind (arith, common_steps)

none_in_change : (net : Network) (c : Change) → filter is_change_comment (change_lines net c) ≡ []
none_in_change net c = grind (arith, common_steps, none_by, none_isis, none_process)

none_in_waves : (version : Version) (ranks : List ℕ) (c : Change) (more : List (List ℕ)) →
    filter is_change_comment (wave_comments version ranks c ++ more) ≡ filter is_change_comment more
none_in_waves version ranks (first u) more = by_test (shows_waves version && opens_wave ranks u)
  where
    by_test : (b : Bool) →
        filter is_change_comment ((if b then wave_comment (rank_of ranks u + 1) ∷ [] else []) ++ more) ≡ filter is_change_comment more
    by_test true = refl
    by_test false = refl
none_in_waves version ranks (second u) more = refl

none_at_end : (net : Network) → filter is_change_comment (end_lines net) ≡ []
none_at_end net = by_test (list_any lacks_process net)
  where
    by_test : (b : Bool) → filter is_change_comment (if b then end_comment ∷ [] else []) ≡ []
    by_test true = refl
    by_test false = refl

-- ---- the comments of some changes ----

abbrev numbered : Network → ℕ → List Change → List (List ℕ)
numbered net made [] = []
numbered net made (c ∷ changes) = change_comment (made + 1) (name_on net (changed c)) ∷ numbered net (made + 1) changes

in_part : (m : Scripted) (number : ℕ) (c : Change) → number < 2 ^ 64 →
    filter is_change_comment (change_part m number c) ≡ change_comment number (name_on m.net (changed c)) ∷ []
in_part m number c fits = grind (arith, common_steps, comment_is, none_in_change, none_in_waves)

in_parts : (m : Scripted) (made : ℕ) (changes : List Change) → made + length changes < 2 ^ 64 →
    filter is_change_comment (change_parts m made changes) ≡ numbered m.net made changes
in_parts m made [] fits = refl
in_parts m made (c ∷ changes) fits =
    filter-append is_change_comment (change_part m (made + 1) c) (change_parts m (made + 1) changes)
    ∙ ap (λ l. l ++ filter is_change_comment (change_parts m (made + 1) changes)) (in_part m (made + 1) c (omega (arith, fits)))
    ∙ ap (λ l. change_comment (made + 1) (name_on m.net (changed c)) ∷ l) (in_parts m (made + 1) changes (omega (arith, fits)))

as_many_numbered : (net : Network) (made : ℕ) (changes : List Change) → length (numbered net made changes) ≡ length changes
as_many_numbered net made [] = refl
as_many_numbered net made (c ∷ changes) = ap suc (as_many_numbered net (made + 1) changes)

each_numbered : (net : Network) (made : ℕ) (changes : List Change) (k : ℕ) (c : Change) → slice_get changes k ≡ Some c →
    slice_get (numbered net made changes) k ≡ Some (change_comment (made + (k + 1)) (name_on net (changed c)))
each_numbered net made [] k c e = absurd cc
each_numbered net made (d ∷ changes) zero c e =
    let same : d ≡ c = cc in
    let next : made + 1 ≡ made + (0 + 1) = omega arith in
    ap (λ x. Some (change_comment (made + 1) (name_on net (changed x)))) same
    ∙ ap (λ n. Some (change_comment n (name_on net (changed c)))) next
each_numbered net made (d ∷ changes) (suc k) c e =
    each_numbered net (made + 1) changes k c e
    ∙ ap (λ n. Some (change_comment n (name_on net (changed c)))) (let same : made + 1 + (k + 1) ≡ made + (suc k + 1) = omega arith in same)

pub script_comments : (version : Version) (net : Network) (ranks : List ℕ) → length (run_along (flat_of ranks)) < 2 ^ 64 →
    AreNumberedComments net (run_along (flat_of ranks)) (filter is_change_comment (script_lines version net ranks))
script_comments version net ranks fits =
    let m : Scripted = scripted version net ranks in
    let run : List Change = run_along (flat_of ranks) in
    let all : filter is_change_comment (script_lines version net ranks) ≡ numbered net 0 run =
    filter-append is_change_comment (change_parts m 0 run) (end_lines net)
    ∙ ap (λ l. filter is_change_comment (change_parts m 0 run) ++ l) (none_at_end net)
    ∙ append-nil (filter is_change_comment (change_parts m 0 run))
    ∙ in_parts m 0 run (omega (arith, fits)) in
    record {
      as_many = ap length all ∙ as_many_numbered net 0 run;
      each = λ k c e.
          let from : 0 + (k + 1) ≡ k + 1 = omega arith in
          ap (λ l. slice_get l k) all ∙ each_numbered net 0 run k c e
          ∙ ap (λ n. Some (change_comment n (name_on net (changed c)))) from;
    }
