-- The parts of a script, one after the other, and their lines without comments.
use Rattle.std.proofs.lemmas.Grind.{common_steps}
use Rattle.std.proofs.Common.{◌≡◌, ℕ, suc, ◌+◌, ◌*◌, ◌<◌, Bool, true, false, not, ◌&&◌, if◌then◌else◌, List, []}
use Rattle.std.proofs.Common.{◌∷◌, ◌++◌, length, filter, get_or, take, drop, Option, refl, sym, ap, ◌∙◌, append_assoc}
use Rattle.std.proofs.Common.{arith}
use Rattle.std.specs.List.{flat_map}
use Rattle.std.proofs.lemmas.List.{take-append-drop, take_more, length-take-le}
use Rattle.std.proofs.lemmas.List.Concat.{flat_map-append}
use Rattle.std.proofs.lemmas.List.Elements.{filter-append}
use Rattle.net_model.specs.Configuration.{Configuration}
use Rattle.net_model.specs.Network.{Network}
use Rattle.net_model.specs.declared.bounds.TheConstants.{ISIS_DISTANCE}
use Rattle.order_core.specs.Rankings.{rank_of, flat_of}
use Rattle.igp_theory.specs.Changes.{Change, first, second}
use Rattle.igp_theory.specs.Waves.{run_along}
use Rattle.igp_theory.proofs.FlatOrders.{run_length}
use Rattle.printed_lines.specs.Texts.{text_of}
use Rattle.printed_lines.proofs.TextSteps.{text_of-append}
use Rattle.step_scripts.specs.declared.version.Version.{Version}
use Rattle.step_scripts.specs.Scripts.{isis_head, distance_line, isis_change_lines, ospf_change_lines, by_configuration, change_lines}
use Rattle.step_scripts.specs.Scripts.{wave_comment, wave_comments, shows_waves, opens_wave, change_part, change_parts, end_lines, is_comment}
use Rattle.step_scripts.specs.Scripts.{Scripted, scripted}
use Rattle.step_scripts.specs.ScriptLaws.{IsFrontOfScript}

-- ---- parts one after the other ----

parts_append : (m : Scripted) (made : ℕ) (one two : List Change) →
    change_parts m made (one ++ two) ≡ change_parts m made one ++ change_parts m (made + length one) two
parts_append m made [] two = ap (λ k. change_parts m k two) (let e : made ≡ made + 0 = omega arith in e)
parts_append m made (c ∷ one) two =
    ap (λ l. change_part m (made + 1) c ++ l)
    (parts_append m (made + 1) one two
    ∙ ap (λ k. change_parts m (made + 1) one ++ change_parts m k two)
    (let e : made + 1 + length one ≡ made + suc (length one) = omega arith in e))
    ∙ sym (append_assoc (change_part m (made + 1) c) (change_parts m (made + 1) one)
    (change_parts m (made + length (c ∷ one)) two))

-- the text of the parts for the routers before a place, and for the one there
pub text_more : (m : Scripted) (order : List ℕ) (place u d : ℕ) → place < length order → u ≡ get_or order place d →
    text_of (change_parts m 0 (run_along (take (place + 1) order)))
    ≡ (text_of (change_parts m 0 (run_along (take place order))) ++ text_of (change_part m (2 * place + 1) (first u)))
    ++ text_of (change_part m (2 * place + 2) (second u))
text_more m order place u d within is =
    grind (arith, common_steps, flat_map-append, length-take-le, parts_append, run_length, take_more, text_of-append)

-- ---- lines without comments ----

abbrev plain : List ℕ → Bool
plain line = not (is_comment line)

plain_isis : (c : Configuration) → filter plain (isis_change_lines c) ≡ isis_change_lines c
plain_isis c = by_isis c.isis c.tag
  where
    by_tag : (tag : List ℕ) → plain (isis_head tag) ≡ true
    by_tag [] = refl
    by_tag (b ∷ tag) = refl

    by_isis : (isis : Bool) (tag : List ℕ) → filter plain (if isis then isis_head tag ∷ distance_line ISIS_DISTANCE ∷ [] else [])
        ≡ (if isis then isis_head tag ∷ distance_line ISIS_DISTANCE ∷ [] else [])
    by_isis false tag = refl
    by_isis true tag = ap (λ (b : Bool). if b then isis_head tag ∷ distance_line ISIS_DISTANCE ∷ [] else distance_line ISIS_DISTANCE ∷ []) (by_tag tag)

plain_process : (process : Option ℕ) → filter plain (ospf_change_lines process) ≡ ospf_change_lines process
plain_process process = grind (arith, common_steps)

plain_by : (f : Configuration → List (List ℕ)) → ((c : Configuration) → filter plain (f c) ≡ f c) → (o : Option Configuration) →
    filter plain (by_configuration f o) ≡ by_configuration f o
plain_by f each o = grind (arith, common_steps)

plain_change : (net : Network) (c : Change) → filter plain (change_lines net c) ≡ change_lines net c
plain_change net c = grind (arith, common_steps, plain_by, plain_isis, plain_process)

plain_wave : (version : Version) (ranks : List ℕ) (c : Change) (more : List (List ℕ)) →
    filter plain (wave_comments version ranks c ++ more) ≡ filter plain more
plain_wave version ranks (first u) more = by_test (shows_waves version && opens_wave ranks u)
  where
    by_test : (b : Bool) → filter plain ((if b then wave_comment (rank_of ranks u + 1) ∷ [] else []) ++ more) ≡ filter plain more
    by_test true = refl
    by_test false = refl
plain_wave version ranks (second u) more = refl

plain_part : (m : Scripted) (number : ℕ) (c : Change) →
    filter plain (change_part m number c) ≡ change_lines m.net c
plain_part m number c = grind (arith, common_steps, plain_change, plain_wave)

plain_parts : (m : Scripted) (made : ℕ) (changes : List Change) →
    filter plain (change_parts m made changes) ≡ flat_map (change_lines m.net) changes
plain_parts m made [] = refl
plain_parts m made (c ∷ changes) =
    filter-append plain (change_part m (made + 1) c) (change_parts m (made + 1) changes)
    ∙ ap (λ l. l ++ filter plain (change_parts m (made + 1) changes)) (plain_part m (made + 1) c)
    ∙ ap (λ l. change_lines m.net c ++ l) (plain_parts m (made + 1) changes)

-- a script begins with the parts for its first changes
pub script_front : (version : Version) (net : Network) (ranks : List ℕ) (k : ℕ) → IsFrontOfScript version net ranks k
script_front version net ranks k =
    let m : Scripted = scripted version net ranks in
    let run : List Change = run_along (flat_of ranks) in
    let behind : List (List ℕ) = change_parts m (0 + length (take k run)) (drop k run) in
    record {
      rest = behind ++ end_lines net;
      whole =
          ap (λ r. change_parts m 0 r ++ end_lines net) (sym (take-append-drop k run))
          ∙ ap (λ l. l ++ end_lines net) (parts_append m 0 (take k run) (drop k run))
          ∙ append_assoc (change_parts m 0 (take k run)) behind (end_lines net);
      lines = plain_parts m 0 (take k run);
    }
