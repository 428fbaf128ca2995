-- The lines of configurations without what they stand below.
use Rattle.std.proofs.Common.{◌≡◌, Bool, true, false, ℕ, List, [], ◌∷◌, ◌++◌, cond, map, refl, sym, ap, ◌∙◌}
use Rattle.std.specs.Prelude.{Ok, Err, codes, flat_map}
use Rattle.std.specs.List.{list_any}
use Rattle.std.specs.Prelude.{bytes_eq}
use Rattle.std.proofs.lemmas.List.{map-append}
use Rattle.ios_lines.specs.Words.{Word}
use Rattle.ios_lines.specs.Heads.{head_of}
use Rattle.ios_lines.specs.declared.head.Head.{Head}
use Rattle.ios_lines.specs.declared.head.Head.TheVariants.{Hostname, Interface as InterfaceHead, Ospf, Isis, Faulty, Other}
use Rattle.ios_sections.specs.TextLines.{TextLine, TextSection, Part, sections_of}
use Rattle.text_survey.specs.ToldLines.{ToldLine, line_below, place_below, shown_place, told_below, told_part, told_section, top_line, vrf_names, without_place}
use Rattle.text_survey.specs.steps.Shown.{shown_part, shown_section}
use Rattle.text_survey.specs.declared.told_line.LinePlace.{LinePlace}
use Rattle.text_survey.specs.declared.told_line.LinePlace.TheVariants.{Elsewhere, Interface}

by_names : (t : Bool) → shown_place (cond t Elsewhere Interface) ≡ Elsewhere
by_names true = refl
by_names false = refl

-- no line stands at indent 0 below another one
below_head : (names : List Word) (head : Head) → shown_place (place_below names head) ≡ Elsewhere
below_head names (Hostname _) = refl
below_head names (InterfaceHead (Ok name)) = by_names (list_any (bytes_eq name) names)
below_head names (InterfaceHead (Err _)) = refl
below_head names (Ospf (Ok _)) = refl
below_head names (Ospf (Err _)) = refl
below_head names (Isis _) = refl
below_head names (Faulty _) = refl
below_head names Other = refl

body_shown : (place : LinePlace) (head : List ℕ) (lines : List TextLine) → shown_place place ≡ Elsewhere →
    map without_place (told_below place head lines) ≡ told_below Elsewhere head lines
body_shown place head [] is = refl
body_shown place head (x ∷ xs) is =
    ap (λ (p : LinePlace). line_below p head x.number x.bytes ∷ map without_place (told_below place head xs)) is
    ∙ ap (λ (more : List ToldLine). line_below Elsewhere head x.number x.bytes ∷ more) (body_shown place head xs is)

section_shown : (names : List Word) (s : TextSection) → map without_place (told_section names s) ≡ shown_section s
section_shown names s =
    ap (λ (more : List ToldLine). top_line s.head.number s.head.bytes ∷ more)
    (body_shown (place_below names (head_of s.head.words)) s.head.bytes s.body (below_head names (head_of s.head.words)))

sections_shown : (names : List Word) (ss : List TextSection) →
    map without_place (flat_map (told_section names) ss) ≡ flat_map shown_section ss
sections_shown names [] = refl
sections_shown names (s ∷ ss) =
    map-append without_place (told_section names s) (flat_map (told_section names) ss)
    ∙ ap (λ (l : List ToldLine). l ++ map without_place (flat_map (told_section names) ss)) (section_shown names s)
    ∙ ap (λ (l : List ToldLine). shown_section s ++ l) (sections_shown names ss)

part_shown : (part : Part) → map without_place (told_part part) ≡ shown_part part
part_shown part =
    map-append without_place (flat_map (told_section (vrf_names part.lines)) (sections_of part.lines)) (top_line part.ends (codes "end") ∷ [])
    ∙ ap (λ (l : List ToldLine). l ++ top_line part.ends (codes "end") ∷ []) (sections_shown (vrf_names part.lines) (sections_of part.lines))

-- of all of them
pub parts_shown : (parts : List Part) → flat_map shown_part parts ≡ map without_place (flat_map told_part parts)
parts_shown [] = refl
parts_shown (part ∷ parts) =
    sym
    (map-append without_place (told_part part) (flat_map told_part parts)
    ∙ ap (λ (l : List ToldLine). l ++ map without_place (flat_map told_part parts)) (part_shown part)
    ∙ ap (λ (l : List ToldLine). shown_part part ++ l) (sym (parts_shown parts)))
