use Rattle.std.proofs.Common.{◌≡◌, ◌++◌, ◌∷◌, ◌∙◌, List, [], ap, append_assoc}
use Rattle.std.specs.Prelude.{flat_map}
use Rattle.ios_sections.specs.TextLines.{sections_of}
use Rattle.text_survey.specs.ToldLines.{ToldLine, told_section, vrf_names}
use Rattle.text_survey.proofs.ToldFacts.{same_told}
use Rattle.text_survey.proofs.told_sections.add_part.Goals as goal

pub returns : goal.returns
returns c =
    let lines = c.args.lines.now in
    let told = c.args.told.now.items in
    let end = c.top.result in
    let pushed : c.push.new.self.items ≡ c.add_sections.new.told.items ++ c.top.result ∷ [] = c.in_ok-push.ensures.items in
    pushed
    ∙ ap (λ (t : List ToldLine). t ++ end ∷ []) c.in_ok-add_sections.ensures
    ∙ append_assoc told (flat_map (told_section c.in_ok-names.names) (sections_of lines)) (end ∷ [])
    ∙ ap (λ (t : List ToldLine). told ++ (t ++ end ∷ [])) (same_told c.in_ok-names.names (vrf_names lines) c.in_ok-names.ensures (sections_of lines))
    ∙ ap (λ (e : ToldLine). told ++ (flat_map (told_section (vrf_names lines)) (sections_of lines) ++ e ∷ [])) c.top.ensures
