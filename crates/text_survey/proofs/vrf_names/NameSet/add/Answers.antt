use Rattle.std.proofs.Common.{Bool, List, [], ◌∷◌, ◌++◌, bytes_eq, cond, map, refl, ap, ◌∙◌}
use Rattle.std.specs.List.{list_any}
use Rattle.ios_lines.specs.Words.{Word}
use Rattle.ios_sections.proofs.TableFacts.{any-map, map-insert}
use Rattle.text_survey.proofs.NameFacts.{name_added}
use Rattle.text_survey.proofs.vrf_names.NameSet.add.Goals as goal

pub returns : goal.returns
returns c = λ q.
    let keys = c.self.inside.names.keys in
    let name = c.args.name.items in
    ap (list_any (bytes_eq q))
    (ap (map (λ k. k.items)) c.in_ok-insert_full.ensures.keys
    ∙ map-insert (λ k. k.items) _ keys c.args.name
    ∙ ap (λ (b : Bool). cond b (map (λ k. k.items) keys) (map (λ k. k.items) keys ++ name ∷ []))
    (any-map (λ k. k.items) (bytes_eq name) keys)
    ∙ ap (λ (ns : List Word). cond (list_any (bytes_eq name) ns) ns (ns ++ name ∷ [])) c.self.view_is)
    ∙ name_added (list_any (bytes_eq name) c.args.self.now) c.args.self.now name refl q
