use Rattle.std.proofs.Common.{Bool, not, List, ◌∷◌, [], ◌++◌, bytes_eq, map, cond, ap, ◌∙◌}
use Rattle.std.specs.List.{list_any, position_or_len}
use Rattle.ios_lines.specs.Words.{Word}
use Rattle.ios_sections.proofs.TableFacts.{place-map, any-map, map-insert}
use Rattle.ios_sections.proofs.name_index.NameIndex.add.Goals as goal

pub returns-clause-place : goal.returns-clause-place
returns-clause-place c =
    c.in_ok-place.ensures.index
    ∙ place-map (λ k. k.items) (bytes_eq c.in_ok-key.key.items) c.self.inside.names.keys
    ∙ ap (position_or_len (bytes_eq c.in_ok-key.key.items)) c.self.view_is
    ∙ ap (λ (w : Word). position_or_len (bytes_eq w) c.args.self.now) c.in_ok-key.ensures.items

pub returns-clause-added : goal.returns-clause-added
returns-clause-added c =
    c.in_ok-place.ensures.added
    ∙ ap not (any-map (λ k. k.items) (bytes_eq c.in_ok-key.key.items) c.self.inside.names.keys
    ∙ ap (list_any (bytes_eq c.in_ok-key.key.items)) c.self.view_is
    ∙ ap (λ (w : Word). list_any (bytes_eq w) c.args.self.now) c.in_ok-key.ensures.items)

pub returns-clause-names : goal.returns-clause-names
returns-clause-names c =
    ap (map (λ k. k.items)) c.in_ok-place.ensures.keys
    ∙ map-insert (λ k. k.items) _ c.self.inside.names.keys c.in_ok-key.key
    ∙ ap (λ (b : Bool). cond b (map (λ k. k.items) c.self.inside.names.keys) (map (λ k. k.items) c.self.inside.names.keys ++ c.in_ok-key.key.items ∷ []))
    (any-map (λ k. k.items) (bytes_eq c.in_ok-key.key.items) c.self.inside.names.keys)
    ∙ ap (λ (ns : List Word). cond (list_any (bytes_eq c.in_ok-key.key.items) ns) ns (ns ++ c.in_ok-key.key.items ∷ [])) c.self.view_is
    ∙ ap (λ (w : Word). cond (list_any (bytes_eq w) c.args.self.now) c.args.self.now (c.args.self.now ++ w ∷ [])) c.in_ok-key.ensures.items
