use Rattle.std.proofs.Common.{bytes_eq, ap, ◌∙◌}
use Rattle.std.specs.List.{list_any}
use Rattle.ios_sections.proofs.TableFacts.{any-map}
use Rattle.text_survey.proofs.vrf_names.NameSet.has.Goals as goal

pub returns : goal.returns
returns c =
    c.contains.ensures
    ∙ any-map (λ k. k.items) (bytes_eq c.args.name.now) c.self.inside.names.keys
    ∙ ap (list_any (bytes_eq c.args.name.now)) c.self.view_is
