use Rattle.std.proofs.lemmas.Option.{IfSome_then}
use Rattle.ospf_routes.specs.steps.Destinations.{ospf_prefixes}
use Rattle.ospf_routes.proofs.SiblingLaws.{alike_sibling, known_later, known_more}
use Rattle.ospf_routes.proofs.siblings.Siblings.earlier.Goals as goal

pub returns-in_default-clause-known : goal.returns-in_default-clause-known
returns-in_default-clause-known c =
    known_later c.args.boundary.domain.now.net (ospf_prefixes c.args.boundary.destinations.now) c.args.place c.args.self.now
    c.requires.known

pub returns-in_ok-note-clause-known : goal.returns-in_ok-note-clause-known
returns-in_ok-note-clause-known c =
    known_more c.args.boundary.domain.now.net (ospf_prefixes c.args.boundary.destinations.now) c.args.place c.in-Some.area
    c.args.leaving.destination.now.dest c.args.leaving.backbone.now c.args.self.now c.note.new.self c.requires.known
    c.requires.place
    c.in-Some.ensures c.requires.leaving.backbone c.in_ok-note.ensures

pub returns-else-is_none-clause-known : goal.returns-else-is_none-clause-known
returns-else-is_none-clause-known c =
    known_later c.args.boundary.domain.now.net (ospf_prefixes c.args.boundary.destinations.now) c.args.place c.args.self.now
    c.requires.known

pub returns-else-is_none-clause-sibling : goal.returns-else-is_none-clause-sibling
returns-else-is_none-clause-sibling c =
    IfSome_then c.alike-found.result c.alike-found.ensures (λ earlier alike.
    alike_sibling c.args.boundary.domain.now.net (ospf_prefixes c.args.boundary.destinations.now) c.args.place c.in-Some.area
    c.args.leaving.destination.now.dest c.args.leaving.backbone.now c.args.self.now earlier c.requires.known c.requires.place
    c.in-Some.ensures c.requires.leaving.backbone alike)
