use Rattle.std.proofs.Common.{[], ◌∷◌, ◌++◌, bytes_eq, cond, ap, ◌∙◌}
use Rattle.std.specs.List.{list_any}
use Rattle.ios_lines.specs.Words.{Word}
use Rattle.std.proofs.lemmas.Result.{on_ok_weaker}
use Rattle.ios_sections.proofs.TableFacts.{names_after}
use Rattle.ios_sections.proofs.gather.with_interface.Goals as goal

pub returns-then-added-clause-index : goal.returns-then-added-clause-index
returns-then-added-clause-index c =
    on_ok_weaker c.push_new.result (λ table few_is.
    names_after c.args.interfaces.now.items c.push_new.new.interfaces.items c.args.section c.args.names.now c.place_of.new.names
    table (c.requires few_is)
    (c.in_ok-place.ensures.names few_is ∙ ap (λ (w : Word). cond (list_any (bytes_eq w) c.args.names.now) c.args.names.now (c.args.names.now ++ w ∷ []))
    c.as_slice-2.ensures))
    c.push_new.ensures

pub returns-else-added-clause-index : goal.returns-else-added-clause-index
returns-else-added-clause-index c =
    on_ok_weaker c.append_at.result (λ table few_is.
    names_after c.args.interfaces.now.items c.append_at.new.interfaces.items c.args.section c.args.names.now c.place_of.new.names
    table (c.requires few_is)
    (c.in_ok-place.ensures.names few_is ∙ ap (λ (w : Word). cond (list_any (bytes_eq w) c.args.names.now) c.args.names.now (c.args.names.now ++ w ∷ []))
    c.as_slice-2.ensures))
    c.append_at.ensures
