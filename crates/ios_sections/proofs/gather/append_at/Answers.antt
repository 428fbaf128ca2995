use Rattle.std.proofs.lemmas.Grind.{common_steps}
use Rattle.std.proofs.Common.{ℕ, List, set, get_or, sym, ap, ◌∙◌, arith}
use Rattle.std.proofs.lemmas.List.{length-map}
use Rattle.std.proofs.lemmas.Result.{on_ok_weaker}
use Rattle.ios_lines.specs.declared.interface_line.InterfaceStatement.{InterfaceStatement}
use Rattle.ios_sections.specs.declared.section.InterfaceSection.{InterfaceSection}
use Rattle.ios_sections.proofs.TableFacts.{names_of, joined, table_old, place_within}
use Rattle.ios_sections.proofs.gather.append_at.Goals as goal

pub index_mut-requires : goal.index_mut-requires
index_mut-requires c = grind (arith, common_steps, length-map, names_of, place_within)

pub returns : goal.returns
returns c =
    on_ok_weaker c.append.result (λ e.
    ap (λ (w : List InterfaceStatement). set c.args.interfaces.now.items c.args.place
    (record { line = c.index_mut.result.now.line; name = c.index_mut.result.now.name; lines = w })) e
    ∙ ap (λ (x : InterfaceSection). set c.args.interfaces.now.items c.args.place (joined x c.args.section)) c.index_mut.ensures.value
    ∙ ap (λ (p : ℕ). set c.args.interfaces.now.items p (joined (get_or c.args.interfaces.now.items p c.index_mut.result.now) c.args.section)) c.requires.place
    ∙ sym (table_old c.args.interfaces.now.items c.args.section c.index_mut.result.now c.requires.known))
    c.append.ensures.ok
