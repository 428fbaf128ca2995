use Rattle.std.proofs.Common.{◌≤◌, false, Some, string_bytes, ap, subst, sym, ◌∙◌}
use Rattle.std.proofs.lemmas.List.Elements.{All-contains}
use Rattle.std.proofs.lemmas.Str.{IsUtf8-string_bytes}
use Rattle.net_model.specs.Configuration.{IsConfiguration}
use Rattle.toml.specs.Data.{Members, members_depth}
use Rattle.toml.specs.Text.{IsDocumentText}
use Rattle.design_writer.specs.CostDesigns.{IsDesignByCosts}
use Rattle.design_writer.proofs.CostTables.{document_depth}
use Rattle.design_writer.proofs.CostTexts.{is_design_text}
use Rattle.design_writer.proofs.writing.design_text.Goals as goal

pub returns-in-Ok : goal.returns-in-Ok
returns-in-Ok c =
    let net = c.args.net.now in
    let document = c.in_ok-document.ensures.document in
    let small = document_depth c.args.area.now c.args.levels net
    (λ config among. All-contains IsConfiguration net config c.in_ok-document.ensures.network.configurations among) in
    let parsed = c.in-Ok.ensures.reads_back (subst (λ (ms : Members). members_depth ms ≤ 80) (sym document) small) ∙ ap Some document in
    let written = subst (λ (ms : Members). IsDocumentText false ms (string_bytes c.in-Ok.text)) document c.in-Ok.ensures.text in
    let bytes = c.from_vec.ensures ∙ ap (λ v. v.items) c.into_bytes.ensures.value in
    subst (IsDesignByCosts c.args.area.now c.args.levels net) (sym bytes)
    (is_design_text c.args.area.now c.args.levels net (string_bytes c.in-Ok.text) c.in_ok-document.ensures.network c.requires.area
    (IsUtf8-string_bytes c.in-Ok.text) written parsed)
