-- The text of the document of a design by costs.
use Rattle.std.proofs.Common.{◌≡◌, List, ℕ, true, false, sym}
use Rattle.std.specs.Prelude.{IsUtf8, Some}
use Rattle.std.proofs.lemmas.List.Elements.{All-contains}
use Rattle.net_model.specs.Configuration.{IsConfiguration}
use Rattle.net_model.specs.Network.{Network}
use Rattle.net_model.specs.Refusals.{IsNetwork}
use Rattle.net_model.specs.declared.config.Levels.{Levels}
use Rattle.ios_lines.specs.Words.{Word}
use Rattle.toml.specs.Data.{no_members}
use Rattle.toml.specs.Parse.{parse_document}
use Rattle.toml.specs.Text.{IsDocumentText}
use Rattle.design_file.specs.Values.{is_area}
use Rattle.design_file.proofs.MetricTables.{metrics_say}
use Rattle.design_writer.specs.CostDesigns.{IsDesignByCosts}
use Rattle.design_writer.specs.CostTables.{document_by_costs, level_text, with_routers}
use Rattle.design_writer.proofs.CostTables.{levels_fine, router_tables}
use Rattle.design_writer.proofs.CostSettling.{all_settled, design_by_costs, faultless, is_design}

pub is_design_text : (area : Word) (levels : Levels) (net : Network) (text : List ℕ) → IsNetwork net → is_area area ≡ true → IsUtf8 text →
    IsDocumentText false (document_by_costs area levels net) text → parse_document text ≡ Some (document_by_costs area levels net) → IsDesignByCosts area levels net text
is_design_text area levels net text network is utf8 written parsed = record {
  written = written;
  design = design_by_costs area levels net;
  says = metrics_say text area (level_text levels) (with_routers no_members net) (design_by_costs area levels net) is (levels_fine levels)
      (router_tables net (λ c among. All-contains IsConfiguration net c network.configurations among)) (record { utf8 = utf8; parsed = parsed })
      (is_design area levels net network is);
  settles = λ none. record { faultless = faultless area levels net network none; is_settled = sym (all_settled area levels net network) };
}
