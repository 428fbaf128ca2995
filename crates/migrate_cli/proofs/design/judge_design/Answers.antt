use Rattle.std.proofs.Common.{ℕ, List, subst}
use Rattle.net_model.specs.declared.config.Levels.{Levels}
use Rattle.design_writer.specs.CostDesigns.{IsDesignByCosts}
use Rattle.migrate_cli.specs.DesignDecision.IsDesignDecision.{designed}
use Rattle.migrate_cli.proofs.design.judge_design.Goals as goal

-- src/design.rt:14:1
pub returns : goal.returns
returns c =
    let of_levels : Levels → Type 0 = λ (l : Levels). IsDesignByCosts c.area.result.now l c.args.net.now c.in_ok-text.text in
    let of_area : List ℕ → Type 0 = λ (a : List ℕ). IsDesignByCosts a c.args.scheme.now.levels c.args.net.now c.in_ok-text.text in
    designed c.in_ok-text.text (subst of_area c.area.ensures (subst of_levels c.levels.ensures c.in_ok-text.ensures))
