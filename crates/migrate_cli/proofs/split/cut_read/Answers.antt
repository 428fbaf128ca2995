use Rattle.std.proofs.Common.{sym, subst}
use Rattle.order_core.specs.Rankings.{IsRanking}
use Rattle.migration_report.specs.declared.decision.Decision.TheVariants.{Split}
use Rattle.migrate_cli.specs.SplitDecision.{IsCutText}
use Rattle.migrate_cli.specs.SplitDecision.IsCutText.{cut_text}
use Rattle.migrate_cli.proofs.split.cut_read.Goals as goal

pub returns : goal.returns
returns c = subst (λ text. IsCutText c.args.net.now c.args.most c.args.read.now.waves (Split text)) (sym c.in_ok-text.ensures)
    (cut_text c.in_ok-split.split (record {
      network = c.routers-routers.ensures.network;
      ranking = subst (λ n. IsRanking n c.in_ok-split.split) c.requires.each c.in_ok-split.ensures.ranking;
      cuts = c.in_ok-split.ensures.cuts;
    }))
