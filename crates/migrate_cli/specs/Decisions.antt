-- What each command decides, in a file of its own.
use Rattle.std.specs.Prelude.{◌≡◌, ℕ, List, [], ◌∷◌}
use Rattle.net_model.specs.Network.{Network}
use Rattle.migrate_words.specs.Schemes.{AskedScheme}
use Rattle.migrate_words.specs.declared.command.Command.{Command}
use Rattle.migrate_words.specs.declared.command.CommandKind.{CommandKind}
use Rattle.migrate_words.specs.declared.command.CommandKind.TheVariants.{Check, Prepare, Plan, TwoPass, Refute, Scripts, Replay, Sample}
use Rattle.migrate_words.specs.declared.command.CommandKind.TheVariants.{Pair, PairScripts, PairCheck, PairRefute, Split, Delta, Tables, Why, Rollback, Replan, Design, Observe, Picture, Failures, Survey}
use Rattle.migration_report.specs.declared.decision.Decision.{Decision}
use Rattle.migrate_cli.specs.CommandFiles.{GivenTexts}
use Rattle.migrate_cli.specs.CheckDecision.{IsCheckDecision}
use Rattle.migrate_cli.specs.DeltaDecision.{IsDeltaDecision}
use Rattle.migrate_cli.specs.DesignDecision.{IsDesignDecision}
use Rattle.migrate_cli.specs.ExplainedDecision.{IsExplainedDecision}
use Rattle.migrate_cli.specs.FailuresDecision.{IsFailuresDecision}
use Rattle.migrate_cli.specs.PrepareDecision.{IsPrepareDecision, configured}
use Rattle.ospf_pair.specs.NetworkPairs.{network_pair}
use Rattle.migrate_cli.specs.PairDecision.{IsPairCheck, IsPairPlan, IsPairScripts, IsPairTree}
use Rattle.migrate_cli.specs.PictureDecision.{IsPictureDecision}
use Rattle.migrate_cli.specs.PlanDecision.{IsPlanDecision}
use Rattle.migrate_cli.specs.Reading.{NamedText, named_texts}
use Rattle.migrate_cli.specs.RefuteDecision.{IsRefuteDecision}
use Rattle.migrate_cli.specs.ReplanDecision.{IsReplanDecision}
use Rattle.migrate_cli.specs.ReplayDecision.{IsReplayDecision, journal_of}
use Rattle.migrate_cli.specs.RollbackDecision.{IsRollbackDecision}
use Rattle.migrate_cli.specs.SampleDecision.{IsSampleDecision}
use Rattle.migrate_cli.specs.ScriptsDecision.{IsScriptsDecision}
use Rattle.migrate_cli.specs.SplitDecision.{IsSplitDecision}
use Rattle.migrate_cli.specs.TablesDecision.{IsTablesDecision}
use Rattle.migrate_cli.specs.TwoPassDecision.{IsTwoPassDecision}

-- what a command decides on: its own files, its number and its scheme, the texts of the configurations, the network that their
-- first group makes, and those of the other groups
pub record Input : Type 0 where
  pub own : List NamedText
  pub number : ℕ
  pub scheme : AskedScheme
  pub configs : List (List ℕ)
  pub net : Network
  pub others : List Network

abbrev pub input_of : Command → GivenTexts → Network → List Network → Input
input_of command texts net others = record {
  own = named_texts command.own texts.own;
  number = command.number;
  scheme = command.scheme;
  configs = texts.configs;
  net = net;
  others = others;
}

-- what a command decides of networks; `survey` decides nothing of one, and what `observe` comes to is told of its texts
abbrev pub IsDecision : CommandKind → Input → Decision → Type 0
IsDecision Check input decision = (order : NamedText) × (input.own ≡ order ∷ []) × IsCheckDecision order input.net decision
IsDecision Prepare input decision =
    (design : NamedText) × (input.own ≡ design ∷ []) × IsPrepareDecision design (configured input.configs input.net) decision
IsDecision Plan input decision = IsPlanDecision input.number input.net decision
IsDecision TwoPass input decision = IsTwoPassDecision input.number input.net decision
IsDecision Refute input decision =
    (tree : NamedText) × (input.own ≡ tree ∷ []) × IsRefuteDecision tree.text input.net decision
IsDecision Scripts input decision = (order : NamedText) × (input.own ≡ order ∷ []) × IsScriptsDecision order input.net decision
IsDecision Replay input decision =
    (order : NamedText) × (journal : NamedText) × (input.own ≡ order ∷ journal ∷ []) ×
    IsReplayDecision order (journal_of journal.text input.net) decision
IsDecision Sample input decision = IsSampleDecision input.number input.net decision
IsDecision Pair input decision =
    (new : Network) × (input.others ≡ new ∷ []) × IsPairPlan (network_pair input.net new) input.number decision
IsDecision PairScripts input decision =
    (new : Network) × (input.others ≡ new ∷ []) × (order : NamedText) × (input.own ≡ order ∷ []) ×
    IsPairScripts (network_pair input.net new) order decision
IsDecision PairCheck input decision =
    (new : Network) × (input.others ≡ new ∷ []) × (order : NamedText) × (input.own ≡ order ∷ []) ×
    IsPairCheck (network_pair input.net new) order decision
IsDecision PairRefute input decision =
    (new : Network) × (input.others ≡ new ∷ []) × (tree : NamedText) × (input.own ≡ tree ∷ []) ×
    IsPairTree (network_pair input.net new) tree.text decision
IsDecision Split input decision =
    (order : NamedText) × (input.own ≡ order ∷ []) × IsSplitDecision order input.number input.net decision
IsDecision Delta input decision =
    (design : NamedText) × (input.own ≡ design ∷ []) × IsDeltaDecision design (configured input.configs input.net) decision
IsDecision Tables input decision = IsTablesDecision input.net decision
IsDecision Why input decision = (order : NamedText) × (input.own ≡ order ∷ []) × IsExplainedDecision order input.net decision
IsDecision Rollback input decision =
    (order : NamedText) × (journal : NamedText) × (input.own ≡ order ∷ journal ∷ []) ×
    IsRollbackDecision order (journal_of journal.text input.net) decision
IsDecision Replan input decision =
    (order : NamedText) × (journal : NamedText) × (input.own ≡ order ∷ journal ∷ []) ×
    IsReplanDecision order (journal_of journal.text input.net) input.number decision
IsDecision Picture input decision = (order : NamedText) × (input.own ≡ order ∷ []) × IsPictureDecision order input.net decision
IsDecision Failures input decision = (order : NamedText) × (input.own ≡ order ∷ []) × IsFailuresDecision order input.net decision
IsDecision Design input decision = IsDesignDecision input.scheme input.net decision
IsDecision Observe input decision = ⊥
IsDecision Survey input decision = ⊥
