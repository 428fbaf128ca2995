-- What `split` decides of an order file and a network that is at its start.
use Rattle.std.specs.Prelude.{◌≡◌, ℕ, List, length}
use Rattle.net_model.specs.Network.{Network}
use Rattle.net_model.specs.Refusals.{IsNetwork}
use Rattle.net_model.specs.RouterNames.{names_of}
use Rattle.igp_theory.specs.Migrations.{ospf_to_isis}
use Rattle.igp_theory.specs.Waves.{AreSeamlessWaves}
use Rattle.order_core.specs.Rankings.{IsRanking}
use Rattle.split_waves.specs.Cuts.{cut_waves}
use Rattle.step_scripts.specs.WaveFiles.{NamesWaves}
use Rattle.step_scripts.specs.WavesTexts.{wave_list_text, waves_in}
use Rattle.step_scripts.specs.declared.version.Version.{Version}
use Rattle.migration_report.specs.declared.decision.Decision.{Decision}
use Rattle.migration_report.specs.declared.decision.Decision.TheVariants.{Safe, SafeWaves, Split}
use Rattle.migrate_cli.specs.CheckDecision.{IsCheckOver}
use Rattle.migrate_cli.specs.Reading.{NamedText}

-- `check` says yes
abbrev pub IsYes : Decision → Type 0
IsYes Safe = Unit {0}
IsYes (SafeWaves waves) = Unit {0}
IsYes _ = ⊥

-- a wave list of a network, cut into waves of at most so many routers
pub record IsCutOf (net : Network) (most : ℕ) (ranks split : List ℕ) : Type 0 where
  pub network : IsNetwork net
  pub ranking : IsRanking (length net) split
  pub cuts : waves_in split ≡ cut_waves most ranks

-- the order file of the waves that a wave list is cut into
pub data IsCutText (net : Network) (most : ℕ) (ranks : List ℕ) : Decision → Type 0 where
  cut_text : (split : List ℕ) → IsCutOf net most ranks split → IsCutText net most ranks (Split (wave_list_text (names_of net) (waves_in split)))

-- what `check` says of the order file as one of routers, where that is no yes; or the file names a wave list, in version 1 one
-- router a wave, which is seamless, and the order file is written of the waves that it is cut into
pub data IsSplitDecision (order : NamedText) (most : ℕ) (net : Network) : Decision → Type 0 where
  unsafe : (decision : Decision) → IsCheckOver (ospf_to_isis net) order decision → ¬ IsYes decision → IsSplitDecision order most net decision
  cut : (version : Version) (ranks split : List ℕ) → NamesWaves net order.text version ranks →
      AreSeamlessWaves (ospf_to_isis net) ranks → IsCutOf net most ranks split →
      IsSplitDecision order most net (Split (wave_list_text (names_of net) (waves_in split)))
