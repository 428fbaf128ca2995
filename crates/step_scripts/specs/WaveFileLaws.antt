-- The laws of order files.
use Rattle.std.specs.Prelude.{◌≡◌, ◌≢◌, ℕ, List}
use Rattle.net_model.specs.Network.{Network}
use Rattle.net_model.specs.Refusals.{NamesAscend}
use Rattle.step_scripts.specs.WaveFiles.{NamesWaves}
use Rattle.step_scripts.specs.FaultyLines.{IsFaultyLine, RefusesWaves}
use Rattle.step_scripts.specs.declared.version.Version.{Version}
use Rattle.step_scripts.specs.declared.kind.OrderKind.{OrderKind}
use Rattle.step_scripts.specs.declared.kind.OrderRefusal.{OrderRefusal}
use Rattle.step_scripts.specs.declared.kind.OrderRefusal.TheVariants.{OutOfMemory}

-- a text names one wave list at most, in one version, where the names of the routers ascend
abbrev pub OneWaveListLaw : Type 0
OneWaveListLaw =
    (net : Network) (text : List ℕ) (version its : Version) (one other : List ℕ) → NamesAscend net →
    NamesWaves net text version one → NamesWaves net text its other → (version ≡ its) × (one ≡ other)

-- a text that names a wave list has no faulty line
abbrev pub WavesOrRefusalLaw : Type 0
WavesOrRefusalLaw =
    (net : Network) (text : List ℕ) (version : Version) (ranks : List ℕ) (number : ℕ) (kind : OrderKind) → NamesAscend net →
    NamesWaves net text version ranks → IsFaultyLine net text number kind → ⊥

-- besides want of memory one refusal at most stands
abbrev pub OneOrderRefusalLaw : Type 0
OneOrderRefusalLaw =
    (net : Network) (text : List ℕ) (one other : OrderRefusal) →
    one ≢ OutOfMemory → other ≢ OutOfMemory →
    RefusesWaves net text one → RefusesWaves net text other → one ≡ other
