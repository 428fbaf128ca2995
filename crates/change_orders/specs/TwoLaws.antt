-- The laws of order files of single changes.
use Rattle.std.specs.Prelude.{◌≡◌, ◌≢◌, ℕ, ◌<◌, List, length}
use Rattle.net_model.specs.Network.{Network}
use Rattle.net_model.specs.Refusals.{IsNetwork, NamesAscend}
use Rattle.net_model.specs.RouterNames.{names_of}
use Rattle.step_scripts.specs.WavesTexts.{AreOneOfEach}
use Rattle.change_orders.specs.TwoFaults.{RefusesTwo}
use Rattle.change_orders.specs.TwoFiles.{NamesTwo, AreTwoWaves}
use Rattle.change_orders.specs.TwoTexts.{two_text}
use Rattle.change_orders.specs.declared.kind.TwoRefusal.{TwoRefusal}
use Rattle.change_orders.specs.declared.kind.TwoRefusal.TheVariants.{OutOfMemory}

-- a text names one wave list at most
abbrev pub OneTwoListLaw : Type 0
OneTwoListLaw = (net : Network) (text one other : List ℕ) → NamesAscend net → NamesTwo net text one → NamesTwo net text other → one ≡ other

-- a text that names a wave list is refused for want of memory alone
abbrev pub TwoListOrRefusalLaw : Type 0
TwoListOrRefusalLaw =
    (net : Network) (text ranks : List ℕ) (refusal : TwoRefusal) → NamesTwo net text ranks → RefusesTwo net text refusal → refusal ≡ OutOfMemory

-- besides want of memory one refusal at most stands
abbrev pub OneTwoRefusalLaw : Type 0
OneTwoRefusalLaw =
    (net : Network) (text : List ℕ) (one other : TwoRefusal) → one ≢ OutOfMemory → other ≢ OutOfMemory →
    RefusesTwo net text one → RefusesTwo net text other → one ≡ other

-- the text of a wave list names just this wave list
abbrev pub TwoTextsReadBack : Type 0
TwoTextsReadBack =
    (net : Network) (ranks chain : List ℕ) → IsNetwork net → 0 < length net → AreTwoWaves (length net) ranks → AreOneOfEach ranks chain →
    NamesTwo net (two_text (names_of net) ranks chain) ranks
