-- The configurations of several files, and the networks that they make.
use Rattle.std.specs.Prelude.{ℕ, List, ◌∷◌}
use Rattle.std.specs.List.{AllZip}
use Rattle.ios_reader.specs.Texts.{ReadsText, IsRefusedText}
use Rattle.ios_reader.specs.declared.kind.ReadKind.{ReadKind}
use Rattle.isis_writer.specs.ReadTexts.{ReadsTexts}
use Rattle.net_model.specs.Configuration.{Configuration}
use Rattle.net_model.specs.Network.{Network}
use Rattle.net_model.specs.OffStarts.{StartsOff}
use Rattle.net_model.specs.Refusals.{MakeNetwork, Refuses}
use Rattle.net_model.specs.declared.refusal.NetRefusal.{NetRefusal}

-- a faulty line of a text, and why it is faulty
pub record LineFault : Type 0 where
  pub line : ℕ
  pub kind : ReadKind

abbrev pub line_fault : ℕ → ReadKind → LineFault
line_fault line kind = record { line = line; kind = kind }

-- the first of some files whose text has a faulty line, with its first faulty line and the least kind on it
pub data IsFirstRefused (fault : LineFault) : List (List ℕ) → List (List ℕ) → List ℕ → Type 0 where
  here : {file text : List ℕ} {files texts : List (List ℕ)} →
      IsRefusedText text fault.line fault.kind → IsFirstRefused fault (file ∷ files) (text ∷ texts) file
  later : {file text refused : List ℕ} {files texts : List (List ℕ)} {configs : List Configuration} →
      ReadsText text configs → IsFirstRefused fault files texts refused → IsFirstRefused fault (file ∷ files) (text ∷ texts) refused

-- the texts give this network
pub record GiveNetwork (texts : List (List ℕ)) (net : Network) : Type 0 where
  pub configs : List Configuration
  pub read : ReadsTexts texts configs
  pub make : MakeNetwork configs net

-- groups of texts give these networks, each group one
abbrev pub GiveNetworks : List (List (List ℕ)) → List Network → Type 0
GiveNetworks groups nets = AllZip GiveNetwork groups nets

-- the first of some groups of texts that makes no network is refused so; those before it give networks
pub data RefusesFirst (refusal : NetRefusal) : List (List (List ℕ)) → Type 0 where
  here : {texts : List (List ℕ)} {groups : List (List (List ℕ))} (configs : List Configuration) →
      ReadsTexts texts configs → Refuses refusal configs → RefusesFirst refusal (texts ∷ groups)
  later : {texts : List (List ℕ)} {groups : List (List (List ℕ))} (net : Network) →
      GiveNetwork texts net → RefusesFirst refusal groups → RefusesFirst refusal (texts ∷ groups)

-- every router is where a migration starts: OSPF below the greatest distance, IS-IS at it
abbrev pub IsAtStart : Network → Type 0
IsAtStart net = (u : ℕ) → StartsOff net u → ⊥
