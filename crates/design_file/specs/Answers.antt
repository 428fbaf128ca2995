-- What is answered to the text of a design, and to a design and a network.
use Rattle.std.specs.Prelude.{◌≡◌, List, ℕ, codes}
use Rattle.toml.specs.Data.{Members}
use Rattle.net_model.specs.Network.{Network}
use Rattle.design_file.specs.Designs.{IsDesign}
use Rattle.design_file.specs.Documents.{IsDocument}
use Rattle.design_file.specs.Faults.{IsDocumentFault, IsToldFault, fault}
use Rattle.design_file.specs.NetworkFaults.{IsNetworkFault}
use Rattle.design_file.specs.Settling.{settled_routers}
use Rattle.design_file.specs.declared.design.Design.{Design}
use Rattle.design_file.specs.declared.fault.Fault.{Fault}
use Rattle.design_file.specs.declared.refusal.DesignKind.TheVariants.{NotToml}
use Rattle.design_file.specs.declared.settled.SettledRouter.{SettledRouter}
use Rattle.design_file.specs.declared.refusal.DesignRefusal.{DesignRefusal}
use Rattle.design_file.specs.declared.refusal.DesignRefusal.TheVariants.{Bad, OutOfMemory}

-- a text says a design: it is a document, nothing is wrong in it, and the design is what it says
pub record SaysDesign (text : List ℕ) (design : Design) : Type 0 where
  pub document : Members
  pub is_document : IsDocument text document
  pub faultless : (f : Fault) → IsDocumentFault document f → ⊥
  pub says : IsDesign document design

-- what is wrong with a text as a design: it is no document, told at the path `-`; or something is wrong in its document
pub data IsTextFault (text : List ℕ) (f : Fault) : Type 0 where
  not_toml : ((document : Members) → IsDocument text document → ⊥) → fault NotToml (codes "-") ≡ f → IsTextFault text f
  in_document : (document : Members) → IsDocument text document → IsDocumentFault document f → IsTextFault text f

-- a text is refused by the fault of it that is told, or for want of memory
abbrev pub RefusesText : List ℕ → DesignRefusal → Type 0
RefusesText text (Bad kind path) = IsToldFault (IsTextFault text) (fault kind path)
RefusesText text OutOfMemory = Unit {0}

-- a design is settled for a network: nothing is wrong in it there, and this is what it settles
pub record Settles (design : Design) (net : Network) (settled : List SettledRouter) : Type 0 where
  pub faultless : (f : Fault) → IsNetworkFault design net f → ⊥
  pub is_settled : settled ≡ settled_routers design net

-- a design is refused for a network by the fault of it that is told, or for want of memory
abbrev pub RefusesDesign : Design → Network → DesignRefusal → Type 0
RefusesDesign design net (Bad kind path) = IsToldFault (IsNetworkFault design net) (fault kind path)
RefusesDesign design net OutOfMemory = Unit {0}
