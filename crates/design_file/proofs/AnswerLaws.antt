-- A text and a network have one answer.
use Rattle.std.proofs.Common.{arith}
use Rattle.std.proofs.lemmas.Grind.{common_steps}
use Rattle.std.proofs.Common.{◌≡◌, ℕ, List, [], Some, refl, sym, ap, subst, ◌∙◌}
use Rattle.std.proofs.lemmas.Option.{same_Some}
use Rattle.net_model.specs.Network.{Network}
use Rattle.net_model.specs.Refusals.{IsNetwork}
use Rattle.net_model.specs.declared.config.Levels.{Levels}
use Rattle.toml.specs.Data.{Members}
use Rattle.design_file.specs.Answers.{SaysDesign, IsTextFault, not_toml, in_document, Settles}
use Rattle.design_file.specs.Designs.{IsDesign}
use Rattle.design_file.specs.Documents.{IsDocument}
use Rattle.design_file.specs.steps.FaultLists.{Among, IsToldAmong, document_faults}
use Rattle.design_file.specs.Faults.{IsDocumentFault, IsToldFault, fault}
use Rattle.ios_lines.specs.Words.{Word}
use Rattle.design_file.specs.Laws.{OneDesignLaw, OneTextRefusalLaw, DesignOrRefusalLaw, OneSettledLaw, OneDesignRefusalLaw, SettledOrRefusalLaw}
use Rattle.design_file.specs.NetworkFaults.{IsNetworkFault}
use Rattle.design_file.specs.declared.design.Design.{Design}
use Rattle.design_file.specs.declared.design.DesignRouter.{DesignRouter}
use Rattle.design_file.specs.declared.fault.Fault.{Fault}
use Rattle.design_file.specs.declared.refusal.DesignRefusal.{DesignRefusal}
use Rattle.design_file.specs.declared.refusal.DesignRefusal.TheVariants.{Bad, OutOfMemory}
use Rattle.design_file.specs.declared.settled.SettledRouter.{SettledRouter}
use Rattle.design_file.specs.steps.NetworkFaultLists.{network_faults}
use Rattle.design_file.specs.Settling.{settled_routers}
use Rattle.design_file.proofs.FaultListLaws.{least_by}
use Rattle.design_file.proofs.FaultOrder.{neither_told}
use Rattle.design_file.proofs.NetworkFaultLaws.{network_found, network_listed}
use Rattle.design_file.proofs.TableFaultLaws.{document_found, document_listed}

one_document : (text : List ℕ) (one other : Members) → IsDocument text one → IsDocument text other → one ≡ other
one_document text one other a b = same_Some one other (sym a.parsed ∙ b.parsed)

abbrev design_with : Word → Levels → ℕ → List DesignRouter → Design
design_with area levels metric routers = record { area = area; levels = levels; metric = metric; routers = routers }

one_said : (document : Members) (one other : Design) → IsDesign document one → IsDesign document other → one ≡ other
one_said document one other a b = grind (arith, common_steps, same_Some)

pub one_design : OneDesignLaw
one_design text one other a b = grind (arith, common_steps, one_document, one_said)

one_least : (P : Fault → Type 0) (f g : Fault) → IsToldFault P f → IsToldFault P g → f ≡ g
one_least P f g a b = neither_told f g (b.least f a.stands) (a.least g b.stands)

abbrev refusal_of : Fault → DesignRefusal
refusal_of f = Bad f.kind f.path

pub one_text_refusal : OneTextRefusalLaw
one_text_refusal text (Bad kind path) (Bad other its) a b one two = ap refusal_of (one_least (IsTextFault text) (fault kind path) (fault other its) one two)
one_text_refusal text OutOfMemory other a b one two = absurd (a refl)
one_text_refusal text (Bad kind path) OutOfMemory a b one two = absurd (b refl)

no_text_fault : (text : List ℕ) (design : Design) (f : Fault) → SaysDesign text design → IsTextFault text f → ⊥
no_text_fault text design f says (not_toml none is) = none says.document says.is_document
no_text_fault text design f says (in_document document is h) =
    says.faultless f (subst (λ (d : Members). IsDocumentFault d f) (one_document text document says.document is says.is_document) h)

pub design_or_refusal : DesignOrRefusalLaw
design_or_refusal text design (Bad kind path) some says refused = no_text_fault text design (fault kind path) says refused.stands
design_or_refusal text design OutOfMemory some says refused = some refl

pub one_settled : OneSettledLaw
one_settled design net one other a b = a.is_settled ∙ sym b.is_settled

pub one_design_refusal : OneDesignRefusalLaw
one_design_refusal design net (Bad kind path) (Bad other its) a b one two = ap refusal_of
    (one_least (IsNetworkFault design net) (fault kind path) (fault other its) one two)
one_design_refusal design net OutOfMemory other a b one two = absurd (a refl)
one_design_refusal design net (Bad kind path) OutOfMemory a b one two = absurd (b refl)

pub settled_or_refusal : SettledOrRefusalLaw
settled_or_refusal design net settled (Bad kind path) some settles refused = settles.faultless (fault kind path) refused.stands
settled_or_refusal design net settled OutOfMemory some settles refused = some refl

-- ---- the answer by the faults that are gathered ----

of_document : (text : List ℕ) (document : Members) (f : Fault) → IsDocument text document → IsTextFault text f → IsDocumentFault document f
of_document text document f is (not_toml none same) = absurd (none document is)
of_document text document f is (in_document other its h) = subst (λ (d : Members). IsDocumentFault d f) (one_document text other document its is) h

-- the fault that is told of a document is that of its text
pub text_least : (text : List ℕ) (document : Members) (f : Fault) → IsDocument text document → IsToldFault (IsDocumentFault document) f →
    IsToldFault (IsTextFault text) f
text_least text document f is least = record {
  stands = in_document document is least.stands;
  least = λ g h. least.least g (of_document text document g is h);
}

-- a document in which nothing is gathered says its design
pub says_design : (text : List ℕ) (document : Members) (design : Design) → IsDocument text document → document_faults document ≡ [] →
    IsDesign document design → SaysDesign text design
says_design text document design is none says = record {
  document = document;
  is_document = is;
  faultless = λ f h. subst (Among f) none (document_listed document f h);
  says = says;
}

-- the fault that is told of those gathered in a document is that of its text
pub text_refused : (text : List ℕ) (document : Members) (f : Fault) → IsDocument text document → IsToldAmong (document_faults document) (Some f) →
    IsToldFault (IsTextFault text) f
text_refused text document f is least =
    text_least text document f is (least_by (document_faults document) (IsDocumentFault document) f (document_found document) (document_listed document) least)

-- a design of which nothing is gathered for a network settles what it does
pub settles_for : (design : Design) (net : Network) (settled : List SettledRouter) → IsNetwork net → network_faults design net ≡ [] →
    settled ≡ settled_routers design net → Settles design net settled
settles_for design net settled network none is = record {
  faultless = λ f h. subst (Among f) none (network_listed f design net network h);
  is_settled = is;
}

-- the fault that is told of those gathered of a design for a network
pub design_refused : (design : Design) (net : Network) (f : Fault) → IsNetwork net → IsToldAmong (network_faults design net) (Some f) →
    IsToldFault (IsNetworkFault design net) f
design_refused design net f network least =
    least_by (network_faults design net) (IsNetworkFault design net) f (λ g. network_found g design net) (λ g. network_listed g design net network) least
