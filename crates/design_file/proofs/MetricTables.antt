-- A document of routers, of each its interfaces, and of each interface a metric alone: nothing is wrong in it.
use Rattle.std.proofs.Common.{◌≡◌, ℕ, true, cond, nat_le, le-leb, List, [], ◌++◌, Option, Some, None, refl, sym, ap, ◌∙◌, subst}
use Rattle.std.specs.Prelude.{codes, is_some, pos}
use Rattle.std.proofs.lemmas.Bool.{and_from}
use Rattle.net_model.specs.declared.bounds.TheConstants.{MOST_METRIC}
use Rattle.ios_lines.specs.Words.{Word}
use Rattle.toml.specs.Data.{Data, Members, integer, member, no_members, string, table}
use Rattle.design_file.specs.Answers.{SaysDesign}
use Rattle.design_file.specs.Designs.{IsDesign, IsMetric}
use Rattle.design_file.specs.Documents.{IsDocument}
use Rattle.design_file.specs.declared.design.Design.{Design}
use Rattle.design_file.specs.Keys.{below}
use Rattle.design_file.specs.Values.{is_area, levels_named, metric_within, unless}
use Rattle.design_file.specs.declared.fault.Fault.{Fault}
use Rattle.design_file.specs.declared.key.Place.TheVariants.{Interfaces, Routers}
use Rattle.design_file.specs.declared.refusal.DesignKind.TheVariants.{BadMetric}
use Rattle.design_file.specs.steps.FaultLists.{document_faults, own_or, table_faults}
use Rattle.design_file.proofs.AnswerLaws.{says_design}

-- what holds of all members
abbrev pub AllMembers : (Word → Data → Type 0) → Members → Type 0
AllMembers P no_members = Unit {0}
AllMembers P (member k d ms) = P k d × AllMembers P ms

-- the table of an interface with a metric
abbrev pub metric_table : ℕ → Data
metric_table metric = table (member (codes "metric") (integer (pos metric)) no_members)

pub record IsMetricTable (d : Data) : Type 0 where
  pub metric : ℕ
  pub within : IsMetric metric
  pub is : d ≡ metric_table metric

-- the table of a router whose interfaces have such tables
pub record IsMetricsTable (d : Data) : Type 0 where
  pub interfaces : Members
  pub metrics : AllMembers (λ _ its. IsMetricTable its) interfaces
  pub is : d ≡ table (member (codes "interfaces") (table interfaces) no_members)

pub metric_is : (n : ℕ) → IsMetric n → metric_within (pos n) ≡ Some n
metric_is n is = ap (λ b. cond b (Some n) None) (and_from (nat_le 1 n) (nat_le n MOST_METRIC) (le-leb 1 n is.0) (le-leb n MOST_METRIC is.1))

metrics_faultless : (ms : Members) (path : Word) → AllMembers (λ _ its. IsMetricTable its) ms → table_faults ms Interfaces path ≡ []
metrics_faultless no_members path all = refl
metrics_faultless (member word d ms) path all =
    subst (λ (its : Data). table_faults (member word its ms) Interfaces path ≡ []) (sym all.0.is)
    (ap (λ (o : Option ℕ). (own_or (unless (is_some o) BadMetric) (below (below path word) (codes "metric")) [] ++ []) ++ table_faults ms Interfaces path)
    (metric_is all.0.metric all.0.within) ∙ metrics_faultless ms path all.1)

routers_faultless : (ms : Members) (path : Word) → AllMembers (λ _ its. IsMetricsTable its) ms → table_faults ms Routers path ≡ []
routers_faultless no_members path all = refl
routers_faultless (member word d ms) path all =
    subst (λ (its : Data). table_faults (member word its ms) Routers path ≡ []) (sym all.0.is)
    (ap (λ (fs : List Fault). (fs ++ []) ++ table_faults ms Routers path)
    (metrics_faultless all.0.interfaces (below (below path word) (codes "interfaces")) all.0.metrics) ∙ routers_faultless ms path all.1)

-- a document of an area, levels and such routers
abbrev pub metrics_document : Word → Word → Members → Members
metrics_document area level routers =
    member (codes "area") (string area) (member (codes "level") (string level) (member (codes "routers") (table routers) no_members))

document_faultless : (area level : Word) (routers : Members) → is_area area ≡ true → is_some (levels_named level) ≡ true →
    AllMembers (λ _ its. IsMetricsTable its) routers → document_faults (metrics_document area level routers) ≡ []
document_faultless area level routers area_is level_is all = rw (area_is, level_is, routers_faultless routers (codes "routers") all)

-- a text that is such a document says what the document is
pub metrics_say : (text : List ℕ) (area level : Word) (routers : Members) (design : Design) → is_area area ≡ true →
    is_some (levels_named level) ≡ true → AllMembers (λ _ its. IsMetricsTable its) routers → IsDocument text (metrics_document area level routers) →
    IsDesign (metrics_document area level routers) design → SaysDesign text design
metrics_say text area level routers design area_is level_is all is says =
    says_design text (metrics_document area level routers) design is (document_faultless area level routers area_is level_is all) says
