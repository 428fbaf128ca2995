-- Of each kind of line a network has one text.
use Rattle.std.proofs.Common.{◌≡◌, ℕ, ◌<◌, List, [], ◌∷◌, length, map, Option, Some, None, MatchOption, refl, sym, ap, subst, ◌∙◌, arith}
use Rattle.std.proofs.Math.Nat.{le_antisymm}
use Rattle.net_model.specs.Configuration.{Configuration}
use Rattle.net_model.specs.Least.{IsLowest}
use Rattle.net_model.specs.Network.{Network}
use Rattle.net_model.specs.RouterNames.{names_of}
use Rattle.network_survey.specs.Counts.{IsSharedSubnet, IsSubnet}
use Rattle.network_survey.specs.Interfaces.{IsHalf, IsOneSided, IsOneSidedInArea}
use Rattle.network_survey.specs.Joined.{AllJoined, IsCutOff}
use Rattle.network_survey.specs.Pairs.{AreUneven, AreUnevenInArea, DifferInMask, ListsPairs, PairBefore, PortPair}
use Rattle.network_survey.specs.Pairs.PairBefore.{by_one, by_other}
use Rattle.network_survey.specs.Ports.{IsUpPort, ListsUpPorts, Port, StandsEarlier}
use Rattle.network_survey.specs.Ports.StandsEarlier.{by_router, by_place}
use Rattle.network_survey.specs.Routers.{HasInterfaceInArea, IsOff, IsSilent, ListsNumbers}
use Rattle.net_model.specs.declared.zone.Zone.TheVariants.{One, Two}
use Rattle.printed_lines.specs.Texts.{text_of}
use Rattle.std.specs.Prelude.{codes, option_to_list}
use Rattle.survey_report.specs.KindTexts.{AreKindTexts, IsApartText, IsCountsText, IsKindText, IsRouterText, ListsOneSided, ListsUneven, NetworkRead}
use Rattle.survey_report.specs.NetworkLines.{apart_line, counts_line, half_line, masks_line, one_side_line, read_router_line, router_line, uneven_line}
use Rattle.survey_report.specs.Parts.{HasLinesFor}
use Rattle.survey_report.specs.declared.kinds.LineKind.{LineKind}
use Rattle.survey_report.specs.declared.kinds.LineKind.TheVariants.{Counts, Routers, Silent, Half, Masks, OneSide, Apart, Uneven}
use Rattle.survey_report.specs.declared.kinds.LineKind.TheVariants.{Start, Odd, Flat, Acts}
use Rattle.survey_report.specs.declared.kinds.Protocol.{Protocol}
use Rattle.survey_report.specs.declared.kinds.Protocol.TheVariants.{Ospf, Level1, Level2}
use Rattle.survey_report.proofs.ListedOnce.{CountsAll-unique, ListsAll-unique}
use Rattle.survey_report.proofs.PartFacts.{ArePartsOf-unique}

-- ---- orders ----

never_earlier : (x : Port) → StandsEarlier x x → ⊥
never_earlier x (by_router l) = omega arith
never_earlier x (by_place e l) = omega arith

earlier_onward : (x y z : Port) → StandsEarlier x y → StandsEarlier y z → StandsEarlier x z
earlier_onward x y z (by_router l) (by_router m) = by_router (omega arith)
earlier_onward x y z (by_router l) (by_place e m) = by_router (omega arith)
earlier_onward x y z (by_place e l) (by_router m) = by_router (omega arith)
earlier_onward x y z (by_place e l) (by_place f m) = by_place (e ∙ f) (omega arith)

never_before : (p : PortPair) → PairBefore p p → ⊥
never_before p (by_one l) = never_earlier p.one l
never_before p (by_other e l) = never_earlier p.other l

before_onward : (p q r : PortPair) → PairBefore p q → PairBefore q r → PairBefore p r
before_onward p q r (by_one l) (by_one m) = by_one (earlier_onward p.one q.one r.one l m)
before_onward p q r (by_one l) (by_other e m) = by_one (subst (StandsEarlier p.one) e l)
before_onward p q r (by_other e l) (by_one m) = by_one (subst (λ (x : Port). StandsEarlier x r.one) (sym e) m)
before_onward p q r (by_other e l) (by_other f m) = by_other (e ∙ f) (earlier_onward p.other q.other r.other l m)

numbers_once : (P : ℕ → Type 0) (xs ys : List ℕ) → ListsNumbers P xs → ListsNumbers P ys → xs ≡ ys
numbers_once = ListsAll-unique (λ (m n : ℕ). m < n) (λ x l. omega arith) (λ x y z l m. omega arith)

ports_once : (P : Port → Type 0) (xs ys : List Port) → ListsUpPorts P xs → ListsUpPorts P ys → xs ≡ ys
ports_once = ListsAll-unique StandsEarlier never_earlier earlier_onward

pairs_once : (P : PortPair → Type 0) (xs ys : List PortPair) → ListsPairs P xs → ListsPairs P ys → xs ≡ ys
pairs_once = ListsAll-unique PairBefore never_before before_onward

-- ---- texts ----

lines_once : {A : Type 0} (Lists : List A → Type 0) (line : A → List ℕ) → ((xs ys : List A) → Lists xs → Lists ys → xs ≡ ys) →
    (a b : List ℕ) → HasLinesFor Lists line a → HasLinesFor Lists line b → a ≡ b
lines_once {A} Lists line once a b one other =
    one.text_is ∙ ap (λ (items : List A). text_of (map line items)) (once one.items other.items one.listed other.listed) ∙ sym other.text_is

counts_once : (net : Network) (a b : List ℕ) → IsCountsText net a → IsCountsText net b → a ≡ b
counts_once net a b one other =
    one.text_is
    ∙ ap (λ (ports : List Port). text_of (counts_line (length net) (length ports) one.links one.subnets ∷ []))
    (ports_once (IsUpPort net) one.ports other.ports one.listed other.listed)
    ∙ ap (λ (links : ℕ). text_of (counts_line (length net) (length other.ports) links one.subnets ∷ []))
    (CountsAll-unique (IsSharedSubnet net) one.links other.links one.links_are other.links_are)
    ∙ ap (λ (subnets : ℕ). text_of (counts_line (length net) (length other.ports) other.links subnets ∷ []))
    (CountsAll-unique (IsSubnet net) one.subnets other.subnets one.subnets_are other.subnets_are)
    ∙ sym other.text_is

router_once : (c : Configuration) (a b : List ℕ) → IsRouterText c a → IsRouterText c b → a ≡ b
router_once c a b one other =
    one.text_is
    ∙ ap (λ (areas : List ℕ). text_of (read_router_line c areas ∷ []))
    (numbers_once (HasInterfaceInArea c) one.areas other.areas one.listed other.listed)
    ∙ sym other.text_is

cut_once : (net : Network) (a b : Option ℕ) → MatchOption a (AllJoined net) (IsLowest (IsCutOff net)) →
    MatchOption b (AllJoined net) (IsLowest (IsCutOff net)) → a ≡ b
cut_once net None None h k = refl
cut_once net None (Some v) h k =
    let below = k.holds.router in absurd (k.holds.cut (h 0 v (omega (arith, below)) below))
cut_once net (Some u) None h k =
    let below = h.holds.router in absurd (h.holds.cut (k 0 u (omega (arith, below)) below))
cut_once net (Some u) (Some v) h k = ap Some (le_antisymm (h.least v k.holds) (k.least u h.holds))

apart_once : (net : Network) (a b : List ℕ) → IsApartText net a → IsApartText net b → a ≡ b
apart_once net a b one other =
    one.text_is
    ∙ ap (λ (cut : Option ℕ). text_of (map (apart_line (names_of net)) (option_to_list cut)))
    (cut_once net one.cut other.cut one.lowest other.lowest)
    ∙ sym other.text_is

one_sided_once : (net : Network) (by : Protocol) (xs ys : List Port) → ListsOneSided net by xs → ListsOneSided net by ys → xs ≡ ys
one_sided_once net Ospf = ports_once (IsOneSidedInArea net)
one_sided_once net Level1 = ports_once (IsOneSided net One)
one_sided_once net Level2 = ports_once (IsOneSided net Two)

uneven_once : (net : Network) (by : Protocol) (xs ys : List PortPair) → ListsUneven net by xs → ListsUneven net by ys → xs ≡ ys
uneven_once net Ospf = pairs_once (AreUnevenInArea net)
uneven_once net Level1 = pairs_once (AreUneven net One)
uneven_once net Level2 = pairs_once (AreUneven net Two)

kind_once : (read : NetworkRead) (kind : LineKind) (a b : List ℕ) → IsKindText read kind a → IsKindText read kind b → a ≡ b
kind_once read Counts a b = counts_once read.net a b
kind_once read Routers a b = ArePartsOf-unique IsRouterText router_once read.net a b
kind_once read Silent a b = lines_once (ListsNumbers (IsSilent read.net)) (router_line (codes "silent") (names_of read.net))
    (numbers_once (IsSilent read.net)) a b
kind_once read Half a b = lines_once (ListsUpPorts (IsHalf read.net)) (half_line (names_of read.net)) (ports_once (IsHalf read.net)) a b
kind_once read Masks a b = lines_once (ListsPairs (DifferInMask read.net)) (masks_line (names_of read.net)) (pairs_once (DifferInMask read.net)) a b
kind_once read (OneSide by) a b = lines_once (ListsOneSided read.net by) (one_side_line by (names_of read.net)) (one_sided_once read.net by) a b
kind_once read Apart a b = apart_once read.net a b
kind_once read (Uneven by) a b = lines_once (ListsUneven read.net by) (uneven_line by (names_of read.net)) (uneven_once read.net by) a b
kind_once read Start a b = lines_once (ListsNumbers (IsOff read.net)) (router_line (codes "start") (names_of read.net)) (numbers_once (IsOff read.net)) a b
kind_once read Odd a b = λ one other. one ∙ sym other
kind_once read Flat a b = λ one other. one ∙ sym other
kind_once read Acts a b = λ one other. one ∙ sym other

-- several kinds have one text
pub kinds_once : (read : NetworkRead) (kinds : List LineKind) (a b : List ℕ) → AreKindTexts read kinds a → AreKindTexts read kinds b → a ≡ b
kinds_once read kinds a b = ArePartsOf-unique (IsKindText read) (kind_once read) kinds a b
