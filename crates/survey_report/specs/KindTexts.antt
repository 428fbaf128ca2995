-- The lines of each kind, exactly those that its definition asks for.
use Rattle.std.specs.Prelude.{◌≡◌, ℕ, List, [], ◌∷◌, Option, MatchOption, codes, flat_map, length, map, option_to_list}
use Rattle.net_model.specs.Configuration.{Configuration}
use Rattle.net_model.specs.Least.{IsLowest}
use Rattle.net_model.specs.Network.{Network}
use Rattle.net_model.specs.RouterNames.{names_of}
use Rattle.net_model.specs.declared.zone.Zone.TheVariants.{One, Two}
use Rattle.network_survey.specs.Counts.{IsSharedSubnet, IsSubnet}
use Rattle.network_survey.specs.Interfaces.{IsHalf, IsOneSided, IsOneSidedInArea}
use Rattle.network_survey.specs.Joined.{AllJoined, IsCutOff}
use Rattle.network_survey.specs.Listings.{CountsAll}
use Rattle.network_survey.specs.Pairs.{AreUneven, AreUnevenInArea, DifferInMask, ListsPairs, PortPair}
use Rattle.network_survey.specs.Ports.{IsUpPort, ListsUpPorts, Port}
use Rattle.network_survey.specs.Routers.{IsOff, IsSilent, ListsAreas, ListsNumbers}
use Rattle.printed_lines.specs.Texts.{text_of}
use Rattle.survey_report.specs.NetworkLines.{apart_line, counts_line, half_line, masks_line, one_side_line, read_router_line}
use Rattle.survey_report.specs.NetworkLines.{router_line, uneven_line}
use Rattle.survey_report.specs.Parts.{ArePartsOf, HasLinesFor}
use Rattle.survey_report.specs.SurveyFiles.{SurveyFile}
use Rattle.survey_report.specs.TextLines.{acting_lines, flat_lines, odd_lines}
use Rattle.survey_report.specs.declared.kinds.LineKind.{LineKind}
use Rattle.survey_report.specs.declared.kinds.LineKind.TheVariants.{Counts, Routers, Silent, Half, Masks, OneSide, Apart, Uneven}
use Rattle.survey_report.specs.declared.kinds.LineKind.TheVariants.{Start, Odd, Flat, Acts}
use Rattle.survey_report.specs.declared.kinds.Protocol.{Protocol}
use Rattle.survey_report.specs.declared.kinds.Protocol.TheVariants.{Ospf, Level1, Level2}

-- a network that was read of files
pub record NetworkRead : Type 0 where
  pub net : Network
  pub files : List SurveyFile

-- how much was read
pub record IsCountsText (net : Network) (text : List ℕ) : Type 0 where
  pub ports : List Port
  pub listed : ListsUpPorts (IsUpPort net) ports
  pub links : ℕ
  pub links_are : CountsAll (IsSharedSubnet net) links
  pub subnets : ℕ
  pub subnets_are : CountsAll (IsSubnet net) subnets
  pub text_is : text ≡ text_of (counts_line (length net) (length ports) links subnets ∷ [])

-- a router, with its areas ascending
pub record IsRouterText (c : Configuration) (text : List ℕ) : Type 0 where
  pub areas : List ℕ
  pub listed : ListsAreas c areas
  pub text_is : text ≡ text_of (read_router_line c areas ∷ [])

-- the first router, and the first one that no walk over shared subnets joins with it; nothing where a walk joins each two
pub record IsApartText (net : Network) (text : List ℕ) : Type 0 where
  pub cut : Option ℕ
  pub lowest : MatchOption cut (AllJoined net) (IsLowest (IsCutOff net))
  pub text_is : text ≡ text_of (map (apart_line (names_of net)) (option_to_list cut))

-- the interfaces that alone send on a subnet that routers share: in their area, or in a level
abbrev pub ListsOneSided : Network → Protocol → List Port → Type 0
ListsOneSided net Ospf = ListsUpPorts (IsOneSidedInArea net)
ListsOneSided net Level1 = ListsUpPorts (IsOneSided net One)
ListsOneSided net Level2 = ListsUpPorts (IsOneSided net Two)

-- the links of two routers that cost differently at their ends
abbrev pub ListsUneven : Network → Protocol → List PortPair → Type 0
ListsUneven net Ospf = ListsPairs (AreUnevenInArea net)
ListsUneven net Level1 = ListsPairs (AreUneven net One)
ListsUneven net Level2 = ListsPairs (AreUneven net Two)

-- the text of the lines of a kind
abbrev pub IsKindText : NetworkRead → LineKind → List ℕ → Type 0
IsKindText read Counts = IsCountsText read.net
IsKindText read Routers = ArePartsOf IsRouterText read.net
IsKindText read Silent = HasLinesFor (ListsNumbers (IsSilent read.net)) (router_line (codes "silent") (names_of read.net))
IsKindText read Half = HasLinesFor (ListsUpPorts (IsHalf read.net)) (half_line (names_of read.net))
IsKindText read Masks = HasLinesFor (ListsPairs (DifferInMask read.net)) (masks_line (names_of read.net))
IsKindText read (OneSide by) = HasLinesFor (ListsOneSided read.net by) (one_side_line by (names_of read.net))
IsKindText read Apart = IsApartText read.net
IsKindText read (Uneven by) = HasLinesFor (ListsUneven read.net by) (uneven_line by (names_of read.net))
IsKindText read Start = HasLinesFor (ListsNumbers (IsOff read.net)) (router_line (codes "start") (names_of read.net))
IsKindText read Odd = λ (text : List ℕ). text ≡ text_of (flat_map odd_lines read.files)
IsKindText read Flat = λ (text : List ℕ). text ≡ text_of (flat_map flat_lines read.files)
IsKindText read Acts = λ (text : List ℕ). text ≡ text_of (flat_map acting_lines read.files)

-- the text of several kinds, one behind the other
abbrev pub AreKindTexts : NetworkRead → List LineKind → List ℕ → Type 0
AreKindTexts read = ArePartsOf (IsKindText read)
