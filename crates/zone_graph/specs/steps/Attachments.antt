-- The links of all routers, and the segments that those of one subnet make.
use Rattle.std.specs.Prelude.{◌≡◌, ◌≢◌, ℕ, ◌<◌, ◌↔◌, ◌⊎◌, List, Contains}
use Rattle.net_model.specs.Configuration.{Configuration}
use Rattle.net_model.specs.Network.{Network, HasConfiguration, MayJoin}
use Rattle.net_model.specs.declared.interface.Interface.{Interface}
use Rattle.net_model.specs.declared.zone.Zone.{Zone}
use Rattle.walk_core.specs.declared.segment.Port.{Port}
use Rattle.zone_graph.specs.steps.LinkLists.{IsLinkOf}
use Rattle.zone_graph.specs.declared.attachments.Attachment.{Attachment}
use Rattle.zone_graph.specs.declared.links.Link.{Link}

-- the group of router u: the first router that the zone may join with it
pub record IsGroup (net : Network) (zone : Zone) (u group : ℕ) : Type 0 where
  pub first : Configuration
  pub own : Configuration
  pub first_is : HasConfiguration net group first
  pub own_is : HasConfiguration net u own
  pub joined : MayJoin zone first own
  pub none_before : (w : ℕ) (other : Configuration) → w < group → HasConfiguration net w other → MayJoin zone other own → ⊥

-- a link of one of the routers below n, with its group
pub record IsAttachment (net : Network) (zone : Zone) (n : ℕ) (a : Attachment) : Type 0 where
  pub config : Configuration
  pub interface : Interface
  pub below : a.router < n
  pub router : HasConfiguration net a.router config
  pub among : Contains config.interfaces interface
  pub link : IsLinkOf zone interface a.link
  pub group : IsGroup net zone a.router a.group

-- one of them is this link of router u
pub record HasLink (all : List Attachment) (u : ℕ) (link : Link) : Type 0 where
  pub attachment : Attachment
  pub among : Contains all attachment
  pub link_is : attachment.link ≡ link
  pub router_is : attachment.router ≡ u

-- these are the links of the routers below n, each with its group
pub record AreAttachments (net : Network) (zone : Zone) (n : ℕ) (all : List Attachment) : Type 0 where
  pub each : (a : Attachment) → Contains all a → IsAttachment net zone n a
  pub every : (u : ℕ) (config : Configuration) (i : Interface) (link : Link) → u < n → HasConfiguration net u config →
      Contains config.interfaces i → IsLinkOf zone i link → HasLink all u link

-- to the attachments there come those of a router's links
pub record IsOfLinks (links : List Link) (group router : ℕ) (a : Attachment) : Type 0 where
  pub among : Contains links a.link
  pub in_group : a.group ≡ group
  pub of_router : a.router ≡ router

abbrev pub AddsLinks : List Attachment → List Attachment → List Link → ℕ → ℕ → Type 0
AddsLinks old new links group router =
    (a : Attachment) → Contains new a ↔ (Contains old a ⊎ IsOfLinks links group router a)

-- two attachments are of one segment: the same subnet and the same group
pub record AreOfOneSegment (a b : Attachment) : Type 0 where
  pub subnet : a.link.subnet ≡ b.link.subnet
  pub group : a.group ≡ b.group

-- the port that an attachment makes
pub record IsPortOf (a : Attachment) (port : Port) : Type 0 where
  pub vertex : port.vertex ≡ a.router
  pub cost : port.cost ≡ a.link.cost

-- one of the attachments is of the segment of `like`, and makes this port
pub record MakesPort (all : List Attachment) (like : Attachment) (port : Port) : Type 0 where
  pub attachment : Attachment
  pub among : Contains all attachment
  pub same : AreOfOneSegment attachment like
  pub port_is : IsPortOf attachment port

-- a segment of these ports has those that the attachments make
abbrev pub ArePortsLike : List Attachment → Attachment → List Port → Type 0
ArePortsLike all like ports = (port : Port) → Contains ports port ↔ MakesPort all like port

-- two attachments' ports stand in one of the segments
pub record HasBoth (segments : List (List Port)) (a b : Attachment) : Type 0 where
  pub segment : List Port
  pub among : Contains segments segment
  pub one : Port
  pub two : Port
  pub one_among : Contains segment one
  pub two_among : Contains segment two
  pub one_is : IsPortOf a one
  pub two_is : IsPortOf b two

-- the ports of a segment are of attachments of one segment
pub record IsOfAttachments (all : List Attachment) (segment : List Port) : Type 0 where
  pub like : Attachment
  pub each : (port : Port) → Contains segment port → MakesPort all like port

-- the segments join the attachments of one segment, and no others
pub record AreTheSegments (all : List Attachment) (segments : List (List Port)) : Type 0 where
  pub sound : (segment : List Port) → Contains segments segment → IsOfAttachments all segment
  pub every : (a b : Attachment) → Contains all a → Contains all b → AreOfOneSegment a b → a.router ≢ b.router → HasBoth segments a b
