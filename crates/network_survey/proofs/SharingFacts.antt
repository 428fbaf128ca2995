-- What the up interfaces of a network see of each other is what stands out in the network.
use Rattle.std.proofs.Common.{◌≡◌, ℕ, List, length, slice_get, Some, Contains, Any, refl, sym, subst}
use Rattle.std.proofs.lemmas.Option.{slice_get_read, slice_get_within, get_or_from_slice_get}
use Rattle.net_model.specs.Network.{Network, UpInterface, Connected}
use Rattle.net_model.specs.declared.zone.Zone.{Zone}
use Rattle.net_model.specs.declared.zone.Zone.TheVariants.{Area}
use Rattle.network_survey.specs.Ports.{Port, IsUpPort, ListsUpPorts}
use Rattle.network_survey.specs.Interfaces.{IsShared, HasPeer, IsHalf, IsOneSided, IsOneSidedInArea}
use Rattle.network_survey.specs.steps.PortLists.{Selects}
use Rattle.network_survey.specs.steps.Sharing.{FacesOther, FacesPeer, SeesOther, SeesPeer, SeesNobody, SeesNoPeer, SeesNoPeerInArea}

pub Contains-slice_get : {A : Type 0} → (xs : List A) (k : ℕ) (x : A) → slice_get xs k ≡ Some x → Contains xs x
Contains-slice_get xs k x e = (k, slice_get_within xs k x e, get_or_from_slice_get xs k x x e)

pub slice_get-Contains : {A : Type 0} → (xs : List A) (x : A) → (c : Contains xs x) → slice_get xs c.0 ≡ Some x
slice_get-Contains xs x c = slice_get_read xs (length xs) c.0 x refl c.1 (sym c.2)

pub Any-at : {A : Type 0} → (P : A → Type 0) (xs : List A) (x : A) → Contains xs x → P x → Any P xs
Any-at P xs x c p = (c.0, x, c.1, c.2, p)

pub UpInterface-port : (net : Network) (port : Port) → IsUpPort net port → UpInterface net port.router port.interface
UpInterface-port net port is = record {
  config = is.config;
  router = is.router;
  among = Contains-slice_get is.config.interfaces port.place port.interface is.at;
  up = is.up;
}

pub Connected-port : (net : Network) (port : Port) → IsUpPort net port → Connected net port.router port.subnet
Connected-port net port is = record { interface = port.interface; up = UpInterface-port net port is; subnet = is.subnet }

module _ (net : Network) (ports : List Port) (lists : ListsUpPorts (IsUpPort net) ports) where
  pub IsShared-seen : (port : Port) → SeesOther ports port → IsShared net port
  IsShared-seen port s =
      let is = (lists.exact s.1).0 (s.0, s.2, s.3) in
      record { other = s.1.router; apart = s.4.apart; connected = subst (Connected net s.1.router) s.4.subnet (Connected-port net s.1 is) }

  pub SeesOther-shared : (port : Port) → IsShared net port → SeesOther ports port
  SeesOther-shared port s =
      let to = s.connected in
      let other : Port = record { router = s.other; place = to.up.among.0; subnet = port.subnet; interface = to.interface } in
      let is : IsUpPort net other = record {
        config = to.up.config;
        router = to.up.router;
        at = slice_get-Contains to.up.config.interfaces to.interface to.up.among;
        up = to.up.up;
        subnet = to.subnet;
      } in
      let faces : FacesOther port other = record { apart = s.apart; subnet = refl } in
      Any-at (FacesOther port) ports other ((lists.exact other).1 is) faces

  pub HasPeer-seen : (zone : Zone) (port : Port) → SeesPeer ports zone port → HasPeer net zone port
  HasPeer-seen zone port s = record {
    peer = s.1;
    is = (lists.exact s.1).0 (s.0, s.2, s.3);
    apart = s.4.faces.apart;
    subnet = s.4.faces.subnet;
    link = s.4.link;
  }

  pub SeesPeer-has : (zone : Zone) (port : Port) → HasPeer net zone port → SeesPeer ports zone port
  SeesPeer-has zone port p =
      let faces : FacesPeer zone port p.peer = record { faces = record { apart = p.apart; subnet = p.subnet }; link = p.link } in
      Any-at (FacesPeer zone port) ports p.peer ((lists.exact p.peer).1 p.is) faces

  selected : (P Q : Port → Type 0) → ((port : Port) → IsUpPort net port → P port → Q port) → ((port : Port) → Q port → IsUpPort net port) →
      ((port : Port) → Q port → P port) → (found : List Port) → Selects P ports found → ListsUpPorts Q found
  selected P Q into is back found s = record {
    exact = λ x. (
      λ c. let one = (s.exact x).0 c in into x ((lists.exact x).0 one.among) one.holds,
      λ q. (s.exact x).1 (record { among = (lists.exact x).1 (is x q); holds = back x q }),
    );
    ascending = s.ascending lists.ascending;
  }

  pub ListsUpPorts-half : (found : List Port) → Selects (SeesNobody ports) ports found → ListsUpPorts (IsHalf net) found
  ListsUpPorts-half found s =
      selected (SeesNobody ports) (IsHalf net)
      (λ x is n. record { is = is; link = n.link; runs = n.runs; active = n.active; alone = λ h. n.alone (SeesOther-shared x h) })
      (λ x h. h.is)
      (λ x h. record { link = h.link; runs = h.runs; active = h.active; alone = λ n. h.alone (IsShared-seen x n) }) found s

  one_sided : (zone : Zone) (x : Port) → IsUpPort net x → SeesNoPeer ports zone x → IsOneSided net zone x
  one_sided zone x is n = record { is = is; link = n.link; shared = IsShared-seen x n.shared; alone = λ h. n.alone (SeesPeer-has zone x h) }

  no_peer : (zone : Zone) (x : Port) → IsOneSided net zone x → SeesNoPeer ports zone x
  no_peer zone x h = record { link = h.link; shared = SeesOther-shared x h.shared; alone = λ n. h.alone (HasPeer-seen zone x n) }

  pub ListsUpPorts-one_sided : (zone : Zone) (found : List Port) → Selects (SeesNoPeer ports zone) ports found → ListsUpPorts (IsOneSided net zone) found
  ListsUpPorts-one_sided zone found s =
      selected (SeesNoPeer ports zone) (IsOneSided net zone) (one_sided zone) (λ x h. h.is) (no_peer zone) found s

  pub ListsUpPorts-one_sided_in_area : (found : List Port) → Selects (SeesNoPeerInArea ports) ports found → ListsUpPorts (IsOneSidedInArea net) found
  ListsUpPorts-one_sided_in_area found s =
      selected (SeesNoPeerInArea ports) (IsOneSidedInArea net)
      (λ x is n. record { area = n.area; one_sided = one_sided (Area n.area) x is n.sees })
      (λ x h. h.one_sided.is)
      (λ x h. record { area = h.area; sees = no_peer (Area h.area) x h.one_sided }) found s
