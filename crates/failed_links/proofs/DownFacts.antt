-- What stays of configurations as interfaces are shut down.
use Rattle.std.proofs.Common.{◌≡◌, ◌≢◌, ℕ, ◌+◌, List, [], ◌∷◌, ◌++◌, length, map, get_or, take, slice_get, Option, Some, None, option_map, IsTrue}
use Rattle.std.proofs.Common.{All, AllPairs, IfOk, refl, sym, subst, ap, ◌∙◌, arith}
use Rattle.std.proofs.lemmas.Bool.{and_parts}
use Rattle.std.proofs.lemmas.List.{get_or-map, length-map, map-append, take_more}
use Rattle.std.proofs.lemmas.List.Elements.{All-map}
use Rattle.std.proofs.lemmas.List.Sorted.{IsPermutation-refl}
use Rattle.std.proofs.lemmas.Option.{get_or_from_slice_get, slice_get-map, slice_get_within}
use Rattle.net_addr.specs.Addresses.{Block}
use Rattle.net_model.specs.Configuration.{Configuration, IsConfiguration, IsInterface}
use Rattle.net_model.specs.Network.{Network}
use Rattle.net_model.specs.OffStarts.{IsOffStart, StartsOff}
use Rattle.net_model.specs.Refusals.{IsBelow, IsNetworkOf, MakeNetwork, NamesAscend}
use Rattle.net_model.specs.RouterNames.{names_of}
use Rattle.net_model.specs.declared.interface.Interface.{Interface}
use Rattle.net_model.specs.declared.refusal.NetRefusal.{NetRefusal}
use Rattle.net_model.proofs.RefusalLaws.{IsNetworkOf-unique, MakeNetwork-refused}
use Rattle.failed_links.specs.DownLaws.{KeepsRouters, KeepsStarts, StandsOrIsRefused}
use Rattle.failed_links.specs.ShutDown.{IsRefusedWithout, StandsWithout, shut_down, shut_interface, shut_router}

-- ---- lists ----

pairs_kept : {A : Type 0} (R : A → A → Type 0) (f : A → A) (xs : List A) → ((x y : A) → R x y → R (f x) (f y)) → AllPairs R xs → AllPairs R (map f xs)
pairs_kept R f xs keeps pairs i j d lower within =
    let long = length-map xs f in
    rw (get_or-map f xs i d d (omega (arith, lower, within, long)), get_or-map f xs j d d (omega (arith, within, long)))
    (keeps (get_or xs i d) (get_or xs j d) (pairs i j d lower (omega (arith, within, long))))

-- one more element of a mapped list
pub map_more : {A B : Type 0} (f : A → B) (xs : List A) (i : ℕ) (x : A) (before after : List B) (y : B) → slice_get xs i ≡ Some x →
    before ≡ map f (take i xs) → y ≡ f x → after ≡ before ++ y ∷ [] → after ≡ map f (take (i + 1) xs)
map_more f xs i x before after y at done same more =
    let next = take_more xs i x (slice_get_within xs i x at) in
    let here = get_or_from_slice_get xs i x x at in
    more ∙ ap (λ l. l ++ y ∷ []) done ∙ ap (λ z. map f (take i xs) ++ z ∷ []) (same ∙ ap f (sym here))
    ∙ sym (map-append f (take i xs) (get_or xs i x ∷ [])) ∙ ap (map f) (sym next)

-- what f gives some is given of some
record CameFrom {A B : Type 0} (f : A → B) (given : Option A) (b : B) : Type 0 where
  item : A
  was : given ≡ Some item
  gives : f item ≡ b

came : {A B : Type 0} (f : A → B) (given : Option A) (b : B) → option_map f given ≡ Some b → CameFrom f given b
came f None b e = cc
came f (Some a) b e = record { item = a; was = refl; gives = cc }

-- ---- configurations ----

interface_kept : (p : Block) (i : Interface) → IsInterface i → IsInterface (shut_interface p i)
interface_kept p i is = record {
  cost = is.cost;
  metric1 = is.metric1;
  metric2 = is.metric2;
  prefix = is.prefix;
  subnet = λ up. is.subnet (and_parts i.up _ up).0;
}

pub IsConfiguration-shut : (p : Block) (c : Configuration) → IsConfiguration c → IsConfiguration (shut_router p c)
IsConfiguration-shut p c is = record {
  name = is.name;
  interfaces = All-map IsInterface (shut_interface p) c.interfaces (λ k d h. interface_kept p _ (is.interfaces k d h));
  interface_names = pairs_kept (λ (i j : Interface). i.name ≢ j.name) (shut_interface p) c.interfaces (λ i j apart. apart) is.interface_names;
  process = is.process;
  system = is.system;
  ranges = is.ranges;
  ranges_apart = is.ranges_apart;
  stubs = is.stubs;
  stubs_apart = is.stubs_apart;
  distances = is.distances;
}

-- ---- networks ----

names_kept : (p : Block) (net : Network) → names_of (shut_down p net) ≡ names_of net
names_kept p [] = refl
names_kept p (c ∷ net) = ap (λ names. c.name ∷ names) (names_kept p net)

pub KeepsRouters-all : KeepsRouters
KeepsRouters-all p net = (length-map net (shut_router p), names_kept p net)

pub KeepsStarts-all : KeepsStarts
KeepsStarts-all p net u off =
    let from = came (shut_router p) (slice_get net u) off.config (sym (slice_get-map (shut_router p) net u) ∙ off.router) in
    record { config = from.item; router = from.was; off = subst IsOffStart (sym from.gives) off.off }

pub StandsOrIsRefused-all : StandsOrIsRefused
StandsOrIsRefused-all p net refusal stands refused = refused.told (MakeNetwork-refused (shut_down p net) (shut_down p net) refusal stands refused.refuses)

-- routers keep their order, so that the network of the configurations is these very ones
pub same_network : (p : Block) (net failed : Network) → NamesAscend net → MakeNetwork (shut_down p net) failed → failed ≡ shut_down p net
same_network p net failed ascending made =
    IsNetworkOf-unique (shut_down p net) failed (shut_down p net) made.network (record {
      same = IsPermutation-refl (shut_down p net);
      ascending = pairs_kept (λ (c d : Configuration). IsBelow c.name d.name) (shut_router p) net (λ c d below. below) ascending;
    })

pub stands : (p : Block) (net failed : Network) → NamesAscend net → MakeNetwork (shut_down p net) failed → StandsWithout net p
stands p net failed ascending made = subst (MakeNetwork (shut_down p net)) (same_network p net failed ascending made) made
