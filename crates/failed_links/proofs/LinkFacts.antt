-- The subnets that the up interfaces of a network share are its links, and sorted without repeats they are listed.
use Rattle.std.proofs.Common.{◌≡◌, ◌≢◌, ℕ, Bool, true, false, not, ◌&&◌, ◌==◌, if◌then◌else◌, List, length, Option, Some, None, Ordering}
use Rattle.std.proofs.Common.{Contains, IsPermutation, refl, sym, subst, ap, ◌∙◌, inl, inr, eq-eqb, eqb-true, arith}
use Rattle.std.specs.List.{dedup, filter_map, list_any}
use Rattle.std.specs.List.Sorted.{IsSorted}
use Rattle.std.specs.Ordering.{nat_cmp, ordering_then}
use Rattle.std.specs.declared.cmp.Ordering.TheVariants.{Less, Equal, Greater}
use Rattle.std.proofs.lemmas.Bool.{and_parts}
use Rattle.std.proofs.lemmas.Cmp.{ranked}
use Rattle.std.proofs.lemmas.List.Folds.{Any-from_list_any, list_any-from_Any}
use Rattle.std.proofs.lemmas.Map.Keys.{Less-from_sorted}
use Rattle.net_addr.specs.Addresses.{Block}
use Rattle.net_addr.proofs.BlockOrder.{apart_once, block_cmp, block_eq, same_prefixes, sorted_once}
use Rattle.net_model.specs.Least.{IsBlockAtMost}
use Rattle.net_model.specs.Network.{Network}
use Rattle.net_model.proofs.Members.{Contains-filter_map, Contains-in_filter_map}
use Rattle.network_survey.specs.Ports.{Port, IsUpPort, ListsUpPorts}
use Rattle.network_survey.proofs.SharingFacts.{UpInterface-port, slice_get-Contains}
use Rattle.failed_links.specs.SharedLinks.{IsSharedLink, ListsLinks, MeetsLink}
use Rattle.failed_links.specs.steps.LinkEnds.{is_shared_end, shared_by_end, shares_end}

-- ---- tests ----

not_true : (b : Bool) → not b ≡ true → b ≡ false
not_true true e = cc
not_true false e = refl

true_from : (b : Bool) → b ≡ false → not b ≡ true
true_from true e = cc
true_from false e = refl

and_true : (a b : Bool) → a ≡ true → b ≡ true → (a && b) ≡ true
and_true true true e f = refl
and_true true false e f = f
and_true false b e f = e

differ : (a b : ℕ) → a ≢ b → not (a == b) ≡ true
differ a b apart = by_test (a == b) refl
  where
    by_test : (t : Bool) → (a == b) ≡ t → not t ≡ true
    by_test true e = absurd (apart (eqb-true a b e))
    by_test false e = refl

taken : (b : Bool) (x p : Block) → (if b then Some x else None) ≡ Some p → (b ≡ true) × (Some x ≡ Some p)
taken true x p e = (refl, e)
taken false x p e = cc

kept : (b : Bool) (x : Block) → b ≡ true → (if b then Some x else None) ≡ Some x
kept true x e = refl
kept false x e = cc

-- what it says that an interface shares a subnet
record Shares (port other : Port) : Type 0 where
  wired : other.interface.loopback ≡ false
  apart : other.router ≢ port.router
  subnet : other.subnet ≡ port.subnet

shares : (port other : Port) → shares_end port other ≡ true → Shares port other
shares port other e =
    let one = and_parts (not other.interface.loopback) _ e in
    let two = and_parts (not (other.router == port.router)) _ one.1 in
    let both = and_parts (other.subnet.base == port.subnet.base) _ two.1 in
    let base = eqb-true other.subnet.base port.subnet.base both.0 in
    let len = eqb-true other.subnet.len port.subnet.len both.1 in
    record {
      wired = not_true other.interface.loopback one.0;
      apart = λ same. cc (two.0, eq-eqb other.router port.router same);
      subnet = λ i. record { base = base i; len = len i };
    }

shares_back : (port other : Port) → Shares port other → shares_end port other ≡ true
shares_back port other s =
    and_true (not other.interface.loopback) _ (true_from other.interface.loopback s.wired)
    (and_true (not (other.router == port.router)) _ (differ other.router port.router s.apart)
    (and_true (other.subnet.base == port.subnet.base) _ (eq-eqb other.subnet.base port.subnet.base (ap (λ (b : Block). b.base) s.subnet))
    (eq-eqb other.subnet.len port.subnet.len (ap (λ (b : Block). b.len) s.subnet))))

-- ---- links ----

meets : (net : Network) (port : Port) (p : Block) → IsUpPort net port → port.interface.loopback ≡ false → port.subnet ≡ p → MeetsLink net p port.router
meets net port p is wired same = record {
  interface = port.interface;
  up = UpInterface-port net port is;
  wired = wired;
  subnet = is.subnet ∙ ap Some same;
}

-- the end of a link at a router, as a port
end_at : (net : Network) (p : Block) (u : ℕ) → MeetsLink net p u → Port
end_at net p u m = record { router = u; place = m.up.among.0; subnet = p; interface = m.interface }

is_end : (net : Network) (p : Block) (u : ℕ) → (m : MeetsLink net p u) → IsUpPort net (end_at net p u m)
unfolding end_at
is_end net p u m = record {
  config = m.up.config;
  router = m.up.router;
  at = slice_get-Contains m.up.config.interfaces m.interface m.up.among;
  up = m.up.up;
  subnet = m.subnet;
}

module _ (net : Network) (ports : List Port) (lists : ListsUpPorts (IsUpPort net) ports) where
  from_list : (p : Block) → Contains (filter_map (shared_by_end ports) ports) p → IsSharedLink net p
  from_list p h =
      let one = Contains-filter_map (shared_by_end ports) ports p h in
      let is = taken (is_shared_end ports one.item) one.item.subnet p one.gives in
      let tests = and_parts (not one.item.interface.loopback) _ is.0 in
      let same = same_subnet one.item.subnet p is.1 in
      let found = Any-from_list_any (shares_end one.item) ports tests.1 in
      let other = shares one.item found.1 found.4 in
      record {
        one = one.item.router;
        other = found.1.router;
        apart = other.apart;
        one_meets = meets net one.item p ((lists.exact one.item).0 one.among) (not_true one.item.interface.loopback tests.0) same;
        other_meets = meets net found.1 p ((lists.exact found.1).0 (found.0, found.2, found.3)) other.wired (other.subnet ∙ same);
      }
    where
      same_subnet : (x y : Block) → Some x ≡ Some y → x ≡ y
      same_subnet x y e = cc

  to_list : (p : Block) → IsSharedLink net p → Contains (filter_map (shared_by_end ports) ports) p
  unfolding end_at
  to_list p link =
      let one = end_at net p link.one link.one_meets in
      let other = end_at net p link.other link.other_meets in
      let here = (lists.exact one).1 (is_end net p link.one link.one_meets) in
      let there = (lists.exact other).1 (is_end net p link.other link.other_meets) in
      let shared : Shares one other = record { wired = link.other_meets.wired; apart = link.apart; subnet = refl } in
      let some = list_any-from_Any (shares_end one) ports (there.0, other, there.1, there.2, shares_back one other shared) in
      Contains-in_filter_map (shared_by_end ports) ports one p here
      (kept (is_shared_end ports one) p
      (and_true (not link.one_meets.interface.loopback) _ (true_from link.one_meets.interface.loopback link.one_meets.wired) some))

  pub ListsLinks-sorted : (ys zs : List Block) → IsPermutation (filter_map (shared_by_end ports) ports) ys → IsSorted block_cmp ys →
      zs ≡ dedup block_eq ys → ListsLinks net zs
  ListsLinks-sorted ys zs moved up is = record {
    exact = λ p. let same = same_prefixes (filter_map (shared_by_end ports) ports) ys zs p moved is in
        (λ c. from_list p (same.0 c), λ link. same.1 (to_list p link));
    ascending = λ i j d lower within. below _ _ (Less-from_sorted block_cmp zs i j d (sorted_once ys zs up is) lower within);
    once = apart_once ys zs up is;
  }
    where
      by_base : (x y : Block) (r s : Ordering) → r ≡ nat_cmp x.base y.base → s ≡ nat_cmp x.len y.len → ordering_then r s ≡ Less → IsBlockAtMost x y
      by_base x y Less s base len e = inl (ranked x.base y.base Less base)
      by_base x y Equal Less base len e = let shorter = ranked x.len y.len Less len in inr (ranked x.base y.base Equal base, omega (arith, shorter))
      by_base x y Equal Equal base len e = cc
      by_base x y Equal Greater base len e = cc
      by_base x y Greater s base len e = cc

      below : (x y : Block) → block_cmp x y ≡ Less → IsBlockAtMost x y
      below x y less = by_base x y (nat_cmp x.base y.base) (nat_cmp x.len y.len) refl refl less
