-- The routers at which prefixes are connected, as they are found.
use Rattle.std.proofs.lemmas.Grind.{common_steps}
use Rattle.std.proofs.Common.{◌≡◌, ◌≢◌, ℕ, ◌+◌, ◌<◌, ◌≤◌, ◌⊎◌, ◌↔◌, inl, inr, List, [], ◌∷◌, ◌++◌, Contains, Option, Some, None}
use Rattle.std.proofs.Common.{IfNone, IfSome, IsTrue}
use Rattle.std.proofs.Common.{length, get_or, set, slice_get, replicate, arith, sym, subst, ◌∙◌, ⊎_elim}
use Rattle.std.proofs.Common.{get_or-set_other, get_or-set_same}
use Rattle.std.proofs.lemmas.Bool.{cases_eq, cases_lt}
use Rattle.std.proofs.lemmas.List.{get_or-replicate, length-replicate, length-set}
use Rattle.std.proofs.lemmas.List.Elements.{Contains-append_left, Contains-push, Contains-push_cases}
use Rattle.std.proofs.lemmas.Bool.Decides.{Decides-eqb}
use Rattle.std.proofs.lemmas.Map.Made.{is_member-Decides}
use Rattle.std.proofs.lemmas.Option.{same_Some, slice_get-get_or, slice_get_within}
use Rattle.net_addr.specs.Addresses.{Block}
use Rattle.net_model.specs.Network.{Network}
use Rattle.route_core.proofs.TableLaws.{Contains-from_place}
use Rattle.prefix_atoms.specs.Nested.{AreAscendingPrefixes}
use Rattle.prefix_atoms.proofs.ClassFacts.{one_place}
use Rattle.prefix_atoms.proofs.NestedLaws.{ascending_apart}
use Rattle.rib_mix.specs.Rows.{AreAllSubnets}
use Rattle.rib_mix.specs.steps.Homes.{AreHomesBelow, AreNetHomes, ArePrefixHomes, GainHomes, is_home, with_home}
use Rattle.rib_mix.specs.steps.WayUp.{AreConnectedAt}

-- no prefix has homes before the first router
pub no_homes_yet : (prefixes : List Block) (subnets : List (List Block)) (homes : List (List ℕ))
    → homes ≡ replicate (length prefixes) []
    → AreHomesBelow prefixes subnets 0 homes
no_homes_yet prefixes subnets homes are = grind (arith, common_steps, get_or-replicate, length-replicate, slice_get_within)

-- no prefix gains a home where none is seen
pub no_gain : (prefixes : List Block) (router : ℕ) (homes : List (List ℕ)) → GainHomes prefixes router [] homes homes
no_gain prefixes router homes = grind (arith, common_steps)

-- one prefix more is seen
pub home_next : (prefixes seen : List Block) (router : ℕ) (p : Block) (place : Option ℕ) (old mid new : List (List ℕ))
    → AreAscendingPrefixes prefixes
    → length old ≡ length prefixes → IfSome place (λ k. slice_get prefixes k ≡ Some p) → IfNone place (¬ Contains prefixes p)
    → new ≡ with_home place router mid → GainHomes prefixes router seen old mid
    → GainHomes prefixes router (seen ++ p ∷ []) old new
home_next prefixes seen router p place old mid new up long found missed is gain =
    subst (GainHomes prefixes router (seen ++ p ∷ []) old) (sym is) (by_place place found missed)
  where
    Has : List (List ℕ) → ℕ → ℕ → Type 0
    Has homes i v = Contains (get_or homes i []) v

    -- a prefix that isn't the next one gains what it gained
    later : (i v : ℕ) (q : Block) → p ≢ q → slice_get prefixes i ≡ Some q
        → Has mid i v ↔ (Has old i v ⊎ ((router ≡ v) × Contains (seen ++ p ∷ []) q))
    later i v q apart at = (
      λ has. elim ((gain.each i v q at).0 has) [
        | inl had ↦ inl had
        | inr own ↦ inr (
          own.0,
          Contains-append_left seen
              (p ∷ []) q own.1,
        )
      ],
      λ h. (gain.each i v q at).1 (elim h [
        | inl had ↦ inl had
        | inr own ↦ elim (Contains-push_cases seen p q own.1) [ inl among ↦ inr (own.0, among) | inr same ↦ absurd (apart same) ]
      ]),
    )

    by_place : (o : Option ℕ) → IfSome o (λ k. slice_get prefixes k ≡ Some p) → IfNone o (¬ Contains prefixes p)
        → GainHomes prefixes router (seen ++ p ∷ []) old (with_home o router mid)
    by_place None found missed = record {
      count = gain.count;
      each = λ i v q at. later i v q (λ same. missed (subst (Contains prefixes) (sym same)
          (Contains-from_place prefixes i q at))) at;
    }
    by_place (Some j) found missed = record { count = length-set mid j own ∙ gain.count; each = each }
      where
        own : List ℕ
        own = get_or mid j [] ++ router ∷ []

        within : j < length mid
        within = omega (arith, slice_get_within prefixes j p found, gain.count, long)

        Gained : ℕ → ℕ → Block → Type 0
        Gained i v q = Has (set mid j own) i v ↔ (Has old i v ⊎ ((router ≡ v) × Contains (seen ++ p ∷ []) q))

        here : (v : ℕ) → Gained j v p
        here v =
            let read : get_or (set mid j own) j [] ≡ own = get_or-set_same mid j own [] within in (
              λ has. elim (Contains-push_cases (get_or mid j []) router v (subst (λ (h : List ℕ). Contains h v) read has)) [
                | inl had ↦ later_here v had
                | inr same ↦ inr (same, Contains-push seen p)
              ],
              λ h. subst (λ (hs : List ℕ). Contains hs v) (sym read) (elim h [
                | inl had ↦ Contains-append_left (get_or mid j []) (router ∷ []) v ((gain.each j v p found).1 (inl had))
                | inr gained ↦ subst (Contains own) gained.0 (Contains-push (get_or mid j []) router)
              ]),
            )
          where
            later_here : (v : ℕ) → Has mid j v → Has old j v ⊎ ((router ≡ v) × Contains (seen ++ p ∷ []) p)
            later_here v had = elim ((gain.each j v p found).0 had) [
              | inl old ↦ inl old
              | inr gained ↦ inr
                  (gained.0, Contains-push seen p)
            ]

        each : (i v : ℕ) (q : Block) → slice_get prefixes i ≡ Some q → Gained i v q
        each i v q at = ⊎_elim
            (λ (same : i ≡ j).
            let is_p : p ≡ q = same_Some p q (sym found ∙ subst (λ (k : ℕ). slice_get prefixes k ≡ Some q) same at) in
            subst (λ (k : ℕ). Gained k v q) (sym same) (subst (λ (r : Block). Gained j v r) is_p (here v)))
            (λ (apart : i ≢ j).
            let read : get_or (set mid j own) i [] ≡ get_or mid i [] = get_or-set_other mid j i own [] apart in
            subst (λ (h : List ℕ). Contains h v ↔ (Has old i v ⊎ ((router ≡ v) × Contains (seen ++ p ∷ []) q))) (sym read)
            (later i v q
            (λ same. apart (one_place prefixes i j p (ascending_apart prefixes up)
            (subst (λ (x : Block). slice_get prefixes i ≡ Some x) (sym same) at) found)) at))
            (cases_eq i j)

-- one router more is seen
pub router_next : (prefixes : List Block) (subnets : List (List Block)) (u : ℕ) (old new : List (List ℕ))
    → AreHomesBelow prefixes subnets u old
    → GainHomes prefixes u (get_or subnets u []) old new → AreHomesBelow prefixes subnets (u + 1) new
router_next prefixes subnets u old new are gain = record {
  count = gain.count ∙ are.count;
  each = λ i v p at. (
    λ has. elim ((gain.each i v p at).0 has) [
      | inl had ↦ let home = (are.each i v p at).0 had in (omega (arith, home.0), home.1)
      | inr own ↦ (omega (arith, own.0), subst (λ (w : ℕ). Contains (get_or subnets w []) p) own.0 own.1)
    ],
    λ home. (gain.each i v p at).1 (⊎_elim
        (λ (l : v < u). inl ((are.each i v p at).1 (l, home.1)))
        (λ (l : u ≤ v).
        let same : u ≡ v = omega (arith, home.0) in
        inr (same, subst (λ (w : ℕ). Contains (get_or subnets w []) p) (sym same) home.1))
        (cases_lt v u)),
  );
}

-- by the connected prefixes of all routers these are the homes in the network
pub net_homes : (net : Network) (prefixes : List Block) (subnets : List (List Block)) (homes : List (List ℕ)) → AreAllSubnets net subnets
    → ArePrefixHomes prefixes subnets homes → AreNetHomes net prefixes homes
net_homes net prefixes subnets homes all are = record {
  count = are.count;
  each = λ i v p at. (
    λ has.
        let home = (are.each i v p at).0 has in
        (all.each v (get_or subnets v []) (slice_get-get_or subnets v [] home.0) p).0 home.1,
    λ connected.
        let within : v < length subnets = omega (arith, slice_get_within net v connected.up.config connected.up.router, all.count) in
        (are.each i v p at).1 (within, (all.each v (get_or subnets v []) (slice_get-get_or subnets v [] within) p).1 connected),
  );
}

-- a router is a home where it is one of those that are listed
pub home_listed : (homes : List (List ℕ)) (u place : ℕ) → IsTrue (is_home homes u place) ↔ Contains (get_or homes place []) u
home_listed homes u place = is_member-Decides Decides-eqb (get_or homes place []) u

-- so the homes tell at which places prefixes are connected
pub connected_at : (net : Network) (u : ℕ) (prefixes : List Block) (homes : List (List ℕ)) → AreNetHomes net prefixes homes
    → AreConnectedAt net u prefixes (is_home homes u)
connected_at net u prefixes homes are place p at = (
  λ is. (are.each place u p at).0 ((home_listed homes u place).0 is),
  λ connected. (home_listed homes u place).1 ((are.each place u p at).1 connected),
)
