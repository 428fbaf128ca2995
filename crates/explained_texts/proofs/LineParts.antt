-- Parts of lines: what an entry does, and the routers at which a prefix is connected.
use Rattle.std.proofs.Common.{◌≡◌, ◌∙◌, ℕ, ◌+◌, ◌<◌, inl, inr, List, [], ◌∷◌, ◌++◌, All, Contains, Some, length, map, slice_get}
use Rattle.std.proofs.Common.{ap, append_assoc, append-nil, arith, codes, subst, sym}
use Rattle.std.proofs.lemmas.Bool.{cases_lt}
use Rattle.std.proofs.lemmas.List.{map-append}
use Rattle.std.proofs.lemmas.List.Concat.{flat_map-append}
use Rattle.std.proofs.lemmas.List.Elements.{Contains-append_cases, Contains-append_left, Contains-append_right}
use Rattle.std.proofs.lemmas.Option.{get_or_from_slice_get, slice_get_within}
use Rattle.net_addr.specs.Addresses.{Block, IsBlock, default_prefix}
use Rattle.net_model.specs.Network.{Connected, Network}
use Rattle.net_model.specs.RouterNames.{names_of}
use Rattle.net_model.proofs.Members.{Contains-first, Contains-none}
use Rattle.printed_lines.specs.Words.{prefix_word, router_word, spaced}
use Rattle.route_core.specs.Tables.{AreTables}
use Rattle.route_core.specs.declared.entry.Entry.{Entry}
use Rattle.route_core.specs.declared.entry.Entry.TheVariants.{Via, Discard}
use Rattle.route_core.proofs.TableLaws.{Contains-from_place}
use Rattle.igp_theory.proofs.OrderedLists.{contains_one, pairs_append, pairs_more, pairs_none}
use Rattle.igp_theory.specs.Forwarding.{IsTarget}
use Rattle.igp_theory.specs.Migrations.{listed_migration}
use Rattle.igp_theory.specs.declared.phase.Phase.{Phase}
use Rattle.used_routes.specs.UsedRoutes.{IsUsedRoute, entry_at, usable_at}
use Rattle.used_routes.specs.declared.used.UsedRoute.{UsedRoute}
use Rattle.explained_texts.specs.UseWords.{AreUseWords, usable_words, uses_one}
use Rattle.explained_texts.specs.WayTexts.{IsTargetLine}
use Rattle.explained_texts.specs.steps.Mixing.{NamesOriginators}
use Rattle.igp_theory.specs.Routes.{HasHopsBelow}
use Rattle.explained_texts.proofs.ToldTexts.{word_on}

-- ---- entries ----

-- the hops of an entry of a source are routers
pub entry_hops : (routers n u place : ℕ) (table : ℕ → List (Block × Entry)) (linked : ℕ → ℕ → Type 0) (own : List (Block × Entry)) →
    AreTables routers table linked → routers ≡ n → u < n → own ≡ table u → (dest : Block) (entry : Entry) →
    slice_get own place ≡ Some (dest, entry) → HasHopsBelow n entry
entry_hops routers n u place table linked own lawful many within is dest (Via hops) at =
    subst (λ m. All (λ h. h < m) hops) many
    (lawful.hops u dest hops (omega (arith, many, within)) (subst (λ (l : List (Block × Entry)). Contains l (dest, Via hops)) is
    (Contains-from_place own place (dest, Via hops) at))).below
entry_hops routers n u place table linked own lawful many within is dest Discard at = tt

-- the entry at a place is the one that is read there
pub entry_read : (own table : List (Block × Entry)) (place : ℕ) (dest : Block) (entry : Entry) → own ≡ table →
    slice_get own place ≡ Some (dest, entry) → entry ≡ entry_at table place
entry_read own table place dest entry is at =
    sym (ap (λ (x : Block × Entry). x.1) (get_or_from_slice_get own place (dest, entry) (default_prefix, Discard) at))
    ∙ ap (λ (l : List (Block × Entry)). entry_at l place) is

-- ---- what a router uses ----

-- the words of a used route
pub route_words : (net : Network) (old new : ℕ → List (Block × Entry)) (u : ℕ) (phase : Phase) (a : ℕ) (route : UsedRoute) →
    IsUsedRoute net old new u phase a route → IsBlock route.prefix →
    AreUseWords (listed_migration net old new) u phase a
    (prefix_word route.prefix ∷ usable_words (names_of net) route.distance (usable_at (old u) (new u) route.origin))
route_words net old new u phase a route is block =
    let x = usable_at (old u) (new u) route.origin in
    subst (λ (d : ℕ). AreUseWords (listed_migration net old new) u phase a (prefix_word route.prefix ∷ usable_words (names_of net) d x))
    is.distance_is
    (subst (λ (p : Block). AreUseWords (listed_migration net old new) u phase a
    (prefix_word p ∷ usable_words (names_of net) is.uses.distance x)) is.prefix_is
    (uses_one x is.uses (subst IsBlock (sym is.prefix_is) block)))

-- the line of a router in a phase
pub use_line_is : {at named phased longer : List ℕ} (name phase : List ℕ) (words : List (List ℕ)) → at ≡ codes "at" →
    named ≡ at ++ 32 ∷ name → phased ≡ named ++ 32 ∷ phase → longer ≡ phased ++ spaced words →
    longer ++ 10 ∷ [] ≡ codes "at" ++ spaced (name ∷ phase ∷ words) ++ 10 ∷ []
use_line_is {at} {named} name phase words at_is named_is phased_is is =
    ap (λ (l : List ℕ). l ++ 10 ∷ []) (is ∙ word_on named phase words phased_is ∙ word_on at name (phase ∷ words) named_is
    ∙ ap (λ (l : List ℕ). l ++ spaced (name ∷ phase ∷ words)) at_is)

-- ---- originators ----

module _ (net : Network) (p : Block) (u : ℕ) (start line : List ℕ) (named : NamesOriginators net p u start line) where
  abbrev word : ℕ → List ℕ
  word = router_word (names_of net)

  grown : (longer : List ℕ) → longer ≡ line ++ 32 ∷ word u →
      longer ≡ start ++ spaced (map word (named.routers ++ u ∷ []))
  grown longer is =
      is ∙ ap (λ (l : List ℕ). l ++ 32 ∷ word u) named.longer_is
      ∙ append_assoc start (spaced (map word named.routers)) (32 ∷ word u)
      ∙ ap (λ (l : List ℕ). start ++ l)
      (sym (ap spaced (map-append word named.routers (u ∷ []))
      ∙ flat_map-append (λ (w : List ℕ). 32 ∷ w) (map word named.routers) (word u ∷ [])
      ∙ ap (λ (l : List ℕ). spaced (map word named.routers) ++ 32 ∷ l) (append-nil (word u))))

  pub one_more : (longer : List ℕ) → Connected net u p → longer ≡ line ++ 32 ∷ word u → NamesOriginators net p (u + 1) start longer
  one_more longer here is = record {
    routers = named.routers ++ u ∷ [];
    are = record {
      exact = λ v. (
        λ inside. elim (Contains-append_cases named.routers (u ∷ []) v inside) [
          | inl before ↦ let old = (named.are.exact v).0 before in let below = old.0 in (omega (arith, below), old.1)
          | inr last ↦ let same = contains_one u v last in (omega (arith, same), subst (λ w. Connected net w p) same here)
        ],
        λ at. elim (cases_lt v u) [
          | inl below ↦ Contains-append_left named.routers (u ∷ []) v ((named.are.exact v).1 (below, at.1))
          | inr from ↦
              let upto = at.0 in
              let same : u ≡ v = omega (arith, from, upto) in
              Contains-append_right named.routers (u ∷ []) v (subst (Contains (u ∷ [])) same (Contains-first u []))
        ],
      );
      ascending = pairs_append (λ v w. v < w) named.routers (u ∷ []) named.are.ascending
          (pairs_more (λ v w. v < w) u [] (λ w inside. absurd (Contains-none w inside)) (pairs_none (λ v w. v < w)))
          (λ v w before last. let below = ((named.are.exact v).0 before).0 in let same = contains_one u w last in omega (arith, below, same));
    };
    longer_is = grown longer is;
  }

  pub none_more : ¬ Connected net u p → NamesOriginators net p (u + 1) start line
  none_more away = record {
    routers = named.routers;
    are = record {
      exact = λ v. (
        λ inside. let old = (named.are.exact v).0 inside in let below = old.0 in (omega (arith, below), old.1),
        λ at. elim (cases_lt v u) [
          | inl below ↦ (named.are.exact v).1 (below, at.1)
          | inr from ↦
              let upto = at.0 in
              let same : v ≡ u = omega (arith, from, upto) in
              absurd (away (subst (λ w. Connected net w p) same at.1))
        ],
      );
      ascending = named.are.ascending;
    };
    longer_is = named.longer_is;
  }

-- ---- the line of a target ----

pub target_line_is : (net : Network) (a : ℕ) (p : Block) {start prefixed named longer : List ℕ} → IsTarget net a p → start ≡ codes "target" →
    prefixed ≡ start ++ 32 ∷ prefix_word p → named ≡ prefixed ++ 32 ∷ codes "at" → NamesOriginators net p (length net) named longer →
    IsTargetLine net a (longer ++ 10 ∷ [])
target_line_is net a p {start} {prefixed} is start_is prefixed_is named_is names =
    let routers = map (router_word (names_of net)) names.routers in
    record {
      target = p;
      is_target = is;
      routers = names.routers;
      originators = record {
        exact = λ u. (
          λ inside. ((names.are.exact u).0 inside).1,
          λ at. (names.are.exact u).1 (slice_get_within net u at.up.config at.up.router, at),
        );
        ascending = names.are.ascending;
      };
      text_is = ap (λ (l : List ℕ). l ++ 10 ∷ []) (names.longer_is ∙ word_on prefixed (codes "at") routers named_is
          ∙ word_on start (prefix_word p) (codes "at" ∷ routers) prefixed_is
          ∙ ap (λ (l : List ℕ). l ++ spaced (prefix_word p ∷ codes "at" ∷ routers)) start_is);
    }
