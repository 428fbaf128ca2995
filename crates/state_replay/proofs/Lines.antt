-- The lines of a journal: each tells one change at most.
use Rattle.std.proofs.lemmas.Grind.{common_steps}
use Rattle.std.proofs.Common.{◌≡◌, ℕ, ◌+◌, ◌-◌, ◌<◌, ◌≤◌, List, ◌++◌, length, take, drop, sym, ap}
use Rattle.std.proofs.Common.{subst, ◌∙◌, length-append, arith}
use Rattle.std.proofs.lemmas.List.{take-append-le, drop-append-le, take_all, drop_all}
use Rattle.net_model.specs.Lookups.{IsNamed}
use Rattle.net_model.specs.Network.{Network}
use Rattle.net_model.specs.Refusals.{NamesAscend}
use Rattle.net_model.proofs.NetworkFacts.{IsNamed-unique}
use Rattle.net_model.proofs.Names.{named_within}
use Rattle.igp_theory.specs.Changes.{Change, changed}
use Rattle.state_replay.specs.Halves.{change_of, ending_of}
use Rattle.state_replay.specs.Journals.{TellsChange}
use Rattle.state_replay.specs.declared.half.Half.{Half}

pub ending_long : (half : Half) → length (ending_of half) ≡ 2
ending_long half = grind (arith, common_steps)

-- the two parts of a line
pub record IsParted (line name end : List ℕ) : Type 0 where
  pub front : take (length line - 2) line ≡ name
  pub back : drop (length line - 2) line ≡ end
  pub long : 2 ≤ length line

pub parted : (line name end : List ℕ) → line ≡ name ++ end → length end ≡ 2 → IsParted line name end
parted line name end same two =
    let long : length line ≡ length name + 2 = ap length same ∙ length-append name end ∙ ap (λ k. length name + k) two in
    let cut : length line - 2 ≡ length name = omega (arith, long) in
    record {
      front =
          ap (λ k. take k line) cut ∙ ap (take (length name)) same ∙ take-append-le (length name) name end (omega arith)
          ∙ take_all (length name) name (omega arith);
      back =
          ap (λ k. drop k line) cut
          ∙ ap (drop (length name)) same
          ∙ drop-append-le (length name) name end (omega arith)
          ∙ ap (λ l. l ++ end) (drop_all (length name) name (omega arith));
      long = omega (arith, long);
    }

one_half : (half other : Half) → ending_of half ≡ ending_of other → half ≡ other
one_half half other same = grind arith

-- a line tells one change at most
pub told_once : (net : Network) → NamesAscend net → (line : List ℕ) (c d : Change) → TellsChange net line c → TellsChange net line d → c ≡ d
told_once net ascending line c d one two =
    let p = parted line one.name (ending_of one.half) one.bytes (ending_long one.half) in
    let q = parted line two.name (ending_of two.half) two.bytes (ending_long two.half) in
    let names : one.name ≡ two.name = sym p.front ∙ q.front in
    let halves : one.half ≡ two.half = one_half one.half two.half (sym p.back ∙ q.back) in
    let routers : one.router ≡ two.router =
    IsNamed-unique net two.name one.router two.router ascending (subst (λ name. IsNamed net name one.router) names one.named) two.named in
    one.is ∙ ap (λ u. change_of u one.half) routers ∙ ap (change_of two.router) halves ∙ sym two.is

pub changed_is : (u : ℕ) (half : Half) → changed (change_of u half) ≡ u
changed_is u half = grind (arith, common_steps)

-- the router of a change that a line tells is one of the network
pub told_below : (net : Network) (line : List ℕ) (u : ℕ) (half : Half) → TellsChange net line (change_of u half) → u < length net
told_below net line u half told =
    subst (λ v. v < length net) (sym (ap changed told.is ∙ changed_is told.router told.half) ∙ changed_is u half)
    (named_within net told.name told.router told.named)

-- ---- which change a line tells ----

module _ (net : Network) (line : List ℕ) where
  parts_of : (c : Change) (told : TellsChange net line c) → IsParted line told.name (ending_of told.half)
  parts_of c told = parted line told.name (ending_of told.half) told.bytes (ending_long told.half)

  pub no_name_told : ((u : ℕ) → IsNamed net (take (length line - 2) line) u → ⊥) → (c : Change) → TellsChange net line c → ⊥
  no_name_told none c told = none told.router (subst (λ name. IsNamed net name told.router) (sym (parts_of c told).front) told.named)
