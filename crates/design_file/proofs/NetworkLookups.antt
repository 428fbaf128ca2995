-- Looking up routers and interfaces by their names.
use Rattle.std.proofs.Common.{arith}
use Rattle.std.proofs.lemmas.Grind.{common_steps}
use Rattle.std.proofs.Common.{◌≡◌, ℕ, zero, suc, Bool, true, false, ◌&&◌, ◌||◌, cond, ◌+◌, List, []}
use Rattle.std.proofs.Common.{◌∷◌, drop, Some, None, Contains, IsSome, sym, ap, ◌∙◌, inl, inr, ⊎_elim}
use Rattle.std.specs.List.{slice_get}
use Rattle.std.specs.Option.{is_some}
use Rattle.std.specs.Str.{bytes_eq}
use Rattle.std.proofs.lemmas.Bool.{cases_Bool, and_parts, false≢true}
use Rattle.std.proofs.lemmas.List.{drop_more}
use Rattle.std.proofs.lemmas.Option.{get_or_from_slice_get, same_Some, slice_get_within}
use Rattle.std.proofs.lemmas.Slice.Eq.{bytes_eq-Decides}
use Rattle.net_model.specs.Configuration.{Configuration}
use Rattle.net_model.specs.Network.{Network, HasConfiguration}
use Rattle.net_model.specs.declared.interface.Interface.{Interface}
use Rattle.net_model.proofs.Members.{Contains-cases, Contains-first, Contains-none, Contains-rest}
use Rattle.ios_lines.specs.Words.{Word}
use Rattle.design_file.specs.steps.NetworkFaultLists.{config_named, has_addressed}

pub same_text : (a b : Word) → bytes_eq a b ≡ true → a ≡ b
same_text a b = (bytes_eq-Decides a b).0

pub text_is : (a b : Word) → a ≡ b → bytes_eq a b ≡ true
text_is a b = (bytes_eq-Decides a b).1

-- a configuration of this name, at its router
pub record IsAt (net : Network) (name : Word) (config : Configuration) : Type 0 where
  pub router : ℕ
  pub at : HasConfiguration net router config
  pub name_is : config.name ≡ name

further : (first : Configuration) (net : Network) (name : Word) (config : Configuration) → IsAt net name config → IsAt (first ∷ net) name config
further first net name config at = record { router = suc at.router; at = at.at; name_is = at.name_is }

pub named_at : (net : Network) (name : Word) (config : Configuration) → config_named name net ≡ Some config → IsAt net name config
named_at [] name config e = cc
named_at (first ∷ net) name config e =
    elim (cases_Bool (bytes_eq first.name name)) [
      | inl same ↦
          let found : Some first ≡ Some config = sym (ap (λ b. cond b (Some first) (config_named name net)) same) ∙ e in
          let is = same_Some first config found in
          record { router = 0; at = ap Some is; name_is = ap (λ (c : Configuration). c.name) (sym is) ∙ same_text first.name name same }
      | inr other ↦
          further first net name config (named_at net name config (sym (ap (λ b. cond b (Some first) (config_named name net)) other) ∙ e))
    ]

-- where no configuration of the name is found no router has it
pub none_named : (net : Network) (name : Word) → config_named name net ≡ None → (u : ℕ) (config : Configuration) → HasConfiguration net u config →
    config.name ≡ name → ⊥
none_named [] name e u config h n = cc
none_named (first ∷ net) name e zero config h n =
    let is = same_Some first config h in
    let same = text_is first.name name (ap (λ (c : Configuration). c.name) is ∙ n) in
    let found : Some first ≡ None = sym (ap (λ b. cond b (Some first) (config_named name net)) same) ∙ e in
    cc
none_named (first ∷ net) name e (suc u) config h n =
    elim (cases_Bool (bytes_eq first.name name)) [
      | inl same ↦
          let found : Some first ≡ None = sym (ap (λ b. cond b (Some first) (config_named name net)) same) ∙ e in
          absurd cc
      | inr other ↦ none_named net name (sym (ap (λ b. cond b (Some first) (config_named name net)) other) ∙ e) u config h n
    ]

pub addressed_from : (interfaces : List Interface) (name : Word) → has_addressed name interfaces ≡ true →
    (interface : Interface) × Contains interfaces interface × (interface.name ≡ name) × IsSome interface.subnet
addressed_from [] name e = absurd (false≢true e)
addressed_from (first ∷ more) name e =
    elim (cases_Bool (bytes_eq first.name name && is_some first.subnet)) [
      | inl both ↦
          let parts = and_parts (bytes_eq first.name name) (is_some first.subnet) both in
          (first, Contains-first first more, same_text first.name name parts.0, parts.1)
      | inr neither ↦
          let rest = addressed_from more name (sym (ap (λ b. b || has_addressed name more) neither) ∙ e) in
          (rest.0, Contains-rest first more rest.0 rest.1, rest.2, rest.3)
    ]

or_right : (a b : Bool) → b ≡ true → (a || b) ≡ true
or_right a b e = grind (arith, common_steps)

pub addressed_is : (interfaces : List Interface) (name : Word) (interface : Interface) → Contains interfaces interface → interface.name ≡ name →
    IsSome interface.subnet → has_addressed name interfaces ≡ true
addressed_is [] name interface c n s = absurd (Contains-none interface c)
addressed_is (first ∷ more) name interface c n s =
    ⊎_elim
    (λ e.
    let same = text_is first.name name (ap (λ (i : Interface). i.name) e ∙ n) in
    let some : is_some first.subnet ≡ true = ap (λ (i : Interface). is_some i.subnet) e ∙ s in
    ap (λ b. (b && is_some first.subnet) || has_addressed name more) same ∙ ap (λ b. b || has_addressed name more) some)
    (λ r. or_right (bytes_eq first.name name && is_some first.subnet) (has_addressed name more) (addressed_is more name interface r n s))
    (Contains-cases first more interface c)

-- what stands from a place on begins with what stands there
pub drop_at : {X : Type 0} (xs : List X) (u : ℕ) (x : X) → slice_get xs u ≡ Some x → drop u xs ≡ x ∷ drop (u + 1) xs
drop_at xs u x e = drop_more xs u x (slice_get_within xs u x e) ∙ ap (λ y. y ∷ drop (u + 1) xs) (get_or_from_slice_get xs u x x e)

-- the first of the name is the one at a place behind others of other names
pub found_here : (net : Network) (name : Word) (u : ℕ) (config : Configuration) → HasConfiguration net u config →
    config_named name (drop u net) ≡ config_named name net →
    bytes_eq config.name name ≡ true → Some config ≡ config_named name net
found_here net name u config at before same = grind (arith, common_steps, drop_at)

pub passed_here : (net : Network) (name : Word) (u : ℕ) (config : Configuration) → HasConfiguration net u config →
    config_named name (drop u net) ≡ config_named name net →
    bytes_eq config.name name ≡ false → config_named name (drop (u + 1) net) ≡ config_named name net
passed_here net name u config at before other = grind (arith, common_steps, drop_at)
