-- Numbers that come to a list, one thing that leads to some after another.
use Rattle.std.proofs.lemmas.Grind.{common_steps}
use Rattle.std.proofs.Common.{◌≡◌, ℕ, ◌+◌, ◌<◌, ◌≤◌, ◌↔◌, List, [], ◌∷◌, ◌++◌, length, take, get_or, refl, sym, ap, subst, ◌∙◌, inl, inr, arith, Contains}
use Rattle.std.proofs.lemmas.List.{take_more, take_all}
use Rattle.std.proofs.lemmas.List.Elements.{Contains-append_left, Contains-append_right, Contains-append_cases, Contains-push, Contains-push_cases}
use Rattle.walk_core.specs.steps.Adding.{AddsNumbers, SomeLeadsTo}

pub adds_nothing : (P : ℕ → Type 0) (old : List ℕ) → ((h : ℕ) → P h → ⊥) → AddsNumbers P old old
adds_nothing P old none h = (λ has. inl has, λ either. elim either [ inl has ↦ has | inr is ↦ absurd (none h is) ])

pub adds_one : (P : ℕ → Type 0) (old : List ℕ) (n : ℕ) → P n → ((h : ℕ) → P h → n ≡ h) → AddsNumbers P old (old ++ n ∷ [])
adds_one P old n here only h = (
  λ has. elim (Contains-push_cases old n h has) [
    | inl earlier ↦ inl earlier
    | inr same ↦ inr (subst P same here)
  ],
  λ either. elim either [
    | inl earlier ↦ Contains-append_left old (n ∷ []) h earlier
    | inr is ↦ subst (λ (x : ℕ). Contains (old ++ n ∷ []) x) (only h is) (Contains-push old n)
  ],
)

pub adds_same : (P Q : ℕ → Type 0) (old new : List ℕ) → ((h : ℕ) → P h → Q h) → ((h : ℕ) → Q h → P h) → AddsNumbers P old new → AddsNumbers Q old new
adds_same P Q old new there back adds h = (
  λ has. elim ((adds h).0 has) [ inl earlier ↦ inl earlier | inr is ↦ inr (there h is) ],
  λ either. elim either [ inl earlier ↦ (adds h).1 (inl earlier) | inr is ↦ (adds h).1 (inr (back h is)) ],
)

-- no thing leads anywhere
pub leads_nowhere : {X : Type 0} (Leads : X → ℕ → Type 0) (things : List X) (old : List ℕ) → AddsNumbers (SomeLeadsTo Leads (take 0 things)) old old
leads_nowhere {X} Leads things old = adds_nothing (SomeLeadsTo {X = X} Leads (take 0 things)) old (λ h leads. omega (arith, leads.among.1))

-- one more thing
pub leads_more : {X : Type 0} (Leads : X → ℕ → Type 0) (things : List X) (i : ℕ) (x : X) (old now new : List ℕ) → i < length things → get_or things i x ≡ x →
    AddsNumbers (SomeLeadsTo Leads (take i things)) old now → AddsNumbers (Leads x) now new → AddsNumbers (SomeLeadsTo Leads (take (i + 1) things)) old new
leads_more {X} Leads things i x old now new within at before adds =
    let front : List X = take i things in
    let more : take (i + 1) things ≡ front ++ x ∷ [] = take_more things i x within ∙ ap (λ (y : X). front ++ y ∷ []) at in
    subst (λ (l : List X). AddsNumbers (SomeLeadsTo Leads l) old new) (sym more) (λ h. (
      λ has. elim ((adds h).0 has) [
        | inl earlier ↦ elim ((before h).0 earlier) [
          | inl older ↦ inl older
          | inr to ↦ inr (record { thing = to.thing; among = Contains-append_left front (x ∷ []) to.thing to.among; leads = to.leads })
        ]
        | inr now_to ↦ inr (record { thing = x; among = Contains-push front x; leads = now_to })
      ],
      λ either. elim either [
        | inl older ↦ (adds h).1 (inl ((before h).1 (inl older)))
        | inr to ↦ elim (Contains-push_cases front x to.thing to.among) [
          | inl earlier ↦ (adds h).1 (inl ((before h).1 (inr (record { thing = to.thing; among = earlier; leads = to.leads }))))
          | inr same ↦ (adds h).1 (inr (subst (λ (y : X). Leads y h) (sym same) to.leads))
        ]
      ],
    ))

-- all things
pub leads_all : {X : Type 0} (Leads : X → ℕ → Type 0) (things : List X) (i : ℕ) (old new : List ℕ) → length things ≤ i →
    AddsNumbers (SomeLeadsTo Leads (take i things)) old new → AddsNumbers (SomeLeadsTo Leads things) old new
leads_all {X} Leads things i old new past adds = subst (λ (l : List X). AddsNumbers (SomeLeadsTo Leads l) old new) (take_all i things past) adds

-- what comes to no numbers are all of them
pub adds_to_none : (P : ℕ → Type 0) (old new : List ℕ) → old ≡ [] → AddsNumbers P old new → (h : ℕ) → Contains new h ↔ P h
adds_to_none P old new none adds h = grind (arith, common_steps)

-- a list behind another
pub adds_list : (old list : List ℕ) → AddsNumbers (λ h. Contains list h) old (old ++ list)
adds_list old list h = (
  λ has. Contains-append_cases old list h has,
  λ either. elim either [ inl earlier ↦ Contains-append_left old list h earlier | inr now ↦ Contains-append_right old list h now ],
)

-- a number below n leads to itself
abbrev pub IsBelow : ℕ → ℕ → ℕ → Type 0
IsBelow n x h = (h < n) × (x ≡ h)

pub adds_below : (n : ℕ) (list old new : List ℕ) → AddsNumbers (SomeLeadsTo (IsBelow n) list) old new → AddsNumbers (λ h. (h < n) × Contains list h) old new
adds_below n list old new =
    adds_same (SomeLeadsTo (IsBelow n) list) (λ h. (h < n) × Contains list h) old new
    (λ h to. (to.leads.0, subst (λ (x : ℕ). Contains list x) to.leads.1 to.among))
    (λ h both. record { thing = h; among = both.1; leads = (both.0, refl) })
