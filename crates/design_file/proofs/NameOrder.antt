-- The names of a table's entries ascend.
use Rattle.std.proofs.lemmas.Grind.{common_steps}
use Rattle.std.proofs.Common.{◌≡◌, List, [], ◌∷◌, ◌++◌, String, Global, string_bytes, All, AllPairs, arith}
use Rattle.std.specs.List.{AllByRecursion}
use Rattle.std.specs.List.Sorted.{IsStrictlySortedBy}
use Rattle.std.specs.Map.{keys_of}
use Rattle.std.specs.String.{string_cmp}
use Rattle.std.specs.declared.cmp.Ordering.TheVariants.{Less}
use Rattle.std.proofs.lemmas.List.Elements.{All-cons, All-nil}
use Rattle.std.proofs.lemmas.List.Kept.{AllPairs-cons}
use Rattle.net_model.specs.Refusals.{IsBelow}
use Rattle.toml.specs.Data.{Data}
use Rattle.toml.specs.View.{members_view, view}
use Rattle.toml.proofs.Views.{Entry}
use Rattle.design_file.specs.Designs.{each_said}
use Rattle.ios_lines.specs.Words.{Word}

module _ {X : Type 0} (name : X → Word) (says : Word → Data → X) (named : (key : Word) (value : Data) → name (says key value) ≡ key) where
  all_above : (k : String Global) (es : List Entry) → AllByRecursion (λ y. string_cmp k y ≡ Less) (keys_of es) →
      All (λ x. IsBelow (string_bytes k) (name x)) (each_said says (members_view es))
  all_above k [] h = All-nil (λ x. IsBelow (string_bytes k) (name x))
  all_above k (e ∷ es) h =
      All-cons (λ x. IsBelow (string_bytes k) (name x)) (says (string_bytes e.0) (view e.1)) (each_said says (members_view es))
      (rw (named (string_bytes e.0) (view e.1)) h.0) (all_above k es h.1)

  -- what the entries of a table say ascends by name, as their keys do
  pub each_ascends : (es : List Entry) → IsStrictlySortedBy string_cmp (keys_of es) →
      AllPairs (λ x y. IsBelow (name x) (name y)) (each_said says (members_view es))
  unfolding IsStrictlySortedBy
  each_ascends [] h = λ i j d l m. absurd (omega (arith, m))
  each_ascends (e ∷ es) h =
      AllPairs-cons (λ x y. IsBelow (name x) (name y)) (says (string_bytes e.0) (view e.1)) (each_said says (members_view es))
      (rw (named (string_bytes e.0) (view e.1)) (all_above e.0 es h.0)) (each_ascends es h.1)

-- one more entry is looked at
pub each_step : {X : Type 0} (says : Word → Data → X) (done all : List X) (entries rest : List Entry) (e : Entry) (one : X) → entries ≡ e ∷ rest →
    one ≡ says (string_bytes e.0) (view e.1) →
    done ++ each_said says (members_view entries) ≡ all → (done ++ one ∷ []) ++ each_said says (members_view rest) ≡ all
each_step says done all entries rest e one iter is before = grind (arith, common_steps)
