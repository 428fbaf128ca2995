-- A text that is written piece by piece.
use Rattle.std.proofs.lemmas.Grind.{common_steps}
use Rattle.std.proofs.Common.{◌≡◌, ℕ, ◌+◌, ◌-◌, ◌≤◌, List, ◌++◌, take, drop, Option, Result, OnErr, arith, ap, ◌∙◌, sym, subst}
use Rattle.std.proofs.lemmas.List.{take-append-drop}
use Rattle.std.proofs.Math.Seq.{take-add}
use Rattle.store_edge.specs.Sink.{AddsBytes, AddsFront}
use Rattle.store_edge.proofs.OutsideLaws.{AddsBytes-then, AddsFront-then, AddsFront-longer}

-- what holds holds on an error too
pub OnErr-from : {T E P : Type 0} (r : Result T E) → P → OnErr r P
OnErr-from r holds = grind (arith, common_steps)

-- a front and the piece after it are a longer front
pub front_and_piece : (text : List ℕ) (done stop : ℕ) → done ≤ stop → take done text ++ take (stop - done) (drop done text) ≡ take stop text
front_and_piece text done stop up =
    let e : done + (stop - done) ≡ stop = omega arith in
    sym (take-add done (stop - done) text) ∙ ap (λ n. take n text) e

-- the next piece of a text
pub adds_piece : (a b c : Option (List ℕ)) (text : List ℕ) (done stop : ℕ) → done ≤ stop → AddsBytes a b (take done text)
    → AddsBytes b c (take (stop - done) (drop done text)) → AddsBytes a c (take stop text)
adds_piece a b c text done stop up first next = grind (arith, common_steps, AddsBytes-then, front_and_piece)

-- a part of the next piece
pub adds_part : (a b c : Option (List ℕ)) (text : List ℕ) (done stop : ℕ) → done ≤ stop → AddsBytes a b (take done text)
    → AddsFront b c (take (stop - done) (drop done text)) → AddsFront a c text
adds_part a b c text done stop up first next =
    let front : AddsFront a c (take stop text) =
    subst (AddsFront a c) (front_and_piece text done stop up) (AddsFront-then a b c (take done text) (take (stop - done) (drop done text)) first next) in
    subst (AddsFront a c) (take-append-drop stop text) (AddsFront-longer a c (take stop text) (drop stop text) front)
