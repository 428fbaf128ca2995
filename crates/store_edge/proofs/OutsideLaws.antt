-- Laws of counts of faults, and of pieces written one after another.
use Rattle.std.proofs.Common.{ℕ, List, ◌++◌, Option, Some, None, append_assoc, ap, ◌∙◌, sym}
use Rattle.store_edge.specs.Sink.{AddsBytes, AddsFront}

-- a piece, and then another
pub AddsBytes-then : (a b c : Option (List ℕ)) (xs ys : List ℕ) → AddsBytes a b xs → AddsBytes b c ys → AddsBytes a c (xs ++ ys)
AddsBytes-then a b None xs ys first then' = tt
AddsBytes-then None None (Some c) xs ys first then' = then'
AddsBytes-then None (Some b) (Some c) xs ys first then' = first
AddsBytes-then (Some a) None (Some c) xs ys first then' = absurd then'
AddsBytes-then (Some a) (Some b) (Some c) xs ys first then' = then' ∙ ap (λ zs. zs ++ ys) first ∙ append_assoc a xs ys

-- a piece, and then a cut one
pub AddsFront-then : (a b c : Option (List ℕ)) (xs piece : List ℕ) → AddsBytes a b xs → AddsFront b c piece → AddsFront a c (xs ++ piece)
AddsFront-then a b c xs piece first then' = record {
  front = xs ++ then'.front;
  rest = then'.rest;
  cut = append_assoc xs then'.front then'.rest ∙ ap (λ zs. xs ++ zs) then'.cut;
  adds = AddsBytes-then a b c xs then'.front first then'.adds;
}

-- a front of a piece is a front of what begins with the piece
pub AddsFront-longer : (a b : Option (List ℕ)) (piece more : List ℕ) → AddsFront a b piece → AddsFront a b (piece ++ more)
AddsFront-longer a b piece more cut = record {
  front = cut.front;
  rest = cut.rest ++ more;
  cut = sym (append_assoc cut.front cut.rest more) ∙ ap (λ zs. zs ++ more) cut.cut;
  adds = cut.adds;
}
