-- Bytes that a writer takes one after another.
use Rattle.std.proofs.Common.{ℕ, ◌+◌, ◌-◌, ◌≤◌, List, ◌++◌, length, take, drop, arith, length-drop, Option, Some, None, Result, Ok, Err}
use Rattle.std.proofs.Common.{OnErr, append_assoc, ap, ◌∙◌, subst, sym}
use Rattle.std.proofs.lemmas.List.{take-append-drop, take_rest}
use Rattle.std.proofs.Math.Seq.{take-add}
use Rattle.std.specs.Io.KnownBytes.{Appends, Keeps}
use Rattle.store_edge.specs.Transfer.{AppendsFront}

Appends-then : (a b c : Option (List ℕ)) (xs ys : List ℕ) → Appends a b xs → Appends b c ys → Appends a c (xs ++ ys)
Appends-then None b c xs ys first then' = tt
Appends-then (Some a) None c xs ys first then' = absurd first
Appends-then (Some a) (Some b) None xs ys first then' = absurd then'
Appends-then (Some a) (Some b) (Some c) xs ys first then' = then' ∙ ap (λ zs. zs ++ ys) first ∙ append_assoc a xs ys

Appends-keeps : (a b c : Option (List ℕ)) (xs : List ℕ) → Appends a b xs → Keeps b c → Appends a c xs
Appends-keeps None b c xs first then' = tt
Appends-keeps (Some a) None c xs first then' = absurd first
Appends-keeps (Some a) (Some b) None xs first then' = absurd then'
Appends-keeps (Some a) (Some b) (Some c) xs first then' = then' ∙ first

-- a writer that took a front of the piece took more of it
pub more_taken : (a b c : Option (List ℕ)) (piece : List ℕ) (done count : ℕ) → Appends a b (take done piece)
    → Appends b c (take count (take (length piece - done) (drop done piece))) → Appends a c (take (done + count) piece)
more_taken a b c piece done count first then' =
    let rest : Appends b c (take count (drop done piece)) = subst (λ (xs : List ℕ). Appends b c (take count xs)) (take_rest piece done) then' in
    subst (Appends a c) (sym (take-add done count piece)) (Appends-then a b c (take done piece) (take count (drop done piece)) first rest)

pub more_within : (piece : List ℕ) (done count : ℕ) → done ≤ length piece → count ≤ length (take (length piece - done) (drop done piece))
    → done + count ≤ length piece
more_within piece done count within more =
    let rest : count ≤ length (drop done piece) = subst (λ (xs : List ℕ). count ≤ length xs) (take_rest piece done) more in
    omega (arith, length-drop done piece)

-- a writer that took a front of the piece took no more
pub front_taken : (a b c : Option (List ℕ)) (piece : List ℕ) (done : ℕ) → Appends a b (take done piece) → Keeps b c → AppendsFront a c piece
front_taken a b c piece done first then' = record {
  front = take done piece;
  rest = drop done piece;
  cut = take-append-drop done piece;
  appends = Appends-keeps a b c (take done piece) first then';
}

-- what holds holds on an error too
pub OnErr-from : {T E P : Type 0} (r : Result T E) → P → OnErr r P
OnErr-from (Ok x) holds = tt
OnErr-from (Err e) holds = holds
