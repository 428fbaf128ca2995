use Rattle.std.proofs.Common.{◌≡◌, ℕ, List, map, All, Bor, sym, subst, ◌∙◌, arith}
use Rattle.std.proofs.lemmas.Bool.{false≢true}
use Rattle.std.proofs.lemmas.List.{get_or-map, length-map}
use Rattle.std.proofs.lemmas.List.Elements.{All-map}
use Rattle.change_orders.specs.ChangeWords.{IsChangeWord}
use Rattle.change_orders.proofs.words.changes_behind.Goals as goal

-- what words point to has the form of changes, told either way
unmapped : (words : List (Bor (List ℕ))) → All IsChangeWord (map (λ (word : Bor (List ℕ)). word.now) words) →
    All (λ (word : Bor (List ℕ)). IsChangeWord word.now) words
unmapped words all k d l =
    subst IsChangeWord (get_or-map (λ (word : Bor (List ℕ)). word.now) words k d d.now l)
    (all k d.now (omega (arith, l, length-map words (λ (word : Bor (List ℕ)). word.now))))

pub returns-then-are_changes : goal.returns-then-are_changes
returns-then-are_changes c =
    record {
      says = sym (rw c.in-Some.is at c.in_ok-words.ensures);
      changes = subst (All IsChangeWord) c.as_slice.ensures
          (All-map IsChangeWord (λ (word : Bor (List ℕ)). word.now) c.as_slice.result.now (c.are_changes.ensures.0 c.if-are_changes.true));
    }

pub returns : goal.returns
returns c = λ words says.
    let found = rw c.in-Some.is at c.in_ok-words.ensures in
    let one = says.says in
    let same : words ≡ c.in-Some.words = cc in
    false≢true (sym c.if-are_changes.false ∙ c.are_changes.ensures.1
    (unmapped c.as_slice.result.now (subst (All IsChangeWord) (same ∙ sym c.as_slice.ensures) says.changes)))
