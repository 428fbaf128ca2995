use Rattle.std.proofs.Common.{◌≡◌, ◌<◌, ◌^◌, ℕ, List, get_or, arith, sym, subst, ◌∙◌}
use Rattle.std.proofs.lemmas.List.{get_or_default}
use Rattle.prefix_atoms.specs.Classes.{Classes, IsInClass}
use Rattle.prefix_atoms.specs.Numbers.{InInterval, TellClasses}
use Rattle.prefix_atoms.proofs.atoms.Atoms.of.Goals as goal

told : (k : Classes) (starts numbers : List ℕ) (i a n : ℕ) → TellClasses k starts numbers → InInterval starts i a → a < 2 ^ 32
    → n ≡ get_or numbers i n → IsInClass k n a
told k starts numbers i a n tell inside low read =
    let at : get_or numbers i 0 ≡ n = get_or_default numbers i 0 n (omega (arith, tell.count, inside.within)) ∙ sym read in
    subst (λ (m : ℕ). IsInClass k m a) at (tell.tell i a inside low)

pub returns : goal.returns
returns c =
    let inside : InInterval c.self.inside.starts.items c.interval_of.result c.args.a =
    subst (λ (xs : List ℕ). InInterval xs c.interval_of.result c.args.a) c.as_slice.ensures.value c.interval_of.ensures in
    subst (λ (k : Classes). IsInClass k c.index.result.now c.args.a) c.self.view_is
    (told _ c.self.inside.starts.items c.self.inside.numbers.items c.interval_of.result c.args.a c.index.result.now c.self.invariant.1 inside
    (omega arith) c.index.ensures)
