use Rattle.std.proofs.lemmas.Grind.{common_steps}
use Rattle.std.proofs.Common.{◌≡◌, ◌∙◌, ℕ, Option, None, Some, IfSome, ap, arith, refl}
use Rattle.std.proofs.lemmas.Option.{slice_get_within}
use Rattle.prefix_atoms.proofs.Pushed.{count_more, each_more}
use Rattle.rib_mix.specs.steps.Earlier.{IsEarlierPlain}
use Rattle.rib_mix.proofs.EarlierLaws.{no_firsts}
use Rattle.rib_mix.proofs.earlier.earlier_classes.Goals as goal

pub loop-atom-init : goal.loop-atom-init
loop-atom-init c = grind (arith, common_steps, no_firsts, slice_get_within)

-- what holds of each that is one holds of one, if there is one
each_some : (P : ℕ → Type 0) (o : Option ℕ) → ((other : ℕ) → o ≡ Some other → P other) → IfSome o P
each_some P None each = tt
each_some P (Some other) each = each other refl

pub loop-atom-preserved : goal.loop-atom-preserved
loop-atom-preserved c =
    let atom : ℕ = c.loop-atom.atom in
    record {
      firsts = c.take_first-first.ensures.firsts;
      count = count_more c.loop-atom.earlier.items c.push.new.self.items c.take_first-first.result atom
          c.loop-atom.invariant.count
          c.in_ok-push.ensures.items;
      each = λ k other at. each_more
          (λ (j : ℕ) (o : Option ℕ). IfSome o (IsEarlierPlain c.args.atoms.now c.args.sorts.now.of_places.items j))
          c.loop-atom.earlier.items c.push.new.self.items c.take_first-first.result atom c.loop-atom.invariant.count
          (λ j o at_j. each_some (IsEarlierPlain c.args.atoms.now c.args.sorts.now.of_places.items j) o
          (λ other is. c.loop-atom.invariant.each j other (at_j ∙ ap Some is)))
          c.in_ok-push.ensures.items c.take_first-first.ensures.earlier k (Some other) at;
    }

pub returns : goal.returns
returns c = grind (arith, common_steps)
