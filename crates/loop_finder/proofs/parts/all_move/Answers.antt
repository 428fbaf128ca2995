use Rattle.std.proofs.Common.{ℕ, List, Contains, inl, inr, subst, sym}
use Rattle.std.proofs.lemmas.List.Elements.{All-contains}
use Rattle.net_model.specs.Network.{Connected}
use Rattle.loop_finder.proofs.OnFalse.{on_true}
use Rattle.loop_finder.proofs.PartRows.{all_move_from}
use Rattle.loop_finder.specs.Mixes.{mix_of, class_in}
use Rattle.loop_finder.proofs.parts.all_move.Goals as goal

pub are_homes-requires : goal.are_homes-requires
are_homes-requires g c = rw c.as_slice.ensures.value c.requires.below

pub returns : goal.returns
returns g c = on_true c.are_homes.result c.are_homes.ensures (λ homes atom target read.
    all_move_from (class_in (mix_of g.O.RouteSource.table g.N.RouteSource.table c.args.mixed.now) atom) c.args.target c.args.making.now.lists
    target.network target.target read (λ u below. elim (c.requires.whole u below) [
      | inl among ↦ inr (All-contains (λ (v : ℕ). Connected c.args.mixed.now.net v c.args.target) c.as_slice.result.now u homes
          (subst (λ (xs : List ℕ). Contains xs u) (sym c.as_slice.ensures.value) among))
      | inr both ↦ inl both
    ]))
