use Rattle.std.proofs.lemmas.Grind.{common_steps}
use Rattle.std.proofs.Common.{◌≡◌, ℕ, List, length, ap, ◌∙◌, arith, subst}
use Rattle.std.specs.Bool.{OnTrue}
use Rattle.net_model.specs.Network.{Network}
use Rattle.igp_theory.specs.Phases.{all_old, state_in}
use Rattle.igp_theory.specs.declared.phase.Phase.{Phase}
use Rattle.loop_finder.specs.Mixes.{mix_of}
use Rattle.loop_finder.specs.Parts.{ClassPart}
use Rattle.loop_finder.specs.Pieces.{ArePieces}
use Rattle.loop_finder.specs.Soundness.{Sound}
use Rattle.loop_finder.specs.Watches.{IsWatch}
use Rattle.loop_finder.proofs.OnFalse.{on_none}
use Rattle.loop_finder.proofs.finder.Finder.over.Goals as goal

pub state_fault-requires-clause-subject : goal.state_fault-requires-clause-subject
state_fault-requires-clause-subject g c = grind (arith, common_steps)

pub invariant_of-result : goal.invariant_of-result
invariant_of-result g c =
    let many = c.routers-routers.ensures.count ∙ ap (λ (n : Network). length n) c.net.ensures in
    record {
      few = omega (arith, c.routers-routers.type_inv, many);
      subject_is = record {
        parts_are = c.in_ok-parts.ensures;
        pieces_are = subst (λ (xs : List ClassPart). ArePieces xs (length c.args.mixed.now.net) c.in_ok-pieces.pieces) c.as_slice.ensures.value
            (subst (λ (n : ℕ). ArePieces c.as_slice.result.now n c.in_ok-pieces.pieces) many c.in_ok-pieces.ensures);
        watch_is = subst (λ (xs : List ClassPart). IsWatch xs (length c.args.mixed.now.net) c.in_ok-watch.watch.items) c.as_slice-2.ensures.value
            (subst (λ (n : ℕ). IsWatch c.as_slice-2.result.now n c.in_ok-watch.watch.items) many c.in_ok-watch.ensures);
      };
      times_many = c.in_ok-calm.ensures.times ∙ many;
      calm_is = c.in_ok-calm.ensures.calm;
      order_many = omega (arith, c.in_ok-order.ensures.len, many);
      order_is = λ k less. absurd (omega (arith, less));
      start_many = c.requires;
      old_is = subst (λ (xs : List Phase). OnTrue c.is_all_old-from_old.result (state_in xs ≡ all_old)) c.as_slice-3.ensures.value
          c.is_all_old-from_old.ensures;
      begun_is = subst (λ (xs : List Phase). OnTrue c.is_none-begun.result (Sound
          (mix_of g.O.RouteSource.table g.N.RouteSource.table c.args.mixed.now) (state_in xs)))
          c.as_slice-4.ensures.value
          (on_none (Sound (mix_of g.O.RouteSource.table g.N.RouteSource.table c.args.mixed.now) (state_in c.as_slice-4.result.now))
          c.state_fault.result c.is_none-begun.result c.is_none-begun.ensures c.state_fault.ensures.sound);
      asked_many = omega (arith, c.in_ok-asked.ensures.len, many);
      work_is = record {
        first = c.in_ok-work.ensures.work.first ∙ many;
        last = c.in_ok-work.ensures.work.last ∙ many;
        room = record {
          forwards = c.state_fault.ensures.room.forwards;
          live = c.state_fault.ensures.room.live;
          path = c.state_fault.ensures.room.path;
          ring = omega (arith, c.state_fault.ensures.room.ring, c.clear.ensures.capacity);
        };
      };
    }
