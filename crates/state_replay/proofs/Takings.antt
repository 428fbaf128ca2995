-- How the line of a journal is taken: its change is made where it may come next.
use Rattle.std.proofs.Common.{◌≡◌, ◌≢◌, ℕ, ◌<◌, List, length, set, Option, Some, None, refl, sym, ap, subst, true, false}
use Rattle.net_model.specs.Refusals.{NamesAscend}
use Rattle.order_core.specs.Rankings.{IsRanking}
use Rattle.igp_theory.specs.Changes.{Change}
use Rattle.state_replay.specs.Halves.{half_number, change_of}
use Rattle.state_replay.specs.Journals.{BeginRun, MayComeNext, AreChangeCounts, TellsChange, IsNextAfter, IsNextOn, Progress}
use Rattle.state_replay.specs.steps.Making.{MakesChange}
use Rattle.state_replay.specs.declared.half.Half.{Half}
use Rattle.state_replay.proofs.Fronts.{front_of_run}
use Rattle.state_replay.proofs.NextChanges.{next_fits, counts_more}
use Rattle.state_replay.proofs.Lines.{told_once}

module _ (p : Progress) (line : List ℕ) (ascending : NamesAscend p.net) (ranking : IsRanking (length p.net) p.ranks) (u : ℕ) (half : Half)
    (told : TellsChange p.net line (change_of u half))
  where
    -- what may come next on the router
    next_after : (next : Option Half) → IsNextOn p.ranks p.done u next → (changes : List Change) → BeginRun (length p.net) p.ranks changes →
        AreChangeCounts (length p.net) changes p.done → IsNextAfter (MayComeNext (length p.net) p.ranks changes) u next
    next_after next is changes begin counts =
        subst (λ n. IsNextAfter (MayComeNext n p.ranks changes) u next) ranking.each
        (is changes (subst (λ n. BeginRun n p.ranks changes) (sym ranking.each) begin) (subst (λ n. AreChangeCounts n changes p.done)
        (sym ranking.each) counts))

    is_next : (next : Option Half) (MayCome : Change → Type 0) → IsNextAfter MayCome u next → MayCome (change_of u half) → next ≡ Some half
    is_next None MayCome none may = absurd (none half may)
    is_next (Some other) MayCome is may = ap Some (sym ((is half).0 may))

    -- where another change or none may come next a line makes none
    pub not_next : (next : Option Half) → IsNextOn p.ranks p.done u next → next ≢ Some half → MakesChange p line p.done false
    not_next next is apart changes begin counts = record {
      misfit = λ c its may.
          apart (is_next next (MayComeNext (length p.net) p.ranks changes) (next_after next is changes begin counts)
          (subst (MayComeNext (length p.net) p.ranks changes) (told_once p.net ascending line c (change_of u half) its told) may));
      stay = refl;
    }

    pub made_next : u < length p.net → IsNextOn p.ranks p.done u (Some half) → MakesChange p line (set p.done u (half_number half)) true
    made_next below is changes begin counts =
        let next : MayComeNext (length p.net) p.ranks changes (change_of u half) = (next_after (Some half) is changes begin counts half).1 refl in
        record {
          change = change_of u half;
          told = told;
          next = next;
          counts =
              counts_more (length p.net) p.ranks changes p.done u half counts below
              (next_fits (length p.net) p.ranks changes (front_of_run (length p.net) p.ranks changes begin) p.done u half ranking counts below next);
        }
