-- From the verdict on the lines of nodes to that on the text.
use Rattle.std.proofs.lemmas.Grind.{common_steps}
use Rattle.std.proofs.Common.{◌≡◌, ℕ, ◌+◌, ◌*◌, ◌<◌, List, [], ◌∷◌, ◌++◌, get_or, length, map, replicate, take, arith, sym, ap}
use Rattle.std.proofs.lemmas.List.{take_more}
use Rattle.std.proofs.lemmas.List.Elements.{All-map, All-nil, Contains-get_or}
use Rattle.order_core.specs.Pairs.{Pair, AreBelow}
use Rattle.order_core.specs.Rankings.{numbers_below}
use Rattle.order_core.specs.Turns.{child_pairs}
use Rattle.order_core.specs.declared.turn.Tag.TheVariants as tag
use Rattle.order_core.proofs.WaveLists.{numbers_are_below}
use Rattle.igp_theory.specs.Changes.{first, second}
use Rattle.igp_theory.specs.Timetables.{change_number}
use Rattle.net_addr.specs.Addresses.{Block}
use Rattle.net_addr.specs.Lines.{line_texts}
use Rattle.route_core.specs.declared.entry.Entry.{Entry}
use Rattle.rib_mix.specs.Mixture.{Mixture, migration_of}
use Rattle.igp_theory.specs.Migrations.{Migration}
use Rattle.igp_theory.proofs.ListedStates.{replicated_old}
use Rattle.igp_theory.specs.declared.phase.Phase.{Phase}
use Rattle.igp_theory.specs.declared.phase.Phase.TheVariants.{Old}
use Rattle.plan_theory.specs.Ranked.{base_of, size_of}
use Rattle.plan_theory.specs.declared.items.Items.{Items}
use Rattle.plan_theory.specs.declared.items.Items.TheVariants.{Routers, Changes}
use Rattle.plan_theory.specs.Numbers.{turn_of}
use Rattle.refutation_check.specs.steps.Judged.{started_of}
use Rattle.refutation_check.specs.Verdicts.{IsHeadedVerdict, IsLinesVerdict, behind_header}
use Rattle.refutation_check.specs.declared.verdict.Verdict.{Verdict}
use Rattle.refutation_check.specs.declared.verdict.Verdict.TheVariants.{Closed, Unfinished, Wrong}

pub headed_verdict : (items : Items) (header : List ℕ) (move : Migration) (text : List ℕ) (lines : List (List ℕ)) (verdict : Verdict) →
    line_texts text ≡ (header ∷ []) ++ lines → IsLinesVerdict items move 2 lines verdict → IsHeadedVerdict items header move text verdict
headed_verdict items header move text lines (Closed branches leaves) is holds = record { lines = lines; text_is = is; holds = holds }
headed_verdict items header move text lines (Unfinished unvisited) is holds = record { lines = lines; text_is = is; holds = holds }
headed_verdict items header move text lines (Wrong line kind) is holds =
    behind_header line kind (record { lines = lines; text_is = is; holds = holds })

-- the pairs of a base are of numbers
pub base_below : (items : Items) (n : ℕ) → AreBelow (size_of items n) (base_of items n)
base_below Routers n = All-nil (λ (p : Pair). (p.0 < n) × (p.1 < n))
base_below Changes n =
    All-map (λ (p : Pair). (p.0 < 2 * n) × (p.1 < 2 * n)) (λ (u : ℕ). (change_number (first u), change_number (second u))) (numbers_below n)
    (λ k d within.
    let below = (numbers_are_below n (get_or (numbers_below n) k d)).0 (Contains-get_or (numbers_below n) k d within) in
    (omega (arith, below), omega (arith, below)))

-- the one child of a branch of two turns assumes their pair besides
pub pair_more : (base : List Pair) (i : ℕ) (d : Pair) → i < length base →
    map (λ (p : Pair). take i base ++ p ∷ []) (child_pairs (turn_of (get_or base i d).0 tag.Old ∷ turn_of (get_or base i d).1 tag.New ∷ [])) ++ []
    ≡ take (i + 1) base ∷ []
pair_more base i d within = ap (λ (place : List Pair). place ∷ []) (sym (take_more base i d within))

-- so a migration from that start is the one from all Old
pub old_started : {O N : Type 0} (old : O → ℕ → List (Block × Entry)) (new : N → ℕ → List (Block × Entry)) (m : Mixture O N) (phases : List Phase) (n : ℕ) →
    phases ≡ replicate n Old → started_of old new m phases ≡ migration_of old new m
old_started old new m phases n is = grind (arith, common_steps, replicated_old)
