-- Each router has an answer for each class.
use Rattle.std.proofs.Common.{◌≡◌, ℕ, ◌<◌, List, length, Some, slice_get, refl, subst}
use Rattle.net_addr.specs.Addresses.{Block}
use Rattle.route_core.specs.declared.entry.Entry.{Entry}
use Rattle.route_core.specs.declared.entry.Entry.TheVariants as entry
use Rattle.igp_theory.specs.Migrations.{listed_migration}
use Rattle.prefix_atoms.proofs.Pushed.{at_place}
use Rattle.rib_mix.specs.Answers.{ShowsEntry}
use Rattle.rib_mix.specs.Laws.{HaveAnswers}
use Rattle.rib_mix.specs.Cells.{IsKeptUse, use_in}
use Rattle.rib_mix.specs.Rows.{IsMixed, MixedParts}
use Rattle.rib_mix.specs.steps.Uses.{ShowsUse}
use Rattle.rib_mix.specs.declared.cell.Cell.{Cell}
use Rattle.rib_mix.specs.declared.next.Next.{Next}
use Rattle.rib_mix.specs.declared.next.Next.TheVariants.{Via, Discard, Connected, Absent}
use Rattle.rib_mix.specs.declared.used.Used.{Used}
use Rattle.rib_mix.specs.declared.used.Used.TheVariants as used
use Rattle.rib_mix.proofs.ClassUses.{answer_of}
use Rattle.rib_mix.proofs.MixedLaws.{kept_cell, some_home}

-- the answer that an entry says
shown : (e : Entry) → (next : Next) × ShowsEntry next e
shown (entry.Via hops) = (Via (record { ref_ptr = (0, 0); now = hops }), refl)
shown entry.Discard = (Discard, refl)

-- the one that the entry at a place says
shown_at : (entries : List Entry) (number : ℕ) → number < length entries
    → (next : Next) × ((e : Entry) → slice_get entries number ≡ Some e → ShowsEntry next e)
shown_at entries number within =
    let at = at_place entries number within in
    let answer = shown at.0 in
    (answer.0, λ e is. let same : at.0 ≡ e = cc in subst (ShowsEntry answer.0) same answer.1)

-- the answer that is what is used
shown_use : (olds news : List Entry) (way : Used) → IsKeptUse olds news way → (next : Next) × ShowsUse olds news way next
shown_use olds news used.Nothing kept = (Absent, refl)
shown_use olds news used.Connected kept = (Connected, refl)
shown_use olds news (used.Old number) kept = shown_at olds number kept
shown_use olds news (used.New number) kept = shown_at news number kept

-- each router has an answer for each class in each phase
pub have_answers : (old new : ℕ → List (Block × Entry)) (kept : MixedParts) → IsMixed old new kept
    → HaveAnswers (listed_migration kept.ground.net old new) kept.classes
have_answers old new kept is u class phase router within =
    let here = some_home old new kept u is.forwarding router in
    let cell : Cell = kept_cell kept u class in
    let way = here.1.cells_are class within phase in
    let answer = shown_use _ _ (use_in cell phase) way.within in
    record { next = answer.0; is = answer_of _ class phase (use_in cell phase) answer.0 here.1.place way answer.1 }
