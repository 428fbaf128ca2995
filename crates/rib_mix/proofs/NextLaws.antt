-- What follows from an answer: the steps that a router makes.
use Rattle.std.proofs.Common.{arith}
use Rattle.std.proofs.lemmas.Grind.{common_steps}
use Rattle.std.proofs.Common.{ℕ, ◌↔◌, sym, subst}
use Rattle.route_core.specs.declared.entry.Entry.{Entry}
use Rattle.igp_theory.specs.Forwarding.{Usable, connected, of_old, of_new, LeadsTo, MustForward, Steps}
use Rattle.igp_theory.specs.Migrations.{Migration}
use Rattle.igp_theory.specs.Routes.{EntryLeadsTo}
use Rattle.igp_theory.specs.declared.phase.Phase.{Phase}
use Rattle.rib_mix.specs.Answers.{ShowsEntry, Says, IsNext, NextLeadsTo}
use Rattle.rib_mix.specs.declared.next.Next.{Next}
use Rattle.rib_mix.specs.declared.next.Next.TheVariants.{Via, Discard, Connected, Absent}

-- an answer that shows an entry forwards where the entry does
entry_leads : (next : Next) (e : Entry) (h : ℕ) → ShowsEntry next e → EntryLeadsTo e h ↔ NextLeadsTo next h
entry_leads (Via hops) e h shows = (subst (λ (f : Entry). EntryLeadsTo f h) shows, subst (λ (f : Entry). EntryLeadsTo f h) (sym shows))
entry_leads Discard e h shows = (subst (λ (f : Entry). EntryLeadsTo f h) shows, subst (λ (f : Entry). EntryLeadsTo f h) (sym shows))
entry_leads Connected e h shows = absurd shows
entry_leads Absent e h shows = absurd shows

-- an answer that says what is used forwards where that does
pub says_leads : (next : Next) (used : Usable) (h : ℕ) → Says next used → LeadsTo used h ↔ NextLeadsTo next h
says_leads next connected h says = (λ f. absurd f, λ f. subst (λ (n : Next). NextLeadsTo n h) says f)
says_leads next (of_old e) h says = entry_leads next e h says
says_leads next (of_new e) h says = entry_leads next e h says

-- a router that has to pass packets on steps exactly to the hops of its answer
pub steps_to_hops : (move : Migration) (u : ℕ) (phase : Phase) (a : ℕ) (next : Next) (h : ℕ) → IsNext move u phase a next
    → MustForward move.net a u → Steps move u phase a h ↔ NextLeadsTo next h
steps_to_hops move u phase a next h is must = grind (arith, common_steps, says_leads)
