-- What a router has for a prefix, and uses for its parent, says what it uses for the addresses of the prefix.
use Rattle.std.proofs.lemmas.Grind.{common_steps}
use Rattle.std.proofs.Common.{◌≡◌, ℕ, ◌<◌, ◌≤◌, ◌⊎◌, inl, inr, Bool, true, false, Option, Some, None, IsFalse, MatchBool, MatchOption, arith, refl}
use Rattle.std.proofs.lemmas.Bool.{cases_lt}
use Rattle.net_addr.specs.Addresses.{Block, ContainsAddress}
use Rattle.net_model.specs.Network.{Connected}
use Rattle.igp_theory.specs.Forwarding.{Usable, connected, connected_counts, old_counts, new_counts, Kind}
use Rattle.igp_theory.specs.declared.phase.Phase.{Phase}
use Rattle.igp_theory.specs.declared.phase.Phase.TheVariants.{Old, Middle, New}
use Rattle.rib_mix.specs.Cells.{IsUsable, use_in}
use Rattle.rib_mix.specs.Sites.{Site}
use Rattle.rib_mix.specs.steps.Sites.{CountsAt}
use Rattle.rib_mix.specs.steps.Uses.{Has, cell_between, cell_over}
use Rattle.rib_mix.specs.steps.WayUp.{IsBestUse, IsCellUpTo, UpTo}
use Rattle.rib_mix.specs.declared.cell.Cell.{Cell}
use Rattle.rib_mix.specs.declared.used.Used.{Used}
use Rattle.rib_mix.specs.declared.used.Used.TheVariants as used
use Rattle.rib_mix.proofs.ClassUses.{Within}

-- a kind with the same entries has the same best one
pub best_along : (s : Site) (one two : Kind) (way : Used) → Within one two → Within two one → IsBestUse s one way → IsBestUse s two way
best_along s one two way to from h = grind (arith, common_steps)

-- the entries that count in a phase for the address and whose prefixes are shorter than this
abbrev pub Below : Site → Phase → ℕ → Kind
Below s phase len q d x = CountsAt s phase q d x × ContainsAddress q s.a × (q.len < len)

-- of the entries that count in a phase for a prefix this one has the lowest distance, or there are none
pub record IsHere (s : Site) (phase : Phase) (p : Block) (distance : ℕ) (way : Used) : Type 0 where
  pub entry : Usable
  pub is : IsUsable s.tables.old.entries.now s.tables.new.entries.now way entry
  pub counts : CountsAt s phase p distance entry
  pub lowest : (d : ℕ) (x : Usable) → CountsAt s phase p d x → distance ≤ d

abbrev pub NoneHere : Site → Phase → Block → Type 0
NoneHere s phase p = (d : ℕ) (x : Usable) → CountsAt s phase p d x → ⊥

-- at an end the entry of its table, at this distance, counts for a prefix alone, or none does
abbrev pub IsEnd : Site → Phase → Block → ℕ → (ℕ → Used) → Option ℕ → Type 0
IsEnd s phase p distance table number = MatchOption number (NoneHere s phase p) (λ n. IsHere s phase p distance (table n))

-- what a router has for a prefix: a connected one, or the entry of the old table and that of the new one
pub record AreHere (s : Site) (p : Block) (ospf : ℕ) (has : Has) : Type 0 where
  pub connected : MatchBool has.connected (Connected s.net s.u p) (Connected s.net s.u p → ⊥)
  pub old : IsFalse has.connected → IsEnd s Old p ospf used.Old has.old
  pub new : IsFalse has.connected → IsEnd s New p 115 used.New has.new

-- what counts for the address and is as long as a prefix is for that prefix
abbrev IsOneAt : Site → Block → Type 0
IsOneAt s p = (q : Block) (phase : Phase) (d : ℕ) (x : Usable) → UpTo s phase p.len q d x → q.len ≡ p.len → q ≡ p

-- so the best of those that count for it is the best of all up to it
here_best : (s : Site) (phase : Phase) (p : Block) (distance : ℕ) (way : Used) → IsOneAt s p → ContainsAddress p s.a → IsHere s phase p distance way
    → IsBestUse s (UpTo s phase p.len) way
here_best s phase p distance way one inside here = grind (arith, common_steps)

-- and where none counts for it, that of the shorter ones
none_best : (s : Site) (phase : Phase) (p : Block) (way : Used) → IsOneAt s p → NoneHere s phase p → IsBestUse s (Below s phase p.len) way
    → IsBestUse s (UpTo s phase p.len) way
none_best s phase p way one none = grind (arith, common_steps, best_along, cases_lt)

-- what counts in Middle counts in Old or in New, and the other way round
at_an_end : (s : Site) (q : Block) (d : ℕ) (x : Usable) → CountsAt s Middle q d x → CountsAt s Old q d x ⊎ CountsAt s New q d x
at_an_end s q d x (connected_counts h) = inl (connected_counts h)
at_an_end s q d x (old_counts counts c has is set listed) = inl (old_counts tt c has is set listed)
at_an_end s q d x (new_counts counts listed) = inr (new_counts tt listed)

in_middle : (s : Site) (phase : Phase) → Within (CountsAt s phase) (CountsAt s Middle)
in_middle s phase q d x (connected_counts h) = connected_counts h
in_middle s phase q d x (old_counts counts c has is set listed) = old_counts tt c has is set listed
in_middle s phase q d x (new_counts counts listed) = new_counts tt listed

-- the one of an end is the one of Middle where no distance of either end is lower
middle_here : (s : Site) (phase : Phase) (p : Block) (distance : ℕ) (way : Used) → IsHere s phase p distance way
    → ((d : ℕ) (x : Usable) → CountsAt s Old p d x → distance ≤ d) → ((d : ℕ) (x : Usable) → CountsAt s New p d x → distance ≤ d)
    → IsHere s Middle p distance way
middle_here s phase p distance way here old new = record {
  entry = here.entry;
  is = here.is;
  counts = in_middle s phase p distance here.entry here.counts;
  lowest = λ d x counts. elim (at_an_end s p d x counts) [ inl one ↦ old d x one | inr two ↦ new d x two ];
}

-- whether the old table's entries come first: no distance is lower
abbrev pub OldFirst : Bool → ℕ → Type 0
OldFirst true ospf = ospf ≤ 115
OldFirst false ospf = 115 ≤ ospf

-- what a router has for a prefix and uses for shorter ones says what it uses up to that length
pub cell_step : (s : Site) (p : Block) (ospf : ℕ) (has : Has) (old_first : Bool) (up : Cell) → IsOneAt s p → ContainsAddress p s.a
    → OldFirst old_first ospf → AreHere s p ospf has → ((phase : Phase) → IsBestUse s (Below s phase p.len) (use_in up phase))
    → IsCellUpTo s p.len (cell_over has old_first up)
cell_step s p ospf has old_first up one inside first are shorter = by_three has.connected has.old has.new are
  where
    here : (phase : Phase) (distance : ℕ) (way : Used) → IsHere s phase p distance way → IsBestUse s (UpTo s phase p.len) way
    here phase distance way = here_best s phase p distance way one inside

    none : (phase : Phase) → NoneHere s phase p → IsBestUse s (UpTo s phase p.len) (use_in up phase)
    none phase not = none_best s phase p (use_in up phase) one not (shorter phase)

    connected_here : (phase : Phase) → Connected s.net s.u p → IsBestUse s (UpTo s phase p.len) used.Connected
    connected_here phase h = here phase 0 used.Connected
        (record { entry = connected; is = refl; counts = connected_counts h; lowest = λ d x counts. omega arith })

    by_three : (is : Bool) (old new : Option ℕ) → AreHere s p ospf (record { connected = is; old = old; new = new })
        → IsCellUpTo s p.len (cell_over (record { connected = is; old = old; new = new }) old_first up)
    by_three true old new h Old = connected_here Old h.connected
    by_three true old new h Middle = connected_here Middle h.connected
    by_three true old new h New = connected_here New h.connected
    by_three false None None h Old = none Old (h.old refl)
    by_three false None None h Middle =
        none Middle (λ d x counts. elim (at_an_end s p d x counts) [ inl one ↦ h.old refl d x one | inr two ↦ h.new refl d x two ])
    by_three false None None h New = none New (h.new refl)
    by_three false (Some n) None h Old = here Old ospf (used.Old n) (h.old refl)
    by_three false (Some n) None h Middle = here Middle ospf (used.Old n)
        (middle_here s Old p ospf (used.Old n) (h.old refl) (h.old refl).lowest (λ d x counts. absurd (h.new refl d x counts)))
    by_three false (Some n) None h New = none New (h.new refl)
    by_three false None (Some m) h Old = none Old (h.old refl)
    by_three false None (Some m) h Middle = here Middle 115 (used.New m)
        (middle_here s New p 115 (used.New m) (h.new refl) (λ d x counts. absurd (h.old refl d x counts)) (h.new refl).lowest)
    by_three false None (Some m) h New = here New 115 (used.New m) (h.new refl)
    by_three false (Some n) (Some m) h phase = by_first old_first first phase
      where
        by_first : (old_first : Bool) → OldFirst old_first ospf → IsCellUpTo s p.len (cell_between (used.Old n) (used.New m) old_first)
        by_first true near Old = here Old ospf (used.Old n) (h.old refl)
        by_first true near Middle = here Middle ospf (used.Old n)
            (middle_here s Old p ospf (used.Old n) (h.old refl) (h.old refl).lowest (λ d x counts. omega (arith, near, (h.new refl).lowest d x counts)))
        by_first true near New = here New 115 (used.New m) (h.new refl)
        by_first false near Old = here Old ospf (used.Old n) (h.old refl)
        by_first false near Middle = here Middle 115 (used.New m)
            (middle_here s New p 115 (used.New m) (h.new refl) (λ d x counts. omega (arith, near, (h.old refl).lowest d x counts)) (h.new refl).lowest)
        by_first false near New = here New 115 (used.New m) (h.new refl)
