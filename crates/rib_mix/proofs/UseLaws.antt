-- The best of all entries that count for an address is the one that is used.
use Rattle.std.proofs.Common.{◌≡◌, inl, inr, List, sym, ap, subst, ◌∙◌}
use Rattle.std.proofs.lemmas.Option.{same_Some, slice_get_within}
use Rattle.net_addr.specs.Addresses.{ContainsAddress}
use Rattle.route_core.specs.declared.entry.Entry.{Entry}
use Rattle.igp_theory.specs.Forwarding.{Usable, of_old, of_new}
use Rattle.igp_theory.specs.declared.phase.Phase.{Phase}
use Rattle.rib_mix.specs.Cells.{IsUsable, IsUse, IsKeptUse}
use Rattle.rib_mix.specs.Sites.{Site, UsesAt}
use Rattle.rib_mix.specs.steps.Sites.{CountsAt, IsLawfulSite}
use Rattle.rib_mix.specs.steps.WayUp.{IsBestUse}
use Rattle.rib_mix.specs.declared.used.Used.{Used}
use Rattle.rib_mix.specs.declared.used.Used.TheVariants as used
use Rattle.rib_mix.proofs.OneUsed.{one_used}

within_of : (s : Site) (way : Used) (x : Usable) → IsUsable s.tables.old.entries.now s.tables.new.entries.now way x
    → IsKeptUse s.tables.old.entries.now s.tables.new.entries.now way
within_of s used.Nothing x is = tt
within_of s used.Connected x is = tt
within_of s (used.Old number) x is = slice_get_within s.tables.old.entries.now number is.0 is.1
within_of s (used.New number) x is = slice_get_within s.tables.new.entries.now number is.0 is.1

one_usable : (olds news : List Entry) (way : Used) (x y : Usable) → IsUsable olds news way x → IsUsable olds news way y → x ≡ y
one_usable olds news used.Nothing x y h k = absurd h
one_usable olds news used.Connected x y h k = h ∙ sym k
one_usable olds news (used.Old number) x y h k = h.2 ∙ ap of_old (same_Some h.0 k.0 (sym h.1 ∙ k.1)) ∙ sym k.2
one_usable olds news (used.New number) x y h k = h.2 ∙ ap of_new (same_Some h.0 k.0 (sym h.1 ∙ k.1)) ∙ sym k.2

pub use_of_best : (s : Site) (phase : Phase) (way : Used) → IsLawfulSite s
    → IsBestUse s (λ q d x. CountsAt s phase q d x × ContainsAddress q s.a) way → IsUse s phase way
use_of_best s phase way lawful h = elim h [
  | inl none ↦ subst (IsUse s phase) (sym none.0) (record {
    within = tt;
    exact = λ x. (λ uses. absurd (none.1 uses.prefix uses.distance x (uses.counts, uses.contains)), λ is. absurd is);
  })
  | inr best ↦
      let uses : UsesAt s phase best.entry = record {
        prefix = best.prefix;
        distance = best.distance;
        counts = best.among.0;
        contains = best.among.1;
        longest = λ q d x counts inside. best.longest q d x (counts, inside);
        lowest = λ q d x counts inside. best.lowest q d x (counts, inside);
      } in
      record {
        within = within_of s way best.entry best.is;
        exact = λ x. (
          λ other. subst (IsUsable s.tables.old.entries.now s.tables.new.entries.now way) (one_used s phase best.entry x lawful uses other) best.is,
          λ is. subst (UsesAt s phase) (one_usable s.tables.old.entries.now s.tables.new.entries.now way best.entry x best.is is) uses,
        );
      }
]
