-- What a list of prefixes has that gained others.
use Rattle.std.proofs.Common.{◌≡◌, ℕ, ◌+◌, inl, inr, List, [], ◌++◌, Contains, ⊎_elim, sym, subst, add-one}
use Rattle.std.proofs.lemmas.List.Elements.{Contains-append_left, Contains-append_right, Contains-append_cases}
use Rattle.net_addr.specs.Addresses.{Block}
use Rattle.net_model.proofs.Members.{Contains-none}
use Rattle.route_core.specs.Tables.{table_prefixes}
use Rattle.route_core.specs.declared.entry.Entry.{Entry}
use Rattle.prefix_atoms.specs.steps.Lists.{source_prefixes, GainsPrefixes}

-- nothing is gained
pub gains_nothing : (xs : List Block) → GainsPrefixes xs xs []
gains_nothing xs p = (λ h. inl h, λ h. ⊎_elim (λ l. l) (λ r. absurd (Contains-none p r)) h)

-- what is put behind a list is gained
pub gains_behind : (xs ys more : List Block) → ys ≡ xs ++ more → GainsPrefixes xs ys more
gains_behind xs ys more is p = (
  λ h. Contains-append_cases xs more p (subst (λ (zs : List Block). Contains zs p) is h),
  λ h. subst (λ (zs : List Block). Contains zs p) (sym is)
      (⊎_elim (λ l. Contains-append_left xs more p l) (λ r. Contains-append_right xs more p r) h),
)

-- some are gained first, and others then
pub gains_both : (xs ys zs one two : List Block) → GainsPrefixes xs ys one → GainsPrefixes ys zs two → GainsPrefixes xs zs (one ++ two)
gains_both xs ys zs one two first second p = (
  λ h. ⊎_elim
      (λ l. ⊎_elim (λ k. inl k) (λ m. inr (Contains-append_left one two p m)) ((first p).0 l))
      (λ r. inr (Contains-append_right one two p r))
      ((second p).0 h),
  λ h. (second p).1 (⊎_elim
      (λ l. inl ((first p).1 (inl l)))
      (λ r. ⊎_elim (λ m. inl ((first p).1 (inr m))) (λ m. inr m) (Contains-append_cases one two p r))
      h),
)

-- the prefixes of the next router's table
pub source_gains : (table : ℕ → List (Block × Entry)) (n : ℕ) (entries : List (Block × Entry)) (xs ys zs : List Block) → entries ≡ table n
    → GainsPrefixes xs ys (source_prefixes table n) → GainsPrefixes ys zs (table_prefixes entries) → GainsPrefixes xs zs (source_prefixes table (n + 1))
source_gains table n entries xs ys zs is before next =
    rw add-one (gains_both xs ys zs (source_prefixes table n) (table_prefixes (table n)) before
    (subst (λ (es : List (Block × Entry)). GainsPrefixes ys zs (table_prefixes es)) is next))
