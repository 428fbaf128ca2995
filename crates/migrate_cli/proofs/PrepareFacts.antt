-- The prepared texts of some texts, one after the other.
use Rattle.std.proofs.lemmas.Grind.{common_steps}
use Rattle.std.proofs.Common.{◌≡◌, ◌∙◌, ◌+◌, ◌-◌, ◌<◌, ◌++◌, ◌∷◌, [], ℕ, zero, suc, Bool, true, List, Option, Some, None}
use Rattle.std.proofs.Common.{Result, Ok, Err, IfOk, ap, append-nil, append_assoc, arith, get_or, length, refl, subst, sym, take}
use Rattle.std.specs.Prelude.{slice_get}
use Rattle.std.proofs.lemmas.List.{take_more}
use Rattle.std.specs.declared.alloc.AllocError.{AllocError}
use Rattle.net_addr.specs.JoinedLines.{is_of_whole_lines}
use Rattle.net_addr.specs.Lines.{is_line_feed}
use Rattle.net_model.specs.Network.{Network}
use Rattle.design_file.specs.Answers.{RefusesDesign, RefusesText, SaysDesign}
use Rattle.design_file.specs.declared.design.Design.{Design}
use Rattle.design_file.specs.declared.refusal.DesignRefusal.{DesignRefusal}
use Rattle.design_file.specs.declared.refusal.DesignRefusal.TheVariants.{Bad, OutOfMemory}
use Rattle.design_file.specs.declared.settled.SettledRouter.{SettledRouter}
use Rattle.isis_writer.specs.Deltas.{delta_text}
use Rattle.isis_writer.specs.Prepared.{prepared_text}
use Rattle.isis_writer.specs.PreparedConfigurations.{prepared_texts, with_last_feed}
use Rattle.migration_report.specs.declared.decision.Decision.{Decision}
use Rattle.migrate_cli.specs.DeltaDecision.{delta_texts}
use Rattle.migrate_cli.specs.Reading.{NamedText}
use Rattle.migrate_cli.specs.SettledDesigns.RefusesDesignFile.{no_design, unsettled}
use Rattle.migrate_cli.specs.steps.Answering.{IsSettledOrRefused, RefusesDesignSo}

-- whether a text whose last byte is this one is of whole lines
abbrev pub ends_whole : Option ℕ → Bool
ends_whole None = true
ends_whole (Some byte) = is_line_feed byte

-- by its last byte
pub whole_by_last : (text : List ℕ) → is_of_whole_lines text ≡ ends_whole (slice_get text (length text - 1))
whole_by_last [] = refl
whole_by_last (b ∷ []) = refl
whole_by_last (b ∷ next ∷ more) =
    let place : suc (length more) ≡ length (b ∷ next ∷ more) - 1 = omega arith in
    let before : length (next ∷ more) - 1 ≡ length more = omega arith in
    whole_by_last (next ∷ more) ∙ ap (λ n. ends_whole (slice_get (next ∷ more) n)) before
    ∙ ap (λ n. ends_whole (slice_get (b ∷ next ∷ more) n)) place

-- one more text
pub prepared_more : (net : Network) (settled : List SettledRouter) (texts : List (List ℕ)) (i : ℕ) (text : List ℕ) →
    i < length texts → text ≡ get_or texts i text →
    prepared_texts net settled (take (i + 1) texts) ≡ prepared_texts net settled (take i texts) ++ with_last_feed (prepared_text text net settled)
prepared_more net settled [] i text within at = absurd (omega arith)
prepared_more net settled (t ∷ texts) zero text within at =
    append-nil (with_last_feed (prepared_text t net settled)) ∙ ap (λ (x : List ℕ). with_last_feed (prepared_text x net settled)) (sym at)
prepared_more net settled (t ∷ texts) (suc i) text within at =
    let next : suc i + 1 ≡ suc (i + 1) = omega arith in
    ap (λ n. prepared_texts net settled (take n (t ∷ texts))) next
    ∙ ap (λ (x : List ℕ). with_last_feed (prepared_text t net settled) ++ x) (prepared_more net settled texts i text (omega arith) at)
    ∙ sym (append_assoc (with_last_feed (prepared_text t net settled)) (prepared_texts net settled (take i texts))
    (with_last_feed (prepared_text text net settled)))

-- one text more, by its new lines alone
pub delta_more : (net : Network) (settled : List SettledRouter) (texts : List (List ℕ)) (i : ℕ) (text : List ℕ) →
    i < length texts → text ≡ get_or texts i text →
    delta_texts net settled (take (i + 1) texts) ≡ delta_texts net settled (take i texts) ++ delta_text text net settled
delta_more net settled texts i text within at = grind (arith, common_steps, take_more)

-- ---- what is decided where a design is refused ----

pub text_refused : (design : NamedText) (net : Network) (refusal : DesignRefusal) (r : Result (Result (List SettledRouter) Decision) AllocError) →
    RefusesText design.text refusal → IfOk r (RefusesDesignSo design.file refusal) → IfOk r (IsSettledOrRefused design net)
text_refused design net (Bad kind path) (Ok d) refuses so = subst (IsSettledOrRefused design net) (sym so) (no_design kind path refuses)
text_refused design net OutOfMemory (Ok d) refuses so = absurd so
text_refused design net refusal (Err e) refuses so = tt

pub design_refused : (design : NamedText) (net : Network) (said : Design) (refusal : DesignRefusal)
    (r : Result (Result (List SettledRouter) Decision) AllocError) → SaysDesign design.text said → RefusesDesign said net refusal →
    IfOk r (RefusesDesignSo design.file refusal) → IfOk r (IsSettledOrRefused design net)
design_refused design net said (Bad kind path) (Ok d) says refuses so =
    subst (IsSettledOrRefused design net) (sym so) (unsettled said kind path says refuses)
design_refused design net said OutOfMemory (Ok d) says refuses so = absurd so
design_refused design net said refusal (Err e) says refuses so = tt
