-- One thing is decided of a design, by `prepare` as by `delta`.
use Rattle.std.proofs.Common.{◌≡◌, ◌≢◌, [], ℕ, List, ap, refl, subst, sym}
use Rattle.net_model.specs.Network.{Network}
use Rattle.design_file.specs.Answers.{RefusesDesign, SaysDesign, Settles}
use Rattle.design_file.specs.declared.design.Design.{Design}
use Rattle.design_file.specs.declared.refusal.DesignKind.{DesignKind}
use Rattle.design_file.specs.declared.refusal.DesignRefusal.{DesignRefusal}
use Rattle.design_file.specs.declared.refusal.DesignRefusal.TheVariants.{Bad, OutOfMemory}
use Rattle.design_file.specs.declared.settled.SettledRouter.{SettledRouter}
use Rattle.design_file.proofs.AnswerLaws.{design_or_refusal, one_design, one_design_refusal, one_settled, one_text_refusal, settled_or_refusal}
use Rattle.migration_report.specs.Outcomes.{IsTellable, decision_status}
use Rattle.migration_report.specs.declared.decision.Decision.{Decision}
use Rattle.migration_report.specs.declared.decision.Decision.TheVariants.{Prepared, BadDesign}
use Rattle.migration_report.specs.declared.status.Status.TheVariants.{Done}
use Rattle.migrate_cli.specs.Completeness.{Writes}
use Rattle.migrate_cli.specs.Reading.{NamedText}
use Rattle.migrate_cli.specs.SettledDesigns.{IsSettledDecision, IsSettledBy, RefusesDesignFile}
use Rattle.migrate_cli.specs.SettledDesigns.RefusesDesignFile.{no_design, unsettled}
use Rattle.migrate_cli.specs.SettledDesigns.IsSettledDecision.{refused, is_settled}

-- a fault is no want of memory
some_fault : (kind : DesignKind) (path : List ℕ) → Bad kind path ≢ OutOfMemory
some_fault kind path e = Prim.cc e

-- what is decided by a refusal
abbrev decided_by : List ℕ → DesignRefusal → Decision
decided_by file (Bad kind path) = BadDesign file path kind
decided_by file OutOfMemory = Prepared []

module _ (design : NamedText) (net : Network) where
  -- a design file is refused in one way
  one_refusal : {d e : Decision} → RefusesDesignFile design net d → RefusesDesignFile design net e → d ≡ e
  one_refusal (no_design k p one) (no_design j q other) =
      let same = one_text_refusal design.text (Bad k p) (Bad j q) (some_fault k p) (some_fault j q) one other in ap (decided_by design.file) same
  one_refusal (no_design k p one) (unsettled said j q says _) =
      absurd (design_or_refusal design.text said (Bad k p) (some_fault k p) says one)
  one_refusal (unsettled said j q says _) (no_design k p other) =
      absurd (design_or_refusal design.text said (Bad k p) (some_fault k p) says other)
  one_refusal (unsettled said k p says one) (unsettled again j q its other) =
      let design_is : said ≡ again = one_design design.text said again says its in
      let refuses = subst (λ (d : Design). RefusesDesign d net (Bad j q)) (sym design_is) other in
      let same = one_design_refusal said net (Bad k p) (Bad j q) (some_fault k p) (some_fault j q) one refuses in
      ap (decided_by design.file) same

  -- or something is settled by it
  refused_or_settled : {d : Decision} (said : Design) (settled : List SettledRouter) → RefusesDesignFile design net d → SaysDesign design.text said →
      Settles said net settled → ⊥
  refused_or_settled said settled (no_design k p one) says settles = design_or_refusal design.text said (Bad k p) (some_fault k p) says one
  refused_or_settled said settled (unsettled again k p its other) says settles =
      let design_is : said ≡ again = one_design design.text said again says its in
      let refuses = subst (λ (d : Design). RefusesDesign d net (Bad k p)) (sym design_is) other in
      settled_or_refusal said net settled (Bad k p) (some_fault k p) settles refuses

  -- and one thing
  one_settling : (one other : List SettledRouter) → IsSettledBy design.text net one → IsSettledBy design.text net other → one ≡ other
  one_settling one other is its =
      let design_is : is.said ≡ its.said = one_design design.text is.said its.said is.says its.says in
      one_settled is.said net one other is.settles (subst (λ (d : Design). Settles d net other) (sym design_is) its.settles)

  module _ (decided : List SettledRouter → Decision) where
    -- so one thing is decided
    pub one_settled_decision : {d e : Decision} → IsSettledDecision design net decided d → IsSettledDecision design net decided e → d ≡ e
    one_settled_decision (refused _ one) (refused _ other) = one_refusal one other
    one_settled_decision (refused _ one) (is_settled settled is) = absurd (refused_or_settled is.said settled one is.says is.settles)
    one_settled_decision (is_settled settled is) (refused _ other) = absurd (refused_or_settled is.said settled other is.says is.settles)
    one_settled_decision (is_settled one is) (is_settled other its) = ap decided (one_settling one other is its)

    -- it has a text where what is decided of what is settled has one
    pub settled_tellable : {d : Decision} → ((settled : List SettledRouter) → IsTellable net (decided settled)) → IsSettledDecision design net decided d →
        IsTellable net d
    settled_tellable tells (refused _ (no_design _ _ _)) = tt
    settled_tellable tells (refused _ (unsettled _ _ _ _ _)) = tt
    settled_tellable tells (is_settled settled _) = tells settled

    -- and what is settled is written where that is done
    pub settled_writes : {d : Decision} (said : Design) (settled : List SettledRouter) →
        ((some : List SettledRouter) → Writes (decision_status (decided some))) → SaysDesign design.text said → Settles said net settled → IsSettledDecision design net decided d → Writes (decision_status d)
    settled_writes said settled writes says settles (refused _ one) = absurd (refused_or_settled said settled one says settles)
    settled_writes said settled writes says settles (is_settled some _) = writes some

    -- where that is done, it isn't refused
    pub done_is_settled : {d : Decision} → IsSettledDecision design net decided d → decision_status d ≡ Done →
        (settled : List SettledRouter) × (d ≡ decided settled) × IsSettledBy design.text net settled
    done_is_settled (refused _ (no_design _ _ _)) done = absurd (Prim.cc done)
    done_is_settled (refused _ (unsettled _ _ _ _ _)) done = absurd (Prim.cc done)
    done_is_settled (is_settled settled is) done = (settled, refl, is)
