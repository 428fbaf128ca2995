-- An interface with the lines that are written for it: it has no fault, and its IS-IS is what is settled.
use Rattle.std.proofs.lemmas.Grind.{common_steps}
use Rattle.std.proofs.Common.{◌≡◌, ℕ, Bool, true, false, ◌&&◌, ◌||◌, cond, List, [], ◌++◌, Option, Some, None, Result}
use Rattle.std.proofs.Common.{refl, sym, ap, subst, ◌∙◌, arith}
use Rattle.std.specs.Prelude.{filter_map, unwrap_or, is_some, IsSome}
use Rattle.std.specs.List.{list_any}
use Rattle.net_model.specs.LevelSets.{has_level_one, has_level_two}
use Rattle.net_model.specs.declared.config.Levels.{Levels}
use Rattle.net_model.specs.declared.config.Levels.TheVariants.{Both}
use Rattle.net_model.specs.declared.interface.Interface.{Interface}
use Rattle.ios_lines.specs.Words.{Word}
use Rattle.ios_lines.specs.Lookups.{later, value_or, good_value}
use Rattle.ios_lines.specs.InterfaceLines.{in_vrf, counting}
use Rattle.ios_lines.specs.declared.bounds.TheConstants.{DEFAULT_METRIC}
use Rattle.ios_lines.specs.declared.fault.Fault.{Fault}
use Rattle.ios_lines.specs.declared.kind.ReadKind.{ReadKind}
use Rattle.ios_lines.specs.declared.interface_line.InterfaceStatement.{InterfaceStatement}
use Rattle.ios_lines.specs.declared.ospf_line.OspfStatement.{OspfStatement}
use Rattle.ios_lines.specs.declared.isis_line.IsisStatement.{IsisStatement}
use Rattle.ios_sections.specs.Processes.{mention_said, mentions_in}
use Rattle.ios_sections.specs.declared.section.InterfaceSection.{InterfaceSection}
use Rattle.ios_reader.specs.Routers.{Router, router_with}
use Rattle.ios_reader.specs.InterfaceFacts.{no_facts, facts_of}
use Rattle.ios_reader.specs.InterfacesAsRead.{interface_with, interface_as_read, is_isis_passive, runs_level, level_metric, metric_by}
use Rattle.ios_reader.specs.Faults.{interface_line_faults, loopback_faults, bandwidth_faults, interface_faults}
use Rattle.ios_reader.specs.declared.facts.InterfaceFacts.{InterfaceFacts}
use Rattle.design_file.specs.declared.settled.SettledInterface.{SettledInterface}
use Rattle.isis_writer.specs.RouterLines.{is_old_line}
use Rattle.isis_writer.specs.PreparedConfigurations.{with_settled, interface_by}
use Rattle.isis_writer.proofs.ListFacts.{none_left, none_right}
use Rattle.isis_writer.proofs.RouterWords.{interface_says}
use Rattle.isis_writer.proofs.InterfaceFacts.{says_from, circuit_fact, isis_fact, level_fact, grown_facts, facts_grown, counting_outside}
use Rattle.isis_writer.proofs.InterfaceFacts.{counting_grown, mentions_grown, NeedNoProcess, need_none, no_fault_grown, say_no_old}

-- an interface with other IS-IS fields
abbrev with_isis : Interface → Bool → Bool → ℕ → ℕ → Bool → Interface
with_isis i one two metric1 metric2 passive = record i { level1 = one; level2 = two; metric1 = metric1; metric2 = metric2; isis_passive = passive }

same_isis : (i : Interface) (a b c d : Bool) (k l m n : ℕ) (p q : Bool) → a ≡ b → c ≡ d → k ≡ l → m ≡ n → p ≡ q →
    with_isis i a c k m p ≡ with_isis i b d l n q
same_isis i a b c d k l m n p q e f g h j = grind (arith, common_steps)

-- whether a level runs, with the lines that are written
runs_written : (has : Levels → Bool) (levels : Levels) (passive : Bool) (circuit : Option Levels) (old : Bool) (isis : Option Bool)
    (said : Option (Result Levels ReadKind)) → (old ≡ false → said ≡ None) →
    ((passive || is_some (later isis (isis_fact passive))) && has levels && (passive || has (value_or (later said (circuit_fact old passive circuit)) Both)))
    ≡ (has levels && (passive || has (unwrap_or circuit Both)))
runs_written has levels passive circuit old isis said none = grind arith

-- the metric of a level, with the lines that are written
metric_written : (passive : Bool) (old : Bool) (isis : Option Bool) (metric router : ℕ) (said : Option (Result ℕ ReadKind)) →
    (old ≡ false → said ≡ None) →
    cond (passive || is_some (later isis (isis_fact passive)))
    (metric_by (good_value (later said (level_fact old metric))) (Some metric) router) DEFAULT_METRIC ≡ metric
metric_written passive old isis metric router said none = grind arith

-- a section with the lines that are written from here on
abbrev pub with_written : InterfaceSection → ℕ → Bool → SettledInterface → InterfaceSection
with_written s n old t = record { line = s.line; name = s.name; lines = s.lines ++ says_from n (interface_says old t.passive t.circuit t.metric) }

module _ (process : Option ℕ) (ospf : List OspfStatement) (isis : List IsisStatement) where
  -- the router without the lines of its IS-IS process, and with them
  abbrev pub before : Router
  before = router_with process ospf []

  abbrev pub after : Router
  after = router_with process ospf isis

  -- an interface by what the IS-IS process says of it
  abbrev shown : Bool → Levels → ℕ → Word → InterfaceFacts → Interface
  shown passive levels metric name f =
      with_isis (interface_with before name f) (runs_level has_level_one levels passive f) (runs_level has_level_two levels passive f)
      (level_metric metric passive f f.metric1) (level_metric metric passive f f.metric2) passive

  -- one that runs no IS-IS
  idle : (levels : Levels) (metric : ℕ) (name : Word) (f : InterfaceFacts) → f.isis ≡ None →
      shown false levels metric name f ≡ with_isis (interface_with before name f) false false DEFAULT_METRIC DEFAULT_METRIC false
  idle levels metric name f none = grind (arith, common_steps)

  -- an interface for which nothing is settled
  stays_idle : (name : Word) (f : InterfaceFacts) → is_isis_passive after name ≡ false → f.isis ≡ None →
      interface_with after name f ≡ interface_with before name f
  stays_idle name f active none = grind (arith, common_steps, idle)

  -- without an old line the facts say none of these
  record SaysNone (old : Bool) (f : InterfaceFacts) : Type 0 where
    circuit : old ≡ false → f.circuit ≡ None
    metric1 : old ≡ false → f.metric1 ≡ None
    metric2 : old ≡ false → f.metric2 ≡ None

  -- an interface for which this is settled
  runs_as_settled : (levels : Levels) (t : SettledInterface) (old : Bool) (name : Word) (f : InterfaceFacts) →
      is_isis_passive after name ≡ t.passive → after.levels ≡ levels → SaysNone old f →
      interface_with after name (grown_facts f old t.passive t.circuit t.metric) ≡ with_settled levels t (interface_with before name f)
  runs_as_settled levels t old name f passive same none =
      grind (arith, common_steps, grown_facts, metric_written, runs_written, same_isis)

  -- ---- sections ----

  three_none : (fs gs hs : List Fault) → fs ≡ [] → gs ≡ [] → hs ≡ [] → (fs ++ gs) ++ hs ≡ []
  three_none fs gs hs e f g = ap (λ (l : List Fault). (l ++ gs) ++ hs) e ∙ ap (λ (l : List Fault). l ++ hs) f ∙ g

  -- an address is that of an interface outside VRFs
  outside_vrf : (s : InterfaceSection) → IsSome (interface_as_read before s).subnet → in_vrf s.lines ≡ false
  outside_vrf s there = by_vrf (in_vrf s.lines) refl
    where
      by_vrf : (t : Bool) → in_vrf s.lines ≡ t → in_vrf s.lines ≡ false
      by_vrf false e = e
      by_vrf true e =
          let none : IsSome (interface_with before s.name (facts_of [])).subnet =
          subst (λ (b : Bool). IsSome (interface_with before s.name (facts_of (cond b [] s.lines))).subnet) e there in
          absurd (let wrong : false ≡ true = none in cc)

  -- a section of an interface, and what becomes of it
  pub record SectionGrows (levels : Levels) (t : Option SettledInterface) (s grown : InterfaceSection) : Type 0 where
    pub mentions : mentions_in grown ≡ mentions_in s
    pub faultless : interface_faults after (Some []) grown ≡ []
    pub read : interface_as_read after grown ≡ interface_by levels t (interface_as_read before s)

  pub unsettled_grows : (levels : Levels) (s : InterfaceSection) → interface_faults before None s ≡ [] →
      is_isis_passive after s.name ≡ false → SectionGrows levels None s s
  unsettled_grows levels s fine active =
      grind (arith, common_steps, idle, need_none, none_left, none_right, stays_idle, three_none)

  pub settled_grows : (levels : Levels) (t : SettledInterface) (s : InterfaceSection) (n : ℕ) (old : Bool) →
      interface_faults before None s ≡ [] → is_isis_passive after s.name ≡ t.passive → after.levels ≡ levels →
      IsSome (interface_as_read before s).subnet → (old ≡ false → list_any (λ (l : InterfaceStatement). is_old_line l.says) s.lines ≡ false) →
      SectionGrows levels (Some t) s (with_written s n old t)
  settled_grows levels t s n old fine passive same there no_old =
      let news : List InterfaceStatement = says_from n (interface_says old t.passive t.circuit t.metric) in
      let outside : in_vrf s.lines ≡ false = outside_vrf s there in
      let all : counting s.lines ≡ s.lines = counting_outside s.lines outside in
      let longer : counting (s.lines ++ news) ≡ s.lines ++ news = counting_grown s.lines n old t.passive t.circuit t.metric outside in
      let f : InterfaceFacts = facts_of s.lines in
      let g : InterfaceFacts = grown_facts f old t.passive t.circuit t.metric in
      let facts : facts_of (s.lines ++ news) ≡ g = facts_grown s.lines n old t.passive t.circuit t.metric in
      let known : interface_line_faults None s.lines ++ loopback_faults s.name f ++ bandwidth_faults before s f ≡ [] =
      subst (λ (l : List InterfaceStatement). interface_line_faults None l ++ loopback_faults s.name
      (facts_of l) ++ bandwidth_faults before s (facts_of l) ≡ []) all fine in
      let front : interface_line_faults None s.lines ++ loopback_faults s.name f ≡ [] =
      none_left (interface_line_faults None s.lines ++ loopback_faults s.name f) (bandwidth_faults before s f) known in
      let own : NeedNoProcess no_facts s.lines =
      need_none no_facts s.lines (none_left (interface_line_faults None s.lines) (loopback_faults s.name f) front) in
      let whole : InterfaceSection = with_written s n old t in
      record {
        mentions =
            ap (filter_map (λ (x : InterfaceStatement). mention_said x.line x.says)) longer
            ∙ mentions_grown s.lines n old t.passive t.circuit t.metric
            ∙ sym (ap (filter_map (λ (x : InterfaceStatement). mention_said x.line x.says)) all);
        faultless =
            ap (λ (l : List InterfaceStatement). interface_line_faults (Some []) l ++ loopback_faults s.name
            (facts_of l) ++ bandwidth_faults after whole (facts_of l)) longer
            ∙ ap (λ (h : InterfaceFacts). interface_line_faults (Some []) (s.lines ++ news) ++ loopback_faults s.name h ++ bandwidth_faults
            after whole h) facts
            ∙ three_none (interface_line_faults (Some []) (s.lines ++ news)) (loopback_faults s.name g) (bandwidth_faults after whole g)
            (no_fault_grown s.lines n old t.passive t.circuit t.metric own.fine)
            (none_right (interface_line_faults None s.lines) (loopback_faults s.name f) front)
            (none_right (interface_line_faults None s.lines ++ loopback_faults s.name f) (bandwidth_faults before s f) known);
        read =
            ap (λ (l : List InterfaceStatement). interface_with after s.name (facts_of l)) longer
            ∙ ap (interface_with after s.name) facts
            ∙ runs_as_settled levels t old s.name f passive same
            (record {
              circuit = λ e. (say_no_old no_facts s.lines (no_old e)).circuit;
              metric1 = λ e. (say_no_old no_facts s.lines (no_old e)).metric1;
              metric2 = λ e. (say_no_old no_facts s.lines (no_old e)).metric2;
            })
            ∙ sym (ap (λ (l : List InterfaceStatement). with_settled levels t (interface_with before s.name (facts_of l))) all);
      }
