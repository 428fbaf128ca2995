-- What the lines of the IS-IS process say in the end that are written for a router, and that they have no fault.
use Rattle.std.proofs.Common.{arith}
use Rattle.std.proofs.lemmas.Grind.{common_steps}
use Rattle.std.proofs.Common.{◌≡◌, ℕ, ◌+◌, Bool, true, false, cond, List, [], ◌∷◌, ◌++◌, Option, Some, None, Result, Ok, refl}
use Rattle.std.proofs.Common.{ap, subst, ◌∙◌, bytes_eq}
use Rattle.std.specs.Prelude.{filter, flat_map, unwrap_or, is_none}
use Rattle.std.specs.List.{list_all, list_any}
use Rattle.std.proofs.lemmas.Bool.{and_parts, and_from, or_parts, or_from}
use Rattle.std.proofs.lemmas.List.Folds.{list_all-append, list_any-append}
use Rattle.net_model.specs.declared.bounds.TheConstants.{MOST_DISTANCE}
use Rattle.net_model.specs.declared.config.Levels.{Levels}
use Rattle.ios_lines.specs.Words.{Word}
use Rattle.ios_lines.specs.Lookups.{later, last_of}
use Rattle.ios_lines.specs.FaultOrder.{faults_at}
use Rattle.ios_lines.specs.IsisLines.{isis_line_fault}
use Rattle.ios_lines.specs.declared.fault.Fault.{Fault}
use Rattle.ios_lines.specs.declared.kind.ReadKind.{ReadKind}
use Rattle.ios_lines.specs.declared.ospf_line.PassiveLine.{PassiveLine}
use Rattle.ios_lines.specs.declared.title.Title.{Title}
use Rattle.ios_lines.specs.declared.isis_line.IsisLine.{IsisLine}
use Rattle.ios_lines.specs.declared.isis_line.IsisLine.TheVariants.{Passive, Leak}
use Rattle.ios_lines.specs.declared.isis_line.IsisStatement.{IsisStatement}
use Rattle.ios_sections.specs.ProcessFaults.{is_net_line, is_net, isis_statement_faults, second_titles, lacking}
use Rattle.ios_reader.specs.Routers.{title_said, levels_said, isis_distance_said, isis_passive_said, leak_said}
use Rattle.design_file.specs.declared.settled.SettledInterface.{SettledInterface}
use Rattle.design_file.specs.declared.settled.SettledRouter.{SettledRouter}
use Rattle.isis_writer.specs.PreparedConfigurations.{system_id, settled_for}
use Rattle.isis_writer.proofs.ListFacts.{later_none}
use Rattle.isis_writer.proofs.RouterWords.{leak_says, passive_says, later_says, process_says}
use Rattle.isis_writer.proofs.InterfaceFacts.{last_of-append}
use Rattle.isis_writer.proofs.MoreSections.{has, Apart, same_name}
use Rattle.isis_writer.proofs.RouterBlocks.{isis_says_from, none_behind}
use Rattle.isis_writer.proofs.SettledFacts.{names_in}

-- ---- the last line of a form ----

module _ {B : Type 0} (form : IsisLine → Option B) where
  last_numbered : (n : ℕ) (says : List IsisLine) → last_of (λ (s : IsisStatement). form s.says) (isis_says_from n says) ≡ last_of form says
  last_numbered n [] = refl
  last_numbered n (x ∷ says) = ap (later (form x)) (last_numbered (n + 1) says)

  module _ (no_passive : (p : PassiveLine) → form (Passive p) ≡ None) where
    no_passives : (ts : List SettledInterface) → last_of form (flat_map passive_says ts) ≡ None
    no_passives [] = refl
    no_passives (t ∷ ts) =
        last_of-append form (passive_says t) (flat_map passive_says ts)
        ∙ ap (later (last_of form (passive_says t))) (no_passives ts) ∙ by_passive t.passive
      where
        by_passive : (b : Bool) → last_of form (cond b (Passive (record { name = t.name; passive = true }) ∷ []) []) ≡ None
        by_passive false = refl
        by_passive true = ap (λ (o : Option B). later o None) (no_passive (record { name = t.name; passive = true }))

    -- a form of neither leaking nor passive interfaces
    no_later : form Leak ≡ None → (router : SettledRouter) → last_of form (later_says router) ≡ None
    no_later no_leak router =
        last_of-append form (leak_says router.leak) (flat_map passive_says router.interfaces)
        ∙ ap (later (last_of form (leak_says router.leak))) (no_passives router.interfaces) ∙ by_leak router.leak
      where
        by_leak : (b : Bool) → last_of form (cond b (Leak ∷ []) []) ≡ None
        by_leak false = refl
        by_leak true = ap (λ (o : Option B). later o None) no_leak

-- ---- passive interfaces ----

unnamed_passive : (name : Word) (ts : List SettledInterface) → settled_for name ts ≡ None →
    last_of (isis_passive_said name) (flat_map passive_says ts) ≡ None
unnamed_passive name [] none = refl
unnamed_passive name (t ∷ ts) none = by_name (bytes_eq t.name name) refl none (λ h. unnamed_passive name ts h)
  where
    by_passive : bytes_eq t.name name ≡ false → (b : Bool) →
        last_of (isis_passive_said name) (cond b (Passive (record { name = t.name; passive = true }) ∷ []) []) ≡ None
    by_passive e false = refl
    by_passive e true = ap (λ (c : Bool). later (cond c (Some true) None) None) e

    by_name : (b : Bool) → bytes_eq t.name name ≡ b → cond b (Some t) (settled_for name ts) ≡ None →
        (settled_for name ts ≡ None → last_of (isis_passive_said name) (flat_map passive_says ts) ≡ None) →
        last_of (isis_passive_said name) (passive_says t ++ flat_map passive_says ts) ≡ None
    by_name true e none rest = absurd cc
    by_name false e none rest =
        last_of-append (isis_passive_said name) (passive_says t) (flat_map passive_says ts)
        ∙ ap (later (last_of (isis_passive_said name) (passive_says t))) (rest none) ∙ by_passive e t.passive

-- what is said of an interface that is passive or not
abbrev pub passive_fact : Bool → Option Bool
passive_fact passive = cond passive (Some true) None

named_passive : (name : Word) (ts : List SettledInterface) (t : SettledInterface) → Apart (names_in ts) → settled_for name ts ≡ Some t →
    last_of (isis_passive_said name) (flat_map passive_says ts) ≡ passive_fact t.passive
named_passive name [] t apart found = absurd cc
named_passive name (u ∷ ts) t apart found = by_name (bytes_eq u.name name) refl found (λ h. named_passive name ts t apart.1 h)
  where
    passive_here : bytes_eq u.name name ≡ true → (b : Bool) →
        last_of (isis_passive_said name) (cond b (Passive (record { name = u.name; passive = true }) ∷ []) []) ≡ passive_fact b
    passive_here e false = refl
    passive_here e true = ap (λ (c : Bool). later (cond c (Some true) None) None) e

    passive_other : bytes_eq u.name name ≡ false → (b : Bool) →
        last_of (isis_passive_said name) (cond b (Passive (record { name = u.name; passive = true }) ∷ []) []) ≡ None
    passive_other e false = refl
    passive_other e true = ap (λ (c : Bool). later (cond c (Some true) None) None) e

    by_name : (b : Bool) → bytes_eq u.name name ≡ b → cond b (Some u) (settled_for name ts) ≡ Some t →
        (settled_for name ts ≡ Some t → last_of (isis_passive_said name) (flat_map passive_says ts) ≡ passive_fact t.passive) →
        last_of (isis_passive_said name) (passive_says u ++ flat_map passive_says ts) ≡ passive_fact t.passive
    by_name true e found rest =
        let same : u ≡ t = cc in
        let none : settled_for name ts ≡ None =
        none_behind name ts (subst (λ (n : Word). has n (names_in ts) ≡ false) (same_name u.name name e) apart.0) in
        last_of-append (isis_passive_said name) (passive_says u) (flat_map passive_says ts)
        ∙ ap (later (last_of (isis_passive_said name) (passive_says u))) (unnamed_passive name ts none) ∙ passive_here e u.passive
        ∙ ap (λ (v : SettledInterface). passive_fact v.passive) same
    by_name false e found rest =
        last_of-append (isis_passive_said name) (passive_says u) (flat_map passive_says ts)
        ∙ ap (λ o. later o (last_of (isis_passive_said name) (flat_map passive_says ts))) (passive_other e u.passive)
        ∙ later_none (last_of (isis_passive_said name) (flat_map passive_says ts))
        ∙ rest found

-- ---- what the lines say ----

module _ (number : ℕ) (router : SettledRouter) (n : ℕ) where
  abbrev says : List IsisLine
  says = process_says number router

  abbrev pub lines : List IsisStatement
  lines = isis_says_from n (process_says number router)

  abbrev pub its_title : Title
  its_title = record { area = router.area; system = system_id number }

  pub title_is : last_of (λ (s : IsisStatement). title_said s.says) lines ≡ Some (Some its_title)
  title_is =
      last_numbered title_said n says
      ∙ ap (λ (o : Option (Option Title)). later (Some (Some its_title)) (later None (later None (later None o))))
      (no_later title_said (λ p. refl) refl router)

  pub levels_are : last_of (λ (s : IsisStatement). levels_said s.says) lines ≡ Some (Ok router.levels)
  levels_are =
      last_numbered levels_said n says
      ∙ ap (λ (o : Option (Result Levels ReadKind)). later None (later (Some (Ok router.levels)) (later None (later None o))))
      (no_later levels_said (λ p. refl) refl router)

  pub distance_is : last_of (λ (s : IsisStatement). isis_distance_said s.says) lines ≡ Some (Ok MOST_DISTANCE)
  distance_is =
      last_numbered isis_distance_said n says
      ∙ ap (λ (o : Option (Result ℕ ReadKind)). later None (later None (later None (later (Some (Ok MOST_DISTANCE)) o))))
      (no_later isis_distance_said (λ p. refl) refl router)

  leaks_later : last_of leak_said (later_says router) ≡ cond router.leak (Some true) None
  leaks_later =
      last_of-append leak_said (leak_says router.leak) (flat_map passive_says router.interfaces)
      ∙ ap (later (last_of leak_said (leak_says router.leak))) (no_passives leak_said (λ p. refl) router.interfaces) ∙ by_leak router.leak
    where
      by_leak : (b : Bool) → last_of leak_said (cond b (Leak ∷ []) []) ≡ cond b (Some true) None
      by_leak false = refl
      by_leak true = refl

  said_or : (b : Bool) → unwrap_or (later None (later None (later None (later None (cond b (Some true) None))))) false ≡ b
  said_or b = grind (arith, common_steps)

  pub leak_is : unwrap_or (last_of (λ (s : IsisStatement). leak_said s.says) lines) false ≡ router.leak
  leak_is = grind (arith, common_steps, last_numbered, leaks_later, said_or)

  passive_later : (name : Word) → last_of (isis_passive_said name) (later_says router) ≡ last_of (isis_passive_said name)
      (flat_map passive_says router.interfaces)
  passive_later name =
      last_of-append (isis_passive_said name) (leak_says router.leak) (flat_map passive_says router.interfaces)
      ∙ ap (λ o. later o (last_of (isis_passive_said name) (flat_map passive_says router.interfaces))) (by_leak router.leak)
      ∙ later_none (last_of (isis_passive_said name) (flat_map passive_says router.interfaces))
    where
      by_leak : (b : Bool) → last_of (isis_passive_said name) (cond b (Leak ∷ []) []) ≡ None
      by_leak false = refl
      by_leak true = refl

  said_by : (name : Word) (o : Option Bool) → last_of (isis_passive_said name) (flat_map passive_says router.interfaces) ≡ o →
      unwrap_or (last_of (λ (s : IsisStatement). isis_passive_said name s.says) lines) false ≡ unwrap_or
      (later None (later None (later None (later None o)))) false
  said_by name o e = grind (arith, common_steps, last_numbered, passive_later)

  -- an interface for which nothing is settled isn't passive
  pub passive_none : (name : Word) → settled_for name router.interfaces ≡ None →
      unwrap_or (last_of (λ (s : IsisStatement). isis_passive_said name s.says) lines) false ≡ false
  passive_none name none = said_by name None (unnamed_passive name router.interfaces none)

  -- another one is as it is settled
  pub passive_is : (name : Word) (t : SettledInterface) → Apart (names_in router.interfaces) → settled_for name router.interfaces ≡ Some t →
      unwrap_or (last_of (λ (s : IsisStatement). isis_passive_said name s.says) lines) false ≡ t.passive
  passive_is name t apart found = said_by name (passive_fact t.passive) (named_passive name router.interfaces t apart found) ∙ said_or t.passive

  -- ---- faults ----

  no_fault_numbered : (m : ℕ) (ls : List IsisLine) → list_all (λ (l : IsisLine). is_none (isis_line_fault l)) ls ≡ true →
      flat_map isis_statement_faults (isis_says_from m ls) ≡ []
  no_fault_numbered m [] fine = refl
  no_fault_numbered m (l ∷ ls) fine =
      let parts = and_parts (is_none (isis_line_fault l)) (list_all (λ (x : IsisLine). is_none (isis_line_fault x)) ls) fine in
      ap (λ (fs : List Fault). fs ++ flat_map isis_statement_faults (isis_says_from (m + 1) ls)) (by_fault (isis_line_fault l) parts.0)
      ∙ no_fault_numbered (m + 1) ls parts.1
    where
      by_fault : (o : Option ReadKind) → is_none o ≡ true → faults_at m o ≡ []
      by_fault None e = refl
      by_fault (Some kind) e = absurd cc

  passives_fine : (ts : List SettledInterface) → list_all (λ (l : IsisLine). is_none (isis_line_fault l)) (flat_map passive_says ts) ≡ true
  passives_fine [] = refl
  passives_fine (t ∷ ts) =
      list_all-append (λ (l : IsisLine). is_none (isis_line_fault l)) (passive_says t) (flat_map passive_says ts)
      ∙ and_from (list_all (λ (l : IsisLine). is_none (isis_line_fault l)) (passive_says t)) _ (by_passive t.passive) (passives_fine ts)
    where
      by_passive : (b : Bool) →
          list_all (λ (l : IsisLine). is_none (isis_line_fault l)) (cond b (Passive (record { name = t.name; passive = true }) ∷ []) []) ≡ true
      by_passive false = refl
      by_passive true = refl

  leak_fine : (b : Bool) → list_all (λ (l : IsisLine). is_none (isis_line_fault l)) (cond b (Leak ∷ []) []) ≡ true
  leak_fine b = grind (arith, common_steps)

  later_fine : list_all (λ (l : IsisLine). is_none (isis_line_fault l)) (later_says router) ≡ true
  later_fine = grind (arith, common_steps, and_from, leak_fine, leak_says, list_all-append, passive_says, passives_fine)

  pub lines_fine : flat_map isis_statement_faults lines ≡ []
  lines_fine = no_fault_numbered n says later_fine

  passives_no_net : (ts : List SettledInterface) → list_any is_net_line (flat_map passive_says ts) ≡ false
  passives_no_net [] = refl
  passives_no_net (t ∷ ts) =
      list_any-append is_net_line (passive_says t) (flat_map passive_says ts)
      ∙ or_from (list_any is_net_line (passive_says t)) (list_any is_net_line (flat_map passive_says ts)) (by_passive t.passive) (passives_no_net ts)
    where
      by_passive : (b : Bool) → list_any is_net_line (cond b (Passive (record { name = t.name; passive = true }) ∷ []) []) ≡ false
      by_passive false = refl
      by_passive true = refl

  leak_no_net : (b : Bool) → list_any is_net_line (cond b (Leak ∷ []) []) ≡ false
  leak_no_net b = grind (arith, common_steps)

  later_no_net : list_any is_net_line (later_says router) ≡ false
  later_no_net = grind (arith, common_steps, leak_no_net, leak_says, list_any-append, or_from, passive_says, passives_no_net)

  no_net_numbered : (m : ℕ) (ls : List IsisLine) → list_any is_net_line ls ≡ false → filter is_net (isis_says_from m ls) ≡ []
  no_net_numbered m [] none = refl
  no_net_numbered m (l ∷ ls) none =
      let parts = or_parts (is_net_line l) (list_any is_net_line ls) none in
      ap (λ (b : Bool). cond b (record { line = m; says = l } ∷ filter is_net (isis_says_from (m + 1) ls)) (filter is_net (isis_says_from (m + 1) ls)))
      parts.0
      ∙ no_net_numbered (m + 1) ls parts.1

  pub one_title : second_titles lines ≡ []
  one_title = grind (arith, common_steps, later_no_net, later_says, no_net_numbered)

  pub lacks_none : (first : ℕ) → lacking (Some first) lines ≡ []
  lacks_none first = refl
