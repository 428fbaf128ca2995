-- The faults of a document are those that are gathered.
use Rattle.std.proofs.Common.{◌≡◌, List, [], Option, Some, None, codes, refl, sym, subst, ap, ◌∙◌, inl, inr, ⊎_elim}
use Rattle.toml.specs.Data.{Data, Members, no_members, member, table, get_member}
use Rattle.design_file.specs.Documents.{HasMember}
use Rattle.design_file.specs.steps.FaultLists.{Among, own_or, inner_faults, table_faults, area_faults, document_faults}
use Rattle.design_file.specs.Faults.{HasFault, IsDocumentFault, TableAt, fault, whole, inside, no_area, in_table}
use Rattle.ios_lines.specs.Words.{Word}
use Rattle.design_file.specs.Keys.{below, key_in}
use Rattle.design_file.specs.Values.{entry_fault}
use Rattle.design_file.specs.declared.fault.Fault.{Fault}
use Rattle.design_file.specs.declared.key.Key.{Key}
use Rattle.design_file.specs.declared.key.Key.TheVariants.{Table}
use Rattle.design_file.specs.declared.key.Place.{Place}
use Rattle.design_file.specs.declared.key.Place.TheVariants.{Top}
use Rattle.design_file.specs.declared.refusal.DesignKind.{DesignKind}
use Rattle.design_file.specs.declared.refusal.DesignKind.TheVariants.{BadArea}
use Rattle.design_file.proofs.FaultListLaws.{Among-left, Among-one, Among-right, Among-split}

module _ (document : Members) (f : Fault) where
  -- an entry that has a fault of its own, or else faults inside it
  own_found : (own : Option DesignKind) (place : Place) (path word : Word) (value : Data) (members : Members) (inner : List Fault) →
      TableAt document place path members → HasMember members word value → entry_fault (key_in place word) value ≡ own →
      (Among f inner → IsDocumentFault document f) → Among f (own_or own (below path word) inner) → IsDocumentFault document f
  own_found None place path word value all inner at has is within h = within h
  own_found (Some kind) place path word value all inner at has is within h =
      let same = Among-one f (fault kind (below path word)) h in
      in_table place path all at (record {
        word = word;
        value = value;
        entry = has;
        kind_is = is ∙ ap (λ (x : Fault). Some x.kind) same;
        path_is = ap (λ (x : Fault). x.path) same;
      })

  mutual
    -- each fault gathered of the entries of a table, or of some of them, is one of the document
    found : (members : Members) (place : Place) (path : Word) (all : Members) → TableAt document place path all →
        ((word : Word) (value : Data) → HasMember members word value → HasMember all word value) →
        Among f (table_faults members place path) → IsDocumentFault document f
    found no_members place path all at sub h = absurd h
    found (member word value more) place path all at sub h =
        let key = key_in place word in
        let has = sub word value (inl (refl, refl)) in
        ⊎_elim
        (own_found (entry_fault key value) place path word value all (inner_faults value key (below path word)) at has refl
        (found_inside value key (below path word) (λ entries inner v k. inside place inner path word all entries at (subst (HasMember all word) v has) k)))
        (found more place path all at (λ w v e. sub w v (inr e)))
        (Among-split f (own_or (entry_fault key value) (below path word) (inner_faults value key (below path word))) (table_faults more place path) h)

    found_inside : (value : Data) (key : Option Key) (path : Word) →
        ((entries : Members) (inner : Place) → value ≡ table entries → key ≡ Some (Table inner) → TableAt document inner path entries) →
        Among f (inner_faults value key path) → IsDocumentFault document f
    found_inside (table members) (Some (Table place)) path at h = found members place path members (at members place refl refl) (λ w v e. e) h
    found_inside value key path at h = absurd h

  -- an entry's fault is gathered
  own_listed : (members : Members) (place : Place) (path word : Word) (value : Data) → HasMember members word value →
      Among f (own_or (entry_fault (key_in place word) value) (below path word) (inner_faults value (key_in place word) (below path word))) →
      Among f (table_faults members place path)
  own_listed no_members place path word value has h = absurd has
  own_listed (member its own more) place path word value (inl e) h =
      let P : Word → Data → Type 0 = λ w v. Among f
      (own_or (entry_fault (key_in place w) v) (below path w) (inner_faults v (key_in place w) (below path w))) in
      Among-left f _ (table_faults more place path) (subst (λ v. P its v) (sym e.1) (subst (λ w. P w value) (sym e.0) h))
  own_listed (member its own more) place path word value (inr e) h =
      Among-right f (own_or (entry_fault (key_in place its) own) (below path its) (inner_faults own (key_in place its) (below path its)))
      (table_faults more place path)
      (own_listed more place path word value e h)

  -- what is gathered of a table in another is gathered of that
  inner_listed : (members entries : Members) (outer inner : Place) (path word : Word) → HasMember members word (table entries) →
      key_in outer word ≡ Some (Table inner) →
      Among f (table_faults entries inner (below path word)) → Among f (table_faults members outer path)
  inner_listed members entries outer inner path word has is h =
      let P : Option Key → Type 0 = λ k. Among f
      (own_or (entry_fault k (table entries)) (below path word) (inner_faults (table entries) k (below path word))) in
      own_listed members outer path word (table entries) has (subst P (sym is) h)

  -- what is gathered of a table of the document is gathered of the document
  at_listed : (place : Place) (path : Word) (members : Members) → TableAt document place path members → Among f (table_faults members place path) →
      Among f (table_faults document Top [])
  at_listed place path tables whole h = h
  at_listed place path tables (inside outer inner over word all entries at has is) h = at_listed outer over all at
      (inner_listed all entries outer inner over word has is h)

  fault_listed : (place : Place) (path : Word) (members : Members) → HasFault place path members f → Among f (table_faults members place path)
  fault_listed place path members has =
      let P : Option DesignKind → Type 0 = λ o. Among f
      (own_or o (below path has.word) (inner_faults has.value (key_in place has.word) (below path has.word))) in
      own_listed members place path has.word has.value has.entry
      (subst P (sym has.kind_is) (inl (ap (fault f.kind) has.path_is)))

  area_found : (value : Option Data) → get_member (codes "area") document ≡ value → Among f (area_faults value) → IsDocumentFault document f
  area_found None e h = no_area e (Among-one f (fault BadArea (codes "area")) h)
  area_found (Some value) e h = absurd h

  pub document_found : Among f (document_faults document) → IsDocumentFault document f
  document_found h =
      ⊎_elim (found document Top [] document whole (λ w v e. e)) (area_found (get_member (codes "area") document) refl)
      (Among-split f (table_faults document Top []) (area_faults (get_member (codes "area") document)) h)

  pub document_listed : IsDocumentFault document f → Among f (document_faults document)
  document_listed (no_area none is) =
      Among-right f (table_faults document Top []) (area_faults (get_member (codes "area") document))
      (subst (λ (o : Option Data). Among f (area_faults o)) (sym none) (inl is))
  document_listed (in_table place path members at has) =
      Among-left f (table_faults document Top []) (area_faults (get_member (codes "area") document))
      (at_listed place path members at (fault_listed place path members has))
