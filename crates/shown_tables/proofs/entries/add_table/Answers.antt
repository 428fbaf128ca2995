use Rattle.std.proofs.Common.{◌≡◌, ℕ, ◌<◌, ◌++◌, ◌∷◌, [], List, Vec, Global, Contains, Some, length, take, get_or, refl, sym, ap, subst, ◌∙◌}
use Rattle.std.specs.List.{flat_map}
use Rattle.std.proofs.Common.{append-nil}
use Rattle.std.proofs.lemmas.List.{get_or_default, take_all}
use Rattle.net_model.specs.RouterNames.{names_of}
use Rattle.route_core.specs.Rows.{IsTable, KeptTable, kept_in, kept_number, listed}
use Rattle.route_core.specs.declared.entry.Entry.{Entry}
use Rattle.route_core.specs.declared.entry.Entry.TheVariants.{Discard}
use Rattle.igp_theory.specs.Routes.{HasHopsBelow}
use Rattle.shown_tables.specs.EntryLines.{shown_line}
use Rattle.shown_tables.specs.ShownEntries.{AreInShownOrder, ShownEntry}
use Rattle.shown_tables.specs.TablesTexts.{shown_text}
use Rattle.shown_tables.specs.declared.igp.Igp.{Igp}
use Rattle.shown_tables.specs.declared.places.Placed.{Placed}
use Rattle.shown_tables.specs.steps.Places.{AreInPrefixOrder, front_words, shown_at, shown_with}
use Rattle.shown_tables.specs.steps.Shown.{HaveHopsBelow, IsOfShownTable}
use Rattle.shown_tables.proofs.InOrder.{shown_more}
use Rattle.shown_tables.proofs.TableEntries.{entry_hops, flat_more, shown_in_order}
use Rattle.shown_tables.proofs.entries.add_table.Goals as goal
use Rattle.shown_tables.proofs.entries.add_table.Goals.{in-Some+in_ok-add_entry, in_default}

-- the same order, of the prefixes of the table's parts
order_in : (igp : Igp) (kept table : KeptTable) (places : List Placed) → kept ≡ table → AreInPrefixOrder igp table.prefixes places →
    AreInPrefixOrder igp kept.prefixes places
order_in igp kept table places is order =
    subst (λ (k : KeptTable). AreInPrefixOrder igp k.prefixes places) (sym is) order

-- the element that a loop is at is one of the list
reached : (places : List Placed) (k : ℕ) (one : Placed) → k < length places → one ≡ get_or places k one → Contains places one
reached places k one within is = (k, within, sym is)

below_entries : (kept table : KeptTable) (place number : ℕ) → kept ≡ table → IsTable table → kept_number kept place ≡ Some number →
    number < length kept.entries
below_entries kept table place number is whole numbered =
    (subst IsTable (sym is) whole).numbers_below (get_or kept.kinds place 0) number numbered

pub number-requires-clause-place : goal.number-requires-clause-place
number-requires-clause-place c =
    let kept : KeptTable = kept_in c.parts-parts.result in
    let order = order_in c.args.owner.igp kept c.args.table.now c.args.places.now c.parts-parts.ensures.parts c.requires.places in
    ((order.exact c.placed-item.result).0 (reached c.args.places.now c.loop-placed.placed-index c.placed-item.result
    c.loop-placed-test.true c.placed-item.is)).below

pub bounds-parts-number : goal.bounds-parts-number
bounds-parts-number c =
    below_entries (kept_in c.parts-parts.result) c.args.table.now c.placed-item.result.place c.in-Some.number
    c.parts-parts.ensures.parts c.parts-parts.ensures.table (sym c.number.ensures ∙ c.in-Some.is)

pub add_entry-requires-clause-front : goal.add_entry-requires-clause-front
add_entry-requires-clause-front c =
    let placed = (c.requires.places.exact c.placed-item.result).0 (reached c.args.places.now c.loop-placed.placed-index
    c.placed-item.result c.loop-placed-test.true c.placed-item.is) in
    ap (λ (one : Placed). one.front) placed.is
    ∙ ap (front_words c.args.owner.igp) (sym (ap (λ (one : Placed). one.dest) placed.is))

pub add_entry-requires-clause-hops : goal.add_entry-requires-clause-hops
add_entry-requires-clause-hops c =
    let n : ℕ = length c.args.owner.net.now in
    let kept : KeptTable = kept_in c.parts-parts.result in
    let order = order_in c.args.owner.igp kept c.args.table.now c.args.places.now c.parts-parts.ensures.parts c.requires.places in
    let numbered : kept_number kept c.placed-item.result.place ≡ Some c.in-Some.number = sym c.number.ensures ∙ c.in-Some.is in
    subst (HasHopsBelow n)
    (get_or_default kept.entries c.in-Some.number Discard c.index-parts-number.result
    (below_entries kept c.args.table.now c.placed-item.result.place c.in-Some.number c.parts-parts.ensures.parts
    c.parts-parts.ensures.table numbered))
    (entry_hops kept c.args.owner.igp c.args.places.now order n c.placed-item.result c.in-Some.number
    (subst (λ (k : KeptTable). HaveHopsBelow n (listed k)) (sym c.parts-parts.ensures.parts) c.requires.hops)
    (reached c.args.places.now c.loop-placed.placed-index c.placed-item.result c.loop-placed-test.true c.placed-item.is) numbered)

pub loop-placed-preserved : goal.loop-placed-preserved
loop-placed-preserved c =
    let names = names_of c.args.owner.net.now in
    let kept : KeptTable = kept_in c.parts-parts.result in
    let u : ℕ = c.args.owner.router in
    let igp : Igp = c.args.owner.igp in
    let places : List Placed = c.args.places.now in
    let k : ℕ = c.loop-placed.placed-index in
    let placed : Placed = c.placed-item.result in
    let f : Placed → List ShownEntry = shown_at u igp kept in
    let said : List ShownEntry → List ℕ = λ (l : List ShownEntry). c.args.text.now.items ++ shown_text names l in
    elim c.match-number.branch [
      | in-Some+in_ok-add_entry w ↦
          let number : ℕ = w.in-Some.number in
          let numbered : kept_number kept placed.place ≡ Some number = sym c.number.ensures ∙ w.in-Some.is in
          let e : Entry = get_or kept.entries number w.index-parts-number.result in
          let x : ShownEntry = record { router = u; igp = igp; dest = placed.dest; entry = e } in
          let read : get_or kept.entries number Discard ≡ e =
          get_or_default kept.entries number Discard w.index-parts-number.result
          (below_entries kept c.args.table.now placed.place number c.parts-parts.ensures.parts c.parts-parts.ensures.table numbered) in
          let shown : f placed ≡ x ∷ [] =
          ap (shown_with u igp kept.entries placed.dest) numbered
          ∙ ap (λ (it : Entry). record { router = u; igp = igp; dest = placed.dest; entry = it } ∷ []) read in
          shown_more names (flat_map f (take k places)) x c.args.text.now.items c.loop-placed.text.items (shown_line names x)
          c.match-number.text.items c.loop-placed.invariant refl
          (ap (λ (t : Vec ℕ Global). t.items) w.text-is ∙ w.in_ok-add_entry.ensures)
          ∙ ap said (sym (flat_more f places k placed (x ∷ []) c.loop-placed-test.true c.placed-item.is shown))
      | in_default w ↦
          let none : f placed ≡ [] =
          ap (shown_with u igp kept.entries placed.dest) (sym c.number.ensures ∙ w.in_default.is) in
          ap (λ (t : Vec ℕ Global). t.items) w.text-is ∙ c.loop-placed.invariant
          ∙ ap said (sym (flat_more f places k placed [] c.loop-placed-test.true c.placed-item.is none
          ∙ append-nil (flat_map f (take k places))))
    ]

pub returns : goal.returns
returns c =
    let names = names_of c.args.owner.net.now in
    let kept : KeptTable = kept_in c.parts-parts.result in
    let u : ℕ = c.args.owner.router in
    let igp : Igp = c.args.owner.igp in
    let places : List Placed = c.args.places.now in
    let order = order_in igp kept c.args.table.now places c.parts-parts.ensures.parts c.requires.places in
    record {
      all = flat_map (shown_at u igp kept) places;
      in_order = subst (λ (k : KeptTable). AreInShownOrder (IsOfShownTable u igp (listed k)) (flat_map (shown_at u igp kept) places))
          c.parts-parts.ensures.parts (shown_in_order kept igp places order u);
      longer_is = c.loop-placed.invariant
          ∙ ap (λ (l : List Placed). c.args.text.now.items ++ shown_text names (flat_map (shown_at u igp kept) l))
          (take_all c.loop-placed.placed-index places c.loop-placed-test.false);
    }
