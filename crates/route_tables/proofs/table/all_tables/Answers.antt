use Rattle.std.proofs.lemmas.Grind.{common_steps}
use Rattle.std.proofs.Common.{◌+◌, ◌≡◌, ◌∙◌, ◌∷◌, ◌++◌, [], ℕ, List, All, ap, length, map, sym, subst, arith}
use Rattle.std.proofs.lemmas.List.Elements.{All-map}
use Rattle.std.proofs.lemmas.Result.{IfOk-weaker}
use Rattle.net_addr.specs.Addresses.{Block}
use Rattle.route_core.specs.Rows.{KeptTable, listed}
use Rattle.route_core.specs.declared.entry.Entry.{Entry}
use Rattle.route_tables.specs.steps.Entries.{AreTablesBelow}
use Rattle.route_tables.specs.declared.table.RouterNumbers.{RouterNumbers}
use Rattle.route_tables.specs.steps.Sharing.{AreOverOne, AreRouterNumbers, AreRouterNumbersBelow, kept_with}
use Rattle.route_tables.proofs.SharingLaws.{single_kept}
use Rattle.route_tables.proofs.KeptTables.{all_are_tables, are_tables, kinds_for, numbers_below_more}
use Rattle.route_tables.proofs.table.all_tables.Goals as goal

pub router_lane-lane-requires-clause-told : goal.router_lane-lane-requires-clause-told
router_lane-lane-requires-clause-told g c = grind (arith, common_steps)

pub router_lane-lane-requires-clause-behind : goal.router_lane-lane-requires-clause-behind
router_lane-lane-requires-clause-behind g c = grind (arith, common_steps)

pub router_numbers-requires-clause-kinds : goal.router_numbers-requires-clause-kinds
router_numbers-requires-clause-kinds g c = grind (arith, common_steps, kinds_for)

pub loop-router-init : goal.loop-router-init
loop-router-init g c = record {
  numbers = record { count = ap length c.in_ok-all.ensures.items; each = λ u own below. absurd (omega arith) };
  single = subst (λ (n : ℕ). AreOverOne n c.in_ok-pool.pool.entries.items) c.routers-routers.ensures.count c.in_ok-pool.ensures;
}

pub loop-router-preserved : goal.loop-router-preserved
loop-router-preserved g c =
    let protocol = c.args.protocol.now in
    let entry : ℕ → Block → Entry → Type 0 = (g.P.Protocol.routes protocol).entry in
    let dests : List Block = g.P.Protocol.candidates protocol in
    let before = c.loop-router in
    let router : ℕ = before.router in
    let n : ℕ = (g.P.Protocol.routes protocol).routers in
    let own : RouterNumbers = c.in_ok-numbers.numbers in
    let kept = c.in_ok-numbers.ensures.kept in
    let old : List Entry = before.pool.entries.items in
    record {
      numbers = subst (AreRouterNumbersBelow entry (router + 1) dests c.router_numbers.new.pool.entries.items) (sym c.in_ok-push.ensures.items)
          (subst (λ (l : List Entry). AreRouterNumbersBelow entry (router + 1) dests l (before.all.items ++ own ∷ [])) (sym kept.entries)
          (numbers_below_more entry router dests old kept.more before.all.items own before.invariant.numbers
          (subst (λ (l : List Entry). AreRouterNumbers (entry router) dests l own) kept.entries
          (subst (λ (u : ℕ). AreRouterNumbers (entry u) dests c.router_numbers.new.pool.entries.items own)
          c.router_lane-lane.ensures.router c.in_ok-numbers.ensures.numbers))));
      single = single_kept n before.pool c.router_numbers.new.pool kept before.invariant.single;
    }

pub tables_over-requires : goal.tables_over-requires
tables_over-requires g c = grind (arith, common_steps, all_are_tables)

pub returns-clause-tables : goal.returns-clause-tables
returns-clause-tables g c =
    let protocol = c.args.protocol.now in
    let entry : ℕ → Block → Entry → Type 0 = (g.P.Protocol.routes protocol).entry in
    let dests : List Block = g.P.Protocol.candidates protocol in
    let n : ℕ = (g.P.Protocol.routes protocol).routers in
    let last = c.loop-router in
    let entries : List Entry = last.pool.entries.items in
    let count : last.router ≡ n = omega (arith, last.auto.router-end, c.routers-routers.ensures.count) in
    let are : AreRouterNumbersBelow entry n dests entries last.all.items =
    subst (λ (m : ℕ). AreRouterNumbersBelow entry m dests entries last.all.items) count last.invariant.numbers in
    IfOk-weaker c.tables_over.result _ _ (λ tables same. subst (λ (l : List KeptTable). AreTablesBelow entry n (map listed l))
    (sym (same ∙ ap (λ (ps : List Block). map (kept_with ps entries) last.all.items) c.in_ok-prefixes.ensures.prefixes))
    (are_tables n entry dests entries last.all.items c.routers-routers.ensures.lawful.single c.prefixes_of.ensures.distinct c.prefixes_of.ensures.every are))
    c.tables_over.ensures

pub returns-clause-prefixes : goal.returns-clause-prefixes
returns-clause-prefixes g c =
    let dests : List Block = g.P.Protocol.candidates c.args.protocol.now in
    let Keep : KeptTable → Type 0 = λ kept. kept.prefixes ≡ dests in
    let made = kept_with c.in_ok-prefixes.prefixes.items c.loop-router.pool.entries.items in
    IfOk-weaker c.tables_over.result _ _ (λ tables same. subst (All Keep) (sym same)
    (All-map Keep made c.loop-router.all.items (λ k d below. c.in_ok-prefixes.ensures.prefixes)))
    c.tables_over.ensures
