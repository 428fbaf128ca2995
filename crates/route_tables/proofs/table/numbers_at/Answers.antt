use Rattle.std.proofs.Common.{◌+◌, ◌∷◌, ◌++◌, [], ℕ, ◌≡◌, List, MatchOption, Option, append-nil, ap, length, subst, sym, arith}
use Rattle.route_core.specs.declared.entry.Entry.{Entry}
use Rattle.route_tables.specs.steps.Kinds.{first_prefix_of}
use Rattle.route_tables.specs.declared.leads.Lead.{Lead}
use Rattle.route_tables.specs.steps.Leads.{AreLaneLeads, AreLeads}
use Rattle.route_tables.specs.steps.Sharing.{AreNumbers, AreOverOne, IsNumberOf}
use Rattle.route_tables.proofs.LeadLaws.{lane_leads_kept}
use Rattle.route_tables.proofs.SharingLaws.{more_kept, numbers_more, single_kept}
use Rattle.route_tables.proofs.table.numbers_at.Goals as goal

pub loop-kind-preserved : goal.loop-kind-preserved
loop-kind-preserved g c =
    let protocol = c.args.protocol.now in
    let lane = c.args.lane in
    let wanted : ℕ → Entry → Type 0 =
    λ kind. (g.P.Protocol.routes protocol).entry lane.router
    (first_prefix_of (g.P.Protocol.candidates protocol) lane.firsts.now kind) in
    let before = c.loop-kind in
    let i : ℕ = before.kind in
    let number : Option ℕ = c.in_ok-number.number in
    let pool = c.number_at.new.pool in
    let kept = c.in_ok-number.ensures.kept in
    let old : List Entry = before.pool.entries.items in
    record {
      numbers = subst (AreNumbers wanted (i + 1) pool.entries.items) (sym c.push_reserved.ensures.items)
          (subst (λ (l : List Entry). AreNumbers wanted (i + 1) l (before.numbers.items ++ number ∷ [])) (sym kept.entries)
          (numbers_more wanted i old kept.more before.numbers.items number before.invariant.numbers
          (subst (λ (l : List Entry). IsNumberOf (wanted i) l number) kept.entries c.in_ok-number.ensures.number)));
      leads = subst (λ (l : List Entry). AreLaneLeads lane l c.as_slice.result.now c.as_slice-2.result.now) (sym kept.entries) (record {
        of_lane = lane_leads_kept lane.walks (λ walks. walks.now) lane.router lane.count old kept.more c.as_slice.result.now before.invariant.leads.of_lane;
        of_behind =
            lane_leads_kept lane.walks_behind (λ walks. walks.now) lane.router lane.count old kept.more c.as_slice-2.result.now
            before.invariant.leads.of_behind;
      });
      single = single_kept (g.P.Protocol.routes protocol).routers before.pool pool kept before.invariant.single;
      room = omega (arith, c.push_reserved.ensures.capacity, before.invariant.room);
      kept = more_kept c.leads_of-2.new.pool before.pool pool before.invariant.kept kept;
    }

pub leads_of-requires-2 : goal.leads_of-requires-2
leads_of-requires-2 g c =
    let n : ℕ = c.args.lane.count in
    single_kept n c.begin_table.new.self c.leads_of.new.pool c.in_ok-leads.ensures.kept (subst (AreOverOne n) (sym c.begin_table.ensures)
    (subst (λ (m : ℕ). AreOverOne m c.args.pool.now.entries.items) (sym c.requires.lane.count) c.requires.single))

pub loop-kind-init : goal.loop-kind-init
loop-kind-init g c =
    let n : ℕ = (g.P.Protocol.routes c.args.protocol.now).routers in
    let lane = c.args.lane in
    let start = c.begin_table.new.self in
    let mid = c.leads_of.new.pool in
    let pool = c.leads_of-2.new.pool in
    let kept = c.in_ok-behind.ensures.kept in
    record {
      numbers = record { count = ap length c.in_ok-numbers.ensures.items; each = λ kind below. absurd (omega arith) };
      leads = record {
        of_lane = subst (λ (l : List Lead). MatchOption lane.walks (l ≡ []) (λ walks. AreLeads walks.now lane.router lane.count pool.entries.items l))
            (sym c.as_slice.ensures.value)
            (subst (λ (l : List Entry). MatchOption lane.walks (c.in_ok-leads.leads.items ≡ [])
            (λ walks. AreLeads walks.now lane.router lane.count l c.in_ok-leads.leads.items))
            (sym kept.entries)
            (lane_leads_kept lane.walks (λ walks. walks.now) lane.router lane.count mid.entries.items kept.more c.in_ok-leads.leads.items
            c.in_ok-leads.ensures.leads));
        of_behind = subst (λ (l : List Lead). MatchOption lane.walks_behind (l ≡ []) (λ walks. AreLeads walks.now lane.router lane.count pool.entries.items l))
            (sym c.as_slice-2.ensures.value) c.in_ok-behind.ensures.leads;
      };
      single = single_kept n mid pool kept
          (single_kept n start mid c.in_ok-leads.ensures.kept (subst (AreOverOne n) (sym c.begin_table.ensures) c.requires.single));
      room = omega (arith, c.in_ok-numbers.ensures.capacity);
      kept = record { more = []; entries = sym (append-nil pool.entries.items) };
    }
