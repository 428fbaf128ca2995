use Rattle.std.proofs.Common.{arith}
use Rattle.std.proofs.lemmas.Grind.{common_steps}
use Rattle.std.proofs.lemmas.List.{get_or_default}
use Rattle.std.proofs.lemmas.Result.{IfOk-weaker}
use Rattle.std.proofs.Common.{◌<◌, ℕ, List, length, Option, get_or, subst}
use Rattle.net_addr.specs.Addresses.{Block}
use Rattle.route_core.specs.declared.entry.Entry.{Entry}
use Rattle.route_tables.specs.Protocols.{ProtocolRoutes}
use Rattle.route_tables.specs.declared.lane.Decision.{Decision}
use Rattle.route_tables.specs.declared.lane.Decision.TheVariants.{Nothing, Unknown}
use Rattle.route_tables.specs.declared.table.LedLane.{LedLane}
use Rattle.route_tables.specs.steps.Kinds.{first_prefix_of, open_behind}
use Rattle.route_tables.specs.steps.Leads.{AreLaneLeads, AreLeads, AreLevelMakers}
use Rattle.route_tables.specs.steps.Sharing.{HasSomeNumber, IsEntryToEither, IsNumberOf, IsRouterLane}
use Rattle.route_tables.specs.steps.Told.{IsToldOfKind, told_beyond, told_first}
use Rattle.route_tables.proofs.LeadLaws.{leads_by, level_number_by, told_number, told_number_behind}
use Rattle.route_tables.proofs.table.number_at.Goals as goal

-- what is told of a kind is the number of the entry for its first prefix
told_of_kind : (routes : ProtocolRoutes) (dests : List Block) (entries : List Entry) (led : LedLane) (kind : ℕ) (number : Option ℕ) →
    IsRouterLane routes dests led.lane → AreLaneLeads led.lane entries led.leads.now led.behind.now → kind < length led.lane.firsts.now →
    IsToldOfKind led kind number → IsNumberOf (routes.entry led.lane.router (first_prefix_of dests led.lane.firsts.now kind)) entries number
told_of_kind routes dests entries led kind number is are within told = go told
  where
    u : ℕ
    u = led.lane.router

    p : Block
    p = first_prefix_of dests led.lane.firsts.now kind

    first : AreLeads (routes.reach u is.zone) u routes.routers entries led.leads.now
    first = subst (λ (n : ℕ). AreLeads (routes.reach u is.zone) u n entries led.leads.now) is.count
        (leads_by led.lane.walks (λ walks. walks.now) (routes.reach u is.zone) u led.lane.count entries led.leads.now is.walks are.of_lane)

    other : AreLeads (routes.reach u is.zone_behind) u routes.routers entries led.behind.now
    other = subst (λ (n : ℕ). AreLeads (routes.reach u is.zone_behind) u n entries led.behind.now) is.count
        (leads_by led.lane.walks_behind (λ walks. walks.now) (routes.reach u is.zone_behind) u led.lane.count entries led.behind.now is.walks_behind
        are.of_behind)

    go : IsToldOfKind led kind number → IsNumberOf (routes.entry u p) entries number
    go (told_first told) =
        told_number (routes.reach u) routes.zones is.zone routes.routers u (routes.entry u p) entries led.leads.now
        (get_or led.lane.decisions.now kind Unknown) number first (is.decides kind within) told
    go (told_beyond beyond told) =
        told_number_behind routes is.zone is.zone_behind u p entries led.leads.now led.behind.now (get_or led.lane.behind.now kind open_behind) number
        first other (is.behind kind beyond) told

pub returns-in-Some-clause-number : goal.returns-in-Some-clause-number
returns-in-Some-clause-number g c = grind (arith, common_steps, told_of_kind)

pub returns-in-Some-level_makers-clause-number : goal.returns-in-Some-level_makers-clause-number
returns-in-Some-level_makers-clause-number g c =
    let routes : ProtocolRoutes = g.P.Protocol.routes c.args.protocol.now in
    let led = c.args.led in
    let kind : ℕ = c.args.kind in
    let is = c.requires.lane in
    let u : ℕ = led.lane.router in
    let p : Block = first_prefix_of (g.P.Protocol.candidates c.args.protocol.now) led.lane.firsts.now kind in
    let entries : List Entry = c.args.pool.now.entries.items in
    let after : List Entry = c.number_over_both.new.pool.entries.items in
    let walks = c.in-Some-walks.walks in
    let makers = c.in-Some-level_makers.makers in
    let leads : AreLeads (routes.reach u is.zone) u routes.routers entries led.leads.now =
    subst (λ (n : ℕ). AreLeads (routes.reach u is.zone) u n entries led.leads.now) is.count
    (leads_by led.lane.walks (λ known. known.now) (routes.reach u is.zone) u led.lane.count entries led.leads.now is.walks c.requires.leads.of_lane) in
    let level : AreLevelMakers led.leads.now (get_or led.lane.decisions.now kind Unknown) makers =
    subst (λ (d : Decision). AreLevelMakers led.leads.now d makers)
    (get_or_default led.lane.decisions.now kind Nothing Unknown (omega (arith, is.long, c.requires.kind))) c.in-Some-level_makers.ensures in
    IfOk-weaker c.number_over_both.result _ _ (λ number has. level_number_by led.lane.walks (λ known. known.now) walks (routes.reach u) routes.zones
    is.zone routes.routers u (routes.entry u p) entries after led.leads.now (get_or led.lane.decisions.now kind Unknown) makers number
    c.in-Some-walks.is is.walks leads (is.decides kind c.requires.kind) level
    (subst (λ (n : ℕ). HasSomeNumber (IsEntryToEither walks.now makers n) after number) is.count has)) c.number_over_both.ensures.number
