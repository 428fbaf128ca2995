use Rattle.std.proofs.Common.{ℕ, List, length, sym, subst}
use Rattle.std.proofs.lemmas.Result.{IfOk-weaker}
use Rattle.order_core.specs.Orders.{IsOrder}
use Rattle.order_core.specs.Rankings.{flat_of}
use Rattle.order_core.proofs.WaveLists.{flat_is_order}
use Rattle.step_scripts.specs.WaveFiles.{NamesWaves}
use Rattle.migrate_cli.specs.CheckDecision.{IsCheckOver, IsOrderDecision, IsWavesDecision}
use Rattle.migrate_cli.specs.CheckDecision.IsCheckOver.{of_order, of_waves}
use Rattle.migrate_cli.specs.steps.Tables.{move_of}
use Rattle.migrate_cli.proofs.check.judge_file.Goals as goal

pub judge_order-requires : goal.judge_order-requires
judge_order-requires c =
    let ranks = c.args.read.now.waves in
    subst (IsOrder (length c.args.tables.now.net)) (sym c.flat.ensures)
    (subst (λ n. IsOrder n (flat_of ranks)) c.requires (flat_is_order ranks))

pub returns-in-One : goal.returns-in-One
returns-in-One c = λ order names.
    let of = c.args.tables.now in
    let ranks = c.args.read.now.waves in
    IfOk-weaker c.judge_order.result (IsOrderDecision (move_of c.args.tables.now) c.flat.result.now) (IsCheckOver (move_of of) order)
    (λ decision is. of_order ranks decision (subst (λ version. NamesWaves of.net order.text version ranks) c.in-One.is names)
    (subst (λ (some : List ℕ). IsOrderDecision (move_of of) some decision) c.flat.ensures is))
    c.judge_order.ensures

pub returns-in-Two : goal.returns-in-Two
returns-in-Two c = λ order names.
    let of = c.args.tables.now in
    let ranks = c.args.read.now.waves in
    IfOk-weaker c.judge_waves.result (IsWavesDecision (move_of c.args.tables.now) ranks) (IsCheckOver (move_of of) order)
    (λ decision is. of_waves ranks decision (subst (λ version. NamesWaves of.net order.text version ranks) c.in-Two.is names) is)
    c.judge_waves.ensures
