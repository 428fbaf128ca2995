use Rattle.std.proofs.Common.{◌≡◌, ◌<◌, ◌∙◌, ℕ, Bool, false, List, Some, arith, length, refl, slice_get, subst, sym}
use Rattle.std.proofs.lemmas.List.{get_or_default}
use Rattle.std.proofs.lemmas.Option.{same_Some, slice_get_read}
use Rattle.prefix_atoms.proofs.Pushed.{count_more, each_more}
use Rattle.rib_mix.specs.declared.both_tables.BothTables.{BothTables}
use Rattle.rib_mix.specs.declared.own.OfRouter.{OfRouter}
use Rattle.rib_mix.specs.steps.OwnCells.{IsOwnAt}
use Rattle.rib_mix.proofs.OwnLaws.{by_lanes}
use Rattle.rib_mix.proofs.own.all_own.Goals as goal

pub loop-router-preserved : goal.loop-router-preserved
loop-router-preserved c =
    let router : ℕ = c.loop-router.router in
    let both : BothTables = c.index-tables-router.result in
    let own : OfRouter = c.in_ok-own.own in
    let old : List OfRouter = c.loop-router.all.items in
    let new : List OfRouter = c.push.new.self.items in
    let begins : List Bool = c.args.begins.now in
    let flag_within : router < length begins =
    omega (arith, c.loop-router-test.true, c.requires.tables, c.requires.begins.count, c.routers-router-end.ensures.count) in
    let here : slice_get c.args.tables.now router ≡ Some both =
    slice_get_read c.args.tables.now (length c.args.tables.now) router both refl
    (omega (arith, c.loop-router-test.true, c.requires.tables, c.routers-router-end.ensures.count)) c.index-tables-router.is in
    record {
      count = count_more old new own router c.loop-router.invariant.count c.in_ok-push.ensures.items;
      each = each_more (λ u one. (other : BothTables) → slice_get c.args.tables.now u ≡ Some other →
          IsOwnAt c.args.net.now u other one)
          old new own router c.loop-router.invariant.count c.loop-router.invariant.each c.in_ok-push.ensures.items
          (λ other at. subst (λ (b : BothTables). IsOwnAt c.args.net.now router b own)
          (same_Some both other (sym here ∙ at)) (record {
            ospf = c.ospf_distance.result;
            network = c.ospf_distance.ensures.network;
            distance = c.ospf_distance.ensures.distance;
            tells = c.in_ok-own.ensures.tells;
          }));
      flags = each_more (λ u one. slice_get c.args.begins.now u ≡ Some one.begins) old new own router
          c.loop-router.invariant.count c.loop-router.invariant.flags c.in_ok-push.ensures.items
          (slice_get_read begins (length begins) router own.begins refl flag_within
          (c.in_ok-own.ensures.begins ∙ get_or_default begins router false own.begins flag_within));
    }

pub returns : goal.returns
returns c =
    let count : length c.loop-router.all.items ≡ length c.args.tables.now = omega (
      arith,
      c.loop-router.invariant.count,
      c.loop-router.auto.router-end,
      c.loop-router-test.false,
      c.routers-router-end.ensures.count,
      c.requires.tables,
    ) in
    record {
      count = count;
      each = c.loop-router.invariant.each;
      lanes = by_lanes c.args.net.now c.args.tables.now c.args.begins.now c.loop-router.all.items c.requires.begins count
          c.loop-router.invariant.each c.loop-router.invariant.flags;
    }
