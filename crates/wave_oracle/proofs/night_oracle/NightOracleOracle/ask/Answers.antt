use Rattle.std.proofs.Common.{◌≡◌, ℕ, ◌≤◌, List, All, length, refl, sym, subst}
use Rattle.igp_theory.specs.Forwarding.{MustForward}
use Rattle.igp_theory.specs.WaveFaults.{IsTimesFault}
use Rattle.order_core.specs.Pairs.{Pair}
use Rattle.order_core.specs.Rankings.{IsRanking, KeepsPairs}
use Rattle.order_core.specs.declared.turn.Turn.{Turn}
use Rattle.rib_mix.specs.Mixture.{Mixture}
use Rattle.loop_finder.specs.Faults.{told_fault}
use Rattle.loop_finder.specs.declared.fault.Fault.{Fault}
use Rattle.order_search.specs.Meanings.{Break}
use Rattle.plan_theory.specs.Ranked.{base_of, size_of}
use Rattle.plan_theory.specs.WavesMeaning.{night_meaning}
use Rattle.plan_theory.specs.Numbers.{AreNumbered}
use Rattle.wave_oracle.specs.Nights.{Night, night_can, night_move, night_times}
use Rattle.wave_oracle.proofs.NightLaws.{night_base, night_good, night_size, night_told, over_same, told_breaks_night, told_few, told_must}
use Rattle.wave_oracle.proofs.night_oracle.NightOracleOracle.ask.Goals as goal

pub loop_address-address-requires : goal.loop_address-address-requires
loop_address-address-requires g c =
    let night : Night g.row.O.Denot g.row.N.Denot = c.self.inside.finder in
    let waves : IsRanking (size_of night.items (length night.mixture.net)) c.args.ranks.now =
    subst (λ (x : Night g.row.O.Denot g.row.N.Denot). IsRanking (size_of x.items (length x.mixture.net)) c.args.ranks.now) (sym c.self.view_is)
    (subst (λ (n : ℕ). IsRanking n c.args.ranks.now)
    (night_size c.args.self.now.items (night_move g.O.RouteSource.table g.N.RouteSource.table c.args.self.now)) c.requires.ranking) in
    let keeps : KeepsPairs c.args.ranks.now (base_of night.items (length night.mixture.net)) =
    subst (λ (x : Night g.row.O.Denot g.row.N.Denot). KeepsPairs c.args.ranks.now (base_of x.items (length x.mixture.net))) (sym c.self.view_is)
    (subst (λ (pairs : List Pair). KeepsPairs c.args.ranks.now pairs)
    (night_base c.args.self.now.items (night_move g.O.RouteSource.table g.N.RouteSource.table c.args.self.now)) c.requires.keeps) in
    night_told night.items (night_move g.O.RouteSource.table g.N.RouteSource.table night) (night_can g.O.RouteSource.table g.N.RouteSource.table night)
    c.args.ranks.now waves keeps c.self.invariant c.in-Some._wave c.in-Some.fault c.fault.new.self.ring c.in-Some.ensures.fault

pub number_ring-requires-clause-must : goal.number_ring-requires-clause-must
number_ring-requires-clause-must g c =
    let night : Night g.row.O.Denot g.row.N.Denot = c.self.inside.finder in
    let waves : IsRanking (size_of night.items (length night.mixture.net)) c.args.ranks.now =
    subst (λ (x : Night g.row.O.Denot g.row.N.Denot). IsRanking (size_of x.items (length x.mixture.net)) c.args.ranks.now) (sym c.self.view_is)
    (subst (λ (n : ℕ). IsRanking n c.args.ranks.now)
    (night_size c.args.self.now.items (night_move g.O.RouteSource.table g.N.RouteSource.table c.args.self.now)) c.requires.ranking) in
    let keeps : KeepsPairs c.args.ranks.now (base_of night.items (length night.mixture.net)) =
    subst (λ (x : Night g.row.O.Denot g.row.N.Denot). KeepsPairs c.args.ranks.now (base_of x.items (length x.mixture.net))) (sym c.self.view_is)
    (subst (λ (pairs : List Pair). KeepsPairs c.args.ranks.now pairs)
    (night_base c.args.self.now.items (night_move g.O.RouteSource.table g.N.RouteSource.table c.args.self.now)) c.requires.keeps) in
    subst (λ (m : Mixture g.row.O.Denot g.row.N.Denot). All (λ (t : Turn). MustForward m.net c.loop_address-address.result t.router) c.fault.new.self.ring)
    (sym c.in-Some.ensures.mixture)
    (told_must night.items (night_move g.O.RouteSource.table g.N.RouteSource.table night) (night_can g.O.RouteSource.table g.N.RouteSource.table night)
    c.args.ranks.now waves keeps c.self.invariant c.in-Some._wave c.loop_address-address.result c.fault.new.self.ring
    (subst (λ (f : Fault). IsTimesFault (night_move g.O.RouteSource.table g.N.RouteSource.table night)
    (night_times g.O.RouteSource.table g.N.RouteSource.table night c.args.ranks.now) c.in-Some._wave (told_fault f c.fault.new.self.ring))
    c.loop_address-address.ensures c.in-Some.ensures.fault))

pub number_ring-requires-clause-few : goal.number_ring-requires-clause-few
number_ring-requires-clause-few g c =
    let night : Night g.row.O.Denot g.row.N.Denot = c.self.inside.finder in
    let waves : IsRanking (size_of night.items (length night.mixture.net)) c.args.ranks.now =
    subst (λ (x : Night g.row.O.Denot g.row.N.Denot). IsRanking (size_of x.items (length x.mixture.net)) c.args.ranks.now) (sym c.self.view_is)
    (subst (λ (n : ℕ). IsRanking n c.args.ranks.now)
    (night_size c.args.self.now.items (night_move g.O.RouteSource.table g.N.RouteSource.table c.args.self.now)) c.requires.ranking) in
    let keeps : KeepsPairs c.args.ranks.now (base_of night.items (length night.mixture.net)) =
    subst (λ (x : Night g.row.O.Denot g.row.N.Denot). KeepsPairs c.args.ranks.now (base_of x.items (length x.mixture.net))) (sym c.self.view_is)
    (subst (λ (pairs : List Pair). KeepsPairs c.args.ranks.now pairs)
    (night_base c.args.self.now.items (night_move g.O.RouteSource.table g.N.RouteSource.table c.args.self.now)) c.requires.keeps) in
    subst (λ (m : Mixture g.row.O.Denot g.row.N.Denot). length c.fault.new.self.ring ≤ length m.net) (sym c.in-Some.ensures.mixture)
    (told_few night.items (night_move g.O.RouteSource.table g.N.RouteSource.table night) (night_can g.O.RouteSource.table g.N.RouteSource.table night)
    c.args.ranks.now waves keeps c.self.invariant c.in-Some._wave c.loop_address-address.result c.fault.new.self.ring
    (subst (λ (f : Fault). IsTimesFault (night_move g.O.RouteSource.table g.N.RouteSource.table night)
    (night_times g.O.RouteSource.table g.N.RouteSource.table night c.args.ranks.now) c.in-Some._wave (told_fault f c.fault.new.self.ring))
    c.loop_address-address.ensures c.in-Some.ensures.fault))

pub returns-in-Some-clause-breaks : goal.returns-in-Some-clause-breaks
returns-in-Some-clause-breaks g c address answer =
    let same : c.loop_address-address.result ≡ address = cc in
    let night : Night g.row.O.Denot g.row.N.Denot = c.self.inside.finder in
    let waves : IsRanking (size_of night.items (length night.mixture.net)) c.args.ranks.now =
    subst (λ (x : Night g.row.O.Denot g.row.N.Denot). IsRanking (size_of x.items (length x.mixture.net)) c.args.ranks.now) (sym c.self.view_is)
    (subst (λ (n : ℕ). IsRanking n c.args.ranks.now)
    (night_size c.args.self.now.items (night_move g.O.RouteSource.table g.N.RouteSource.table c.args.self.now)) c.requires.ranking) in
    let keeps : KeepsPairs c.args.ranks.now (base_of night.items (length night.mixture.net)) =
    subst (λ (x : Night g.row.O.Denot g.row.N.Denot). KeepsPairs c.args.ranks.now (base_of x.items (length x.mixture.net))) (sym c.self.view_is)
    (subst (λ (pairs : List Pair). KeepsPairs c.args.ranks.now pairs)
    (night_base c.args.self.now.items (night_move g.O.RouteSource.table g.N.RouteSource.table c.args.self.now)) c.requires.keeps) in
    subst (λ (a : ℕ). Break (night_meaning c.args.self.now.items (night_move g.O.RouteSource.table g.N.RouteSource.table c.args.self.now))
    c.args.ranks.now a c.number_ring.new.self.numbered) same
    (subst (λ (x : Night g.row.O.Denot g.row.N.Denot). Break (night_meaning x.items (night_move g.O.RouteSource.table g.N.RouteSource.table x))
    c.args.ranks.now c.loop_address-address.result c.number_ring.new.self.numbered) c.self.view_is
    (told_breaks_night night.items (night_move g.O.RouteSource.table g.N.RouteSource.table night) (night_can g.O.RouteSource.table g.N.RouteSource.table night)
    c.args.ranks.now waves keeps c.self.invariant c.in-Some._wave c.loop_address-address.result c.fault.new.self.ring
    (subst (λ (f : Fault). IsTimesFault (night_move g.O.RouteSource.table g.N.RouteSource.table night)
    (night_times g.O.RouteSource.table g.N.RouteSource.table night c.args.ranks.now) c.in-Some._wave (told_fault f c.fault.new.self.ring))
    c.loop_address-address.ensures c.in-Some.ensures.fault)
    c.number_ring.new.self.numbered
    (over_same g.O.RouteSource.table g.N.RouteSource.table night c.fault.new.self c.in-Some.ensures.mixture c.in-Some.ensures.items c.in-Some.ensures.start
    (λ i m. AreNumbered i m c.loop_address-address.result c.fault.new.self.ring c.number_ring.new.self.numbered) c.number_ring.ensures.numbered)))

pub returns-clause-fine : goal.returns-clause-fine
returns-clause-fine g c = λ fine.
    let night : Night g.row.O.Denot g.row.N.Denot = c.self.inside.finder in
    let waves : IsRanking (size_of night.items (length night.mixture.net)) c.args.ranks.now =
    subst (λ (x : Night g.row.O.Denot g.row.N.Denot). IsRanking (size_of x.items (length x.mixture.net)) c.args.ranks.now) (sym c.self.view_is)
    (subst (λ (n : ℕ). IsRanking n c.args.ranks.now)
    (night_size c.args.self.now.items (night_move g.O.RouteSource.table g.N.RouteSource.table c.args.self.now)) c.requires.ranking) in
    let keeps : KeepsPairs c.args.ranks.now (base_of night.items (length night.mixture.net)) =
    subst (λ (x : Night g.row.O.Denot g.row.N.Denot). KeepsPairs c.args.ranks.now (base_of x.items (length x.mixture.net))) (sym c.self.view_is)
    (subst (λ (pairs : List Pair). KeepsPairs c.args.ranks.now pairs)
    (night_base c.args.self.now.items (night_move g.O.RouteSource.table g.N.RouteSource.table c.args.self.now)) c.requires.keeps) in
    subst (λ (x : Night g.row.O.Denot g.row.N.Denot). (night_meaning x.items (night_move g.O.RouteSource.table g.N.RouteSource.table x)).good c.args.ranks.now)
    c.self.view_is
    (night_good night.items (night_move g.O.RouteSource.table g.N.RouteSource.table night) (night_can g.O.RouteSource.table g.N.RouteSource.table night)
    c.args.ranks.now waves keeps (c.in_default.ensures.sound.0 refl))
