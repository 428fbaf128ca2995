-- Routers that segments join.
use Rattle.std.proofs.Common.{◌≡◌, ◌≢◌, ℕ, ◌↔◌, ◌⊎◌, inl, inr, List, ◌++◌, refl}
use Rattle.std.specs.List.{Any, Contains}
use Rattle.std.proofs.lemmas.List.Elements.{Contains-append_left, Contains-append_right, Contains-append_cases}
use Rattle.walk_core.specs.Segments.{Sends}
use Rattle.walk_core.specs.declared.segment.Port.{Port}
use Rattle.route_tables.specs.Entries.{AreJoined}
use Rattle.route_tables.specs.steps.Joined.{JoinsRouters}
use Rattle.net_addr.proofs.SomeElement.{any_in, any_of}

-- two routers are joined where they are apart and have ports of one of the segments
pub joined_by : (segments : List (List Port)) (u v : ℕ) → u ≢ v → Any (JoinsRouters u v) segments ↔ AreJoined segments u v
joined_by segments u v apart = (
  λ any.
      let f = any_in (JoinsRouters u v) segments any in
      let near = any_in (λ (port : Port). port.vertex ≡ u) f.item f.holds.one in
      let far = any_in (λ (port : Port). port.vertex ≡ v) f.item f.holds.other in
      record {
        cost = near.item.cost;
        sends = record {
          apart = apart;
          over = record {
            segment = f.item;
            among = f.among;
            over = record {
              near = near.item;
              far = far.item;
              near_among = near.among;
              far_among = far.among;
              from = near.holds;
              to = far.holds;
              costs = refl;
            };
          };
        };
      },
  λ joined.
      let sends : Sends segments u v joined.cost = joined.sends.over in
      any_of (JoinsRouters u v) segments sends.segment sends.among
      (record {
        one = any_of (λ (port : Port). port.vertex ≡ u) sends.segment sends.over.near sends.over.near_among sends.over.from;
        other = any_of (λ (port : Port). port.vertex ≡ v) sends.segment sends.over.far sends.over.far_among sends.over.to;
      }),
)

-- what two lists of segments join is what either joins
pub joined_both : (one two : List (List Port)) (u v : ℕ) → AreJoined (one ++ two) u v ↔ (AreJoined one u v ⊎ AreJoined two u v)
joined_both one two u v = (
  λ joined. elim (Contains-append_cases one two joined.sends.over.segment joined.sends.over.among) [
    | inl first ↦ inl (in_part one joined first)
    | inr second ↦ inr (in_part two joined second)
  ],
  λ either. elim either [
    | inl first ↦ in_part (one ++ two) first (Contains-append_left one two first.sends.over.segment first.sends.over.among)
    | inr second ↦ in_part (one ++ two) second (Contains-append_right one two second.sends.over.segment second.sends.over.among)
  ],
)
  where
    in_part : {all : List (List Port)} (part : List (List Port)) (joined : AreJoined all u v) → Contains part joined.sends.over.segment → AreJoined part u v
    in_part part joined among = record {
      cost = joined.cost;
      sends = record { apart = joined.sends.apart; over = record { segment = joined.sends.over.segment; among = among; over = joined.sends.over.over } };
    }
