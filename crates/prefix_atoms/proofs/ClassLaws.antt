-- Why the addresses of one class act alike.
use Rattle.std.proofs.lemmas.Grind.{common_steps}
use Rattle.std.proofs.Common.{◌≡◌, ℕ, ◌<◌, ◌≤◌, ◌↔◌, List, [], ◌∷◌, length, get_or, Option, Contains, ⊎_elim, arith}
use Rattle.std.proofs.lemmas.Bool.{cases_lt}
use Rattle.net_addr.specs.Addresses.{Block, ContainsAddress}
use Rattle.net_addr.specs.Boundaries.{SameBlocksContain}
use Rattle.net_addr.proofs.LongestMatchLaws.{IsLongestMatch-alike}
use Rattle.net_model.specs.Lookups.{LongestConnected}
use Rattle.net_model.specs.Network.{Connected}
use Rattle.route_core.specs.Tables.{LongestEntry}
use Rattle.route_core.specs.declared.entry.Entry.{Entry}
use Rattle.igp_theory.specs.Forwarding.{IsOriginated, IsTarget, Usable, Counts, connected_counts, old_counts, new_counts, Uses, MustForward, Steps}
use Rattle.igp_theory.specs.Migrations.{Migration}
use Rattle.igp_theory.specs.Phases.{State}
use Rattle.igp_theory.specs.States.{StepsIn, Follows, IsSoundAt}
use Rattle.igp_theory.specs.declared.phase.Phase.{Phase}
use Rattle.prefix_atoms.specs.Classes.{Occurs, connected_occurs, old_occurs, new_occurs, AreSamples, Classes, IsInClass, HasTarget, AreClasses}
use Rattle.prefix_atoms.specs.Laws.{ActAlike}
use Rattle.prefix_atoms.proofs.Ascending.{below_later}

-- the same blocks contain both, whichever is named first
pub alike_sym : (prefixes : List Block) (a b : ℕ) → SameBlocksContain prefixes a b → SameBlocksContain prefixes b a
alike_sym prefixes a b h p member = ((h p member).1, (h p member).0)

pub alike_trans : (prefixes : List Block) (a b c : ℕ) → SameBlocksContain prefixes a b → SameBlocksContain prefixes b c → SameBlocksContain prefixes a c
alike_trans prefixes a b c h k p member = (λ inside. (k p member).0 ((h p member).0 inside), λ inside. (h p member).1 ((k p member).1 inside))

-- every prefix that occurs contains both addresses or neither
pub record OccurAlike (move : Migration) (a b : ℕ) : Type 0 where
  pub to : (p : Block) → Occurs move p → ContainsAddress p a → ContainsAddress p b
  pub from : (p : Block) → Occurs move p → ContainsAddress p b → ContainsAddress p a

flip : {move : Migration} {a b : ℕ} → OccurAlike move a b → OccurAlike move b a
flip h = record { to = h.from; from = h.to }

originated_occurs : {move : Migration} {p : Block} → IsOriginated move.net p → Occurs move p
originated_occurs o = connected_occurs o.router (record { interface = o.interface; up = o.up; subnet = o.subnet })

-- an entry that counts is for a prefix that occurs
counting_occurs : {move : Migration} {u : ℕ} {phase : Phase} {p : Block} {d : ℕ} {x : Usable} →
    Counts move u phase p d x → Occurs move p
counting_occurs {u = u} (connected_counts h) = connected_occurs u h
counting_occurs {u = u} (old_counts {e = e} _ _ _ _ _ listed) = old_occurs u e listed
counting_occurs {u = u} (new_counts {e = e} _ listed) = new_occurs u e listed

-- what occurs contains both addresses or neither
alike_both : {move : Migration} {a b : ℕ} → OccurAlike move a b → (offered : Block → Type 0)
    → ((q : Block) → offered q → Occurs move q)
    → (q : Block) → offered q → ContainsAddress q a ↔ ContainsAddress q b
alike_both h offered occurs q on = (h.to q (occurs q on), h.from q (occurs q on))

same_target : {move : Migration} {a b : ℕ} → OccurAlike move a b → (p : Block) → IsTarget move.net a p → IsTarget move.net b p
same_target {move} {a} {b} h p t =
    IsLongestMatch-alike (IsOriginated move.net) a b p (alike_both h (IsOriginated move.net) (λ q on. originated_occurs on)) t

-- addresses that the same prefixes contain have one target, or none
pub has_target_alike : {move : Migration} {a b : ℕ} → OccurAlike move a b → (t : Option Block) → HasTarget move.net a t → HasTarget move.net b t
has_target_alike h it_1 t = grind (arith, common_steps, flip, same_target)

same_connected : {move : Migration} {a b : ℕ} → OccurAlike move a b → (u : ℕ) (p : Block) → LongestConnected move.net u a p →
    LongestConnected move.net u b p
same_connected {move} {a} {b} h u p t = IsLongestMatch-alike (Connected move.net u) a b p (alike_both h (Connected move.net u)
    (λ q on. connected_occurs u on)) t

same_old : {move : Migration} {a b : ℕ} → OccurAlike move a b → (u : ℕ) (p : Block) (e : Entry) → LongestEntry (move.old u) a p e
    → LongestEntry (move.old u) b p e
same_old {move} {a} {b} h u p e t = record {
  listed = t.listed;
  match = IsLongestMatch-alike (λ q. (f : Entry) × move.old u q f) a b p
      (alike_both h (λ q. (f : Entry) × move.old u q f) (λ q on. old_occurs u on.0 on.1)) t.match;
}

same_new : {move : Migration} {a b : ℕ} → OccurAlike move a b → (u : ℕ) (p : Block) (e : Entry) → LongestEntry (move.new u) a p e
    → LongestEntry (move.new u) b p e
same_new {move} {a} {b} h u p e t = record {
  listed = t.listed;
  match = IsLongestMatch-alike (λ q. (f : Entry) × move.new u q f) a b p
      (alike_both h (λ q. (f : Entry) × move.new u q f) (λ q on. new_occurs u on.0 on.1)) t.match;
}

same_used : {move : Migration} {a b : ℕ} → OccurAlike move a b → (u : ℕ) (phase : Phase) (x : Usable) →
    Uses move u phase a x → Uses move u phase b x
same_used h u phase x t = record {
  prefix = t.prefix;
  distance = t.distance;
  counts = t.counts;
  contains = h.to t.prefix (counting_occurs t.counts) t.contains;
  longest = λ q d other counts inside. t.longest q d other counts (h.from q (counting_occurs counts) inside);
  lowest = λ q d other counts inside len. t.lowest q d other counts (h.from q (counting_occurs counts) inside) len;
}

same_must : {move : Migration} {a b : ℕ} → OccurAlike move a b → (u : ℕ) → MustForward move.net a u → MustForward move.net b u
same_must h u m = record { router = m.router; target = m.target; is_target = same_target h m.target m.is_target; away = m.away }

same_steps : {move : Migration} {a b : ℕ} → OccurAlike move a b → (u v : ℕ) (phase : Phase) →
    Steps move u phase a v → Steps move u phase b v
same_steps h u v phase s = record { must = same_must h u s.must; used = s.used; uses = same_used h u phase s.used s.uses; leads = s.leads }

same_lists : {move : Migration} {a b : ℕ} → OccurAlike move a b → (state : State) (u : ℕ) (hops : List ℕ) (v : ℕ) →
    Follows (StepsIn move state a) u hops v → Follows (StepsIn move state b) u hops v
same_lists h state u [] v f = f
same_lists h state u (x ∷ hops) v f = (same_steps h u x (state u) f.0, same_lists h state x hops v f.1)

same_sound : {move : Migration} {a b : ℕ} → OccurAlike move a b → (state : State) →
    IsSoundAt move state a → IsSoundAt move state b
same_sound h state s = record {
  forwards = λ u m.
      let has = s.forwards u (same_must (flip h) u m) in
      record { hop = has.hop; steps = same_steps h u has.hop (state u) has.steps };
  returns_never = λ u v hops f. s.returns_never u v hops (same_lists (flip h) state u (v ∷ hops) u f);
}

pub alike_acts : {move : Migration} {a b : ℕ} → OccurAlike move a b → ActAlike move a b
alike_acts h = record {
  target = λ p. (same_target h p, same_target (flip h) p);
  connected = λ u p. (same_connected h u p, same_connected (flip h) u p);
  old_entry = λ u p e. (same_old h u p e, same_old (flip h) u p e);
  new_entry = λ u p e. (same_new h u p e, same_new (flip h) u p e);
  used = λ u phase x. (same_used h u phase x, same_used (flip h) u phase x);
  steps = λ u v phase. (same_steps h u v phase, same_steps (flip h) u v phase);
  sound = λ state. (same_sound h state, same_sound (flip h) state);
}

-- where the prefixes of a list are those that occur, they tell what occurs apart
pub occur_alike : (move : Migration) (prefixes : List Block) (a b : ℕ) → ((p : Block) → Contains prefixes p ↔ Occurs move p)
    → SameBlocksContain prefixes a b → OccurAlike move a b
occur_alike move prefixes a b occur alike = record {
  to = λ p o inside. (alike p ((occur p).1 o)).0 inside;
  from = λ p o inside. (alike p ((occur p).1 o)).1 inside;
}

-- the addresses of one class act alike
pub one_class_acts_alike : (move : Migration) (c : Classes) (k a b : ℕ) → AreClasses move c → IsInClass c k a → IsInClass c k b →
    ActAlike move a b
one_class_acts_alike move c k a b are in_a in_b =
    alike_acts (occur_alike move c.prefixes a b are.occur
    (alike_trans c.prefixes a (get_or c.samples k 0) b (alike_sym c.prefixes (get_or c.samples k 0) a in_a.alike) in_b.alike))

-- a sample is in no later class
not_earlier : (prefixes : List Block) (samples : List ℕ) (k j a : ℕ) → AreSamples prefixes samples → j < length samples → k < j
    → SameBlocksContain prefixes (get_or samples k 0) a → SameBlocksContain prefixes (get_or samples j 0) a → ⊥
not_earlier prefixes samples k j a are within before one other =
    are.least j (get_or samples k 0) within (below_later samples k j are.ascending before within)
    (alike_trans prefixes (get_or samples j 0) a (get_or samples k 0) other (alike_sym prefixes (get_or samples k 0) a one))

-- an address is in one class
pub one_class_each : (c : Classes) (k j a : ℕ) → AreSamples c.prefixes c.samples → IsInClass c k a → IsInClass c j a → k ≡ j
one_class_each c k j a are in_k in_j = ⊎_elim
    (λ (l : k < j). absurd (not_earlier c.prefixes c.samples k j a are in_j.class l in_k.alike in_j.alike))
    (λ (l : j ≤ k). ⊎_elim
    (λ (m : j < k). absurd (not_earlier c.prefixes c.samples j k a are in_k.class m in_j.alike in_k.alike))
    (λ (m : k ≤ j). let e : k ≡ j = omega arith in e)
    (cases_lt j k))
    (cases_lt k j)
