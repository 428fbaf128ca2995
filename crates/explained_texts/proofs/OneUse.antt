-- A router uses one entry for an address, where the prefixes of entries are blocks of addresses.
use Rattle.std.proofs.Common.{◌≡◌, ◌∙◌, ℕ, ◌<◌, ◌≤◌, Option, IfSome, length, ap, arith, refl, subst, sym}
use Rattle.std.proofs.lemmas.List.Elements.{All-contains}
use Rattle.std.proofs.lemmas.Option.{slice_get_within, get_or_from_slice_get}
use Rattle.net_addr.specs.Addresses.{Block, IsBlock}
use Rattle.net_addr.proofs.Blocks.{same_block}
use Rattle.net_addr.proofs.LongestMatchLaws.{one_longest_match}
use Rattle.net_model.specs.Configuration.{AreDistances, Configuration, IsConfiguration, IsInterface}
use Rattle.net_model.specs.Network.{Connected, HasConfiguration, Network}
use Rattle.net_model.specs.Refusals.{IsNetwork}
use Rattle.route_core.specs.declared.entry.Entry.{Entry}
use Rattle.igp_theory.specs.Forwarding.{Counts, IsOriginated, IsTarget, LeadsTo, Steps, Usable, Uses, connected_counts, new_counts, of_new, of_old, old_counts}
use Rattle.igp_theory.specs.Migrations.{Migration}
use Rattle.igp_theory.specs.declared.phase.Phase.{Phase}
use Rattle.explained_texts.specs.TextLaws.{HasOneEntry}
use Rattle.explained_texts.specs.WayTexts.{UsesTowards}

config_of : (net : Network) (u : ℕ) (c : Configuration) → IsNetwork net → HasConfiguration net u c → IsConfiguration c
config_of net u c network has =
    All-contains IsConfiguration net c network.configurations (u, slice_get_within net u c has, get_or_from_slice_get net u c c has)

-- a connected prefix is a block
connected_block : (net : Network) (u : ℕ) (p : Block) → IsNetwork net → Connected net u p → IsBlock p
connected_block net u p network at =
    let config : IsConfiguration at.up.config = config_of net u at.up.config network at.up.router in
    let interface : IsInterface at.interface = All-contains IsInterface at.up.config.interfaces at.interface config.interfaces at.up.among in
    subst (λ (s : Option Block). IfSome s IsBlock) at.subnet interface.prefix

-- an address has one target
pub one_target : (net : Network) (a : ℕ) (p q : Block) → IsNetwork net → IsTarget net a p → IsTarget net a q → p ≡ q
one_target net a p q network one two =
    one_longest_match (IsOriginated net) a p q (originated_block one.is_offered) (originated_block two.is_offered) one two
  where
    originated_block : {r : Block} → IsOriginated net r → IsBlock r
    originated_block {r} o = connected_block net o.router r network (record { interface = o.interface; up = o.up; subnet = o.subnet })

module _ (move : Migration) (network : IsNetwork move.net) (one_old : HasOneEntry move.net move.old)
    (one_new : HasOneEntry move.net move.new) (u : ℕ) (within : u < length move.net) (phase : Phase) where
  distances_of : (c : Configuration) → HasConfiguration move.net u c → AreDistances c.distances
  distances_of c has = (config_of move.net u c network has).distances

  -- entries that count for one prefix at one distance are one
  one_counts : (p : Block) (d b : ℕ) (x y : Usable) → Counts move u phase p d x → Counts move u phase p b y → d ≡ b → x ≡ y
  one_counts p d b x y (connected_counts _) (connected_counts _) e = refl
  one_counts p d b x y (connected_counts _) (old_counts _ c has is _ _) e =
      let some = (distances_of c has).some in absurd (omega (arith, some, is, e))
  one_counts p d b x y (connected_counts _) (new_counts _ _) e = absurd (omega (arith, e))
  one_counts p d b x y (old_counts _ c has is _ _) (connected_counts _) e =
      let some = (distances_of c has).some in absurd (omega (arith, some, is, e))
  one_counts p d b x y (old_counts {e = f} _ _ _ _ _ first) (old_counts {e = g} _ _ _ _ _ second) e =
      ap of_old (one_old u p f g within first second)
  one_counts p d b x y (old_counts _ c has is _ _) (new_counts _ _) e = absurd ((distances_of c has).apart (is ∙ e))
  one_counts p d b x y (new_counts _ _) (connected_counts _) e = absurd (omega (arith, e))
  one_counts p d b x y (new_counts _ _) (old_counts _ c has is _ _) e = absurd ((distances_of c has).apart (is ∙ sym e))
  one_counts p d b x y (new_counts {e = f} _ first) (new_counts {e = g} _ second) e = ap of_new (one_new u p f g within first second)

  -- two uses are one
  pub record IsOneUse (a : ℕ) (x y : Usable) (one : Uses move u phase a x) (two : Uses move u phase a y) : Type 0 where
    pub prefixes : one.prefix ≡ two.prefix
    pub distances : one.distance ≡ two.distance
    pub used : x ≡ y

  pub one_use : (a : ℕ) (x y : Usable) (one : Uses move u phase a x) (two : Uses move u phase a y) → IsBlock one.prefix →
      IsBlock two.prefix → IsOneUse a x y one two
  one_use a x y one two block other =
      let up : one.prefix.len ≤ two.prefix.len = two.longest one.prefix one.distance x one.counts one.contains in
      let down : two.prefix.len ≤ one.prefix.len = one.longest two.prefix two.distance y two.counts two.contains in
      let len : one.prefix.len ≡ two.prefix.len = omega (arith, up, down) in
      let near : two.distance ≤ one.distance = two.lowest one.prefix one.distance x one.counts one.contains len in
      let far : one.distance ≤ two.distance = one.lowest two.prefix two.distance y two.counts two.contains (sym len) in
      let distance : one.distance ≡ two.distance = omega (arith, near, far) in
      let same : one.prefix ≡ two.prefix = same_block one.prefix two.prefix a block other len one.contains two.contains in
      record {
        prefixes = same;
        distances = distance;
        used = one_counts two.prefix one.distance two.distance x y
            (subst (λ (p : Block). Counts move u phase p one.distance x) same one.counts) two.counts distance;
      }

  -- where the prefixes of both tables are blocks, whatever a router uses leads where it steps
  module _ (old_block : (p : Block) (e : Entry) → move.old u p e → IsBlock p)
      (new_block : (p : Block) (e : Entry) → move.new u p e → IsBlock p) where
    counts_block : {p : Block} {d : ℕ} {x : Usable} → Counts move u phase p d x → IsBlock p
    counts_block {p} (connected_counts at) = connected_block move.net u p network at
    counts_block {p} (old_counts {e = e} _ _ _ _ _ entry) = old_block p e entry
    counts_block {p} (new_counts {e = e} _ entry) = new_block p e entry

    pub uses_towards : (a h : ℕ) → Steps move u phase a h → UsesTowards move u phase a h
    uses_towards a h steps = record {
      steps = steps;
      each = λ used uses. subst (λ (x : Usable). LeadsTo x h)
          (one_use a steps.used used steps.uses uses (counts_block steps.uses.counts) (counts_block uses.counts)).used steps.leads;
    }
