-- A router uses at most one entry for an address.
use Rattle.std.proofs.Common.{◌≡◌, ℕ, ◌≤◌, Option, IfSome, arith, refl, sym, ap, subst, ◌∙◌}
use Rattle.std.proofs.lemmas.List.Elements.{All-contains}
use Rattle.std.proofs.lemmas.Option.{slice_get_within, get_or_from_slice_get}
use Rattle.net_addr.specs.Addresses.{Block, IsBlock}
use Rattle.net_addr.proofs.Blocks.{same_block}
use Rattle.net_model.specs.Configuration.{Configuration, IsConfiguration, IsInterface, AreDistances}
use Rattle.net_model.specs.Network.{Network, HasConfiguration}
use Rattle.net_model.specs.Refusals.{IsNetwork}
use Rattle.route_core.proofs.TableLaws.{one_entry}
use Rattle.igp_theory.specs.Forwarding.{Usable, of_old, of_new, connected_counts, old_counts, new_counts}
use Rattle.igp_theory.specs.declared.phase.Phase.{Phase}
use Rattle.rib_mix.specs.Sites.{Site, UsesAt, table_of}
use Rattle.rib_mix.specs.steps.Sites.{CountsAt, IsLawfulSite}

-- what each configuration of a network keeps
config_of : (net : Network) (u : ℕ) (c : Configuration) → IsNetwork net → HasConfiguration net u c → IsConfiguration c
config_of net u c network has =
    All-contains IsConfiguration net c network.configurations (u, slice_get_within net u c has, get_or_from_slice_get net u c c has)

pub counts_block : (s : Site) (phase : Phase) (p : Block) (d : ℕ) (x : Usable) → IsLawfulSite s → CountsAt s phase p d x → IsBlock p
counts_block s phase p d x lawful (connected_counts h) =
    let config : IsConfiguration h.up.config = config_of s.net s.u h.up.config lawful.network h.up.router in
    let interface : IsInterface h.interface = All-contains IsInterface h.up.config.interfaces h.interface config.interfaces h.up.among in
    subst (λ (o : Option Block). IfSome o IsBlock) h.subnet interface.prefix
counts_block s phase p d x lawful (old_counts {e = e} _ _ _ _ _ entry) = All-contains (λ y. IsBlock y.0) (table_of s.tables.old) (p, e) lawful.old.blocks entry
counts_block s phase p d x lawful (new_counts {e = e} _ entry) = All-contains (λ y. IsBlock y.0) (table_of s.tables.new) (p, e) lawful.new.blocks entry

distances_of : (s : Site) (c : Configuration) → IsLawfulSite s → HasConfiguration s.net s.u c → AreDistances c.distances
distances_of s c lawful has = (config_of s.net s.u c lawful.network has).distances

-- entries that count for one prefix at one distance are one
one_counts : (s : Site) (phase : Phase) (p : Block) (d b : ℕ) (x y : Usable) → IsLawfulSite s → CountsAt s phase p d x → CountsAt s phase p b y → d ≡ b → x ≡ y
one_counts s phase p d b x y lawful (connected_counts _) (connected_counts _) e = refl
one_counts s phase p d b x y lawful (connected_counts _) (old_counts _ c has is _ _) e =
    let some = (distances_of s c lawful has).some in absurd (omega (arith, some, is, e))
one_counts s phase p d b x y lawful (connected_counts _) (new_counts _ _) e = absurd (omega arith)
one_counts s phase p d b x y lawful (old_counts _ c has is _ _) (connected_counts _) e =
    let some = (distances_of s c lawful has).some in absurd (omega (arith, some, is, e))
one_counts s phase p d b x y lawful (old_counts {e = f} _ _ _ _ _ first) (old_counts {e = g} _ _ _ _ _ second) e =
    ap of_old (one_entry (table_of s.tables.old) p f g lawful.old.distinct first second)
one_counts s phase p d b x y lawful (old_counts _ c has is _ _) (new_counts _ _) e =
    absurd ((distances_of s c lawful has).apart (is ∙ e))
one_counts s phase p d b x y lawful (new_counts _ _) (connected_counts _) e = absurd (omega arith)
one_counts s phase p d b x y lawful (new_counts _ _) (old_counts _ c has is _ _) e =
    absurd ((distances_of s c lawful has).apart (is ∙ sym e))
one_counts s phase p d b x y lawful (new_counts {e = f} _ first) (new_counts {e = g} _ second) e =
    ap of_new (one_entry (table_of s.tables.new) p f g lawful.new.distinct first second)

-- a router uses at most one entry for an address
pub one_used : (s : Site) (phase : Phase) (x y : Usable) → IsLawfulSite s → UsesAt s phase x → UsesAt s phase y → x ≡ y
one_used s phase x y lawful first second =
    let up : first.prefix.len ≤ second.prefix.len = second.longest first.prefix first.distance x first.counts first.contains in
    let down : second.prefix.len ≤ first.prefix.len = first.longest second.prefix second.distance y second.counts second.contains in
    let len : first.prefix.len ≡ second.prefix.len = omega arith in
    let near : second.distance ≤ first.distance = second.lowest first.prefix first.distance x first.counts first.contains len in
    let far : first.distance ≤ second.distance = first.lowest second.prefix second.distance y second.counts second.contains (sym len) in
    let distance : first.distance ≡ second.distance = omega arith in
    let same : first.prefix ≡ second.prefix = same_block first.prefix second.prefix s.a
    (counts_block s phase first.prefix first.distance x lawful first.counts) (counts_block s phase second.prefix second.distance y lawful second.counts)
    len first.contains second.contains in
    one_counts s phase second.prefix first.distance second.distance x y lawful
    (subst (λ (p : Block). CountsAt s phase p first.distance x) same first.counts) second.counts distance
