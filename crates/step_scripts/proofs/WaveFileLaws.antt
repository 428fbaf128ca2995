-- A text names one wave list at most, and where it names one no line is faulty.
use Rattle.std.proofs.Common.{◌≡◌, ◌≢◌, ℕ, ◌<◌, List, [], ◌∷◌, ◌++◌, length, get_or, Contains, refl, sym, ap, subst, ◌∙◌}
use Rattle.std.proofs.Common.{arith}
use Rattle.std.specs.List.{AllZip}
use Rattle.std.proofs.lemmas.List.{same_lists, get_or_default}
use Rattle.net_model.specs.Lookups.{IsNamed}
use Rattle.net_model.specs.Network.{Network}
use Rattle.net_model.specs.Refusals.{NamesAscend}
use Rattle.net_model.proofs.Names.{named_within}
use Rattle.net_model.proofs.NetworkFacts.{IsNamed-unique}
use Rattle.step_scripts.specs.WaveLines.{header_of, waves_on}
use Rattle.step_scripts.specs.WaveFiles.{all_in, wave_at, AreWaves, NamesWaves}
use Rattle.step_scripts.specs.FaultyLines.{IsFaultyLine, IsLeastFaultyLine, HasFaultyEntry, RefusesWaves, order_kind_rank}
use Rattle.step_scripts.specs.steps.ReadWaves.{AreEntriesRead}
use Rattle.step_scripts.specs.declared.version.Version.{Version}
use Rattle.step_scripts.specs.declared.kind.OrderKind.{OrderKind}
use Rattle.step_scripts.specs.declared.kind.OrderKind.TheVariants.{Header, NotInNetwork, Twice, Missing, Wave, Chain}
use Rattle.step_scripts.specs.declared.kind.OrderRefusal.{OrderRefusal}
use Rattle.step_scripts.specs.declared.kind.OrderRefusal.TheVariants.{Bad, OutOfMemory}
use Rattle.step_scripts.proofs.Routers.{same_name}
use Rattle.step_scripts.proofs.Zips.{zip_flat, zip_item, zip_unique}
use Rattle.step_scripts.proofs.WaveLineFacts.{one_header}
use Rattle.step_scripts.proofs.WaveLists.{seat_of}
use Rattle.step_scripts.proofs.ReadFacts.{no_fault_in, waves_read}
use Rattle.step_scripts.proofs.LeastFaults.{first_header}

-- the entries of a text that names a wave list
module _ (net : Network) (text : List ℕ) (version : Version) (ranks : List ℕ) (n : NamesWaves net text version ranks) where
  abbrev read_all : AreEntriesRead net version (n.lines ++ n.ending) n.are.routers
  read_all = record {
    lines = n.lines;
    ending = n.ending;
    parts = refl;
    read = record { waves = n.waves; each = n.each; named = n.are.named; once = n.are.once.once };
    ends = n.ends;
  }

  waves_all : (network : NamesAscend net) → waves_on version (n.lines ++ n.ending) ≡ n.waves
  waves_all network = waves_read net network version (n.lines ++ n.ending) n.are.routers read_all

  no_entry : (network : NamesAscend net) (number : ℕ) (kind : OrderKind) → HasFaultyEntry net text number kind → ⊥
  no_entry network number kind f =
      let same : n.lines ++ n.ending ≡ f.at.before ++ f.at.line ∷ f.after = cc (n.whole, f.lines) in
      let both : header_of version ≡ header_of f.at.version = cc (n.whole, f.lines) in
      let its : version ≡ f.at.version = one_header version f.at.version both in
      let read = subst (λ v. AreEntriesRead net v (n.lines ++ n.ending) n.are.routers) its read_all in
      no_fault_in net network f.at.version (n.lines ++ n.ending) n.are.routers read f.at.before f.at.line f.after same kind f.fault

-- waves have one list of ranks
one_ranks : (net : Network) → NamesAscend net → (waves : List (List (List ℕ))) (one other : List ℕ) → AreWaves net waves one →
    AreWaves net waves other → one ≡ other
one_ranks net network waves one other a b =
    same_lists one other (a.each ∙ sym b.each) (λ k d within.
    let lt : k < length net = subst (λ n. k < n) a.each within in
    let in_other : k < length other = subst (λ n. k < n) (sym b.each) lt in
    let its = seat_of a.routers k ((a.once.all k).1 lt) in
    let routers : a.routers ≡ b.routers =
    zip_unique (AllZip (IsNamed net)) (zip_unique (IsNamed net) (λ name u v. IsNamed-unique net name u v network))
    waves a.routers b.routers a.named b.named in
    let there = subst (λ l. Contains (wave_at l its.0) k) routers its.1.among in
    get_or_default one k d 0 within ∙ a.seats its.0 k its.1.among ∙ sym (b.seats its.0 k there) ∙ get_or_default other k 0 d in_other)

pub one_wave_list : (net : Network) (text : List ℕ) (version its : Version) (one other : List ℕ) → NamesAscend net →
    NamesWaves net text version one → NamesWaves net text its other → (version ≡ its) × (one ≡ other)
one_wave_list net text version its one other network n m =
    let same_version : version ≡ its = one_header version its (let both : header_of version ≡ header_of its = cc (n.whole, m.whole) in both) in
    let entries : n.lines ++ n.ending ≡ m.lines ++ m.ending = cc (n.whole, m.whole) in
    let waves : n.waves ≡ m.waves =
    sym (waves_all net text version one n network)
    ∙ ap (λ v. waves_on v (n.lines ++ n.ending)) same_version
    ∙ ap (waves_on its) entries
    ∙ waves_all net text its other m network in
    (same_version, one_ranks net network m.waves one other (subst (λ w. AreWaves net w one) waves n.are) m.are)

pub no_fault : (net : Network) (text : List ℕ) (version : Version) (ranks : List ℕ) (number : ℕ) (kind : OrderKind) → NamesAscend net →
    NamesWaves net text version ranks → IsFaultyLine net text number kind → ⊥
no_fault net text version ranks number Header network n f = f.1 version (first_header text version (n.lines ++ n.ending) n.whole)
no_fault net text version ranks number Missing network n f =
    let entries : n.lines ++ n.ending ≡ f.entries = cc (n.whole, f.lines) in
    let its : version ≡ f.version = one_header version f.version (let both : header_of version ≡ header_of f.version = cc (n.whole, f.lines) in both) in
    let waves : n.waves ≡ waves_on f.version f.entries =
    sym (waves_all net text version ranks n network) ∙ ap (λ v. waves_on v (n.lines ++ n.ending)) its ∙ ap (waves_on f.version) entries in
    let among = (n.are.once.all f.router).1 (named_within net f.name f.router f.named) in
    let item = zip_item (IsNamed net) (all_in n.waves) (all_in n.are.routers) f.router [] (zip_flat (IsNamed net) n.waves n.are.routers n.are.named) among in
    let same = same_name net item.1 f.name f.router item.4 f.named in
    f.absent (subst (λ w. Contains (all_in w) f.name) waves (subst (Contains (all_in n.waves)) same (item.0, item.2, item.3)))
no_fault net text version ranks number kind network n f = no_entry net text version ranks n network number kind f

-- the kind at a place among the kinds
abbrev kind_at : ℕ → OrderKind
kind_at n = get_or (Header ∷ Header ∷ NotInNetwork ∷ Twice ∷ Missing ∷ Wave ∷ Chain ∷ []) n Header

kind_back : (kind : OrderKind) → kind_at (order_kind_rank kind) ≡ kind
kind_back kind = grind arith

-- a text has one least faulty line, and one lowest kind on it
pub one_faulty_line : (net : Network) (text : List ℕ) (l m : ℕ) (k j : OrderKind) → IsLeastFaultyLine net text l k →
    IsLeastFaultyLine net text m j → (l ≡ m) × (k ≡ j)
one_faulty_line net text l m k j one other =
    let line : l ≡ m = omega (arith, one.least m j other.faulty, other.least l k one.faulty) in
    let here : IsFaultyLine net text l j = subst (λ n. IsFaultyLine net text n j) (sym line) other.faulty in
    let there : IsFaultyLine net text m k = subst (λ n. IsFaultyLine net text n k) line one.faulty in
    let ranks : order_kind_rank k ≡ order_kind_rank j = omega (arith, one.lowest j here, other.lowest k there) in
    (line, sym (kind_back k) ∙ ap kind_at ranks ∙ kind_back j)

pub one_refusal : (net : Network) (text : List ℕ) (one other : OrderRefusal) → one ≢ OutOfMemory → other ≢ OutOfMemory →
    RefusesWaves net text one → RefusesWaves net text other → one ≡ other
one_refusal net text (Bad l k) (Bad m j) first second one two =
    let same = one_faulty_line net text l m k j one two in
    ap (λ n. Bad n k) same.0 ∙ ap (λ kind. Bad m kind) same.1
one_refusal net text (Bad l k) OutOfMemory first second one two = absurd (second refl)
one_refusal net text OutOfMemory other first second one two = absurd (first refl)
