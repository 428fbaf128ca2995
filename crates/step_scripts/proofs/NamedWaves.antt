-- The wave list of seats that were read.
use Rattle.std.proofs.lemmas.Grind.{common_steps}
use Rattle.std.proofs.Common.{◌≡◌, ℕ, ◌<◌, List, [], ◌∷◌, length, get_or, Contains, refl, sym, ap, subst, ◌∙◌, arith}
use Rattle.std.specs.List.{AllZip}
use Rattle.std.proofs.lemmas.List.{get_or_default}
use Rattle.std.proofs.lemmas.List.Elements.{Contains-get_or}
use Rattle.std.proofs.lemmas.Slice.Zip.{AllZip-long}
use Rattle.net_addr.specs.Lines.{line_texts}
use Rattle.net_model.specs.Lookups.{IsNamed}
use Rattle.net_model.specs.Network.{Network}
use Rattle.net_model.proofs.Names.{named_within}
use Rattle.order_core.specs.Orders.{AreDistinct}
use Rattle.order_core.specs.Rankings.{IsRanking, rank_of}
use Rattle.step_scripts.specs.WaveLines.{header_of}
use Rattle.step_scripts.specs.WaveFiles.{all_in, wave_at, AreWaves, NamesWaves}
use Rattle.step_scripts.specs.steps.ReadWaves.{AreWavesRead, AreEntriesRead, AreRanksOf}
use Rattle.step_scripts.specs.declared.version.Version.{Version}
use Rattle.step_scripts.specs.declared.version.Version.TheVariants.{One}
use Rattle.step_scripts.proofs.Zips.{zip_at, zip_flat, zip_item}
use Rattle.step_scripts.proofs.WaveLineFacts.{Says, wave_some}
use Rattle.step_scripts.proofs.WaveLists.{in_all, one_wave}

one_alone : (wave : List ℕ) (u v : ℕ) → length wave ≡ 1 → Contains wave u → Contains wave v → u ≡ v
one_alone wave u v long c d = grind (arith, common_steps, get_or_default)

-- in version 1 a wave is one name
one_name : (line : List ℕ) (wave : List (List ℕ)) → Says One line wave → length wave ≡ 1
one_name line wave says = let same : line ∷ [] ≡ wave = cc in sym (ap length same)

-- entries that were read, where each router has a seat
module _ (net : Network) (version : Version) (entries seats : List (List ℕ)) (all : AreEntriesRead net version entries seats) (ranks : List ℕ)
    (is : AreRanksOf (length net) seats ranks) where
  abbrev read : AreWavesRead net version all.lines seats
  read = all.read

  -- a router of the waves is one of the network
  below : (u : ℕ) → Contains (all_in seats) u → u < length net
  below u c =
      let its = zip_item (IsNamed net) (all_in read.waves) (all_in seats) u [] (zip_flat (IsNamed net) read.waves seats read.named) c in
      named_within net its.1 u its.4

  rank_is : (w u : ℕ) → Contains (wave_at seats w) u → rank_of ranks u ≡ w
  rank_is w u c =
      let its = is.is_in u (below u (in_all seats w u c)) in
      one_wave seats u (rank_of ranks u) w read.once its.among c

  are_waves : AreWaves net read.waves ranks
  are_waves = record {
    routers = seats;
    named = read.named;
    once = record { once = read.once; all = λ u. (below u, λ lt. in_all seats (rank_of ranks u) u (is.is_in u lt).among) };
    each = is.each;
    seats = rank_is;
  }

  -- the wave on a line, and how many names it has
  on_line : (w : ℕ) → w < length seats → Says version (get_or all.lines w []) (get_or read.waves w [])
  on_line w within =
      let one = AllZip-long (Says version) all.lines read.waves read.each in
      let two = AllZip-long (AllZip (IsNamed net)) read.waves seats read.named in
      zip_at (Says version) all.lines read.waves w [] [] read.each (omega (arith, one, two, within))

  as_long : (w : ℕ) → w < length seats → length (wave_at seats w) ≡ length (get_or read.waves w [])
  as_long w within =
      let two = AllZip-long (AllZip (IsNamed net)) read.waves seats read.named in
      AllZip-long (IsNamed net) (get_or read.waves w []) (get_or seats w []) (zip_at (AllZip (IsNamed net)) read.waves seats w [] [] read.named
      (omega (arith, two, within)))

  has_rank : (w : ℕ) → w < length seats → Contains ranks w
  has_rank w within =
      let some = wave_some version (get_or all.lines w []) (get_or read.waves w []) (on_line w within) in
      let long = as_long w within in
      let u = get_or (wave_at seats w) 0 0 in
      let among = Contains-get_or (wave_at seats w) 0 0 (omega (arith, some, long)) in
      let lt : u < length ranks = subst (λ n. u < n) (sym is.each) (below u (in_all seats w u among)) in
      (u, lt, get_or_default ranks u w 0 lt ∙ rank_is w u among)

  pub ranking : IsRanking (length ranks) ranks
  ranking = record {
    each = refl;
    whole = λ w r le c.
        let rank : rank_of ranks c.0 ≡ r = get_or_default ranks c.0 0 r c.1 ∙ c.2 in
        let its = is.is_in c.0 (subst (λ n. c.0 < n) is.each c.1) in
        has_rank w (omega (arith, le, rank, its.within));
  }

  pub ones : version ≡ One → AreDistinct ranks
  ones first i j d before within =
      λ same.
      let u : i < length net = subst (λ n. i < n) is.each (omega (arith, before, within)) in
      let v : j < length net = subst (λ n. j < n) is.each within in
      let one = is.is_in i u in
      let two = is.is_in j v in
      let ranks_same : rank_of ranks j ≡ rank_of ranks i =
      get_or_default ranks j 0 d within ∙ sym same ∙ get_or_default ranks i d 0 (omega (arith, before, within)) in
      let says = subst (λ some. Says some (get_or all.lines (rank_of ranks i) []) (get_or read.waves (rank_of ranks i) [])) first
      (on_line (rank_of ranks i) one.within) in
      let long = as_long (rank_of ranks i) one.within ∙ one_name (get_or all.lines (rank_of ranks i) []) (get_or read.waves (rank_of ranks i) []) says in
      let alone = one_alone (wave_at seats (rank_of ranks i)) i j long one.among (subst (λ w. Contains (wave_at seats w) j) ranks_same two.among) in
      omega (arith, before, alone)

  pub names_waves : (text : List ℕ) → line_texts text ≡ header_of version ∷ entries → NamesWaves net text version ranks
  names_waves text is_text = record {
    lines = all.lines;
    ending = all.ending;
    whole = is_text ∙ ap (λ l. header_of version ∷ l) all.parts;
    waves = read.waves;
    each = read.each;
    ends = all.ends;
    are = are_waves;
  }
