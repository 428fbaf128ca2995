-- What was read of an order file has no faulty line.
use Rattle.std.proofs.Common.{◌≡◌, ℕ, ◌+◌, ◌<◌, List, [], ◌∷◌, ◌++◌, length, get_or, take, drop, Contains, sym, ap, subst, ◌∙◌}
use Rattle.std.proofs.Common.{⊎_elim, inl, inr, arith}
use Rattle.std.specs.List.{AllZip}
use Rattle.std.proofs.lemmas.Grind.{flat_map-append}
use Rattle.std.proofs.lemmas.List.{append-nil, append_assoc, append_cancel_left, length-append}
use Rattle.std.proofs.Math.Seq.{get_or-append_seam, take-append_seam}
use Rattle.std.proofs.lemmas.List.Elements.{filter_map-append}
use Rattle.std.proofs.lemmas.Slice.Zip.{AllZip-long}
use Rattle.net_model.specs.Lookups.{IsNamed}
use Rattle.net_model.specs.Network.{Network}
use Rattle.net_model.specs.Refusals.{NamesAscend}
use Rattle.order_core.specs.Orders.{AreDistinct}
use Rattle.step_scripts.specs.WaveLines.{wave_on, waves_on}
use Rattle.step_scripts.specs.WaveFiles.{all_in, MayFollowWaves, IsChainOf, AreOfEach}
use Rattle.step_scripts.specs.FaultyLines.{IsFaultBehind, NamesNoRouter}
use Rattle.step_scripts.specs.steps.ReadWaves.{AreWavesRead, AreEntriesRead, file_entry}
use Rattle.step_scripts.specs.declared.version.Version.{Version}
use Rattle.step_scripts.specs.declared.kind.OrderKind.{OrderKind}
use Rattle.step_scripts.specs.declared.kind.OrderKind.TheVariants.{NotInNetwork, Twice, Wave, Chain}
use Rattle.net_model.proofs.Members.{Contains-first}
use Rattle.net_model.proofs.NetworkFacts.{IsNamed-unique}
use Rattle.step_scripts.proofs.Zips.{zip_at, zip_append, zip_flat, zip_take, zip_partner}
use Rattle.step_scripts.proofs.Splits.{at_place, split_at}
use Rattle.step_scripts.proofs.WaveLists.{in_one}
use Rattle.step_scripts.proofs.WaveLineFacts.{Says, chain_no_wave, wave_no_chain, waves_of, no_chains, end_no_wave}

pub all_in-append : {A : Type 0} (xs ys : List (List A)) → all_in (xs ++ ys) ≡ all_in xs ++ all_in ys
all_in-append xs ys = flat_map-append (λ wave. wave) xs ys

module _ (net : Network) (network : NamesAscend net) (version : Version) where
  -- a wave that was read has no name of no router
  known : (line : List ℕ) (wave : List (List ℕ)) (seat : List ℕ) → Says version line wave → AllZip (IsNamed net) wave seat →
      (before : List (List ℕ)) → NamesNoRouter net (file_entry version before line) → ⊥
  known line wave seat says named before f =
      let same : f.names ≡ wave = cc (f.wave.wave, says) in
      let among = subst (λ l. Contains l f.name) same f.among in
      let its = zip_partner (IsNamed net) wave seat f.name 0 named among in
      f.unknown its.1 its.4

  -- and none that stood before
  fresh : (front : List (List (List ℕ))) (seats_front : List (List ℕ)) (wave : List (List ℕ)) (seat : List ℕ) (behind : List (List ℕ)) →
      AllZip (AllZip (IsNamed net)) front seats_front → AllZip (IsNamed net) wave seat → AreDistinct (all_in (seats_front ++ seat ∷ behind)) →
      (place : ℕ) → place < length wave → Contains (all_in front ++ take place wave) (get_or wave place []) → ⊥
  fresh front seats_front wave seat behind named here once place within stood =
      let long = AllZip-long (IsNamed net) wave seat here in
      let inside : place < length seat = omega (arith, long, within) in
      let zipped = zip_append (IsNamed net) (all_in front) (all_in seats_front) (take place wave) (take place seat)
      (zip_flat (IsNamed net) front seats_front named) (zip_take (IsNamed net) place wave seat here) in
      let its = zip_partner (IsNamed net) (all_in front ++ take place wave) (all_in seats_front ++ take place seat) (get_or wave place []) 0 zipped stood in
      let own = zip_at (IsNamed net) wave seat place [] 0 here within in
      let same = IsNamed-unique net (get_or wave place []) its.1 (get_or seat place 0) network its.4 own in
      let whole : all_in (seats_front ++ seat ∷ behind) ≡ (all_in seats_front ++ take place seat) ++ get_or seat place 0
      ∷ (drop (place + 1) seat ++ all_in behind) =
      all_in-append seats_front (seat ∷ behind)
      ∙ ap (λ l. all_in seats_front ++ (l ++ all_in behind)) (at_place seat place 0 inside)
      ∙ ap (λ l. all_in seats_front ++ l) (append_assoc (take place seat) (get_or seat place 0 ∷ drop (place + 1) seat) (all_in behind))
      ∙ sym (append_assoc (all_in seats_front) (take place seat) (get_or seat place 0 ∷ (drop (place + 1) seat ++ all_in behind))) in
      let x = get_or seat place 0 in
      let back = drop (place + 1) seat ++ all_in behind in
      in_one (all_in seats_front ++ take place seat) (x ∷ back) x (subst AreDistinct whole once)
      (subst (Contains (all_in seats_front ++ take place seat)) same (its.0, its.2, its.3)) (Contains-first x back)

  -- a line among waves that were read isn't faulty
  no_wave_fault : (lines seats : List (List ℕ)) → AreWavesRead net version lines seats →
      (before : List (List ℕ)) (line : List ℕ) (after : List (List ℕ)) →
      lines ≡ before ++ line ∷ after → (kind : OrderKind) → IsFaultBehind net (file_entry version before line) kind → ⊥
  no_wave_fault lines seats read before line after parts kind fault =
      by_kind kind fault
    where
      place : ℕ
      place = length before

      front : List (List (List ℕ))
      front = take place read.waves

      each : AllZip (Says version) (before ++ line ∷ after) read.waves
      each = subst (λ l. AllZip (Says version) l read.waves) parts read.each

      before_each : AllZip (Says version) before front
      before_each = subst (λ l. AllZip (Says version) l front) (take-append_seam before (line ∷ after))
          (zip_take (Says version) place (before ++ line ∷ after) read.waves each)

      wave : List (List ℕ)
      wave = get_or read.waves place []

      says : Says version line wave
      says = subst (λ l. Says version l wave) (get_or-append_seam before line after [])
          (zip_at (Says version) (before ++ line ∷ after) read.waves place [] [] each (omega (arith, length-append before (line ∷ after))))

      within : place < length read.waves
      within = omega (arith, AllZip-long (Says version) (before ++ line ∷ after) read.waves each, length-append before (line ∷ after))

      seat : AllZip (IsNamed net) wave (get_or seats place [])
      seat = zip_at (AllZip (IsNamed net)) read.waves seats place [] [] read.named within

      by_kind : (kind : OrderKind) → IsFaultBehind net (file_entry version before line) kind → ⊥
      by_kind NotInNetwork f = known line wave (get_or seats place []) says seat before f
      by_kind Twice f =
          let same : f.names ≡ wave = cc (f.wave.wave, says) in
          let inside : place < length seats = omega (arith, AllZip-long (AllZip (IsNamed net)) read.waves seats read.named, within) in
          fresh front (take place seats) wave (get_or seats place []) (drop (place + 1) seats)
          (zip_take (AllZip (IsNamed net)) place read.waves seats read.named) seat
          (subst (λ l. AreDistinct (all_in l)) (at_place seats place [] inside) read.once) f.place (subst (λ l. f.place < length l) same f.within)
          (subst (λ l. Contains (all_in l ++ take f.place wave) (get_or wave f.place [])) (waves_of version before front before_each)
          (subst (λ l. Contains (all_in (waves_on version before) ++ take f.place l) (get_or l f.place [])) same f.stood))
      by_kind Wave f = ⊎_elim (λ no. let its = says in let none = no.0 in absurd cc) (λ some. some (no_chains version before front before_each)) f
      by_kind Chain f = let no = wave_no_chain version line wave says in let chain = f.chain in absurd cc
      by_kind kind f = f

  -- a chain that was read isn't faulty
  no_chain_fault : (lines seats : List (List ℕ)) (read : AreWavesRead net version lines seats) (line : List ℕ) → IsChainOf version read.waves line →
      (kind : OrderKind) → IsFaultBehind net (file_entry version lines line) kind → ⊥
  no_chain_fault lines seats read line is NotInNetwork f = let no = chain_no_wave version line is.names is.chain in let wave = f.wave.wave in absurd cc
  no_chain_fault lines seats read line is Twice f = let no = chain_no_wave version line is.names is.chain in let wave = f.wave.wave in absurd cc
  no_chain_fault lines seats read line is Wave f =
      ⊎_elim (λ no. let chain = is.chain in let none = no.1 in absurd cc) (λ some. some (no_chains version lines read.waves read.each)) f
  no_chain_fault lines seats read line is Chain f =
      let same : is.names ≡ f.names = cc (is.chain, f.chain) in
      f.wrong (subst (λ l. AreOfEach l f.names) (sym (waves_of version lines read.waves read.each)) (subst (AreOfEach read.waves) same is.each))
  no_chain_fault lines seats read line is kind f = f

  -- the chain is the last line
  last_fault : (lines seats : List (List ℕ)) (read : AreWavesRead net version lines seats) (front : List (List ℕ)) (line : List ℕ)
      (after : List (List ℕ)) →
      MayFollowWaves version read.waves (front ++ line ∷ after) → (kind : OrderKind) → IsFaultBehind net (file_entry version (lines ++ front) line) kind → ⊥
  last_fault lines seats read [] line [] ends kind f =
      no_chain_fault lines seats read line ends kind (subst (λ l. IsFaultBehind net (file_entry version l line) kind) (append-nil lines) f)
  last_fault lines seats read [] line (next ∷ after) ends kind f = absurd ends
  last_fault lines seats read (first ∷ []) line after ends kind f = absurd ends
  last_fault lines seats read (first ∷ next ∷ front) line after ends kind f = absurd ends

  -- no line of what was read is faulty
  pub no_fault_in : (entries seats : List (List ℕ)) → AreEntriesRead net version entries seats →
      (before : List (List ℕ)) (line : List ℕ) (after : List (List ℕ)) →
      entries ≡ before ++ line ∷ after → (kind : OrderKind) → IsFaultBehind net (file_entry version before line) kind → ⊥
  no_fault_in entries seats read before line after parts kind fault =
      let all : read.lines ++ read.ending ≡ before ++ line ∷ after = sym read.parts ∙ parts in
      elim (split_at before line after read.lines read.ending all) [
        | inl here ↦ no_wave_fault read.lines seats read.read before line here.0 here.1 kind fault
        | inr behind ↦
            let rest : read.ending ≡ behind.0 ++ line ∷ after = append_cancel_left read.lines read.ending (behind.0 ++ line ∷ after)
            (all ∙ ap (λ l. l ++ line ∷ after) behind.1 ∙ append_assoc read.lines behind.0 (line ∷ after)) in
            last_fault read.lines seats read.read behind.0 line after (subst (MayFollowWaves version read.read.waves) rest read.ends) kind
            (subst (λ l. IsFaultBehind net (file_entry version l line) kind) behind.1 fault)
      ]

  -- the waves among what was read
  pub waves_read : (entries seats : List (List ℕ)) (read : AreEntriesRead net version entries seats) → waves_on version entries ≡ read.read.waves
  waves_read entries seats read =
      ap (waves_on version) read.parts ∙ filter_map-append (wave_on version) read.lines read.ending
      ∙ ap (λ l. waves_on version read.lines ++ l) (end_no_wave version read.read.waves read.ending read.ends)
      ∙ append-nil (waves_on version read.lines)
      ∙ waves_of version read.lines read.read.waves read.read.each

  -- waves alone are read
  pub without_end : (lines seats : List (List ℕ)) → AreWavesRead net version lines seats → AreEntriesRead net version lines seats
  without_end lines seats read = record { lines = lines; ending = []; parts = sym (append-nil lines); read = read; ends = tt }
