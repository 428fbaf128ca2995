-- What stands behind the waves of an order file: nothing, a chain of them, or a faulty line.
use Rattle.std.proofs.Common.{◌≡◌, ◌≢◌, ℕ, ◌+◌, ◌<◌, Some, None, List, [], ◌∷◌, ◌++◌, length, get_or, take, Contains, refl}
use Rattle.std.proofs.Common.{sym, ap, subst, ◌∙◌, arith}
use Rattle.std.specs.List.{AllZip}
use Rattle.std.proofs.lemmas.List.{take_more, take_all, length-append}
use Rattle.std.proofs.lemmas.List.Elements.{filter_map-append}
use Rattle.net_addr.specs.Spans.{bytes_of}
use Rattle.net_addr.specs.declared.line.Line.{Line}
use Rattle.net_model.specs.Lookups.{IsNamed}
use Rattle.net_model.specs.Network.{Network}
use Rattle.net_model.specs.Refusals.{NamesAscend}
use Rattle.step_scripts.specs.WaveLines.{wave_on, chain_on, chains_on}
use Rattle.step_scripts.specs.WaveFiles.{AreOfEach}
use Rattle.step_scripts.specs.FaultyLines.{IsLeastFaultyLine}
use Rattle.step_scripts.specs.steps.ReadWaves.{bytes_of_lines, AreFileEntries, AreWavesRead, AreEntriesRead, AreFirstWaves, NamesOneOf}
use Rattle.step_scripts.specs.declared.version.Version.{Version}
use Rattle.step_scripts.specs.declared.kind.OrderKind.TheVariants.{Wave, Chain}
use Rattle.step_scripts.proofs.LeastFaults.{lowest_no_wave, lowest_chain, lowest_behind_chain}
use Rattle.step_scripts.proofs.ReadFacts.{without_end}
use Rattle.step_scripts.proofs.Reading.{least_at, text_at, long}
use Rattle.step_scripts.proofs.Routers.{same_name}
use Rattle.step_scripts.proofs.Zips.{zip_item, zip_partner}

-- names of routers of each wave are names of each wave
of_each : (net : Network) (waves : List (List (List ℕ))) (seats names : List (List ℕ)) → AllZip (AllZip (IsNamed net)) waves seats →
    AllZip (NamesOneOf net) seats names → AreOfEach waves names
of_each net [] [] names named each = each
of_each net [] (seat ∷ seats) names named each = absurd named
of_each net (wave ∷ waves) [] names named each = absurd named
of_each net (wave ∷ waves) (seat ∷ seats) [] named each = absurd each
of_each net (wave ∷ waves) (seat ∷ seats) (name ∷ names) named each =
    let one = each.0 in
    let its = zip_item (IsNamed net) wave seat one.router [] named.0 one.among in
    (subst (Contains wave) (same_name net its.1 name one.router its.4 one.named) (its.0, its.2, its.3), of_each net waves seats names named.1 each.1)

-- and the other way round
to_each : (net : Network) (waves : List (List (List ℕ))) (seats names : List (List ℕ)) → AllZip (AllZip (IsNamed net)) waves seats →
    AreOfEach waves names → AllZip (NamesOneOf net) seats names
to_each net [] [] names named each = each
to_each net [] (seat ∷ seats) names named each = absurd named
to_each net (wave ∷ waves) [] names named each = absurd named
to_each net (wave ∷ waves) (seat ∷ seats) [] named each = absurd each
to_each net (wave ∷ waves) (seat ∷ seats) (name ∷ names) named each =
    let its = zip_partner (IsNamed net) wave seat name 0 named.0 each.0 in
    (record { router = its.1; named = its.4; among = (its.0, its.2, its.3) }, to_each net waves seats names named.1 each.1)

module _ (net : Network) (network : NamesAscend net) (version : Version) (text : List ℕ) (entries : List Line) (are : AreFileEntries version text entries)
    (seats : List (List ℕ)) (first : AreFirstWaves net version (bytes_of_lines text entries) seats) (waves : ℕ) (same : waves ≡ length seats) where
  front_read : AreWavesRead net version (take waves (bytes_of_lines text entries)) seats
  front_read = subst (λ n. AreWavesRead net version (take n (bytes_of_lines text entries)) seats) (sym same) first.read

  module _ (d : Line) (apart : waves ≢ length entries) where
    left : waves < length entries
    left = omega (arith, apart, first.few, same, long net network version text entries are)

    no_wave : wave_on version (bytes_of text (get_or entries waves d).span) ≡ None
    no_wave = subst (λ t. wave_on version t ≡ None) (text_at net network version text entries are waves d left)
        (subst (λ n. wave_on version (get_or (bytes_of_lines text entries) n []) ≡ None) (sym same)
        (first.next [] (omega (arith, left, same, long net network version text entries are))))

    -- no chain
    pub not_chain : chain_on version (bytes_of text (get_or entries waves d).span) ≡ None → IsLeastFaultyLine net text (get_or entries waves d).number Wave
    not_chain none =
        let front = take waves (bytes_of_lines text entries) in
        least_at net network version text entries are waves d seats left (without_end net network version front seats front_read) Wave
        (lowest_no_wave net network version front (bytes_of text (get_or entries waves d).span) no_wave none)

    module _ (names : List (List ℕ)) (chain : chain_on version (bytes_of text (get_or entries waves d).span) ≡ Some names) where
      -- a chain of other names
      pub wrong_chain : (AllZip (NamesOneOf net) seats names → ⊥) → IsLeastFaultyLine net text (get_or entries waves d).number Chain
      wrong_chain wrong =
          let front = take waves (bytes_of_lines text entries) in
          least_at net network version text entries are waves d seats left (without_end net network version front seats front_read) Chain
          (lowest_chain net network version front seats front_read (bytes_of text (get_or entries waves d).span) names chain
          (λ each. wrong (to_each net front_read.waves seats names front_read.named each)))

      step : take (waves + 1) (bytes_of_lines text entries) ≡ take waves (bytes_of_lines text entries) ++ bytes_of text (get_or entries waves d).span ∷ []
      step =
          take_more (bytes_of_lines text entries) waves [] (omega (arith, left, long net network version text entries are))
          ∙ ap (λ t. take waves (bytes_of_lines text entries) ++ t ∷ []) (text_at net network version text entries are waves d left)

      module _ (each : AllZip (NamesOneOf net) seats names) where
        chain_read : AreEntriesRead net version (take (waves + 1) (bytes_of_lines text entries)) seats
        chain_read = record {
          lines = take waves (bytes_of_lines text entries);
          ending = bytes_of text (get_or entries waves d).span ∷ [];
          parts = step;
          read = front_read;
          ends = record { names = names; chain = chain; each = of_each net front_read.waves seats names front_read.named each };
        }

        -- a chain at the end
        pub chain_last : waves + 1 ≡ length entries → AreEntriesRead net version (bytes_of_lines text entries) seats
        chain_last done =
            let all = take_all (waves + 1) (bytes_of_lines text entries) (omega (arith, done, long net network version text entries are)) in
            subst (λ l. AreEntriesRead net version l seats) all chain_read

        some_chain : chains_on version (take (waves + 1) (bytes_of_lines text entries)) ≡ [] → ⊥
        some_chain none =
            let front = take waves (bytes_of_lines text entries) in
            let last = bytes_of text (get_or entries waves d).span in
            let parts = sym (filter_map-append (chain_on version) front (last ∷ [])) ∙ ap (chains_on version) (sym step) ∙ none in
            let one : chains_on version (last ∷ []) ≡ names ∷ [] = rw chain refl in
            omega (arith, ap length parts, ap length one, length-append (chains_on version front) (chains_on version (last ∷ [])))

        -- a line behind the chain
        pub behind_chain : (e : Line) → waves + 1 ≢ length entries → IsLeastFaultyLine net text (get_or entries (waves + 1) e).number Wave
        behind_chain e more =
            least_at net network version text entries are (waves + 1) e seats (omega (arith, left, more)) chain_read Wave
            (lowest_behind_chain net network version (take (waves + 1) (bytes_of_lines text entries)) (bytes_of text (get_or entries (waves + 1) e).span)
            some_chain)
