use Rattle.std.proofs.Common.{arith}
use Rattle.std.proofs.lemmas.Grind.{common_steps}
use Rattle.std.proofs.Common.{◌∙◌, ap, sym, subst}
use Rattle.std.specs.List.{AllZip}
use Rattle.std.proofs.lemmas.Bool.{false≢true}
use Rattle.step_scripts.specs.steps.ReadWaves.{NamesOneOf}
use Rattle.step_scripts.specs.WaveLines.{chain_on}
use Rattle.step_scripts.proofs.Endings.{behind_chain, chain_last, not_chain, wrong_chain}
use Rattle.step_scripts.proofs.waves_reading.check_ending.Goals as goal

pub returns-in_default-clause-err : goal.returns-in_default-clause-err
returns-in_default-clause-err c =
    not_chain c.args.net.now c.requires.network.ascending c.args.entries.now.version c.args.entries.now.text.now
    c.args.entries.now.lines.now c.requires.entries c.args.seats.now
    c.requires.first c.count-waves.result c.count-waves.ensures _ c.if-waves-entries.false
    (ap (chain_on c.args.entries.now.version) (sym c.bytes_at.ensures) ∙ sym c.in_ok-names.ensures ∙ c.in_default.is)

pub returns-then-not-is_chain-clause-err : goal.returns-then-not-is_chain-clause-err
returns-then-not-is_chain-clause-err c =
    wrong_chain c.args.net.now c.requires.network.ascending c.args.entries.now.version c.args.entries.now.text.now
    c.args.entries.now.lines.now c.requires.entries c.args.seats.now
    c.requires.first c.count-waves.result c.count-waves.ensures _ c.if-waves-entries.false
    c.in-Some.names (ap (chain_on c.args.entries.now.version) (sym c.bytes_at.ensures) ∙ sym c.in_ok-names.ensures ∙ c.in-Some.is)
    (λ each. false≢true (sym c.if-not-is_chain.true ∙ c.is_chain.ensures.1 (subst (AllZip (NamesOneOf c.args.net.now) c.args.seats.now)
    (sym c.as_slice.ensures) each)))

pub returns-then-waves-entries-2-clause-ok : goal.returns-then-waves-entries-2-clause-ok
returns-then-waves-entries-2-clause-ok c = grind (arith, common_steps, chain_last)

pub returns-clause-err : goal.returns-clause-err
returns-clause-err c =
    let each = subst (AllZip (NamesOneOf c.args.net.now) c.args.seats.now) c.as_slice.ensures (c.is_chain.ensures.0 c.if-not-is_chain.false) in
    behind_chain c.args.net.now c.requires.network.ascending c.args.entries.now.version c.args.entries.now.text.now
    c.args.entries.now.lines.now c.requires.entries c.args.seats.now
    c.requires.first c.count-waves.result c.count-waves.ensures _ c.if-waves-entries.false
    c.in-Some.names (ap (chain_on c.args.entries.now.version) (sym c.bytes_at.ensures) ∙ sym c.in_ok-names.ensures ∙
    c.in-Some.is) each _ c.if-waves-entries-2.false
