use Rattle.std.proofs.Common.{sym, subst, ◌∙◌}
use Rattle.std.proofs.lemmas.Bool.{false≢true}
use Rattle.step_scripts.specs.WaveFiles.{AreOfEach}
use Rattle.step_scripts.specs.WaveLines.{waves_on}
use Rattle.step_scripts.specs.declared.version.Version.TheVariants.{Two}
use Rattle.change_orders.specs.TwoFaults.IsOffForm.{wrong_chain}
use Rattle.change_orders.specs.steps.Standing.{standing}
use Rattle.change_orders.proofs.TakenLines.{chain_leads, off_form}
use Rattle.change_orders.proofs.reading.take_line.Goals as goal

pub returns-then-not-is_chain-clause-taken : goal.returns-then-not-is_chain-clause-taken
returns-then-not-is_chain-clause-taken c = λ lines led.
    off_form c.args.net.now lines c.args.line.now (wrong_chain c.in-Some-2.words (rw c.in-Some-2.is at c.in_ok-words-2.ensures) (λ each.
    false≢true (sym c.if-not-is_chain.true ∙ (c.is_chain.ensures lines led).1 (subst (AreOfEach (waves_on Two lines)) (sym c.as_slice-2.ensures) each))))

pub returns-clause-taken : goal.returns-clause-taken
returns-clause-taken c = λ lines led.
    chain_leads c.args.net.now lines (standing c.args.read.now) led c.args.line.now c.in-Some-2.words (rw c.in-Some-2.is at c.in_ok-words-2.ensures)
    c.if-read.false
    (subst (AreOfEach (waves_on Two lines)) c.as_slice-2.ensures ((c.is_chain.ensures lines led).0 c.if-not-is_chain.false))
