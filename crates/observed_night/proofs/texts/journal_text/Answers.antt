use Rattle.std.proofs.Common.{◌<◌, All, length, subst, sym}
use Rattle.observed_night.proofs.JournalFacts.{flat_below}
use Rattle.observed_night.proofs.texts.journal_text.Goals as goal

pub with_routers-requires-clause-routers : goal.with_routers-requires-clause-routers
with_routers-requires-clause-routers c =
    subst (All (λ u. u < length c.args.net.now)) (sym c.flat.ensures)
    (flat_below (length c.args.net.now) c.args.waves.now c.requires.ranks)
