use Rattle.std.proofs.Common.{arith}
use Rattle.std.proofs.lemmas.Grind.{common_steps}
use Rattle.std.proofs.Common.{◌<◌, List, length, subst}
use Rattle.net_model.specs.Configuration.{Configuration}
use Rattle.net_model.specs.Network.{Network}
use Rattle.net_model.specs.Refusals.{MakeNetwork}
use Rattle.migrate_cli.specs.ObserveDecision.{RefusesTexts}
use Rattle.migrate_cli.specs.steps.NightFiles.{RefusesConfigs, before_texts_in}
use Rattle.migrate_cli.proofs.GroupLaws.{one_read}
use Rattle.migrate_cli.proofs.NetworkFacts.{first_has_router}
use Rattle.migrate_cli.proofs.NightReading.{given_weaker, refused_texts, refused_weaker, unread_text_refusal}
use Rattle.migrate_cli.proofs.observing.read_before.Goals as goal

pub returns-in-Ok-clause-some : goal.returns-in-Ok-clause-some
returns-in-Ok-clause-some c =
    given_weaker (MakeNetwork c.from_vec.result) (λ (net : Network). 0 < length net) c.network_of.result
    (λ net make. first_has_router c.args.files.now.before.now c.in-Ok.configs.items net c.in-Ok.ensures.ok
    (subst (λ (all : List Configuration). MakeNetwork all net) c.from_vec.ensures make)) c.network_of.ensures.made

pub returns-in-Ok-clause-refused : goal.returns-in-Ok-clause-refused
returns-in-Ok-clause-refused c =
    let files = c.args.files.now in
    refused_weaker (RefusesConfigs c.from_vec.result) (RefusesTexts (before_texts_in files)) c.network_of.result
    (λ outcome refused. refused_texts (before_texts_in files) c.in-Ok.configs.items outcome
    (one_read files.before.now c.in-Ok.configs.items c.in-Ok.ensures.ok)
    (subst (λ (all : List Configuration). RefusesConfigs all outcome) c.from_vec.ensures refused)) c.network_of.ensures.refused

pub returns-in_ok-refuse_unread-in-Err-clause-refused : goal.returns-in_ok-refuse_unread-in-Err-clause-refused
returns-in_ok-refuse_unread-in-Err-clause-refused c = grind (arith, common_steps, unread_text_refusal)
