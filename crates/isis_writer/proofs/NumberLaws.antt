-- The number of a router by its name, one more router at a time.
use Rattle.std.proofs.Common.{arith}
use Rattle.std.proofs.lemmas.Grind.{common_steps}
use Rattle.std.proofs.Common.{◌≡◌, ◌+◌, ℕ, true, false, cond, Some, drop, ap, sym, ◌∙◌}
use Rattle.std.specs.Str.{bytes_eq}
use Rattle.net_model.specs.Configuration.{Configuration}
use Rattle.net_model.specs.Network.{Network, HasConfiguration}
use Rattle.ios_lines.specs.Words.{Word}
use Rattle.design_file.proofs.NetworkLookups.{drop_at}
use Rattle.isis_writer.specs.Prepared.{numbered_from}

pub number_here : (net : Network) (name : Word) (u : ℕ) (config : Configuration) → HasConfiguration net u config →
    numbered_from u name (drop u net) ≡ numbered_from 0 name net →
    bytes_eq config.name name ≡ true → Some u ≡ numbered_from 0 name net
number_here net name u config at before same = grind (arith, common_steps, drop_at)

pub number_further : (net : Network) (name : Word) (u : ℕ) (config : Configuration) → HasConfiguration net u config →
    numbered_from u name (drop u net) ≡ numbered_from 0 name net →
    bytes_eq config.name name ≡ false → numbered_from (u + 1) name (drop (u + 1) net) ≡ numbered_from 0 name net
number_further net name u config at before other =
    sym (ap (λ b. cond b (Some u) (numbered_from (u + 1) name (drop (u + 1) net))) other)
    ∙ sym (ap (numbered_from u name) (drop_at net u config at)) ∙ before
