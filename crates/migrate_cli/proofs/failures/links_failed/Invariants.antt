use Rattle.std.proofs.Common.{◌≡◌, All, map, take}
use Rattle.failure_texts.specs.declared.verdict.FailedLink.{FailedLink}
use Rattle.migrate_cli.specs.FailuresDecision.{IsLinkVerdict}
use Rattle.migrate_cli.proofs.failures.links_failed.Given as goal

-- each link so far, with what the list comes to without it
abbrev pub invariant-loop-link : goal.invariant-loop-link
invariant-loop-link g l = record {
  links : map (λ (x : FailedLink). x.link) l.failed.items ≡ take l.link-index l.link-items;
  verdicts : All (λ (x : FailedLink). IsLinkVerdict l.net l.read.version l.read.waves x.link x.verdict) l.failed.items;
}
