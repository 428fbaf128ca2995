use Rattle.explained_texts.specs.steps.Mixing.{NamesOriginators}
use Rattle.explained_texts.proofs.target.with_originators.Given as goal

abbrev pub invariant-loop-router : goal.invariant-loop-router
invariant-loop-router l = NamesOriginators l.net l.target l.router l.initial.line l.line
