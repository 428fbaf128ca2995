use Rattle.step_scripts.proofs.ScriptComments.{script_comments}
use Rattle.step_scripts.proofs.ScriptFacts.{script_front}
use Rattle.step_scripts.proofs.script_front.script_laws.Goals as goal

pub returns-clause-front : goal.returns-clause-front
returns-clause-front c = script_front

pub returns-clause-comments : goal.returns-clause-comments
returns-clause-comments c = script_comments
