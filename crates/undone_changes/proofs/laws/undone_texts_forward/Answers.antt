use Rattle.undone_changes.proofs.UndoneFacts.{undone_forward}
use Rattle.undone_changes.proofs.laws.undone_texts_forward.Goals as goal

pub returns : goal.returns
returns c = undone_forward
