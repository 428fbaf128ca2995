use Rattle.typed_distances.proofs.TypedTexts.{texts_forward}
use Rattle.typed_distances.proofs.laws.typed_texts_forward.Goals as goal

pub returns : goal.returns
returns c = texts_forward
