use Rattle.design_writer.proofs.OneAreas.{designs_are_sound, designs_keep_tables}
use Rattle.design_writer.proofs.laws.one_area_laws.Goals as goal

pub returns-clause-tables : goal.returns-clause-tables
returns-clause-tables c = designs_keep_tables

pub returns-clause-sound : goal.returns-clause-sound
returns-clause-sound c = designs_are_sound
