-- What a design is asked to say of every router.
use Rattle.std.specs.Prelude.{codes}
use Rattle.clap.specs.Words.{Text}
use Rattle.net_model.specs.declared.config.Levels.{Levels}
use Rattle.net_model.specs.declared.config.Levels.TheVariants.{Two}

-- its IS-IS area, and the levels that it runs
pub record AskedScheme : Type 0 where
  pub area : Text
  pub levels : Levels

abbrev pub scheme_of : Text → Levels → AskedScheme
scheme_of area levels = record { area = area; levels = levels }

-- the one that is meant where a call names none
abbrev pub usual_scheme : AskedScheme
usual_scheme = scheme_of (codes "49.0001") Two
