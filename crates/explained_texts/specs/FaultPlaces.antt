-- Where a fault was found, as a span of states.
use Rattle.igp_theory.specs.Phases.{all_old}
use Rattle.explained_texts.specs.WayTexts.{StateSpan, change_span, order_span, wave_span}
use Rattle.explained_texts.specs.declared.place.FaultPlace.{FaultPlace}
use Rattle.explained_texts.specs.declared.place.FaultPlace.TheVariants.{ChangeWave, State, Wave}

-- in one state of an order, or in a wave, of routers that all start in Old or of single changes
abbrev pub span_of : FaultPlace → StateSpan
span_of (State order number) = order_span order.now number
span_of (Wave ranks number) = wave_span all_old ranks.now number
span_of (ChangeWave ranks number) = change_span ranks.now number
