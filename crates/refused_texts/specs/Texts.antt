-- The lines that tell what makes no network.
use Rattle.std.specs.Prelude.{ℕ, List, [], ◌∷◌, codes, decimal}
use Rattle.net_model.specs.declared.refusal.NetRefusal.{NetRefusal}
use Rattle.net_model.specs.declared.refusal.NetRefusal.TheVariants.{Limit, TwoNames, AddressTwice, PrefixInTwoAreas, BorderWithoutBackbone}
use Rattle.net_model.specs.declared.refusal.NetRefusal.TheVariants.{OspfCostSum, IsisMetricSum, SystemIdTwice, StubMismatch, OutOfMemory}
use Rattle.printed_lines.specs.Words.{dotted, prefix_word}
use Rattle.printed_lines.specs.Texts.{line}
use Rattle.refused_texts.specs.Kinds.{limit_name}

-- why configurations make no network; want of memory is never printed
abbrev pub network_text : NetRefusal → List ℕ
network_text (Limit what number) = line (codes "limit") (limit_name what ∷ decimal number ∷ [])
network_text (TwoNames name) = line (codes "refused") (codes "network" ∷ codes "TwoNames" ∷ name ∷ [])
network_text (AddressTwice one two a) = line (codes "refused") (codes "network" ∷ codes "AddressTwice" ∷ one ∷ two ∷ dotted a ∷ [])
network_text (PrefixInTwoAreas one two p) = line (codes "refused") (codes "network" ∷ codes "PrefixInTwoAreas" ∷ one ∷ two ∷ prefix_word p ∷ [])
network_text (BorderWithoutBackbone router) = line (codes "refused") (codes "network" ∷ codes "BorderWithoutBackbone" ∷ router ∷ [])
network_text (OspfCostSum sum) = line (codes "refused") (codes "network" ∷ codes "OspfCostSum" ∷ decimal sum ∷ [])
network_text (IsisMetricSum sum) = line (codes "refused") (codes "network" ∷ codes "IsisMetricSum" ∷ decimal sum ∷ [])
network_text (SystemIdTwice one two) = line (codes "refused") (codes "network" ∷ codes "SystemIdTwice" ∷ one ∷ two ∷ [])
network_text (StubMismatch one two area) = line (codes "refused") (codes "network" ∷ codes "StubMismatch" ∷ one ∷ two ∷ decimal area ∷ [])
network_text OutOfMemory = []
