-- What the lines of a process say, in a loop over them.
use Rattle.std.proofs.Common.{arith}
use Rattle.std.proofs.lemmas.Grind.{common_steps}
use Rattle.std.proofs.Common.{◌≡◌, ℕ, ◌+◌, ◌<◌, List, [], ◌∷◌, ◌++◌, length, take, get_or}
use Rattle.std.proofs.lemmas.List.{take_more}
use Rattle.ios_reader.specs.steps.ProcessFacts.{ospf_facts_of, ospf_noted, isis_facts_of, isis_noted}
use Rattle.ios_lines.specs.declared.ospf_line.OspfStatement.{OspfStatement}
use Rattle.ios_lines.specs.declared.isis_line.IsisStatement.{IsisStatement}
use Rattle.ios_lines.proofs.LineLookups.{last_of-push}

ospf_facts-push : (xs : List OspfStatement) (x : OspfStatement) → ospf_facts_of (xs ++ x ∷ []) ≡ ospf_noted (ospf_facts_of xs) x
ospf_facts-push xs x = grind (arith, common_steps, last_of-push)

pub ospf_facts_more : (xs : List OspfStatement) (i : ℕ) (x : OspfStatement) → i < length xs → x ≡ get_or xs i x →
    ospf_facts_of (take (i + 1) xs) ≡ ospf_noted (ospf_facts_of (take i xs)) x
ospf_facts_more xs i x within read = grind (arith, common_steps, ospf_facts-push, take_more)

isis_facts-push : (xs : List IsisStatement) (x : IsisStatement) → isis_facts_of (xs ++ x ∷ []) ≡ isis_noted (isis_facts_of xs) x
isis_facts-push xs x = grind (arith, common_steps, last_of-push)

pub isis_facts_more : (xs : List IsisStatement) (i : ℕ) (x : IsisStatement) → i < length xs → x ≡ get_or xs i x →
    isis_facts_of (take (i + 1) xs) ≡ isis_noted (isis_facts_of (take i xs)) x
isis_facts_more xs i x within read = grind (arith, common_steps, isis_facts-push, take_more)
