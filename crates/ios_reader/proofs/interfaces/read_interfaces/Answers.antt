use Rattle.std.proofs.Common.{arith}
use Rattle.std.proofs.lemmas.Grind.{common_steps}
use Rattle.std.proofs.Common.{◌≡◌, ◌<◌, ◌+◌, ℕ, [], ◌∷◌, ◌++◌, List, get_or, length, map, take}
use Rattle.std.proofs.lemmas.List.{take_more, map-append}
use Rattle.ios_lines.proofs.LineLookups.{taken_more}
use Rattle.ios_reader.specs.InterfacesAsRead.{interface_as_read}
use Rattle.ios_reader.proofs.interfaces.read_interfaces.Goals.{In_ok-push}
use Rattle.ios_reader.proofs.interfaces.read_interfaces.Goals as goal

-- one more value of a function over a list
map_more : {A B : Type 0} (f : A → B) (xs : List A) (i : ℕ) (x : A) → i < length xs → x ≡ get_or xs i x →
    map f (take (i + 1) xs) ≡ map f (take i xs) ++ f x ∷ []
map_more f xs i x within is = grind (arith, common_steps, map-append, take_more)

read_one : (c : In_ok-push) → c.interface_with.result ≡ interface_as_read c.args.router.now c.section-item.result
read_one c = grind (arith, common_steps)

pub loop-section-preserved : goal.loop-section-preserved
loop-section-preserved c = grind (arith, common_steps, map_more, read_one, taken_more)
