use Rattle.std.proofs.Common.{arith}
use Rattle.std.proofs.lemmas.Grind.{common_steps}
use Rattle.ios_lines.proofs.AddressFacts.{address-some, address_back}
use Rattle.ios_lines.proofs.MaskWordFacts.{mask_back_word, mask_word-some}
use Rattle.ios_lines.proofs.NumberFacts.{number-some, number_back}
use Rattle.ios_lines.proofs.laws.number_laws.Goals as goal

pub returns-clause-numbers : goal.returns-clause-numbers
returns-clause-numbers c most n word = grind (arith, common_steps, number-some, number_back)

pub returns-clause-addresses : goal.returns-clause-addresses
returns-clause-addresses c a word = (address_back word a, address-some word a)

pub returns-clause-masks : goal.returns-clause-masks
returns-clause-masks c len word = (mask_back_word word len, mask_word-some word len)
