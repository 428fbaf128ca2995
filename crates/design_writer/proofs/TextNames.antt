-- The names of routers and of interfaces are text: their bytes are printable ASCII.
use Rattle.std.proofs.Common.{◌≡◌, ◌<◌, ◌≤◌, ℕ, nat_le, zero, suc, true, List, [], ◌∷◌, All, IsUtf8, get_or, length, arith, subst, sym}
use Rattle.std.specs.List.{list_all}
use Rattle.std.proofs.lemmas.Bool.{and_parts, leb-true}
use Rattle.std.proofs.lemmas.List.Elements.{All-nil, All-append, All-map}
use Rattle.std.proofs.lemmas.List.Sorted.{All-permutation}
use Rattle.std.proofs.lemmas.Str.{IsUtf8-from_ascii}
use Rattle.std.proofs.lemmas.Str.Ascii.{IsAscii-from_reads}
use Rattle.net_model.specs.Configuration.{Configuration, IsNameByte, IsRouterName}
use Rattle.net_model.specs.declared.interface.Interface.{Interface}
use Rattle.ios_lines.specs.Heads.{is_interface_name}
use Rattle.ios_lines.specs.Words.{Word, is_printable}
use Rattle.ios_sections.specs.Processes.{interfaces_in}
use Rattle.ios_sections.specs.Sections.{sections_in}
use Rattle.ios_sections.specs.TextLines.{Part, lines_in, parts_of}
use Rattle.ios_reader.specs.Configurations.{configuration_of}
use Rattle.ios_reader.specs.InterfacesAsRead.{interface_as_read}
use Rattle.ios_reader.specs.Routers.{router_of}
use Rattle.ios_reader.specs.Texts.{ReadsText}
use Rattle.isis_writer.specs.ReadTexts.{ReadsTexts}
use Rattle.isis_writer.proofs.SettledFacts.{interfaces_named}
use Rattle.design_writer.specs.CostDesigns.{HasTextNames}
use Rattle.design_writer.specs.Laws.{TextNamesLaw}

-- bytes below 128 are text
small_text : (name : Word) → ((k : ℕ) → k < length name → get_or name k 0 < 128) → IsUtf8 name
small_text name small = IsUtf8-from_ascii name (IsAscii-from_reads name (length name) (omega arith) small)

name_byte_small : (b : ℕ) → IsNameByte b → b < 128
name_byte_small b is = grind arith

pub router_text : (name : Word) → IsRouterName name → IsUtf8 name
router_text name is = small_text name (λ k within. name_byte_small (get_or name k 0) (is.bytes k 0 within))

printed_small : (bytes : Word) → list_all is_printable bytes ≡ true → (k : ℕ) → k < length bytes → get_or bytes k 0 < 128
printed_small [] all k within = absurd (omega (arith, within))
printed_small (b ∷ bytes) all zero within =
    let printed : is_printable b ≡ true = (and_parts (is_printable b) (list_all is_printable bytes) all).0 in
    let most : b ≤ 126 = leb-true b 126 (and_parts (nat_le 33 b) (nat_le b 126) printed).1 in
    omega (arith, most)
printed_small (b ∷ bytes) all (suc k) within = printed_small bytes (and_parts (is_printable b) _ all).1 k (omega (arith, within))

pub interface_text : (name : Word) → is_interface_name name ≡ true → IsUtf8 name
interface_text name is = small_text name (printed_small name (and_parts _ (list_all is_printable name) is).1)

-- ---- what is read ----

part_names : (part : Part) → HasTextNames (configuration_of (sections_in part))
part_names part =
    All-map (λ (i : Interface). IsUtf8 i.name) (interface_as_read (router_of (sections_in part))) (interfaces_in (sections_in part))
    (λ k d within. interface_text (get_or (interfaces_in (sections_in part)) k d).name (interfaces_named part k d within))

read_names : (text : List ℕ) (configs : List Configuration) → ReadsText text configs → All HasTextNames configs
read_names text configs reads =
    subst (All HasTextNames) (sym reads.made)
    (All-map HasTextNames (λ (part : Part). configuration_of (sections_in part)) (parts_of (lines_in text))
    (λ k d within. part_names (get_or (parts_of (lines_in text)) k d)))

all_names : (texts : List (List ℕ)) (configs : List Configuration) → ReadsTexts texts configs → All HasTextNames configs
all_names [] configs read = subst (All HasTextNames) (sym read) (All-nil HasTextNames)
all_names (text ∷ texts) configs read =
    subst (All HasTextNames) (sym read.all)
    (All-append HasTextNames read.one read.others (read_names text read.one read.reads) (all_names texts read.others read.rest))

pub text_names : TextNamesLaw
text_names texts configs net read make = All-permutation HasTextNames configs net make.network.same (all_names texts configs read)
