-- A document in which nothing is wrong says an area.
use Rattle.std.proofs.Common.{◌≡◌, Bool, true, false, cond, [], Option, Some, None, codes}
use Rattle.std.proofs.Common.{nat_cmp, Ordering, Less, Equal, Greater, refl, sym, ap, subst, inl, inr}
use Rattle.std.specs.Cmp.Lexicographic.{slice_cmp}
use Rattle.std.specs.FinMap.{nat_cmp-IsAntisymmetric, slice_cmp-IsAntisymmetric}
use Rattle.std.specs.Option.{option_and_then}
use Rattle.std.specs.Ordering.{match_ordering}
use Rattle.std.proofs.lemmas.Option.{same_Some}
use Rattle.toml.specs.Data.{Data, string, integer, float, boolean, datetime, array, table, Members, no_members, member, get_member}
use Rattle.design_file.specs.Documents.{HasMember, said_at}
use Rattle.design_file.specs.steps.FaultLists.{Among, document_faults}
use Rattle.design_file.specs.Faults.{fault, no_area, in_table, whole}
use Rattle.ios_lines.specs.Words.{Word}
use Rattle.design_file.specs.Values.{as_area, is_area, value_fault}
use Rattle.design_file.specs.declared.key.Key.TheVariants.{Area}
use Rattle.design_file.specs.declared.key.Place.TheVariants.{Top}
use Rattle.design_file.specs.declared.refusal.DesignKind.{DesignKind}
use Rattle.design_file.specs.declared.refusal.DesignKind.TheVariants.{WrongKind, BadArea}
use Rattle.design_file.proofs.TableFaultLaws.{document_listed}

-- a kind of fault that a value has as an area
record IsOff (value : Data) : Type 0 where
  kind : DesignKind
  off : value_fault Area value ≡ Some kind

off_by : (good : Bool) (word : Word) → is_area word ≡ good → cond good (Some word) None ≡ None → IsOff (string word)
off_by true word e none = cc
off_by false word e none = record { kind = BadArea; off = ap (λ b. cond b None (Some BadArea)) e }

off_area : (value : Data) → as_area value ≡ None → IsOff value
off_area (string word) none = off_by (is_area word) word refl none
off_area (integer _) none = record { kind = WrongKind; off = refl }
off_area (float _) none = record { kind = WrongKind; off = refl }
off_area (boolean _) none = record { kind = WrongKind; off = refl }
off_area (datetime _) none = record { kind = WrongKind; off = refl }
off_area (array _) none = record { kind = WrongKind; off = refl }
off_area (table _) none = record { kind = WrongKind; off = refl }

entry_by : (order : Ordering) (key word : Word) (its value : Data) (more : Members) → slice_cmp nat_cmp key word ≡ order →
    (get_member key more ≡ Some value → HasMember more key value) →
    match_ordering order (get_member key more) (Some its) (get_member key more) ≡ Some value → HasMember (member word its more) key value
entry_by Less key word its value more e rest h = inr (rest h)
entry_by Equal key word its value more e rest h = inl (sym (slice_cmp-IsAntisymmetric nat_cmp-IsAntisymmetric key word e), same_Some its value h)
entry_by Greater key word its value more e rest h = inr (rest h)

-- the value at a key is an entry
pub entry_at : (members : Members) (key : Word) (value : Data) → get_member key members ≡ Some value → HasMember members key value
entry_at no_members key value h = cc
entry_at (member word its more) key value h =
    entry_by (slice_cmp nat_cmp key word) key word its value more refl (entry_at more key value) h

none_by : (document : Members) (value : Option Data) → get_member (codes "area") document ≡ value → document_faults document ≡ [] →
    option_and_then as_area value ≡ None → ⊥
none_by document None e none said =
    let f = fault BadArea (codes "area") in
    subst (Among f) none (document_listed document f (no_area e refl))
none_by document (Some value) e none said =
    let off = off_area value said in
    let f = fault off.kind (codes "area") in
    subst (Among f) none
    (document_listed document f (in_table Top [] document whole
    (record { word = codes "area"; value = value; entry = entry_at document (codes "area") value e; kind_is = off.off; path_is = refl })))

-- a document in which nothing is wrong says an area
pub some_area : (document : Members) → document_faults document ≡ [] → said_at as_area (codes "area") document ≡ None → ⊥
some_area document none said = none_by document (get_member (codes "area") document) refl none said
