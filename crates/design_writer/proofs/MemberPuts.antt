-- The members of a table with one more: what stands at which key, and what holds of all.
use Rattle.std.proofs.Common.{◌≡◌, ◌≢◌, List, [], ◌∷◌, Option, Some, None, String, Global, string_bytes, Ordering, Less, Equal, Greater}
use Rattle.std.proofs.Common.{refl, sym, ap, ◌∙◌, subst}
use Rattle.std.specs.BTreeMap.{insert_entry}
use Rattle.std.specs.Cmp.{tied_itself}
use Rattle.std.specs.Cmp.Lexicographic.{slice_cmp}
use Rattle.std.specs.Ordering.{match_ordering, nat_cmp}
use Rattle.std.specs.String.{string_cmp}
use Rattle.std.proofs.lemmas.Cmp.{nat_list_cmp_total}
use Rattle.net_model.proofs.Names.{same_name}
use Rattle.ios_lines.specs.Words.{Word}
use Rattle.toml.specs.Data.{Data, Members, get_member, member, no_members}
use Rattle.toml.specs.View.{members_view, view}
use Rattle.toml.specs.declared.value.Value.{Value}
use Rattle.toml.proofs.Views.{Entry}
use Rattle.design_file.proofs.MetricTables.{AllMembers}
use Rattle.design_writer.specs.CostTables.{put_member}

-- ---- a map's insert ----

by_order : (o : Ordering) (less same more : List Entry) →
    members_view (match_ordering o less same more) ≡ match_ordering o (members_view less) (members_view same) (members_view more)
by_order Less less same more = refl
by_order Equal less same more = refl
by_order Greater less same more = refl

-- an insert into the map of a table puts a member
pub insert_puts : (k : String Global) (v : Value) (es : List Entry) →
    members_view (insert_entry string_cmp es k v) ≡ put_member (string_bytes k) (view v) (members_view es)
insert_puts k v [] = refl
insert_puts k v (e ∷ es) =
    by_order (string_cmp k e.0) ((k, v) ∷ e ∷ es) ((e.0, v) ∷ es) (e ∷ insert_entry string_cmp es k v)
    ∙ ap (λ (rest : Members). match_ordering (string_cmp k e.0) (member (string_bytes k) (view v) (members_view (e ∷ es)))
    (member (string_bytes e.0) (view v) (members_view es)) (member (string_bytes e.0) (view e.1) rest)) (insert_puts k v es)

-- ---- keys ----

own_key : (k : Word) → slice_cmp nat_cmp k k ≡ Equal
own_key k = tied_itself nat_list_cmp_total k

-- a key that differs is looked for behind
pub passed : {X : Type 0} (k l : Word) (here behind : X) → k ≢ l → match_ordering (slice_cmp nat_cmp k l) behind here behind ≡ behind
passed k l here behind apart = by (slice_cmp nat_cmp k l) refl
  where
    by : (o : Ordering) → slice_cmp nat_cmp k l ≡ o → match_ordering o behind here behind ≡ behind
    by Less is = refl
    by Equal is = absurd (apart (same_name k l is))
    by Greater is = refl

pub found : {X : Type 0} (k : Word) (here behind : X) → match_ordering (slice_cmp nat_cmp k k) behind here behind ≡ here
found k here behind = rw (own_key k)

-- ---- what stands at a key ----

put_by_order : (k l : Word) (d e : Data) (ms : Members) (o : Ordering) → slice_cmp nat_cmp k l ≡ o → get_member k (put_member k d ms) ≡ Some d →
    get_member k (match_ordering o (member k d (member l e ms)) (member l d ms) (member l e (put_member k d ms))) ≡ Some d
put_by_order k l d e ms Less is behind = found k (Some d) (get_member k (member l e ms))
put_by_order k l d e ms Equal is behind = ap (λ (p : Ordering). match_ordering p (get_member k ms) (Some d) (get_member k ms)) is
put_by_order k l d e ms Greater is behind =
    ap (λ (p : Ordering). match_ordering p (get_member k (put_member k d ms)) (Some e) (get_member k (put_member k d ms))) is ∙ behind

pub put_here : (k : Word) (d : Data) (ms : Members) → get_member k (put_member k d ms) ≡ Some d
put_here k d no_members = found k (Some d) None
put_here k d (member l e ms) = put_by_order k l d e ms (slice_cmp nat_cmp k l) refl (put_here k d ms)

elsewhere_by_order : (j k l : Word) (d e : Data) (ms : Members) → j ≢ k → (o : Ordering) → slice_cmp nat_cmp k l ≡ o →
    get_member j (put_member k d ms) ≡ get_member j ms →
    get_member j (match_ordering o (member k d (member l e ms)) (member l d ms) (member l e (put_member k d ms))) ≡ get_member j (member l e ms)
elsewhere_by_order j k l d e ms apart Less is behind = passed j k (Some d) (get_member j (member l e ms)) apart
elsewhere_by_order j k l d e ms apart Equal is behind =
    let other : j ≢ l = λ same. apart (same ∙ sym (same_name k l is)) in
    passed j l (Some d) (get_member j ms) other ∙ sym (passed j l (Some e) (get_member j ms) other)
elsewhere_by_order j k l d e ms apart Greater is behind =
    ap (λ (rest : Option Data). match_ordering (slice_cmp nat_cmp j l) rest (Some e) rest) behind

pub put_elsewhere : (j k : Word) (d : Data) (ms : Members) → j ≢ k → get_member j (put_member k d ms) ≡ get_member j ms
put_elsewhere j k d no_members apart = passed j k (Some d) None apart
put_elsewhere j k d (member l e ms) apart = elsewhere_by_order j k l d e ms apart (slice_cmp nat_cmp k l) refl (put_elsewhere j k d ms apart)

-- ---- what holds of all members ----

hold_by_order : (P : Word → Data → Type 0) (k l : Word) (d e : Data) (ms : Members) → P k d → AllMembers P (member l e ms) → (o : Ordering) →
    slice_cmp nat_cmp k l ≡ o → AllMembers P (put_member k d ms) →
    AllMembers P (match_ordering o (member k d (member l e ms)) (member l d ms) (member l e (put_member k d ms)))
hold_by_order P k l d e ms here all Less is behind = (here, all)
hold_by_order P k l d e ms here all Equal is behind = (subst (λ (word : Word). P word d) (same_name k l is) here, all.1)
hold_by_order P k l d e ms here all Greater is behind = (all.0, behind)

pub put_all_hold : (P : Word → Data → Type 0) (k : Word) (d : Data) (ms : Members) → P k d → AllMembers P ms → AllMembers P (put_member k d ms)
put_all_hold P k d no_members here all = (here, tt)
put_all_hold P k d (member l e ms) here all = hold_by_order P k l d e ms here all (slice_cmp nat_cmp k l) refl (put_all_hold P k d ms here all.1)
