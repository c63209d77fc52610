-- Tables that are made key by key.
use Rattle.std.proofs.Common.{◌≡◌, ℕ, pos, ◌+◌, ◌≤◌, Bool, true, false, cond, List, [], ◌∷◌, Option, Some, None, Ok, Err, Ordering, Less, Equal, Greater, String, string_bytes, Global, nat_cmp, is_eq, refl, sym, ◌∙◌, arith}
use Rattle.std.specs.Prelude.{if◌then◌else◌}
use Rattle.std.specs.List.{list_all}
use Rattle.std.specs.Ordering.{match_ordering}
use Rattle.std.specs.Cmp.Lexicographic.{slice_cmp}
use Rattle.std.specs.String.{string_cmp}
use Rattle.std.specs.BTreeMap.{insert_entry}
use Rattle.std.specs.Cmp.{tied_itself, alike_right}
use Rattle.std.specs.Option.{option_or}
use Rattle.std.proofs.lemmas.Map.Text.{is_eq-slice_cmp}
use Rattle.realm_file.proofs.DoubledLemmas.{same_text}
use Rattle.std.proofs.lemmas.Bool.{and_parts}
use Rattle.std.proofs.lemmas.Cmp.{nat_list_cmp_total}
use Rattle.toml.specs.Data.{Data, string, integer, boolean, table, Members, no_members, member, same_key, get_member, depth, members_depth, has_valid_dates, members_have_valid_dates}
use Rattle.toml.specs.View.{view, members_view}
use Rattle.toml.specs.declared.value.Value.{Value}
use Rattle.toml.proofs.Views.{Entry}
use Rattle.realm_fields.specs.declared.fault.RealmFault.{RealmFault}
use Rattle.realm_fields.specs.declared.fault.RealmFault.TheVariants.{Unknown}
use Rattle.realm_fields.specs.Paths.{key_path}
use Rattle.realm_fields.specs.Reading.{Read, Reader, required, optional, listed, only_keys}
use Rattle.realm_print.specs.Fields.{with_member, with_some, Fields, made}
use Rattle.realm_print.specs.Printed.{IsReadAs, IsFoundAs, AreListedAs, IsPlain, IfPlain, ArePlain}

-- ---- a key more

match_members : (o : Ordering) (a b c : List Entry) → members_view (match_ordering o a b c) ≡ match_ordering o (members_view a) (members_view b) (members_view c)
match_members Less a b c = refl
match_members Equal a b c = refl
match_members Greater a b c = refl

-- an insert into the map of a table puts the key
pub members_view-insert : (es : List Entry) (k : String Global) (v : Value) → members_view (insert_entry string_cmp es k v) ≡ with_member (string_bytes k) (view v) (members_view es)
members_view-insert [] k v = refl
members_view-insert (e ∷ es) k v = match_members (string_cmp k e.0) _ _ _ ∙ rw (members_view-insert es k v)

-- ---- what stands at a key

same_at : (o : Ordering) (k l : List ℕ) (d e : Data) (ms : Members) → o ≡ slice_cmp nat_cmp k l → get_member k (with_member k d ms) ≡ Some d
    → get_member k (match_ordering o (member k d (member l e ms)) (member l d ms) (member l e (with_member k d ms))) ≡ Some d
same_at Less k l d e ms same ih = rw (tied_itself nat_list_cmp_total k)
same_at Equal k l d e ms same ih = rw (← same)
same_at Greater k l d e ms same ih = rw (← same) ih

-- at the key that was put
pub get_same : (k : List ℕ) (d : Data) (ms : Members) → get_member k (with_member k d ms) ≡ Some d
get_same k d no_members = rw (tied_itself nat_list_cmp_total k)
get_same k d (member l e ms) = same_at (slice_cmp nat_cmp k l) k l d e ms refl (get_same k d ms)

other_key : (o : Ordering) (a : Data) (rest : Option Data) → is_eq o ≡ false → match_ordering o rest (Some a) rest ≡ rest
other_key Less a rest h = refl
other_key Equal a rest h = absurd cc
other_key Greater a rest h = refl

other_at : (o : Ordering) (k l m : List ℕ) (d e : Data) (ms : Members) → o ≡ slice_cmp nat_cmp l m → is_eq (slice_cmp nat_cmp k l) ≡ false
    → get_member k (with_member l d ms) ≡ get_member k ms
    → get_member k (match_ordering o (member l d (member m e ms)) (member m d ms) (member m e (with_member l d ms))) ≡ get_member k (member m e ms)
other_at Less k l m d e ms same other ih = other_key (slice_cmp nat_cmp k l) d _ other
other_at Equal k l m d e ms same other ih =
    let tied : slice_cmp nat_cmp k l ≡ slice_cmp nat_cmp k m = alike_right nat_list_cmp_total l m k (sym same) in
    let one : is_eq (slice_cmp nat_cmp k m) ≡ false = rw (← tied) other in
    other_key (slice_cmp nat_cmp k m) d (get_member k ms) one ∙ sym (other_key (slice_cmp nat_cmp k m) e (get_member k ms) one)
other_at Greater k l m d e ms same other ih = rw ih

-- at another key
get_other : (k l : List ℕ) (d : Data) (ms : Members) → same_key k l ≡ false → get_member k (with_member l d ms) ≡ get_member k ms
get_other k l d no_members other = other_key (slice_cmp nat_cmp k l) d None other
get_other k l d (member m e ms) other = other_at (slice_cmp nat_cmp l m) k l m d e ms refl other (get_other k l d ms other)

-- what the fields have at a key
abbrev pub found : List ℕ → Fields → Option Data
found k [] = None
found k (f ∷ fs) = if same_key k f.0 then option_or f.1 (found k fs) else found k fs

same_keys : (k l : List ℕ) → same_key k l ≡ true → k ≡ l
same_keys k l h = same_text k l (sym (is_eq-slice_cmp k l) ∙ h)

made_more : (b : Bool) (k l : List ℕ) (o : Option Data) (ms : Members) (rest : Option Data) → same_key k l ≡ b → get_member k ms ≡ rest
    → get_member k (with_some l o ms) ≡ cond b (option_or o rest) rest
made_more true k l None ms rest same ih = ih
made_more false k l None ms rest same ih = ih
made_more true k l (Some d) ms rest same ih = rw (← same_keys k l same) (get_same k d ms)
made_more false k l (Some d) ms rest same ih = get_other k l d ms same ∙ ih

-- what is found in a table that was made
pub get_made : (k : List ℕ) (fs : Fields) → get_member k (made fs) ≡ found k fs
unfolding made
get_made k [] = refl
get_made k (f ∷ fs) = made_more (same_key k f.0) k f.0 f.1 (made fs) (found k fs) refl (get_made k fs)

-- what is found, where no later field has the key
pub lone : (o : Option Data) → option_or o None ≡ o
lone None = refl
lone (Some d) = refl

module _ {A : Type 0} (path key : List ℕ) (fs : Fields) where
  -- what has to be there
  pub required_made : (read : Reader A) (d : Data) (x : A) → found key fs ≡ Some d → IsReadAs read d x → required read path key (made fs) ≡ Ok x
  unfolding required
  required_made read d x at back = rw (get_made key fs, at) (back (key_path path key))

  -- what may be there
  pub optional_made : (read : Reader A) (o : Option Data) (x : Option A) → found key fs ≡ o → IsFoundAs read o x
      → optional read path key (made fs) ≡ Ok x
  unfolding optional
  optional_made read o x at back = rw (get_made key fs, at) (back (key_path path key))

  pub listed_made : (read : Reader (List A)) (o : Option Data) (xs : List A) → found key fs ≡ o → AreListedAs read o xs
      → listed (optional read path key (made fs)) ≡ Ok xs
  unfolding optional
  listed_made read o xs at back = rw (get_made key fs, at) (back (key_path path key))

-- ---- a table that is made

pub begun : (es : List Entry) → es ≡ [] → members_view es ≡ made []
unfolding made
begun es none = rw none

-- a key more
pub more : (k : List ℕ) (d : Data) (fs : Fields) (old new : Members) (x : Data) → new ≡ with_member k x old → x ≡ d → old ≡ made fs
    → new ≡ made ((k, Some d) ∷ fs)
unfolding made
more k d fs old new x put same was = put ∙ rw (same, was) refl

pub more_some : (k : List ℕ) (o : Option Data) (fs : Fields) (old new : Members) → new ≡ with_some k o old → old ≡ made fs → new ≡ made ((k, o) ∷ fs)
unfolding made
more_some k o fs old new put was = put ∙ rw was refl

-- ---- its keys

only_behind : (b : Bool) (before after : Read (Unit {0})) (fault : RealmFault) → (before ≡ Ok tt → after ≡ Ok tt) → cond b before (Err fault) ≡ Ok tt
    → cond b after (Err fault) ≡ Ok tt
only_behind true before after fault ih h = ih h
only_behind false before after fault ih h = absurd cc

only_at : (o : Ordering) (can : List ℕ → Bool) (path k l : List ℕ) (d e : Data) (ms : Members) → can k ≡ true
    → only_keys can path (member l e ms) ≡ Ok tt → (only_keys can path ms ≡ Ok tt → only_keys can path (with_member k d ms) ≡ Ok tt)
    → only_keys can path (match_ordering o (member k d (member l e ms)) (member l d ms) (member l e (with_member k d ms))) ≡ Ok tt
unfolding only_keys
only_at Less can path k l d e ms known before ih = rw known before
only_at Equal can path k l d e ms known before ih = before
only_at Greater can path k l d e ms known before ih = only_behind (can l) (only_keys can path ms) (only_keys can path (with_member k d ms)) (Unknown (key_path path l)) ih before

-- the table has none but keys that can be there, with a key more that can be there
pub only_more : (can : List ℕ → Bool) (path k : List ℕ) (d : Data) (ms : Members) → can k ≡ true → only_keys can path ms ≡ Ok tt
    → only_keys can path (with_member k d ms) ≡ Ok tt
unfolding only_keys
only_more can path k d no_members known before = rw known
only_more can path k d (member l e ms) known before =
    only_at (slice_cmp nat_cmp k l) can path k l d e ms known before (only_more can path k d ms known)

pub only_none : (can : List ℕ → Bool) (path : List ℕ) → only_keys can path no_members ≡ Ok tt
unfolding only_keys
only_none can path = refl

only_some : (can : List ℕ → Bool) (path k : List ℕ) (o : Option Data) (ms : Members) → can k ≡ true → only_keys can path ms ≡ Ok tt
    → only_keys can path (with_some k o ms) ≡ Ok tt
only_some can path k None ms known before = before
only_some can path k (Some d) ms known before = only_more can path k d ms known before

pub only_made : (can : List ℕ → Bool) (path : List ℕ) (fs : Fields) → list_all (λ (f : List ℕ × Option Data). can f.0) fs ≡ true
    → only_keys can path (made fs) ≡ Ok tt
unfolding made only_keys
only_made can path [] h = refl
only_made can path (f ∷ fs) h =
    let parts = and_parts (can f.0) (list_all (λ (f : List ℕ × Option Data). can f.0) fs) h in
    only_some can path f.0 f.1 (made fs) parts.0 (only_made can path fs parts.1)

-- ---- how deep it nests, and its dates

pub wider : (m n : ℕ) (d : Data) → IsPlain m d → m ≤ n → IsPlain n d
wider m n d h le = record { deep = (let low = h.deep in omega arith); dates = h.dates }

pub if_wider : (m n : ℕ) (o : Option Data) → IfPlain m o → m ≤ n → IfPlain n o
if_wider m n None h le = tt
if_wider m n (Some d) h le = wider m n d h le

pub more_room : (m n : ℕ) (ms : Members) → ArePlain m ms → m ≤ n → ArePlain n ms
more_room m n ms h le = record { deep = (let low = h.deep in omega arith); dates = h.dates }

deep_at : (o : Ordering) (k l : List ℕ) (d e : Data) (ms : Members) (most : ℕ) → depth d ≤ most → members_depth (member l e ms) ≤ most
    → members_depth (with_member k d ms) ≤ most
    → members_depth (match_ordering o (member k d (member l e ms)) (member l d ms) (member l e (with_member k d ms))) ≤ most
deep_at Less k l d e ms most here before ih = omega arith
deep_at Equal k l d e ms most here before ih = omega arith
deep_at Greater k l d e ms most here before ih = omega arith

deep_more : (k : List ℕ) (d : Data) (ms : Members) (most : ℕ) → depth d ≤ most → members_depth ms ≤ most → members_depth (with_member k d ms) ≤ most
deep_more k d no_members most here before = omega arith
deep_more k d (member l e ms) most here before =
    deep_at (slice_cmp nat_cmp k l) k l d e ms most here before (deep_more k d ms most here (omega arith))

dates_at : (o : Ordering) (k l : List ℕ) (d e : Data) (ms : Members) → has_valid_dates d ≡ true → members_have_valid_dates (member l e ms) ≡ true
    → members_have_valid_dates (with_member k d ms) ≡ true
    → members_have_valid_dates (match_ordering o (member k d (member l e ms)) (member l d ms) (member l e (with_member k d ms))) ≡ true
dates_at Less k l d e ms here before ih = rw here before
dates_at Equal k l d e ms here before ih = rw (here, (and_parts (has_valid_dates e) (members_have_valid_dates ms) before).1) refl
dates_at Greater k l d e ms here before ih = rw ((and_parts (has_valid_dates e) (members_have_valid_dates ms) before).0, ih) refl

dates_more : (k : List ℕ) (d : Data) (ms : Members) → has_valid_dates d ≡ true → members_have_valid_dates ms ≡ true
    → members_have_valid_dates (with_member k d ms) ≡ true
dates_more k d no_members here before = rw here
dates_more k d (member l e ms) here before =
    dates_at (slice_cmp nat_cmp k l) k l d e ms here before (dates_more k d ms here (and_parts (has_valid_dates e) (members_have_valid_dates ms) before).1)

pub plain_more : (k : List ℕ) (d : Data) (ms : Members) (most : ℕ) → IsPlain most d → ArePlain most ms → ArePlain most (with_member k d ms)
plain_more k d ms most here before =
    record { deep = deep_more k d ms most here.deep before.deep; dates = dates_more k d ms here.dates before.dates }

pub plain_none : (most : ℕ) → ArePlain most no_members
plain_none most = record { deep = omega arith; dates = refl }

abbrev pub AllPlain : ℕ → Fields → Type 0
AllPlain most [] = Unit {0}
AllPlain most (f ∷ fs) = IfPlain most f.1 × AllPlain most fs

pub plain_some : (k : List ℕ) (o : Option Data) (ms : Members) (most : ℕ) → IfPlain most o → ArePlain most ms → ArePlain most (with_some k o ms)
plain_some k None ms most here before = before
plain_some k (Some d) ms most here before = plain_more k d ms most here before

pub plain_made : (most : ℕ) (fs : Fields) → AllPlain most fs → ArePlain most (made fs)
unfolding made
plain_made most [] h = plain_none most
plain_made most (f ∷ fs) h = plain_some f.0 f.1 (made fs) most h.0 (plain_made most fs h.1)

pub plain_table : (most : ℕ) (ms : Members) → ArePlain most ms → IsPlain (most + 1) (table ms)
plain_table most ms h = record { deep = (let low = h.deep in omega arith); dates = h.dates }

pub plain_string : (most : ℕ) (s : List ℕ) → IsPlain most (string s)
plain_string most s = record { deep = omega arith; dates = refl }

pub plain_number : (most n : ℕ) → IsPlain most (integer (pos n))
plain_number most n = record { deep = omega arith; dates = refl }

pub plain_flag : (most : ℕ) (b : Bool) → IsPlain most (boolean b)
plain_flag most b = record { deep = omega arith; dates = refl }
