-- The parts of a text, read one after the other.
use Rattle.std.proofs.Common.{◌≡◌, ℕ, ◌+◌, ◌<◌, List, [], ◌∷◌, ◌++◌, Some, None, Bor, subst, length, take, drop, map, get_or, refl, sym, ap, ◌∙◌, arith}
use Rattle.std.specs.Prelude.{Option, option_map, Result, Ok, IfOk}
use Rattle.std.proofs.lemmas.List.{take_more, drop_more, take-append-drop}
use Rattle.std.specs.Prelude.{◌==◌}
use Rattle.std.specs.List.{slice_split}
use Rattle.keeper_columns.specs.Lists.{before_read, read_all, parts_of}

both_parts : {A : Type 0} → Option (List A) → Option (List A) → Option (List A)
both_parts None more = None
both_parts (Some items) more = option_map (λ rest. items ++ rest) more

before_both : {A : Type 0} (item : Option A) (some more : Option (List A)) → before_read item (both_parts some more) ≡ both_parts (before_read item some) more
unfolding both_parts
before_both None some more = refl
before_both (Some item) None more = refl
before_both (Some item) (Some items) None = refl
before_both (Some item) (Some items) (Some rest) = refl

some_first : {A : Type 0} (more : Option (List A)) → more ≡ both_parts (Some []) more
unfolding both_parts
some_first None = refl
some_first (Some rest) = refl

read_append : {A : Type 0} (read : List ℕ → Option A) (some more : List (List ℕ)) → read_all read (some ++ more) ≡ both_parts (read_all read some) (read_all read more)
unfolding read_all
read_append read [] more = some_first (read_all read more)
read_append read (part ∷ some) more = ap (before_read (read part)) (read_append read some more) ∙ before_both (read part) (read_all read some) (read_all read more)

read_one : {A : Type 0} (read : List ℕ → Option A) (part : List ℕ) (item : Option A) → read part ≡ item → read_all read (part ∷ []) ≡ option_map (λ i. i ∷ []) item
unfolding read_all
read_one read part None h = rw h refl
read_one read part (Some item) h = rw h refl

abbrev pub seen : List (Bor (List ℕ)) → List (List ℕ)
seen parts = map (λ (part : Bor (List ℕ)). part.now) parts

seen-append : (some more : List (Bor (List ℕ))) → seen (some ++ more) ≡ seen some ++ seen more
seen-append [] more = refl
seen-append (part ∷ some) more = ap (λ l. part.now ∷ l) (seen-append some more)

-- the part at a place is read after those before it
pub read_more : {A : Type 0} (read : List ℕ → Option A) (parts : List (Bor (List ℕ))) (i : ℕ) (d : Bor (List ℕ)) (items : List A) (item : A) → i < length parts
    → read_all read (seen (take i parts)) ≡ Some items → read (get_or parts i d).now ≡ Some item → read_all read (seen (take (i + 1) parts)) ≡ Some (items ++ item ∷ [])
unfolding both_parts
read_more read parts i d items item lt before here =
    let part : Bor (List ℕ) = get_or parts i d in
    let more = ap seen (take_more parts i d lt) ∙ seen-append (take i parts) (part ∷ []) in
    ap (read_all read) more ∙ read_append read (seen (take i parts)) (part.now ∷ []) ∙ rw (before, read_one read part.now (Some item) here) refl

-- where a part says nothing, the list says nothing
pub read_none : {A : Type 0} (read : List ℕ → Option A) (parts : List (Bor (List ℕ))) (i : ℕ) (d : Bor (List ℕ)) (items : List A) → i < length parts
    → read_all read (seen (take i parts)) ≡ Some items → read (get_or parts i d).now ≡ None → read_all read (seen parts) ≡ None
unfolding both_parts read_all
read_none read parts i d items lt before here =
    let part : Bor (List ℕ) = get_or parts i d in
    let tail = drop_more parts i d lt in
    let whole = ap seen (sym (take-append-drop i parts) ∙ ap (λ l. take i parts ++ l) tail) ∙ seen-append (take i parts) (part ∷ drop (i + 1) parts) in
    ap (read_all read) whole ∙ read_append read (seen (take i parts)) (part.now ∷ seen (drop (i + 1) parts)) ∙ rw (before, here) refl

pub parts_of_some : (text : List ℕ) → 0 < length text → slice_split (λ c. c == 44) text ≡ parts_of text
parts_of_some [] some = absurd (omega arith)
parts_of_some (b ∷ text) some = refl

-- what holds of an answer holds of its value
pub when_ok : {T E : Type 0} (P : T → Type 0) (r : Result T E) (v : T) → r ≡ Ok v → IfOk r P → P v
when_ok P r v is h = let Q : Result _ _ → Type 0 = λ a. IfOk a P in subst Q is h
