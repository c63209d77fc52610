-- What a change does to the rows of one table.
use Rattle.std.specs.Prelude.{Bool, List, [], ◌∷◌, if◌then◌else◌}
use Rattle.std.specs.declared.cmp.Ordering.{Ordering}
use Rattle.std.specs.List.{list_any}
use Rattle.std.specs.Ordering.{is_eq, is_gt}

-- the first row that passes is replaced
unfoldable pub replace_first : {R : Type 0} → (R → Bool) → R → List R → List R
replace_first test row [] = []
replace_first test row (r ∷ rows) = if test r then row ∷ rows else r ∷ replace_first test row rows

-- the row stands before the first one that passes, else at the end
unfoldable pub insert_before : {R : Type 0} → (R → Bool) → R → List R → List R
insert_before test row [] = row ∷ []
insert_before test row (r ∷ rows) = if test r then row ∷ r ∷ rows else r ∷ insert_before test row rows

-- the first row that passes is gone
unfoldable pub remove_first : {R : Type 0} → (R → Bool) → List R → List R
remove_first test [] = []
remove_first test (r ∷ rows) = if test r then rows else r ∷ remove_first test rows

-- the row has this key
abbrev pub has_key : {R K : Type 0} → (K → K → Ordering) → (R → K) → K → R → Bool
has_key cmp key k row = is_eq (cmp (key row) k)

-- the row has a greater key than this one
abbrev pub is_past : {R K : Type 0} → (K → K → Ordering) → (R → K) → K → R → Bool
is_past cmp key k row = is_gt (cmp (key row) k)

-- the row stands before the first row with a greater key, else at the end
abbrev pub placed : {R K : Type 0} → (K → K → Ordering) → (R → K) → R → List R → List R
placed cmp key row rows = insert_before (is_past cmp key (key row)) row rows

-- the row replaces the first one of its key; where there is none, it is placed by its key
abbrev pub put : {R K : Type 0} → (K → K → Ordering) → (R → K) → R → List R → List R
put cmp key row rows =
    if list_any (has_key cmp key (key row)) rows then replace_first (has_key cmp key (key row)) row rows
    else placed cmp key row rows

-- the first row of this key is gone
abbrev pub dropped : {R K : Type 0} → (K → K → Ordering) → (R → K) → K → List R → List R
dropped cmp key k rows = remove_first (has_key cmp key k) rows
