-- A line is written column by column.
use Rattle.std.proofs.Common.{◌≡◌, ℕ, List, [], ◌∷◌, ◌++◌, Bor, map, refl, sym, ap, ◌∙◌, append_assoc}
use Rattle.std.specs.List.{flat_map}
use Rattle.std.proofs.lemmas.List.Folds.{flat_map-map}
use Rattle.keeper_reports.specs.Columns.{line_of}

-- a text, and then another
then : (out mid end first second : List ℕ) → mid ≡ out ++ first → end ≡ mid ++ second → end ≡ out ++ (first ++ second)
then out mid end first second p q = q ∙ ap (λ t. t ++ second) p ∙ append_assoc out first second

five_columns : (a b c d e : List ℕ) → line_of (a ∷ b ∷ c ∷ d ∷ e ∷ []) ≡ a ++ 32 ∷ (b ++ 32 ∷ (c ++ 32 ∷ (d ++ 32 ∷ (e ++ 10 ∷ []))))
five_columns a b c d e =
    append_assoc a (32 ∷ (b ++ 32 ∷ (c ++ 32 ∷ (d ++ 32 ∷ e)))) (10 ∷ [])
    ∙ ap (λ t. a ++ 32 ∷ t) (append_assoc b (32 ∷ (c ++ 32 ∷ (d ++ 32 ∷ e))) (10 ∷ [])
    ∙ ap (λ t. b ++ 32 ∷ t) (append_assoc c (32 ∷ (d ++ 32 ∷ e)) (10 ∷ []) ∙ ap (λ t. c ++ 32 ∷ t) (append_assoc d (32 ∷ e) (10 ∷ []))))

-- the last column is written behind four
pub line_written : (out one two three four a b c d e : List ℕ) → one ≡ out ++ a → two ≡ one ++ 32 ∷ b → three ≡ two ++ 32 ∷ c → four ≡ three ++ 32 ∷ d
    → four ++ 32 ∷ (e ++ 10 ∷ []) ≡ out ++ line_of (a ∷ b ∷ c ∷ d ∷ e ∷ [])
line_written out one two three four a b c d e p q r s =
    let end : List ℕ = four ++ 32 ∷ (e ++ 10 ∷ []) in
    let behind_three = then three four end (32 ∷ d) (32 ∷ (e ++ 10 ∷ [])) s refl in
    let behind_two = then two three end (32 ∷ c) (32 ∷ (d ++ 32 ∷ (e ++ 10 ∷ []))) r behind_three in
    let behind_one = then one two end (32 ∷ b) (32 ∷ (c ++ 32 ∷ (d ++ 32 ∷ (e ++ 10 ∷ [])))) q behind_two in
    then out one end a (32 ∷ (b ++ 32 ∷ (c ++ 32 ∷ (d ++ 32 ∷ (e ++ 10 ∷ []))))) p behind_one ∙ ap (λ t. out ++ t) (sym (five_columns a b c d e))

-- the lines of all rows are written to an empty text
pub rows_written : {R : Type 0} (line : R → List ℕ) (out end : List ℕ) (rows items : List (Bor R)) (held : List R) → out ≡ [] → rows ≡ items → map (λ (row : Bor R). row.now) items ≡ held
    → end ≡ out ++ flat_map (λ (row : Bor R). line row.now) rows → end ≡ flat_map line held
rows_written {R} line out end rows items held empty same seen written =
    written
    ∙ ap (λ t. t ++ flat_map (λ (row : Bor R). line row.now) rows) empty
    ∙ ap (flat_map (λ (row : Bor R). line row.now)) same
    ∙ sym (flat_map-map line (λ (row : Bor R). row.now) items)
    ∙ ap (flat_map line) seen
