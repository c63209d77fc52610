-- Lines of printable texts.
use Rattle.std.proofs.Common.{◌≡◌, ℕ, zero, suc, ◌+◌, ◌/◌, ◌%◌, ◌<◌, ℤ, pos, negsuc, Bool, true, false, not, ◌&&◌, cond, List, [], ◌∷◌, ◌++◌, length, replicate, Ordering, refl, sym, ap, ◌∙◌, arith}
use Rattle.std.specs.Prelude.{◌==◌, ◌||◌, ◌-◌, codes, decimal, find}
use Rattle.std.specs.Fmt.{digits, digits_onto, digit_glyph, signed_decimal}
use Rattle.std.specs.List.{count_by, flat_map, list_all}
use Rattle.std.specs.Option.{option_map_or}
use Rattle.std.specs.Ordering.{int_eq, is_lt, nat_cmp}
use Rattle.std.proofs.lemmas.Bool.{and_parts, false≢true}
use Rattle.std.proofs.lemmas.Bool.Decides.{nat_tests}
use Rattle.std.proofs.lemmas.List.Concat.{flat_map-cons}
use Rattle.std.proofs.lemmas.List.Folds.{list_all-append}
use Rattle.std.proofs.lemmas.List.Sums.{sum_by-append, sum_by-cons}
use Rattle.keeper_rows.specs.Applied.{text_cmp}
use Rattle.keeper_rows.specs.Keys.{insert_before}
use Rattle.keeper_rows.specs.declared.rows.AccountRow.{AccountRow}
use Rattle.keeper_rows.specs.declared.rows.SessionRow.{SessionRow}
use Rattle.keeper_rows.specs.declared.rows.TokenRow.{TokenRow}
use Rattle.keeper_rows.specs.declared.tables.Tables.{Tables}
use Rattle.keeper_reports.specs.Columns.{left_in, right_in, shown, line_of}
use Rattle.keeper_reports.specs.Order.{in_order}
use Rattle.keeper_reports.specs.Printable.{is_printable, is_newline, is_printable_account, is_printable_session, is_printable_token, are_printable, row_count}
use Rattle.keeper_reports.specs.Reports.{is_off, on_or_off, user_line, session_line, token_line, name_of, serial_in, spent_or_not, report_text}
use Rattle.keeper_reports.specs.declared.report.Report.{Report}
use Rattle.keeper_reports.specs.declared.report.Report.TheVariants as reports
use Rattle.keeper_reports.proofs.OrderLemmas.{list_all-insert_before}

abbrev IsPrintable : List ℕ → Type 0
IsPrintable text = list_all is_printable text ≡ true

both : (a b : Bool) → a ≡ true → b ≡ true → (a && b) ≡ true
both a b p q = rw (p, q) refl

append : (a b : List ℕ) → IsPrintable a → IsPrintable b → IsPrintable (a ++ b)
append a b p q = rw (list_all-append is_printable a b, p, q) refl

either : (r : Bool) (a b : List ℕ) → IsPrintable a → IsPrintable b → IsPrintable (cond r a b)
either true a b p q = p
either false a b p q = q

-- ---- columns

spaces : (n : ℕ) → IsPrintable (replicate n 32)
spaces zero = refl
spaces (suc n) = spaces n

left : (width : ℕ) (text : List ℕ) → IsPrintable text → IsPrintable (left_in width text)
left width text p = append text (replicate (width - length text) 32) p (spaces (width - length text))

right : (width : ℕ) (text : List ℕ) → IsPrintable text → IsPrintable (right_in width text)
right width text p = append (replicate (width - length text) 32) text (spaces (width - length text)) p

shown_text : (text : List ℕ) → IsPrintable text → IsPrintable (shown text)
shown_text [] p = refl
shown_text (b ∷ text) p = p

glyph : (d : ℕ) → d < 10 → is_printable (digit_glyph false d) ≡ true
glyph d lt = grind (arith, nat_tests)

onto : (k n : ℕ) (rest : List ℕ) → IsPrintable rest → IsPrintable (digits_onto k 10 false n rest)
onto zero n rest p = p
onto (suc k) n rest p =
    let d = digit_glyph false (n % 10) in
    let more : IsPrintable (d ∷ rest) = both (is_printable d) (list_all is_printable rest) (glyph (n % 10) (omega arith)) p in
    either (n / 10 == 0) (d ∷ rest) (digits_onto k 10 false (n / 10) (d ∷ rest)) more (onto k (n / 10) (d ∷ rest) more)

natural_number : (n : ℕ) → IsPrintable (decimal n)
unfolding digits
natural_number n = onto 64 n [] refl

number : (z : ℤ) → IsPrintable (signed_decimal z)
number (pos n) = natural_number n
number (negsuc n) = natural_number (suc n)

-- ---- lines

-- printable bytes and a newline
record IsLine (text : List ℕ) : Type 0 where
  body : List ℕ
  printable : IsPrintable body
  is : text ≡ body ++ 10 ∷ []

five : (a b c d e : List ℕ) → IsPrintable a → IsPrintable b → IsPrintable c → IsPrintable d → IsPrintable e → IsLine (line_of (a ∷ b ∷ c ∷ d ∷ e ∷ []))
five a b c d e p q r s t = record {
  body = a ++ 32 ∷ (b ++ 32 ∷ (c ++ 32 ∷ (d ++ 32 ∷ e)));
  printable = append a (32 ∷ (b ++ 32 ∷ (c ++ 32 ∷ (d ++ 32 ∷ e)))) p (append b (32 ∷ (c ++ 32 ∷ (d ++ 32 ∷ e))) q (append c (32 ∷ (d ++ 32 ∷ e)) r (append d (32 ∷ e) s t)));
  is = refl;
}

no_newline : (b : ℕ) → is_printable b ≡ true → is_newline b ≡ false
no_newline b p = grind (arith, nat_tests)

none : (body : List ℕ) → IsPrintable body → count_by is_newline body ≡ 0
none [] p = refl
none (b ∷ body) p =
    let parts = and_parts (is_printable b) (list_all is_printable body) p in
    let here = no_newline b parts.0 in
    let later = none body parts.1 in
    sum_by-cons (λ b. cond (is_newline b) 1 0) b body ∙ rw (here, later) refl

one_newline : (text : List ℕ) → IsLine text → count_by is_newline text ≡ 1
one_newline text line =
    ap (count_by is_newline) line.is ∙ sum_by-append (λ b. cond (is_newline b) 1 0) line.body (10 ∷ []) ∙ ap (λ n. n + 1) (none line.body line.printable)

abbrev told : ℕ → Bool
told b = is_printable b || is_newline b

or_first : (a b : Bool) → a ≡ true → (a || b) ≡ true
or_first true b p = refl
or_first false b p = absurd (false≢true p)

weaker : (text : List ℕ) → IsPrintable text → list_all told text ≡ true
weaker [] p = refl
weaker (b ∷ text) p =
    let parts = and_parts (is_printable b) (list_all is_printable text) p in
    both (told b) (list_all told text) (or_first (is_printable b) (is_newline b) parts.0) (weaker text parts.1)

line_told : (text : List ℕ) → IsLine text → list_all told text ≡ true
line_told text line =
    ap (list_all told) line.is ∙ list_all-append told line.body (10 ∷ []) ∙ both (list_all told line.body) (list_all told (10 ∷ [])) (weaker line.body line.printable) refl

-- ---- rows

rows_counted : {R : Type 0} (line : R → List ℕ) (q : R → Bool) → ((r : R) → q r ≡ true → IsLine (line r)) → (rows : List R) → list_all q rows ≡ true → count_by is_newline (flat_map line rows) ≡ length rows
rows_counted line q lines [] all = refl
rows_counted line q lines (r ∷ rows) all =
    let parts = and_parts (q r) (list_all q rows) all in
    let here = one_newline (line r) (lines r parts.0) in
    let later = rows_counted line q lines rows parts.1 in
    ap (count_by is_newline) (flat_map-cons line r rows) ∙ sum_by-append (λ b. cond (is_newline b) 1 0) (line r) (flat_map line rows) ∙ rw (here, later) (omega arith)

rows_told : {R : Type 0} (line : R → List ℕ) (q : R → Bool) → ((r : R) → q r ≡ true → IsLine (line r)) → (rows : List R) → list_all q rows ≡ true → list_all told (flat_map line rows) ≡ true
rows_told line q lines [] all = refl
rows_told line q lines (r ∷ rows) all =
    let parts = and_parts (q r) (list_all q rows) all in
    ap (list_all told) (flat_map-cons line r rows) ∙ list_all-append told (line r) (flat_map line rows)
    ∙ both (list_all told (line r)) (list_all told (flat_map line rows)) (line_told (line r) (lines r parts.0)) (rows_told line q lines rows parts.1)

length-insert_before : {R : Type 0} (test : R → Bool) (row : R) (rows : List R) → length (insert_before test row rows) ≡ suc (length rows)
unfolding insert_before
length-insert_before test row [] = refl
length-insert_before {R} test row (r ∷ rows) = go (test r) refl (length-insert_before test row rows)
  where
    go : (b : Bool) → test r ≡ b → length (insert_before test row rows) ≡ suc (length rows) → length (insert_before test row (r ∷ rows)) ≡ suc (length (r ∷ rows))
    go true is later = rw is refl
    go false is later = rw is (ap suc later)

length-in_order : {R K : Type 0} (cmp : K → K → Ordering) (key : R → K) (rows : List R) → length (in_order cmp key rows) ≡ length rows
unfolding in_order
length-in_order cmp key [] = refl
length-in_order cmp key (row ∷ rows) = length-insert_before (λ other. not (is_lt (cmp (key other) (key row)))) row (in_order cmp key rows) ∙ ap suc (length-in_order cmp key rows)

list_all-in_order : {R K : Type 0} (cmp : K → K → Ordering) (key : R → K) (q : R → Bool) (rows : List R) → list_all q rows ≡ true → list_all q (in_order cmp key rows) ≡ true
unfolding in_order
list_all-in_order cmp key q [] all = refl
list_all-in_order cmp key q (row ∷ rows) all =
    let parts = and_parts (q row) (list_all q rows) all in
    list_all-insert_before q (λ other. not (is_lt (cmp (key other) (key row)))) row (in_order cmp key rows) parts.0 (list_all-in_order cmp key q rows parts.1)

-- ---- the lines of the three reports

name_printable : (accounts : List AccountRow) (id : ℤ) → list_all is_printable_account accounts ≡ true → IsPrintable (name_of accounts id)
name_printable [] id all = refl
name_printable (a ∷ accounts) id all = go (int_eq a.id id) refl (name_printable accounts id parts.1)
  where
    parts : (is_printable_account a ≡ true) × (list_all is_printable_account accounts ≡ true)
    parts = and_parts (is_printable_account a) (list_all is_printable_account accounts) all

    go : (b : Bool) → int_eq a.id id ≡ b → IsPrintable (name_of accounts id) → IsPrintable (name_of (a ∷ accounts) id)
    go true is later = rw is (and_parts (list_all is_printable a.name) (list_all is_printable a.actions) parts.0).0
    go false is later = rw is later

user_is_line : (a : AccountRow) → is_printable_account a ≡ true → IsLine (user_line a)
user_is_line a p =
    let parts = and_parts (list_all is_printable a.name) (list_all is_printable a.actions) p in
    let state : IsPrintable (on_or_off a) = either (is_off a) (codes "off") (codes "on") refl refl in
    five (left_in 32 a.name) (right_in 8 (signed_decimal a.id)) (left_in 3 (on_or_off a)) (right_in 6 (signed_decimal a.count)) (shown a.actions)
    (left 32 a.name parts.0) (right 8 (signed_decimal a.id) (number a.id)) (left 3 (on_or_off a) state) (right 6 (signed_decimal a.count) (number a.count)) (shown_text a.actions parts.1)

session_is_line : (name : List ℕ) (s : SessionRow) → IsPrintable name → is_printable_session s ≡ true → IsLine (session_line name s)
session_is_line name s n p =
    let parts = and_parts (list_all is_printable s.id) (list_all is_printable s.levels) p in
    five s.id (left_in 32 (shown name)) (right_in 16 (signed_decimal s.opened)) (right_in 16 (signed_decimal s.seen)) (shown s.levels)
    parts.0 (left 32 (shown name) (shown_text name n)) (right 16 (signed_decimal s.opened) (number s.opened)) (right 16 (signed_decimal s.seen) (number s.seen)) (shown_text s.levels parts.1)

token_is_line : (name : List ℕ) (k : TokenRow) → IsPrintable name → is_printable_token k ≡ true → IsLine (token_line name k)
token_is_line name k n p =
    let parts = and_parts (list_all is_printable k.key) (list_all is_printable k.kind) p in
    let state : IsPrintable (spent_or_not k) = either (int_eq k.spent (pos 1)) (codes "spent") (codes "unspent") refl refl in
    five k.key (left_in 32 (shown name)) (left_in 15 k.kind) (right_in 16 (signed_decimal k.expiry)) (spent_or_not k)
    parts.0 (left 32 (shown name) (shown_text name n)) (left 15 k.kind parts.1) (right 16 (signed_decimal k.expiry) (number k.expiry)) state

record ArePrintable (t : Tables) : Type 0 where
  accounts : list_all is_printable_account t.accounts ≡ true
  sessions : list_all is_printable_session t.sessions ≡ true
  tokens : list_all is_printable_token t.tokens ≡ true

parts_of : (t : Tables) → are_printable t ≡ true → ArePrintable t
parts_of t p =
    let accounts = list_all is_printable_account t.accounts in
    let sessions = list_all is_printable_session t.sessions in
    let tokens = list_all is_printable_token t.tokens in
    let front = and_parts (accounts && sessions) tokens p in
    let both_first = and_parts accounts sessions front.0 in
    record { accounts = both_first.0; sessions = both_first.1; tokens = front.1 }

pub lines_counted : (t : Tables) (report : Report) → are_printable t ≡ true → count_by is_newline (report_text t report) ≡ row_count t report
lines_counted t reports.Users p =
    let ok = parts_of t p in
    rows_counted user_line is_printable_account user_is_line (in_order text_cmp (λ a. a.name) t.accounts) (list_all-in_order text_cmp (λ a. a.name) is_printable_account t.accounts ok.accounts)
    ∙ length-in_order text_cmp (λ (a : AccountRow). a.name) t.accounts
lines_counted t reports.Sessions p =
    let ok = parts_of t p in
    rows_counted (λ s. session_line (name_of t.accounts s.user) s) is_printable_session (λ s q. session_is_line (name_of t.accounts s.user) s (name_printable t.accounts s.user ok.accounts) q) (in_order nat_cmp (λ s. serial_in s.id) t.sessions)
    (list_all-in_order nat_cmp (λ s. serial_in s.id) is_printable_session t.sessions ok.sessions)
    ∙ length-in_order nat_cmp (λ (s : SessionRow). serial_in s.id) t.sessions
lines_counted t reports.Tokens p =
    let ok = parts_of t p in
    rows_counted (λ k. token_line (name_of t.accounts k.user) k) is_printable_token (λ k q. token_is_line (name_of t.accounts k.user) k (name_printable t.accounts k.user ok.accounts) q) (in_order nat_cmp (λ k. serial_in k.key) t.tokens)
    (list_all-in_order nat_cmp (λ k. serial_in k.key) is_printable_token t.tokens ok.tokens)
    ∙ length-in_order nat_cmp (λ (k : TokenRow). serial_in k.key) t.tokens

pub bytes_told : (t : Tables) (report : Report) → are_printable t ≡ true → list_all (λ b. is_printable b || is_newline b) (report_text t report) ≡ true
bytes_told t reports.Users p =
    let ok = parts_of t p in
    rows_told user_line is_printable_account user_is_line (in_order text_cmp (λ a. a.name) t.accounts) (list_all-in_order text_cmp (λ a. a.name) is_printable_account t.accounts ok.accounts)
bytes_told t reports.Sessions p =
    let ok = parts_of t p in
    rows_told (λ s. session_line (name_of t.accounts s.user) s) is_printable_session (λ s q. session_is_line (name_of t.accounts s.user) s (name_printable t.accounts s.user ok.accounts) q) (in_order nat_cmp (λ s. serial_in s.id) t.sessions)
    (list_all-in_order nat_cmp (λ s. serial_in s.id) is_printable_session t.sessions ok.sessions)
bytes_told t reports.Tokens p =
    let ok = parts_of t p in
    rows_told (λ k. token_line (name_of t.accounts k.user) k) is_printable_token (λ k q. token_is_line (name_of t.accounts k.user) k (name_printable t.accounts k.user ok.accounts) q) (in_order nat_cmp (λ k. serial_in k.key) t.tokens)
    (list_all-in_order nat_cmp (λ k. serial_in k.key) is_printable_token t.tokens ok.tokens)
