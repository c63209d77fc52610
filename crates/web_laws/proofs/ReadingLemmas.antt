-- What a request is read as, once and when more bytes come.
use Rattle.std.proofs.Common.{◌≡◌, ℕ, ◌-◌, ◌≤◌, Bool, true, false, cond, List, ◌++◌, length, take, drop, Some, None, Ok, Err, refl, sym, ap, subst, ◌∙◌, arith, length-append, length-drop}
use Rattle.std.specs.Prelude.{Option, Result, nat_lt, slice_range}
use Rattle.std.proofs.lemmas.Bool.{false≢true}
use Rattle.std.proofs.lemmas.Bool.Decides.{nat_tests}
use Rattle.std.proofs.lemmas.List.{take-append-le, drop-append-le}
use Rattle.httparse.proofs.GrammarLemmas.{request_unique}
use Rattle.web_pages.specs.declared.fault.WebFault.{WebFault}
use Rattle.web_requests.specs.declared.front.HeadPlace.{HeadPlace}
use Rattle.web_requests.specs.declared.front.HeadPlace.TheVariants as places
use Rattle.web_requests.specs.declared.head.Request.{Request}
use Rattle.web_requests.specs.declared.read.Read.{Read}
use Rattle.web_requests.specs.declared.read.Read.TheVariants as reads
use Rattle.web_requests.specs.declared.request.Wanted.{Wanted}
use Rattle.web_requests.specs.Front.{head_place, field_lines}
use Rattle.web_requests.specs.Heads.{IsHead, request_of}
use Rattle.web_requests.specs.Reading.{wanted_by, asked, read_wanted, read_head, ReadsLines, ReadsAt}
use Rattle.web_laws.specs.Fronts.{is_settled}
use Rattle.web_laws.proofs.FrontLemmas.{whole_stays, large_stays, within}

-- ---- one reading

one_head : (bytes : List ℕ) (r s : Option Request) → IsHead bytes r → IsHead bytes s → r ≡ s
one_head bytes (Some x) (Some y) p q = ap Some (p.3 ∙ ap request_of (request_unique bytes p.0 q.0 p.1 q.1 p.2 q.2).0 ∙ sym q.3)
one_head bytes (Some x) None p q = absurd (q p.0 p.1 p.2)
one_head bytes None (Some y) p q = absurd (p q.0 q.1 q.2)
one_head bytes None None p q = refl

one_lines : (large : Bool) (head rest : List ℕ) (a b : Read) → ReadsLines large head rest a → ReadsLines large head rest b → a ≡ b
one_lines true head rest a b p q = p ∙ sym q
one_lines false head rest a b p q = p.2 ∙ ap (λ request. read_head request rest) (one_head head p.0 q.0 p.1 q.1) ∙ sym q.2

pub one_at : (bytes : List ℕ) (place : HeadPlace) (a b : Read) → ReadsAt bytes place a → ReadsAt bytes place b → a ≡ b
one_at bytes places.Unfinished a b p q = p ∙ sym q
one_at bytes places.TooLarge a b p q = p ∙ sym q
one_at bytes (places.Whole start end) a b p q = one_lines (nat_lt 64 (field_lines (slice_range bytes start end))) (slice_range bytes start end) (drop end bytes) a b p q

-- ---- more bytes

unsettled : (read : Read) → is_settled read ≡ true → read ≡ reads.More → ⊥
unsettled read s e = false≢true (sym (ap is_settled e) ∙ s)

stands_wanted : (request : Request) (rest more : List ℕ) (wanted : Result Wanted WebFault) (read : Read) → is_settled read ≡ true → read ≡ read_wanted request rest wanted → read ≡ read_wanted request (rest ++ more) wanted
stands_wanted request rest more (Err fault) read s e = e
stands_wanted request rest more (Ok wanted) read s e = by (nat_lt (length rest) wanted.length) refl e
  where
    by : (r : Bool) → nat_lt (length rest) wanted.length ≡ r → read ≡ cond r reads.More (reads.Ask (asked wanted.route request (take wanted.length rest))) → read ≡ read_wanted request (rest ++ more) (Ok wanted)
    by true is h = absurd (unsettled read s h)
    by false is h =
        let enough : wanted.length ≤ length rest = grind (arith, nat_tests) in
        let later : nat_lt (length (rest ++ more)) wanted.length ≡ false = rw length-append (grind (arith, nat_tests)) in
        rw (later, take-append-le wanted.length rest more enough) h

stands_read : (request : Option Request) (rest more : List ℕ) (read : Read) → is_settled read ≡ true → read ≡ read_head request rest → read ≡ read_head request (rest ++ more)
stands_read (Some request) rest more read s e = stands_wanted request rest more (wanted_by request) read s e
stands_read None rest more read s e = e

stands_lines : (large : Bool) (head rest more : List ℕ) (read : Read) → is_settled read ≡ true → ReadsLines large head rest read → ReadsLines large head (rest ++ more) read
stands_lines true head rest more read s e = e
stands_lines false head rest more read s e = (e.0, e.1, stands_read e.0 rest more read s e.2)

stands_whole : (bytes more : List ℕ) (start end : ℕ) (read : Read) → start ≤ length bytes → end ≤ length bytes → is_settled read ≡ true → ReadsAt bytes (places.Whole start end) read → ReadsAt (bytes ++ more) (places.Whole start end) read
stands_whole bytes more start end read front back s e =
    let short : end - start ≤ length (drop start bytes) = omega (arith, length-drop start bytes) in
    let same : slice_range (bytes ++ more) start end ≡ slice_range bytes start end =
    ap (take (end - start)) (drop-append-le start bytes more front) ∙ take-append-le (end - start) (drop start bytes) more short in
    rw (same, drop-append-le end bytes more back) (stands_lines (nat_lt 64 (field_lines (slice_range bytes start end))) (slice_range bytes start end) (drop end bytes) more read s e)

by_place : (bytes more : List ℕ) (limit : ℕ) (place : HeadPlace) (read : Read) → head_place limit bytes ≡ place → is_settled read ≡ true → ReadsAt bytes place read → ReadsAt (bytes ++ more) (head_place limit (bytes ++ more)) read
by_place bytes more limit places.Unfinished read is s e = absurd (unsettled read s e)
by_place bytes more limit places.TooLarge read is s e = subst (λ place. ReadsAt (bytes ++ more) place read) (sym (large_stays limit bytes more is)) e
by_place bytes more limit (places.Whole start end) read is s e =
    let inside = within limit bytes start end is in
    subst (λ place. ReadsAt (bytes ++ more) place read) (sym (whole_stays limit bytes more start end is)) (stands_whole bytes more start end read inside.0 inside.1 s e)

pub stands : (bytes more : List ℕ) (limit : ℕ) (read : Read) → ReadsAt bytes (head_place limit bytes) read → is_settled read ≡ true → ReadsAt (bytes ++ more) (head_place limit (bytes ++ more)) read
stands bytes more limit read e s = by_place bytes more limit (head_place limit bytes) read refl s e
