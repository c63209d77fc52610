-- The parts of a head, as a parser's places show them.
use Rattle.std.proofs.Common.{◌≡◌, ℕ, ◌+◌, ◌≤◌, cond, List, [], ◌∷◌, ◌++◌, length, take, drop, refl, sym, ap, ◌∙◌, arith}
use Rattle.std.specs.Prelude.{Option, Result, Some, None, Ok, Err, IfOk, map, ◌==◌}
use Rattle.std.specs.List.{flat_map, count_by}
use Rattle.login_base.specs.declared.memory.Memory.{Memory}
use Rattle.std.proofs.lemmas.Simd.{map-map}
use Rattle.std.proofs.lemmas.List.Sums.{sum_by-append}
use Rattle.httparse.specs.declared.spans.HeaderSpan.{HeaderSpan}
use Rattle.httparse.specs.declared.spans.RequestSpans.{RequestSpans}
use Rattle.httparse.specs.Grammar.{LineEnd, crlf, lf, print_end, Field, print_field, print_section, print_blank, print_version, RequestHead, print_request, ReadsRequest}
use Rattle.httparse.specs.Spans.{header_bytes, name_and_value, IsRequestAt, IsRequestOf}
use Rattle.web_requests.specs.declared.head.HeaderField.{HeaderField}
use Rattle.web_requests.specs.declared.head.Request.{Request}
use Rattle.web_requests.specs.Front.{field_lines}
use Rattle.web_requests.specs.Heads.{field_at, field_of, request_at, request_of, IsRequestIn, IsHead, IsHeadWithin}

field_from : List ℕ × List ℕ → HeaderField
field_from pair = record { name = pair.0; value = pair.1 }

same_fields : (bytes : List ℕ) (spans : List HeaderSpan) (fields : List Field) → map (header_bytes bytes) spans ≡ map name_and_value fields → map (field_at bytes) spans ≡ map field_of fields
unfolding field_from
same_fields bytes spans fields e = sym (map-map field_from (header_bytes bytes) spans) ∙ ap (map field_from) e ∙ map-map field_from name_and_value fields

same_request : (bytes : List ℕ) (spans : List HeaderSpan) (places : RequestSpans) (h : RequestHead) → IsRequestAt bytes spans places h → request_at bytes spans places ≡ request_of h
same_request bytes spans places h at = rw (at.method, at.path, same_fields bytes (take places.headers spans) h.fields at.fields) refl

pub request_in : (bytes : List ℕ) (spans : List HeaderSpan) (places : RequestSpans) (request : Request) → IsRequestOf bytes spans places → request ≡ request_at bytes spans places → IsRequestIn bytes request
request_in bytes spans places request found is = (found.0, drop places.len bytes, found.1.reads, is ∙ same_request bytes spans places found.0 found.1)

-- ---- each field has a line

lines : List ℕ → ℕ
lines bytes = count_by (λ b. b == 10) bytes

both : (front back : List ℕ) → lines (front ++ back) ≡ lines front + lines back
unfolding lines
both front back = sum_by-append (λ b. cond (b == 10) 1 0) front back

line_end : (e : LineEnd) → lines (print_end e) ≡ 1
unfolding lines
line_end crlf = refl
line_end lf = refl

-- what ends a text counts in it
behind : (front back : List ℕ) → lines back ≤ lines (front ++ back)
behind front back = omega (arith, both front back)

field_line : (f : Field) → 1 ≤ lines (print_field f)
field_line f = omega (arith, line_end f.end, behind (f.name ++ 58 ∷ f.raw) (print_end f.end))

fields_lines : (fields : List Field) → length fields ≤ lines (flat_map print_field fields)
fields_lines [] = omega arith
fields_lines (f ∷ fs) = omega (arith, field_line f, fields_lines fs, both (print_field f) (flat_map print_field fs))

section : (fields : List Field) (last : LineEnd) → length fields + 1 ≤ lines (print_section fields last)
section fields last = omega (arith, fields_lines fields, line_end last, both (flat_map print_field fields) (print_end last))

request_lines : (h : RequestHead) → length h.fields + 2 ≤ lines (print_request h)
unfolding print_request
request_lines h =
    let first : List ℕ = print_blank h.blank ++ h.method ++ 32 ∷ h.target ++ 32 ∷ print_version h.minor in
    omega (arith, both (first ++ print_end h.line_end) (print_section h.fields h.last), section h.fields h.last, line_end h.line_end, behind first (print_end h.line_end))

fields_within : (bytes : List ℕ) (h : RequestHead) (rest : List ℕ) → ReadsRequest bytes h rest → length h.fields ≤ field_lines bytes
unfolding lines
fields_within bytes h rest reads = omega (arith, request_lines h, both (print_request h) rest, ap lines reads.1)

pub whole : (bytes : List ℕ) (r : Result (Option Request) Memory) → field_lines bytes ≤ 64 → IfOk r (IsHeadWithin bytes 64) → IfOk r (IsHead bytes)
whole bytes (Ok (Some request)) le is = is
whole bytes (Ok None) le is = λ h rest reads. is h rest reads (omega (arith, le, fields_within bytes h rest reads))
whole bytes (Err e) le is = tt
