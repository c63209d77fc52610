-- The head of a request (RFC 9112, sections 3 and 5).
use Rattle.std.specs.Prelude.{◌≡◌, ℕ, ◌≤◌, List, map, length, take, Option, Some, None, slice_range}
use Rattle.httparse.specs.Grammar.{Field, field_value, RequestHead, ReadsRequest, HasNoRequest}
use Rattle.httparse.specs.declared.spans.RequestSpans.{RequestSpans}
use Rattle.httparse.specs.declared.spans.HeaderSpan.{HeaderSpan}
use Rattle.httparse.specs.Spans.{span_bytes}
use Rattle.web_requests.specs.declared.head.HeaderField.{HeaderField}
use Rattle.web_requests.specs.declared.head.Request.{Request}

-- a field's name, and its value without the white space around it
abbrev pub field_of : Field → HeaderField
field_of f = record { name = f.name; value = field_value f }

-- what is read of a head
abbrev pub request_of : RequestHead → Request
request_of h = record { method = h.method; target = h.target; fields = map field_of h.fields }

-- the bytes begin with a head of the grammar, of which this is read
abbrev pub IsRequestIn : List ℕ → Request → Type 0
IsRequestIn bytes request = (h : RequestHead) × (rest : List ℕ) × ReadsRequest bytes h rest × (request ≡ request_of h)

-- what the bytes are read as: none where they don't begin with a head of the grammar
abbrev pub IsHead : List ℕ → Option Request → Type 0
IsHead bytes (Some request) = IsRequestIn bytes request
IsHead bytes None = HasNoRequest bytes

-- the same where a head counts with at most so many fields alone
abbrev pub IsHeadWithin : List ℕ → ℕ → Option Request → Type 0
IsHeadWithin bytes most (Some request) = IsRequestIn bytes request
IsHeadWithin bytes most None = (h : RequestHead) (rest : List ℕ) → ReadsRequest bytes h rest → length h.fields ≤ most → ⊥

-- the field that a header's spans cover
abbrev pub field_at : List ℕ → HeaderSpan → HeaderField
field_at bytes span = record { name = span_bytes bytes span.name; value = span_bytes bytes span.value }

-- the request whose parts are at these places
abbrev pub request_at : List ℕ → List HeaderSpan → RequestSpans → Request
request_at bytes spans places = record { method = span_bytes bytes places.method; target = span_bytes bytes places.path; fields = map (field_at bytes) (take places.headers spans) }
