-- The head of a response (RFC 9112, section 4).
use Rattle.std.specs.Prelude.{ℕ, List, [], ◌++◌, length, codes, decimal}
use Rattle.login_base.specs.IdText.{id_bytes}
use Rattle.login_base.specs.declared.id.RootKey.{RootKey}
use Rattle.http.specs.StatusCode.{status_text}

-- the number and its phrase
abbrev pub status_line : ℕ → List ℕ
status_line status = codes "HTTP/1.1 " ++ status_text status ++ codes "\r\n"

abbrev pub type_line : List ℕ
type_line = codes "Content-Type: text/html; charset=utf-8\r\n"

abbrev pub cache_line : List ℕ
cache_line = codes "Cache-Control: no-store\r\n"

-- the browser keeps the root (RFC 6265, section 4.1)
abbrev pub cookie_line : RootKey → List ℕ
cookie_line root = codes "Set-Cookie: root=" ++ id_bytes root.0 ++ codes "; Path=/; HttpOnly; SameSite=Lax\r\n"

-- the method of the route
abbrev pub allow_line : List ℕ → List ℕ
allow_line method = codes "Allow: " ++ method ++ codes "\r\n"

abbrev pub length_line : ℕ → List ℕ
length_line n = codes "Content-Length: " ++ decimal n ++ codes "\r\n"

abbrev pub close_line : List ℕ
close_line = codes "Connection: close\r\n"

-- the lines before and behind those of this response alone
unfoldable pub first_lines : ℕ → List ℕ
first_lines status = status_line status ++ type_line ++ cache_line

unfoldable pub last_lines : ℕ → List ℕ
last_lines n = length_line n ++ close_line ++ codes "\r\n"

-- a response with a body, and lines of its own in its head
abbrev pub response : ℕ → List ℕ → List ℕ → List ℕ
response status own body = first_lines status ++ own ++ last_lines (length body) ++ body
