-- Bytes that HTML doesn't read as markup (HTML Living Standard, section 13.3).
use Rattle.std.specs.Prelude.{ℕ, Bool, true, not, ◌==◌, ◌&&◌, ◌||◌, nat_le, List}
use Rattle.std.specs.List.{list_all, filter}
use Rattle.asks.specs.declared.reply.Next.{Next}
use Rattle.asks.specs.declared.reply.Next.TheVariants as nexts
use Rattle.asks.specs.declared.reply.What.{What}
use Rattle.asks.specs.declared.reply.What.TheVariants as whats

-- printable ASCII, but none of `"`, `&`, `'`, `<` and `>`
abbrev pub is_plain : ℕ → Bool
is_plain b = nat_le 32 b && nat_le b 126 && not (b == 34 || b == 38 || b == 39 || b == 60 || b == 62)

abbrev pub is_plain_text : List ℕ → Bool
is_plain_text text = list_all is_plain text

-- the other bytes of a text: what ends lines, tags and values
abbrev pub markup : List ℕ → List ℕ
markup text = filter (λ b. not (is_plain b)) text

abbrev pub next_has_plain_texts : Next → Bool
next_has_plain_texts (nexts.Form code asked) = true
next_has_plain_texts (nexts.Action code kind shown) = list_all is_plain_text shown

-- the texts of a reply that are no names: what an administrator is told, an offered secret, offered codes
abbrev pub has_plain_texts : What → Bool
has_plain_texts (whats.Told text) = is_plain_text text
has_plain_texts (whats.Action code kind shown) = list_all is_plain_text shown
has_plain_texts (whats.BadCredentials next) = next_has_plain_texts next
has_plain_texts (whats.BadCode next) = next_has_plain_texts next
has_plain_texts (whats.CodeSpent step next) = next_has_plain_texts next
has_plain_texts what = true
