-- Pairs that are encoded and read again.
use Rattle.std.proofs.Common.{◌≡◌, ℕ, zero, suc, ◌/◌, ◌%◌, ◌*◌, ◌^◌, ◌<◌, List, [], ◌∷◌, ◌++◌, get_or, refl, sym, ap, ◌∙◌, arith}
use Rattle.std.proofs.Common.{Fits, w8}
use Rattle.std.proofs.lemmas.Grind.{get_or_default_zero}
use Rattle.std.specs.Prelude.{All, map, IsUtf8}
use Rattle.std.specs.Str.Lossy.{utf8_lossy}
use Rattle.std.proofs.lemmas.Bool.Decides.{nat_tests}
use Rattle.std.proofs.lemmas.List.Elements.{All-nil, All-cons, All-append}
use Rattle.std.proofs.lemmas.Str.{utf8_lossy-IsUtf8, IsUtf8-from_ascii}
use Rattle.std.proofs.lemmas.Str.Ascii.{IsAscii-from_all}
use Rattle.std.proofs.lemmas.Simd.{map-map}
use Rattle.form_urlencoded.specs.Form.{raw_pairs, decode, parse, extend_pairs}
use Rattle.form_urlencoded.proofs.FormLemmas.{IsBytePair, round_trip}
use Rattle.login_base.specs.declared.id.Id.{Id}
use Rattle.login_base.specs.IdText.{hex_digit, hex_text, id_bytes}
use Rattle.ask_pairs.specs.declared.pairs.Pair.{Pair}
use Rattle.ask_pairs.specs.Pairs.{pairs_of}

-- ---- texts that stand in a pair

abbrev pub IsByte : ℕ → Type 0
IsByte b = b < 256

pub record IsText (text : List ℕ) : Type 0 where
  pub bytes : All IsByte text
  pub utf8 : IsUtf8 text

abbrev pub IsAsciiByte : ℕ → Type 0
IsAsciiByte b = b < 128

wider : (text : List ℕ) → All IsAsciiByte text → All IsByte text
wider text all = λ k d lt. omega (arith, all k d lt)

pub from_ascii : (text : List ℕ) → All IsAsciiByte text → IsText text
from_ascii text all = record { bytes = wider text all; utf8 = IsUtf8-from_ascii text (IsAscii-from_all text all) }

-- the items of a text are bytes, as its type says
pub bytes_fit : (text : List ℕ) → ((i : ℕ) → Fits w8 (get_or text i 0)) → All IsByte text
bytes_fit text fit = λ k d lt. let at = fit k in rw (get_or_default_zero text k d lt) (omega (arith, at))

digit : (d : ℕ) → d < 16 → hex_digit d < 128
digit d lt = grind (arith, nat_tests)

hex : (k n : ℕ) → All IsAsciiByte (hex_text k n)
unfolding hex_text
hex zero n = All-nil IsAsciiByte
hex (suc k) n = All-cons IsAsciiByte (hex_digit (n / 2 ^ (4 * k) % 16)) (hex_text k n) (digit (n / 2 ^ (4 * k) % 16) (omega arith)) (hex k n)

pub id_text : (i : Id) → IsText (id_bytes i)
unfolding id_bytes
id_text i = from_ascii (hex_text 16 i.serial ++ 46 ∷ (hex_text 16 i.high ++ hex_text 16 i.low))
    (All-append IsAsciiByte (hex_text 16 i.serial) (46 ∷ (hex_text 16 i.high ++ hex_text 16 i.low)) (hex 16 i.serial)
    (All-cons IsAsciiByte 46 (hex_text 16 i.high ++ hex_text 16 i.low) (omega arith) (All-append IsAsciiByte (hex_text 16 i.high) (hex_text 16 i.low) (hex 16 i.high) (hex 16 i.low))))

-- ---- what was encoded is read again

as_pair : List ℕ × List ℕ → Pair
as_pair pair = record { name = pair.0; value = pair.1 }

lossy_pair : List ℕ × List ℕ → Pair
lossy_pair pair = record { name = utf8_lossy pair.0; value = utf8_lossy pair.1 }

pub data AreTexts : List (List ℕ × List ℕ) → Type 0 where
  no_texts : AreTexts []
  more_texts : (name value : List ℕ) (pairs : List (List ℕ × List ℕ)) → IsText name → IsText value → AreTexts pairs → AreTexts ((name, value) ∷ pairs)

bytes_of : (pairs : List (List ℕ × List ℕ)) → AreTexts pairs → All IsBytePair pairs
bytes_of [] no_texts = All-nil IsBytePair
bytes_of (pair ∷ pairs) (more_texts name value rest n v more) = All-cons IsBytePair (name, value) rest (n.bytes, v.bytes) (bytes_of rest more)

not_lossy : (pairs : List (List ℕ × List ℕ)) → AreTexts pairs → map lossy_pair pairs ≡ map as_pair pairs
unfolding lossy_pair as_pair
not_lossy [] no_texts = refl
not_lossy (pair ∷ pairs) (more_texts name value rest n v more) = rw (utf8_lossy-IsUtf8 name n.utf8, utf8_lossy-IsUtf8 value v.utf8, not_lossy rest more) refl

lossy : (text : List ℕ) → pairs_of text ≡ map lossy_pair (parse text)
unfolding lossy_pair
lossy text = sym (map-map lossy_pair (λ pair. (decode pair.0, decode pair.1)) (raw_pairs text))

pub read_again : (pairs : List (List ℕ × List ℕ)) → AreTexts pairs → pairs_of (extend_pairs [] pairs) ≡ map (λ pair. record { name = pair.0; value = pair.1 }) pairs
unfolding as_pair
read_again pairs texts = lossy (extend_pairs [] pairs) ∙ ap (map lossy_pair) (round_trip pairs (bytes_of pairs texts)) ∙ not_lossy pairs texts
