-- The words of a command line, one after the other.
use Rattle.std.proofs.Common.{◌≡◌, ℕ, ◌+◌, ◌≤◌, Bool, true, false, List, [], ◌∷◌, length, drop, Some, None, refl, ap, sym, ◌∙◌, arith}
use Rattle.std.specs.List.{list_any, position_or_len, slice_get}
use Rattle.std.proofs.Math.Seq.{take-length}
use Rattle.std.proofs.Math.ListN.{drop_of_length-le}
use Rattle.std.proofs.lemmas.List.{drop_more}
use Rattle.std.proofs.lemmas.Option.{slice_get_within, get_or_from_slice_get}
use Rattle.login_desk.specs.declared.command.Command.{Command}
use Rattle.login_desk.specs.Command.{WordsRead, is_equals, name_and_value, with_word, files_read, files_after}

lacks-after : (b : ℕ) (word : List ℕ) (t : Bool) → is_equals b ≡ t → position_or_len is_equals (b ∷ word) ≡ length (b ∷ word) → (position_or_len is_equals word ≡ length word → list_any is_equals word ≡ false) → list_any is_equals (b ∷ word) ≡ false
lacks-after b word true e h rest = absurd (let h' = rw e at h in omega (arith, h'))
lacks-after b word false e h rest = let h' = rw e at h in rw e (rest (omega (arith, h')))

lacks : (word : List ℕ) → position_or_len is_equals word ≡ length word → list_any is_equals word ≡ false
lacks [] h = refl
lacks (b ∷ word) h = lacks-after b word (is_equals b) refl h (lacks word)

-- a word without `=` is a name
pub only_name : (word : List ℕ) → position_or_len is_equals word ≡ length word → (word, None) ≡ name_and_value word
only_name word h = rw (lacks word h, h, take-length word) refl

pub one_word : (words : List (List ℕ)) (i : ℕ) (word : List ℕ) → slice_get words i ≡ Some word → drop i words ≡ word ∷ drop (i + 1) words
one_word words i word h =
    drop_more words i [] (slice_get_within words i word h) ∙ ap (λ w. w ∷ drop (i + 1) words) (get_or_from_slice_get words i word [] h)

-- one more word was read
module _ (command : Command) (words : List (List ℕ)) (i : ℕ) (word : List ℕ) (read : WordsRead) (h : slice_get words i ≡ Some word) where
  pub after_word : files_after command (Some read) (drop i words) ≡ files_after command (with_word command word read) (drop (i + 1) words)
  unfolding files_after
  after_word = ap (files_after command (Some read)) (one_word words i word h)

  pub no_more : None ≡ with_word command word read → None ≡ files_after command (Some read) (drop i words)
  unfolding files_after
  no_more e = ap (λ r. files_after command r (drop (i + 1) words)) e ∙ sym after_word

-- after the last word
pub after_all : (command : Command) (words : List (List ℕ)) (i : ℕ) (read : WordsRead) → length words ≤ i → files_read read ≡ files_after command (Some read) (drop i words)
unfolding files_after
after_all command words i read h = ap (files_after command (Some read)) (sym (drop_of_length-le words h))
