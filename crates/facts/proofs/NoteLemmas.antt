-- What is noted beside the facts of a list.
use Rattle.std.proofs.Common.{◌≡◌, ℕ, zero, suc, add-one, ◌+◌, ◌<◌, List, [], ◌∷◌, ◌++◌, Option, Some, None, length, take, get_or, slice_get, option_map, refl, ap, sym, ◌∙◌, subst, arith}
use Rattle.std.specs.Prelude.{fold}
use Rattle.std.proofs.lemmas.List.{take_more}
use Rattle.std.proofs.lemmas.Option.{get_or_from_slice_get, slice_get_within, slice_get-get_or}
use Rattle.facts.specs.declared.fact.Fact.{Fact}
use Rattle.facts.specs.declared.note.Note.{Note}
use Rattle.facts.specs.declared.subject.Subject.{Subject}
use Rattle.facts.specs.Kept.{note_of, notes_of, AreNotes, AreNotesBehind}
use Rattle.facts.specs.Serials.{known_serial_after, last_known_serial}
use Rattle.facts.specs.Subjects.{subject_of}
use Rattle.facts.proofs.PlacesLemmas.{fold-more}

pub no_notes : (known : ℕ) → notes_of known [] ≡ []
unfolding notes_of
no_notes known = refl

notes_append : (known : ℕ) (facts more : List Fact) → notes_of known (facts ++ more) ≡ notes_of known facts ++ notes_of (fold known_serial_after known facts) more
unfolding notes_of
notes_append known [] more = refl
notes_append known (fact ∷ facts) more = ap (λ (notes : List Note). note_of known fact ∷ notes) (notes_append (known_serial_after known fact) facts more)

-- the notes of joined lists
pub notes_joined : (notes more : List Note) (facts new : List Fact) → AreNotes notes facts → AreNotesBehind more facts new → AreNotes (notes ++ more) (facts ++ new)
unfolding last_known_serial
notes_joined notes more facts new h k = ap (λ (n : List Note). n ++ more) h ∙ ap (λ (n : List Note). notes_of 0 facts ++ n) k ∙ sym (notes_append 0 facts new)

-- the notes of facts that wait behind a list
pub noted_behind : (notes : List Note) (known : ℕ) (list facts waiting : List Fact) → notes ≡ notes_of known facts → known ≡ last_known_serial list → waiting ≡ facts
    → AreNotesBehind notes list waiting
noted_behind notes known list facts waiting h k e = h ∙ ap (λ (n : ℕ). notes_of n facts) k ∙ ap (notes_of (last_known_serial list)) (sym e)

-- one more fact
one_note : (known : ℕ) (fact : Fact) → notes_of known (fact ∷ []) ≡ note_of known fact ∷ []
unfolding notes_of
one_note known fact = refl

pub notes_more : (known : ℕ) (facts : List Fact) (i : ℕ) (fact : Fact) → slice_get facts i ≡ Some fact
    → notes_of known (take (i + 1) facts) ≡ notes_of known (take i facts) ++ note_of (fold known_serial_after known (take i facts)) fact ∷ []
notes_more known facts i fact h =
    let e = take_more facts i fact (slice_get_within facts i fact h) ∙ ap (λ x. take i facts ++ x ∷ []) (get_or_from_slice_get facts i fact fact h) in
    ap (notes_of known) e ∙ notes_append known (take i facts) (fact ∷ []) ∙ ap (λ (n : List Note). notes_of known (take i facts) ++ n) (one_note (fold known_serial_after known (take i facts)) fact)

-- what was noted so far, with the note of one more fact
pub noted : (known : ℕ) (facts : List Fact) (i : ℕ) (fact : Fact) (last next : ℕ) (notes more : List Note) (subject : Subject) → slice_get facts i ≡ Some fact
    → last ≡ fold known_serial_after known (take i facts) → notes ≡ notes_of known (take i facts) → next ≡ known_serial_after last fact → subject ≡ subject_of fact
    → more ≡ notes ++ record { subject = subject; known = next } ∷ []
    → (next ≡ fold known_serial_after known (take (i + 1) facts)) × (more ≡ notes_of known (take (i + 1) facts))
noted known facts i fact last next notes more subject at is_last are_notes is_next is_subject is_more =
    let after = is_next ∙ ap (λ (n : ℕ). known_serial_after n fact) is_last in
    let one : (record { subject = subject; known = next }) ≡ note_of (fold known_serial_after known (take i facts)) fact = rw (after, is_subject) refl in (
      after ∙ sym (fold-more known_serial_after known facts i fact at),
      is_more ∙ ap (λ (n : List Note). n ++ record { subject = subject; known = next } ∷ []) are_notes
          ∙ ap (λ (n : Note). notes_of known (take i facts) ++ n ∷ []) one ∙ sym (notes_more known facts i fact at),
    )

-- ---- the note at a place

subject_in : (known : ℕ) (facts : List Fact) (i : ℕ) → option_map subject_of (slice_get facts i) ≡ option_map (λ (n : Note). n.subject) (slice_get (notes_of known facts) i)
unfolding notes_of
subject_in known [] i = refl
subject_in known (fact ∷ facts) zero = refl
subject_in known (fact ∷ facts) (suc i) = subject_in (known_serial_after known fact) facts i

pub subject_at : (notes : List Note) (facts : List Fact) (i : ℕ) (d : Note) → AreNotes notes facts → i < length notes → option_map subject_of (slice_get facts i) ≡ Some (get_or notes i d).subject
subject_at notes facts i d h within =
    subject_in 0 facts i ∙ ap (λ (n : List Note). option_map (λ (note : Note). note.subject) (slice_get n i)) (sym h)
    ∙ ap (option_map (λ (note : Note). note.subject)) (slice_get-get_or notes i d within)

known_in : (known : ℕ) (facts : List Fact) (i : ℕ) (note : Note) → slice_get (notes_of known facts) i ≡ Some note → note.known ≡ fold known_serial_after known (take (suc i) facts)
unfolding notes_of
known_in known [] i note h = absurd cc
known_in known (fact ∷ facts) zero note h = ap (λ (o : Option Note). known_or o) (sym h)
  where
    known_or : Option Note → ℕ
    known_or None = 0
    known_or (Some note) = note.known
known_in known (fact ∷ facts) (suc i) note h = known_in (known_serial_after known fact) facts i note h

-- the greatest serial that the facts up to a place name
pub known_at : (notes : List Note) (facts : List Fact) (i : ℕ) (d : Note) → AreNotes notes facts → i < length notes → (get_or notes i d).known ≡ last_known_serial (take (i + 1) facts)
unfolding last_known_serial
known_at notes facts i d h within =
    known_in 0 facts i (get_or notes i d) (ap (λ (n : List Note). slice_get n i) (sym h) ∙ slice_get-get_or notes i d within)
    ∙ ap (λ (n : ℕ). fold known_serial_after 0 (take n facts)) (sym (add-one i))

notes_length : (known : ℕ) (facts : List Fact) → length (notes_of known facts) ≡ length facts
unfolding notes_of
notes_length known [] = refl
notes_length known (fact ∷ facts) = let rest = notes_length (known_serial_after known fact) facts in omega (arith, rest)

-- each fact has its note
pub within_notes : (notes : List Note) (facts : List Fact) (i : ℕ) → AreNotes notes facts → i < length facts → i < length notes
within_notes notes facts i h within = subst (λ (n : ℕ). i < n) (sym (ap length h ∙ notes_length 0 facts)) within
