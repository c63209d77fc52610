-- One more entry.
use Rattle.std.proofs.Common.{◌≡◌, ℕ, ◌≤◌, false, None, List, [], ◌∷◌, ◌++◌, length, take, refl, sym, ap, subst, ◌∙◌, append_assoc, arith}
use Rattle.std.specs.Prelude.{unwrap_or}
use Rattle.std.specs.List.{flat_map, list_any}
use Rattle.std.proofs.lemmas.Grind.{flat_map-append, fold-append}
use Rattle.std.proofs.lemmas.List.{append-nil, take-append-le, length-append, take_all}
use Rattle.facts.specs.declared.entry.Entry.{Entry}
use Rattle.facts.specs.declared.fact.Fact.{Fact}
use Rattle.facts.specs.declared.fact.Fact.TheVariants.{Mark}
use Rattle.facts.specs.Moments.{last_used_moment, used_by}
use Rattle.std.specs.Option.{option_or}
use Rattle.facts.specs.Places.{last_of}
use Rattle.facts.proofs.PlacesLemmas.{last_of_append}
use Rattle.login_hall.specs.Growth.{chronicle_of, last_moment}
use Rattle.login_hall.specs.HallState.{IsSound}
use Rattle.login_hall.specs.Legal.{Follows, LegalAfter}
use Rattle.login_hall.specs.Start.{is_mark}

pub chronicle_of-push : (base : List Fact) (journal : List Entry) (entry : Entry) → chronicle_of base (journal ++ entry ∷ []) ≡ chronicle_of base journal ++ entry.added
unfolding chronicle_of
chronicle_of-push base journal entry =
    ap (λ l. base ++ l) (flat_map-append (λ (x : Entry). x.added) journal (entry ∷ []) ∙ ap (λ l. flat_map (λ (x : Entry). x.added) journal ++ l) (append-nil entry.added))
    ∙ sym (append_assoc base (flat_map (λ (x : Entry). x.added) journal) entry.added)

pub last_moment-push : (base : List Fact) (journal : List Entry) (entry : Entry) → last_moment base (journal ++ entry ∷ []) ≡ entry.moment
unfolding last_moment
last_moment-push base journal entry = fold-append (λ (last : ℕ) (x : Entry). x.moment) (last_used_moment base) journal (entry ∷ [])

pub legal-push : (base : List Fact) (front journal : List Entry) (entry : Entry) → LegalAfter base front journal → Follows base (front ++ journal) entry → LegalAfter base front (journal ++ entry ∷ [])
unfolding LegalAfter
legal-push base front [] entry legal next = (subst (λ f. Follows base f entry) (append-nil front) next, tt)
legal-push base front (first ∷ journal) entry legal next =
    (legal.0, legal-push base (front ++ first ∷ []) journal entry legal.1 (subst (λ f. Follows base f entry) (sym (append_assoc front (first ∷ []) journal)) next))

-- the base stays where facts are added
pub take-grown : (based : ℕ) (facts added : List Fact) → based ≤ length facts → take based (facts ++ added) ≡ take based facts
take-grown based facts added within = take-append-le based facts added within

-- a hall with one more entry
pub sound-push : (facts : List Fact) (based : ℕ) (journal : List Entry) (last : ℕ) (entry : Entry) → IsSound facts based journal last → Follows (take based facts) journal entry → IsSound (facts ++ entry.added) based (journal ++ entry ∷ []) entry.moment
sound-push facts based journal last entry sound next =
    let same = take-grown based facts entry.added sound.within in
    record {
      within = omega (arith, sound.within, length-append facts entry.added);
      kept = rw same (ap (λ l. l ++ entry.added) sound.kept ∙ sym (chronicle_of-push (take based facts) journal entry));
      legal = rw same (legal-push (take based facts) [] journal entry sound.legal next);
      ends = rw same (sym (last_moment-push (take based facts) journal entry));
    }

-- a hall whose base is one mark of zeros
pub sound-start : IsSound (Mark 0 0 0 0 ∷ []) 1 [] 0
unfolding chronicle_of last_moment last_used_moment LegalAfter
sound-start = record { within = omega arith; kept = refl; legal = tt; ends = refl }

-- all that happened, with one more entry
pub chronicle_of-grown : (facts : List Fact) (based : ℕ) (journal : List Entry) (entry : Entry) → based ≤ length facts → chronicle_of (take based (facts ++ entry.added)) (journal ++ entry ∷ []) ≡ chronicle_of (take based facts) journal ++ entry.added
chronicle_of-grown facts based journal entry within = ap (λ base. chronicle_of base (journal ++ entry ∷ [])) (take-grown based facts entry.added within) ∙ chronicle_of-push (take based facts) journal entry

-- ---- a start

unmarked : (fs : List Fact) → list_any is_mark fs ≡ false → last_of used_by fs ≡ None
unmarked [] h = refl
unmarked (Mark tabs stored used kept ∷ fs) h = absurd cc
unmarked (f ∷ fs) h = rw (unmarked fs h) refl

used_before : (old more : List Fact) → list_any is_mark more ≡ false → last_used_moment (old ++ more) ≡ last_used_moment old
unfolding last_used_moment
used_before old more h = ap (λ o. unwrap_or o 0) (last_of_append used_by old more ∙ ap (λ o. option_or o (last_of used_by old)) (unmarked more h))

chronicle_of-base : (base : List Fact) → chronicle_of base [] ≡ base
unfolding chronicle_of
chronicle_of-base base = append-nil base

last_moment-base : (base : List Fact) → last_moment base [] ≡ last_used_moment base
unfolding last_moment
last_moment-base base = refl

-- all facts are the base's where the journal is empty
pub all_based : (facts : List Fact) (based : ℕ) (journal : List Entry) (last : ℕ) → IsSound facts based journal last → journal ≡ [] → facts ≡ take based facts
all_based facts based journal last sound empty = sound.kept ∙ ap (chronicle_of (take based facts)) empty ∙ chronicle_of-base (take based facts)

-- a hall whose base ends with more facts, none of which is a mark
pub sound-started : (facts : List Fact) (based : ℕ) (journal : List Entry) (last : ℕ) (added : List Fact) → IsSound facts based journal last → journal ≡ [] → list_any is_mark added ≡ false
    → IsSound (facts ++ added) (length (facts ++ added)) [] last
unfolding LegalAfter
sound-started facts based journal last added sound empty unmarked_added =
    let all = take_all (length (facts ++ added)) (facts ++ added) (omega arith) in
    let whole = all_based facts based journal last sound empty in
    record {
      within = omega arith;
      kept = sym (ap (λ l. chronicle_of l []) all ∙ chronicle_of-base (facts ++ added));
      legal = tt;
      ends =
          sound.ends ∙ ap (last_moment (take based facts)) empty ∙ last_moment-base (take based facts) ∙ sym (ap last_used_moment whole) ∙ sym (used_before facts added unmarked_added)
          ∙ sym (ap (λ l. last_moment l []) all ∙ last_moment-base (facts ++ added));
    }

-- its base is the old one with these facts
pub base_started : (facts : List Fact) (based : ℕ) (journal : List Entry) (last : ℕ) (added : List Fact) → IsSound facts based journal last → journal ≡ [] → take (length (facts ++ added)) (facts ++ added) ≡ take based facts ++ added
base_started facts based journal last added sound empty = take_all (length (facts ++ added)) (facts ++ added) (omega arith) ∙ ap (λ l. l ++ added) (all_based facts based journal last sound empty)
