-- Which accepted posts count, whatever they rest on.
use Rattle.std.proofs.Common.{◌≡◌, ℕ, Bool, true, false, not, ◌&&◌, ◌||◌, List, [], ◌∷◌, Option, Some, None, refl, ap, sym, ◌∙◌}
use Rattle.std.specs.List.{list_any}
use Rattle.conditions.specs.declared.secret_kind.SecretKind.{SecretKind}
use Rattle.conditions.specs.declared.secret_kind.SecretKind.TheVariants as kinds
use Rattle.login_base.specs.declared.id.TabKey.{TabKey}
use Rattle.login_base.specs.declared.id.UserId.{UserId}
use Rattle.facts.specs.declared.fact.Fact.{Fact}
use Rattle.facts.specs.Evidence.{is_passed, rests_on, voids, has_evidence}
use Rattle.hall_questions.specs.Evidence.{same_rest, has_evidence_on}
use Rattle.hall_questions.specs.Questions.{AnswerAlike}

-- four answers, one for each that a post can rest on
pub record Four : Type 0 where
  pub nothing : Bool
  pub password : Bool
  pub otp : Bool
  pub recovery : Bool

abbrev any_of : Four → Bool
any_of four = four.nothing || (four.password || (four.otp || four.recovery))

abbrev at : Option SecretKind → Four → Bool
at None four = four.nothing
at (Some kinds.Password) four = four.password
at (Some kinds.Otp) four = four.otp
at (Some kinds.Recovery) four = four.recovery

-- the answer at what this post rests on, before the others
abbrev with_one : Bool → Option SecretKind → Option SecretKind → Bool → Bool → Bool
with_one passed rest kind voided later = ((passed && same_rest kind rest) && not voided) || later

abbrev more : Bool → Option SecretKind → Four → Four → Four
more passed rest voided later =
    record {
      nothing = with_one passed rest None voided.nothing later.nothing;
      password = with_one passed rest (Some kinds.Password) voided.password later.password;
      otp = with_one passed rest (Some kinds.Otp) voided.otp later.otp;
      recovery = with_one passed rest (Some kinds.Recovery) voided.recovery later.recovery;
    }

or_true : (b : Bool) → true ≡ (b || true)
or_true true = refl
or_true false = refl

or_second : (a b : Bool) → true ≡ (a || (true || b))
or_second a b = or_true a

or_third : (a b c : Bool) → true ≡ (a || (b || (true || c)))
or_third true b c = refl
or_third false b c = or_true b

or_fourth : (a b c : Bool) → true ≡ (a || (b || (c || true)))
or_fourth true b c = refl
or_fourth false true c = refl
or_fourth false false c = or_true c

one_more : (passed : Bool) (rest : Option SecretKind) (voided later : Four)
    → ((passed && not (at rest voided)) || any_of later) ≡ any_of (more passed rest voided later)
one_more false rest voided later = refl
one_more true None voided later = nothing voided.nothing
  where
    nothing : (is : Bool) → (not is || any_of later) ≡ ((not is || later.nothing) || (later.password || (later.otp || later.recovery)))
    nothing true = refl
    nothing false = refl
one_more true (Some kinds.Password) voided later = password voided.password
  where
    password : (is : Bool) → (not is || any_of later) ≡ (later.nothing || ((not is || later.password) || (later.otp || later.recovery)))
    password true = refl
    password false = or_second later.nothing (later.otp || later.recovery)
one_more true (Some kinds.Otp) voided later = otp voided.otp
  where
    otp : (is : Bool) → (not is || any_of later) ≡ (later.nothing || (later.password || ((not is || later.otp) || later.recovery)))
    otp true = refl
    otp false = or_third later.nothing later.password later.recovery
one_more true (Some kinds.Recovery) voided later = recovery voided.recovery
  where
    recovery : (is : Bool) → (not is || any_of later) ≡ (later.nothing || (later.password || (later.otp || (not is || later.recovery))))
    recovery true = refl
    recovery false = or_fourth later.nothing later.password later.otp

module _ (tab : TabKey) (user : UserId) (id : List ℕ) where
  abbrev counting : List Fact → Four
  counting facts =
      record {
        nothing = has_evidence_on tab user id None facts;
        password = has_evidence_on tab user id (Some kinds.Password) facts;
        otp = has_evidence_on tab user id (Some kinds.Otp) facts;
        recovery = has_evidence_on tab user id (Some kinds.Recovery) facts;
      }

  abbrev voided_by : List Fact → Four
  voided_by facts =
      record {
        nothing = list_any (voids tab user None) facts;
        password = list_any (voids tab user (Some kinds.Password)) facts;
        otp = list_any (voids tab user (Some kinds.Otp)) facts;
        recovery = list_any (voids tab user (Some kinds.Recovery)) facts;
      }

  voided_at : (rest : Option SecretKind) (facts : List Fact) → list_any (voids tab user rest) facts ≡ at rest (voided_by facts)
  voided_at None facts = refl
  voided_at (Some kinds.Password) facts = refl
  voided_at (Some kinds.Otp) facts = refl
  voided_at (Some kinds.Recovery) facts = refl

  -- evidence counts exactly where some does that rests on one of the four
  counts_on_some : (facts : List Fact) → has_evidence tab user id facts ≡ any_of (counting facts)
  unfolding has_evidence has_evidence_on
  counts_on_some [] = refl
  counts_on_some (fact ∷ later) =
      let passed = is_passed tab user id fact in
      let rest = rests_on fact in
      ap (λ (b : Bool). (passed && not b) || has_evidence tab user id later) (voided_at rest later)
      ∙ ap (λ (b : Bool). (passed && not (at rest (voided_by later))) || b) (counts_on_some later)
      ∙ one_more passed rest (voided_by later) (counting later)

pub evidence_alike : (one other : List Fact) → AnswerAlike one other → (tab : TabKey) (user : UserId) (id : List ℕ)
    → has_evidence tab user id one ≡ has_evidence tab user id other
evidence_alike one other alike tab user id =
    let on = alike.evidence tab user id in
    counts_on_some tab user id one
    ∙ rw (on None, on (Some kinds.Password), on (Some kinds.Otp), on (Some kinds.Recovery)) (sym (counts_on_some tab user id other))
