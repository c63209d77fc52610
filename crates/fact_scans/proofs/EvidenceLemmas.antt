-- Evidence that is counted fact by fact is the evidence that counts.
use Rattle.std.proofs.Common.{◌≡◌, ◌<◌, arith, ℕ, Bool, true, false, not, ◌&&◌, ◌||◌, List, [], ◌∷◌, Option, Some, None, refl, ap, sym, ◌∙◌}
use Rattle.std.specs.Prelude.{fold, if◌then◌else◌}
use Rattle.std.specs.List.{list_any}
use Rattle.login_base.specs.declared.id.TabKey.{TabKey}
use Rattle.login_base.specs.declared.id.UserId.{UserId}
use Rattle.conditions.specs.declared.secret_kind.SecretKind.{SecretKind}
use Rattle.conditions.specs.declared.secret_kind.SecretKind.TheVariants as secrets
use Rattle.facts.specs.declared.fact.Fact.{Fact}
use Rattle.facts.specs.declared.fact.Fact.TheVariants as events
use Rattle.facts.specs.Evidence.{is_passed, rests_on, voids, has_evidence}
use Rattle.facts.specs.Serials.{known_serial_after, last_known_serial}
use Rattle.facts.proofs.TabLemmas.{lower, all_rise}
use Rattle.fact_scans.specs.declared.evidence.Counting.{Counting}
use Rattle.fact_scans.specs.Counting.{nothing, some_counts, with_kind, without_kind, is_own, is_foreign, counting_after}

and_true : (b : Bool) → (b && true) ≡ b
and_true true = refl
and_true false = refl

and_false : (b : Bool) → (b && false) ≡ false
and_false true = refl
and_false false = refl

or_true : (b : Bool) → (b || true) ≡ true
or_true true = refl
or_true false = refl

or_false : (b : Bool) → (b || false) ≡ b
or_false true = refl
or_false false = refl

or_assoc : (a b c : Bool) → ((a || b) || c) ≡ (a || (b || c))
or_assoc true b c = refl
or_assoc false b c = refl

-- what counts of c once the secrets of these kinds were changed
abbrev left : Counting → Bool → Bool → Bool → Bool
left c password otp recovery = c.lasting || (c.password && not password) || (c.otp && not otp) || (c.recovery && not recovery)

-- ---- one more accepted post

lasting_more : (c : Counting) (p o r : Bool) → left (with_kind c None) p o r ≡ (left c p o r || true)
lasting_more c p o r = sym (or_true (left c p o r))

password_more : (l w x y v : Bool) → (((l || v) || x) || y) ≡ ((((l || (w && v)) || x) || y) || v)
password_more true w x y v = refl
password_more false w x y true = sym (or_true ((((w && true) || x)) || y))
password_more false true x y false = sym (or_false (x || y))
password_more false false x y false = sym (or_false (x || y))

otp_more : (l w x y v : Bool) → (((l || w) || v) || y) ≡ ((((l || w) || (x && v)) || y) || v)
otp_more true w x y v = refl
otp_more false true x y v = refl
otp_more false false x y true = sym (or_true ((x && true) || y))
otp_more false false true y false = sym (or_false y)
otp_more false false false y false = sym (or_false y)

recovery_more : (l w x y v : Bool) → (((l || w) || x) || v) ≡ ((((l || w) || x) || (y && v)) || v)
recovery_more true w x y v = refl
recovery_more false true x y v = refl
recovery_more false false true y v = refl
recovery_more false false false y true = sym (or_true (y && true))
recovery_more false false false true false = refl
recovery_more false false false false false = refl

-- ---- one more change of a secret

password_cleared : (b : Bool) (c : Counting) (p o r : Bool) → left (if b then without_kind c secrets.Password else c) p o r ≡ left c (b || p) o r
password_cleared true c p o r = ap (λ x. ((c.lasting || x) || (c.otp && not o)) || (c.recovery && not r)) (sym (and_false c.password))
password_cleared false c p o r = refl

otp_cleared : (b : Bool) (c : Counting) (p o r : Bool) → left (if b then without_kind c secrets.Otp else c) p o r ≡ left c p (b || o) r
otp_cleared true c p o r = ap (λ x. ((c.lasting || (c.password && not p)) || x) || (c.recovery && not r)) (sym (and_false c.otp))
otp_cleared false c p o r = refl

recovery_cleared : (b : Bool) (c : Counting) (p o r : Bool) → left (if b then without_kind c secrets.Recovery else c) p o r ≡ left c p o (b || r)
recovery_cleared true c p o r = ap (λ x. ((c.lasting || (c.password && not p)) || (c.otp && not o)) || x) (sym (and_false c.recovery))
recovery_cleared false c p o r = refl

module _ (tab : TabKey) (user : UserId) (id : List ℕ) where
  -- a secret of this kind is changed by something else
  abbrev changed : SecretKind → List Fact → Bool
  changed kind facts = list_any (voids tab user (Some kind)) facts

  abbrev left_after : Counting → List Fact → Bool
  left_after c facts = left c (changed secrets.Password facts) (changed secrets.Otp facts) (changed secrets.Recovery facts)

  nothing_voids : (facts : List Fact) → list_any (voids tab user None) facts ≡ false
  nothing_voids [] = refl
  nothing_voids (events.SecretSet of kind serial secret by ∷ facts) = nothing_voids facts
  nothing_voids (fact ∷ facts) = nothing_voids facts

  -- the accepted post counts to the end
  abbrev counts : Bool → Option SecretKind → List Fact → Bool
  counts own kind later = own && not (list_any (voids tab user kind) later)

  passed_more : (own : Bool) (c : Counting) (kind : Option SecretKind) (later : List Fact)
      → left_after (if own then with_kind c kind else c) later ≡ (left_after c later || counts own kind later)
  passed_more true c None later = lasting_more c (changed secrets.Password later) (changed secrets.Otp later) (changed secrets.Recovery later) ∙ ap (λ v. left_after c later || not v) (sym (nothing_voids later))
  passed_more true c (Some secrets.Password) later = password_more c.lasting c.password (c.otp && not (changed secrets.Otp later)) (c.recovery && not (changed secrets.Recovery later)) (not (changed secrets.Password later))
  passed_more true c (Some secrets.Otp) later = otp_more c.lasting (c.password && not (changed secrets.Password later)) c.otp (c.recovery && not (changed secrets.Recovery later)) (not (changed secrets.Otp later))
  passed_more true c (Some secrets.Recovery) later = recovery_more c.lasting (c.password && not (changed secrets.Password later)) (c.otp && not (changed secrets.Otp later)) c.recovery (not (changed secrets.Recovery later))
  passed_more false c kind later = sym (or_false (left_after c later))

  -- what one fact more, in front, does to what counts
  step : (c : Counting) (fact : Fact) (later : List Fact)
      → left_after (counting_after tab user id c fact) later ≡ (left_after c (fact ∷ later) || counts (is_passed tab user id fact) (rests_on fact) later)
  step c (events.Passed of execution by kind credential moment) later = passed_more (is_own tab user id of by execution) c kind later
  step c (events.SecretSet of secrets.Password serial secret by) later = password_cleared (is_foreign tab user of by) c _ _ _ ∙ sym (or_false _)
  step c (events.SecretSet of secrets.Otp serial secret by) later = otp_cleared (is_foreign tab user of by) c _ _ _ ∙ sym (or_false _)
  step c (events.SecretSet of secrets.Recovery serial secret by) later = recovery_cleared (is_foreign tab user of by) c _ _ _ ∙ sym (or_false _)
  step c fact later = sym (or_false (left_after c later))

  ends : (c : Counting) → some_counts c ≡ left_after c []
  ends c = sym (rw (and_true c.password, and_true c.otp, and_true c.recovery) refl)

  counted : (c : Counting) (facts : List Fact) → some_counts (fold (counting_after tab user id) c facts) ≡ (left_after c facts || has_evidence tab user id facts)
  unfolding has_evidence
  counted c [] = ends c ∙ sym (or_false (left_after c []))
  counted c (fact ∷ later) =
      counted (counting_after tab user id c fact) later
      ∙ ap (λ x. x || has_evidence tab user id later) (step c fact later)
      ∙ or_assoc (left_after c (fact ∷ later)) (counts (is_passed tab user id fact) (rests_on fact) later) (has_evidence tab user id later)

  pub evidence_counted : (facts : List Fact) → some_counts (fold (counting_after tab user id) nothing facts) ≡ has_evidence tab user id facts
  evidence_counted facts = counted nothing facts

  -- ---- facts that name no tab so new

  none_left : (kind : SecretKind) → without_kind nothing kind ≡ nothing
  none_left secrets.Password = refl
  none_left secrets.Otp = refl
  none_left secrets.Recovery = refl

  still_nothing : (foreign : Bool) (kind : SecretKind) → (if foreign then without_kind nothing kind else nothing) ≡ nothing
  still_nothing true kind = none_left kind
  still_nothing false kind = refl

  counts_nothing : (n : ℕ) (fact : Fact) → known_serial_after n fact < tab.0.serial → counting_after tab user id nothing fact ≡ nothing
  counts_nothing n (events.Passed of execution by kind credential moment) less = rw (lower of.0 tab.0 (omega (arith, less))) refl
  counts_nothing n (events.SecretSet of kind serial secret by) less = still_nothing (is_foreign tab user of by) kind
  counts_nothing n fact less = refl

  count_nothing : (n : ℕ) (facts : List Fact) → fold known_serial_after n facts < tab.0.serial → fold (counting_after tab user id) nothing facts ≡ nothing
  count_nothing n [] less = refl
  count_nothing n (fact ∷ facts) less =
      let rest = all_rise (known_serial_after n fact) facts in
      ap (λ (c : Counting). fold (counting_after tab user id) c facts) (counts_nothing n fact (omega (arith, less, rest)))
      ∙ count_nothing (known_serial_after n fact) facts less

  pub nothing_before : (facts : List Fact) → last_known_serial facts < tab.0.serial → fold (counting_after tab user id) nothing facts ≡ nothing
  unfolding last_known_serial
  nothing_before facts less = count_nothing 0 facts less
