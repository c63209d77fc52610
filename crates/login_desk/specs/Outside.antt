-- What contracts see of the outside of a run.
use Rattle.std.specs.Prelude.{◌≡◌, refl, ℕ, List, Option}
use Rattle.login_base.specs.Outside.{Rose}
use Rattle.std.specs.Coded.{Coded, code_by, coded×, coded_ℕ, coded_list, coded_option}

-- a source: itself, the bytes that are still to come, where they are told, and its counts of faults and of ends
pub record SourceState (S : Type 0) : Type 0 where
  pub source : S
  pub left : Option (List ℕ)
  pub faults : ℕ
  pub ends : ℕ

-- the sources of the script and of the realm; the bytes that were written so far, where they are told, and the count of
-- writes that failed
pub record OutsideState (S R : Type 0) : Type 0 where
  pub script : SourceState S
  pub realm : SourceState R
  pub written : Option (List ℕ)
  pub write_faults : ℕ

abbrev pub source_code : {S : Type 0} → Coded S → Coded (SourceState S)
source_code {S} source =
    code_by (S × (Option (List ℕ) × (ℕ × ℕ))) (coded× source (coded× (coded_option (coded_list coded_ℕ)) (coded× coded_ℕ coded_ℕ)))
    (λ s. (s.source, (s.left, (s.faults, s.ends))))
    (λ p. record { source = p.0; left = p.1.0; faults = p.1.1.0; ends = p.1.1.1 })
    (λ _. refl)

abbrev pub outside_code : {S R : Type 0} → Coded S → Coded R → Coded (OutsideState S R)
outside_code {S} {R} script realm =
    code_by (SourceState S × (SourceState R × (Option (List ℕ) × ℕ))) (coded× (source_code script) (coded× (source_code realm) (coded× (coded_option (coded_list coded_ℕ)) coded_ℕ)))
    (λ o. (o.script, (o.realm, (o.written, o.write_faults))))
    (λ p. record { script = p.0; realm = p.1.0; written = p.1.1.0; write_faults = p.1.1.1 })
    (λ _. refl)

-- nothing was read
pub record IsUnread {S R : Type 0} (old new : OutsideState S R) : Type 0 where
  pub script : new.script ≡ old.script
  pub realm : new.realm ≡ old.realm

-- nothing was written
pub record IsUnwritten {S R : Type 0} (old new : OutsideState S R) : Type 0 where
  pub written : new.written ≡ old.written
  pub faults : new.write_faults ≡ old.write_faults

-- no count of faults rose
pub record IsFaultless {S R : Type 0} (old new : OutsideState S R) : Type 0 where
  pub script : ¬ Rose old.script.faults new.script.faults
  pub realm : ¬ Rose old.realm.faults new.realm.faults
  pub puts : ¬ Rose old.write_faults new.write_faults
