-- Bodies that are read as they were written.
use Rattle.std.proofs.Common.{◌≡◌, ℕ, ◌*◌, ◌/◌, ◌%◌, ◌≤◌, Bool, true, false, ◌&&◌, ◌==◌, List, [], ◌∷◌, length, length-append, refl, arith}
use Rattle.std.specs.Prelude.{Some, nat_le}
use Rattle.std.specs.List.{list_all}
use Rattle.std.proofs.lemmas.Bool.{and_parts, false≢true}
use Rattle.std.proofs.lemmas.Bool.Decides.{nat_tests}
use Rattle.std.proofs.Math.Seq.{take-append_seam, drop-append_seam}
use Rattle.realm_data.specs.PasswordHash.{HashedPassword, is_hash, is_iterations}
use Rattle.realm_data.specs.Secrets.{is_digest, are_recovery_digests}
use Rattle.keeper_columns.specs.Bodies.{password_in, big_endian, are_digests, digest_count}
use Rattle.fact_columns.specs.Bodies.{password_body, recovery_body}

four : (a b c d : Bool) → (a && b && c && d) ≡ true → (a ≡ true) × (b ≡ true) × (c ≡ true)
four true true true d h = (refl, refl, refl)
four true true false d h = absurd (false≢true h)
four true false c d h = absurd (false≢true h)
four false b c d h = absurd (false≢true h)

at_most : (n most : ℕ) → nat_le n most ≡ true → n ≤ most
at_most n most h = grind (arith, nat_tests)

high_first : (n : ℕ) → n ≤ 2000000 → big_endian (n / 16777216 % 256) (n / 65536 % 256) (n / 256 % 256) (n % 256) ≡ n
high_first n h = omega arith

pub password_back : (hash : HashedPassword) → is_hash hash ≡ true → password_in (password_body hash) ≡ Some hash
unfolding password_in
password_back hash h =
    let parts = four (nat_le 1 (length hash.salt)) (nat_le (length hash.salt) 64) (is_iterations hash.iterations) (length hash.digest == 32) h in
    let short = at_most (length hash.salt) 64 parts.1 in
    let times = at_most hash.iterations 2000000 (and_parts (nat_le 1 hash.iterations) (nat_le hash.iterations 2000000) parts.2).1 in
    let count : length hash.salt % 256 ≡ length hash.salt = omega arith in
    rw (count, take-append_seam hash.salt hash.digest, drop-append_seam hash.salt hash.digest, high_first hash.iterations times, h) refl

digest_size : (digest : List ℕ) → is_digest digest ≡ true → length digest ≡ 32
digest_size digest h = grind (arith, nat_tests)

pub recovery_size : (digests : List (List ℕ)) → list_all is_digest digests ≡ true → length (recovery_body digests) ≡ 32 * length digests
recovery_size [] h = refl
recovery_size (digest ∷ digests) h =
    let parts = and_parts (is_digest digest) (list_all is_digest digests) h in
    let own = digest_size digest parts.0 in
    let later = recovery_size digests parts.1 in
    simp length-append (omega arith)

three : (a b c : Bool) → (a && b && c) ≡ true → (a ≡ true) × (b ≡ true) × (c ≡ true)
three true true c h = (refl, refl, h)
three true false c h = absurd (false≢true h)
three false b c h = absurd (false≢true h)

pub recovery_ranges : (digests : List (List ℕ)) → are_recovery_digests digests ≡ true → (length (recovery_body digests) ≡ 32 * length digests) × (1 ≤ length digests) × (length digests ≤ 16)
recovery_ranges digests h =
    let parts = three (nat_le 1 (length digests)) (nat_le (length digests) 16) (list_all is_digest digests) h in
    (recovery_size digests parts.2, at_most 1 (length digests) parts.0, at_most (length digests) 16 parts.1)

pub counted : (digests : List (List ℕ)) → are_recovery_digests digests ≡ true → digest_count (recovery_body digests) ≡ length digests
counted digests h = let ranges = recovery_ranges digests h in let size = ranges.0 in omega arith

pub are_kept : (digests : List (List ℕ)) → are_recovery_digests digests ≡ true → are_digests (recovery_body digests) ≡ true
are_kept digests h =
    let ranges = recovery_ranges digests h in
    let size = ranges.0 in
    let least = ranges.1 in
    let most = ranges.2 in
    grind (arith, nat_tests)
