use Rattle.std.proofs.Common.{◌≡◌, ◌%◌, ◌<◌, ◌∙◌, get_or, ap, length, arith}
use Rattle.std.proofs.lemmas.List.{get_or_default}
use Rattle.std.proofs.lemmas.List.Edits.{map_over_more}
use Rattle.std.proofs.Math.ListN.{set}
use Rattle.one_time.specs.Base32.{letter_of}
use Rattle.one_time.proofs.base32.lettered.Goals as goal

pub digits-preserved : goal.digits-preserved
digits-preserved c =
    let i = c.digits.digit-index in
    let digits = c.digits.digit-items in
    let digit = get_or digits i 0 in
    let all : length c.deref_mut-digit-items.result.now ≡ length c.args.digits.items = ap length c.deref_mut-digit-items.ensures.value in
    let within : i < length digits = omega (arith, c.digits.auto.digit-items, c.digits-test.true) in
    ap (set digits i) c.letter_of.ensures.value
    ∙ map_over_more (λ d. letter_of (d % 32)) c.args.digits.items digits i digit (omega (arith, all, c.digits-test.true))
    c.digits.invariant (get_or_default digits i 0 digit within)
