use Rattle.std.proofs.Common.{◌≡◌, true, sym, ap, ◌∙◌, rules}
use Rattle.std.specs.Result.{result_ok}
use Rattle.std.proofs.lemmas.Bool.{false≢true}
use Rattle.std.proofs.lemmas.Fmt.{parse-decimal}
use Rattle.decimal_text.specs.Numbers.{starts_number}
use Rattle.decimal_text.proofs.NumberLemmas.{starts-decimal, parsed_text, not_utf8}
use Rattle.decimal_text.proofs.decimal_value.Goals as goal

pub returns-then-not-starts_number-clause-only : goal.returns-then-not-starts_number-clause-only
returns-then-not-starts_number-clause-only c = λ n lt e. absurd (false≢true (sym (search rules) ∙ ap starts_number e ∙ starts-decimal n lt))

pub returns-in-Ok-clause-value : goal.returns-in-Ok-clause-value
returns-in-Ok-clause-value c =
    let same : c.in-Ok.text.now ≡ c.args.text.now = search rules in
    let starts : starts_number c.in-Ok.text.now ≡ true = ap starts_number same ∙ search rules in
    let parsed = parsed_text c.in-Ok.text.now c.parse.result starts c.parse.ensures.value.0 in
    rw (c.ok.ensures.value, ← same) parsed

pub returns-in-Ok-clause-only : goal.returns-in-Ok-clause-only
returns-in-Ok-clause-only c = λ n lt e. c.ok.ensures.value ∙ ap result_ok (parse-decimal 64 n c.in-Ok.text.now _ lt lt (search rules) c.parse.ensures.value.0)

pub returns-in-Err-clause-only : goal.returns-in-Err-clause-only
returns-in-Err-clause-only c = λ n lt e. absurd (not_utf8 n c.args.text.now lt e (search rules))
