use Rattle.std.proofs.Common.{◌∙◌, ap, rules}
use Rattle.std.proofs.Math.ListN.{drop_of_length-le}
use Rattle.web_requests.specs.Cookies.{field_root}
use Rattle.web_requests.proofs.CookieLemmas.{found, goes_on, ends, itself}
use Rattle.web_requests.proofs.cookie.fields_root.Goals as goal

pub returns-then-is_some : goal.returns-then-is_some
returns-then-is_some c = record { root = found field_root (λ field. field) c.args.fields.now c.loop-field.field-index c.field-item.result c.in_ok-root.root _ c.loop-field-test.true (c.in_ok-root.ensures.root ∙ ap field_root c.field-item.is) (search rules) c.loop-field.invariant ∙ itself field_root c.args.fields.now }

pub loop-field-preserved : goal.loop-field-preserved
loop-field-preserved c = goes_on field_root (λ field. field) c.args.fields.now c.loop-field.field-index c.field-item.result c.in_ok-root.root _ c.loop-field-test.true (c.in_ok-root.ensures.root ∙ ap field_root c.field-item.is) (search rules) c.loop-field.invariant

pub returns : goal.returns
returns c = record { root = ends field_root (λ field. field) c.args.fields.now c.loop-field.field-index _ (drop_of_length-le c.args.fields.now c.loop-field-test.false) c.loop-field.invariant ∙ itself field_root c.args.fields.now }
