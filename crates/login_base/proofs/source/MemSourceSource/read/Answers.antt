use Rattle.std.proofs.Common.{Some, ap, sym, ◌∙◌, ◌+◌, ◌-◌, ◌≡◌, take, drop, arith}
use Rattle.login_base.specs.InMemory.{SourceState}
use Rattle.login_base.proofs.HexText.{taken}
use Rattle.login_base.proofs.source.MemSourceSource.read.Goals as goal

pub returns-clause-bytes : goal.returns-clause-bytes
returns-clause-bytes c =
    let at = c.self.inside.at in
    let bytes = c.self.inside.bytes.items in
    let count = c.min-count.result in
    let back : at + count - at ≡ count = omega arith in
    let copied = c.copy_from_slice.ensures.after ∙ ap (λ l. take (at + count - at) (drop at l)) c.deref.ensures.value ∙ ap (λ n. take n (drop at bytes)) back in
    let t = taken at count bytes c.args.buffer.now c.copy_from_slice.new.self (omega (arith, c.min-count.ensures)) (omega (arith, c.min-count.ensures, c.self.invariant)) copied in
    (t.0, ap (λ (s : SourceState). Some s.left) (sym c.self.view_is) ∙ ap Some t.1)
