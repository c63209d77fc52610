use Rattle.std.proofs.Common.{inl, inr, refl}
use Rattle.one_time.proofs.Spelling.{faulty, sound, sound_text}
use Rattle.one_time.proofs.base32.base32_read.Goals as goal

pub returns-in-Some-clause-err : goal.returns-in-Some-clause-err
returns-in-Some-clause-err c =
    inl (faulty c.args.text.now c.without_fill-letters.result.now c.fault_of.result c.in-Some.fault
    c.without_fill-letters.ensures.value c.fault_of.ensures.value c.in-Some.is)

pub returns-in-Ok-clause-ok : goal.returns-in-Ok-clause-ok
returns-in-Ok-clause-ok c =
    sound c.args.text.now c.without_fill-letters.result.now c.in-Ok.bytes.items c.fault_of.result
    c.without_fill-letters.ensures.value c.fault_of.ensures.value c.in-None.is c.in-Ok.ensures.ok

pub returns-in-Err-clause-err : goal.returns-in-Err-clause-err
returns-in-Err-clause-err c =
    inr (
      refl,
      sound_text c.args.text.now c.without_fill-letters.result.now c.fault_of.result
          c.without_fill-letters.ensures.value c.fault_of.ensures.value c.in-None.is,
    )
