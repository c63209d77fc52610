use Rattle.std.proofs.Common.{◌∙◌, arith}
use Rattle.login_desk.proofs.PlayLemmas.{starts, few_serials, starved, answered, stopped, overlong, cut, goes_on, last_turn}
use Rattle.login_desk.proofs.play.play_lines.Goals as goal

pub loop-init : goal.loop-init
loop-init g c = record {
  going = starts _ c.args.intake.now c.args.player.now c.requires.pending c.requires.taken c.requires.journal c.requires.begun;
  count = omega arith;
  limit = omega (arith, c.requires.taken);
}

pub answer_line-requires : goal.answer_line-requires
answer_line-requires g c = record { serials = few_serials _ _ _ _ _ c.loop.invariant.going c.requires.serials c.loop.invariant.limit }

pub answer_line-requires-in-Last : goal.answer_line-requires-in-Last
answer_line-requires-in-Last g c = record { serials = few_serials _ _ _ _ _ c.loop.invariant.going c.requires.serials c.loop.invariant.limit }

pub returns-in-Failed-answer_line-clause-play : goal.returns-in-Failed-answer_line-clause-play
returns-in-Failed-answer_line-clause-play g c =
    let turn = c.in-Failed-answer_line.ensures in
    cut _ _ _ _ _ c.loop.invariant.going c.in-Line.line.items c.next_line.new.self _ c.in-Line.ensures.unwritten.written turn.unread c.next_line.new.intake c.in-Line.ensures.line (rw c.as_slice.ensures.value at turn.turn)

pub returns-in-Memory-answer_line-clause-play : goal.returns-in-Memory-answer_line-clause-play
returns-in-Memory-answer_line-clause-play g c =
    starved _ _ _ _ _ c.loop.invariant.going _ (c.in-Memory-answer_line.ensures.turn ∙ c.in-Line.ensures.unwritten.written)

pub returns-in-Last-clause-play : goal.returns-in-Last-clause-play
returns-in-Last-clause-play g c =
    let turn = c.answer_line-in-Last.ensures in
    rw c.end_of.ensures (last_turn _ _ _ _ _ c.loop.invariant.going c.in-Last.line.items c.next_line.new.self _ c.in-Last.ensures.unwritten.written turn.unread c.in-Last.ensures.line c.answer_line-in-Last.new.player _ (rw c.as_slice-in-Last.ensures.value at turn.turn))

pub returns-in-End-clause-play : goal.returns-in-End-clause-play
returns-in-End-clause-play g c = answered _ _ _ _ _ c.loop.invariant.going _ c.in-End.ensures.unwritten.written c.in-End.ensures.line

pub returns-in-Failed-clause-play : goal.returns-in-Failed-clause-play
returns-in-Failed-clause-play g c = stopped _ _ _ _ _ c.loop.invariant.going _ c.in-Failed.ensures.unwritten.written c.in-Failed.ensures.line

pub returns-in-Full-clause-play : goal.returns-in-Full-clause-play
returns-in-Full-clause-play g c = overlong _ _ _ _ _ c.loop.invariant.going _ c.in-Full.ensures.unwritten.written c.in-Full.ensures.line

pub returns-in-Memory-clause-play : goal.returns-in-Memory-clause-play
returns-in-Memory-clause-play g c = starved _ _ _ _ _ c.loop.invariant.going _ c.in-Memory.ensures.unwritten.written

pub loop-preserved : goal.loop-preserved
loop-preserved g c =
    let took = c.in-Line.ensures in
    let turn = c.in-Told.ensures in
    record {
      going =
          goes_on _ _ _ _ _ c.loop.invariant.going c.in-Line.line.items c.next_line.new.self _ took.unwritten.written turn.unread c.next_line.new.intake took.line c.answer_line.new.player (rw c.as_slice.ensures.value at turn.turn.0)
          (rw c.as_slice.ensures.value at turn.turn.1) took.faults (omega (arith, took.unwritten.faults, turn.faults)) took.ends took.realm;
      count = omega (arith, took.line.count, c.loop.invariant.count);
      limit = took.limit;
    }
