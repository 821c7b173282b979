use Rattle.std.proofs.Common.{arith}
use Rattle.pg_board.proofs.Taken.{taken_bound}
use Rattle.pg_board.proofs.board.Board.take_line.Goals as goal

pub enqueue-requires : goal.enqueue-requires
enqueue-requires c = λ queue there.
    omega (arith, taken_bound c.self.inside.script.now c.self.inside.taken c.session_at-number.result c.self.inside.queues queue c.self.invariant.queues there, c.self.invariant.taken, c.self.inside.script.now.valid.few_lines)
