use Rattle.pg_board.proofs.inside.finish.Goals as goal

pub session_reply-requires-clause-planned : goal.session_reply-requires-clause-planned
session_reply-requires-clause-planned c = λ machine inside.
    c.requires.planned c.session-session.result.now machine c.session-session.ensures inside
