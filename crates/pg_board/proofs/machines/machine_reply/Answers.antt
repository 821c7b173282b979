use Rattle.pg_board.proofs.machines.machine_reply.Goals as goal

pub returns-in_ok-reply-in-Insert-Insert : goal.returns-in_ok-reply-in-Insert-Insert
returns-in_ok-reply-in-Insert-Insert c =
    rw (c.in-Insert-Insert.is-0, c.in-Insert-Insert.is-1)
    (c.in_ok-reply-in-Insert-Insert.ensures c.in-Insert-Insert.field-0-1)

pub returns-in_ok-reply-in-Select-Select : goal.returns-in_ok-reply-in-Select-Select
returns-in_ok-reply-in-Select-Select c =
    rw (c.in-Select-Select.is-0, c.in-Select-Select.is-1)
    (c.in_ok-reply-in-Select-Select.ensures c.in-Select-Select.field-0-1)

pub returns-in_ok-reply-in-Change-Change : goal.returns-in_ok-reply-in-Change-Change
returns-in_ok-reply-in-Change-Change c =
    rw (c.in-Change-Change.is-0, c.in-Change-Change.is-1)
    c.in_ok-reply-in-Change-Change.ensures
