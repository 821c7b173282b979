use Rattle.pg_insert.proofs.insert.Insert.reply.Goals as goal

pub returns : goal.returns
returns c = rw (← c.self.view_is) c.insert_reply.ensures
