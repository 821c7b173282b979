use Rattle.pg_select.proofs.select.Select.reply.Goals as goal

pub returns : goal.returns
returns c = rw (← c.self.view_is) c.select_reply.ensures
