-- What a parse function answers, as its contract sees it.
use Rattle.std.specs.Prelude.{Result, Ok, Err}
use Rattle.pg_grammar.specs.declared.fault.Fault.{Fault}
use Rattle.pg_grammar.specs.declared.part.Part.{Part}
use Rattle.pg_grammar.specs.Answers.{Seen, read, failed}

-- a part with the tokens behind it, or the fault
abbrev pub seen : {T V : Type 0} → Result (Part T V) Fault → Seen T V
seen (Ok p) = read p.value p.rest.now
seen (Err e) = failed e
