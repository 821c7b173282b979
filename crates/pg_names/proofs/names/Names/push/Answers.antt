use Rattle.std.specs.Str.{bytes_eq}
use Rattle.pg_names.proofs.Mapped.{inserted_map}
use Rattle.pg_names.proofs.Distinct.{names_more}
use Rattle.pg_names.proofs.names.Names.push.Goals as goal

pub returns-clause-ok : goal.returns-clause-ok
returns-clause-ok c =
    inserted_map (λ bytes. bytes.items) bytes_eq c.self.inside.names.keys c.insert.new.self.keys c.into_bytes.result
    c.args.self.now c.args.name c.in_ok-insert.ensures.keys c.self.view_is c.into_bytes.ensures.bytes c.requires

pub invariant_of-self-2 : goal.invariant_of-self-2
invariant_of-self-2 c =
    rw (inserted_map (λ bytes. bytes.items) bytes_eq c.self.inside.names.keys c.insert.new.self.keys c.into_bytes.result
    c.args.self.now c.args.name c.in_ok-insert.ensures.keys c.self.view_is c.into_bytes.ensures.bytes c.requires)
    (names_more c.args.self.now c.args.name (rw (← c.self.view_is) c.self.invariant) c.into_bytes.ensures.name c.requires)
