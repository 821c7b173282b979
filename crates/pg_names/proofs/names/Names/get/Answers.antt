use Rattle.std.proofs.Common.{map, arith}
use Rattle.std.proofs.lemmas.Grind.{common_steps}
use Rattle.std.proofs.lemmas.Option.{slice_get-map}
use Rattle.pg_names.specs.Names.{is_name}
use Rattle.pg_names.proofs.Distinct.{all_at}
use Rattle.pg_names.proofs.names.Names.get.Goals as goal

pub returns-clause-is_name : goal.returns-clause-is_name
returns-clause-is_name c =
    all_at is_name (map (λ bytes. bytes.items) c.self.inside.names.keys) c.args.number c.as_slice.result.now
    c.self.invariant.0
    (grind (
      arith,
      common_steps,
      slice_get-map (λ bytes. bytes.items) c.self.inside.names.keys c.args.number,
      c.get_index.ensures.key,
      c.in_ok-name.ensures.key,
      c.in_ok-name.is,
      c.in_ok-name.was,
      c.in_ok-name.name-is,
      c.as_slice.ensures.value,
    ))
