use Rattle.pg_table.specs.States.{row_placed_in}
use Rattle.pg_table_tests.proofs.Kept.{single_placed}
use Rattle.pg_table_tests.proofs.EachTable.{single_either}
use Rattle.pg_table_tests.proofs.inserts.Inserts.place.Goals as goal

pub invariant_of-self : goal.invariant_of-self
invariant_of-self c =
    let old = c.args.self.now.table in
    record {
      single = single_either c.place.result old (row_placed_in old c.args.me c.args.values) c.place.new.self c.place.ensures.ok c.place.ensures.err
          c.args.self.now.single (single_placed old c.args.me c.args.values c.place.ensures.kept c.args.self.now.single);
    }
