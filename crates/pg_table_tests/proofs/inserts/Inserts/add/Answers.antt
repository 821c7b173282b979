use Rattle.pg_table.specs.States.{row_added_in}
use Rattle.pg_table_tests.proofs.Kept.{single_added}
use Rattle.pg_table_tests.proofs.EachTable.{single_either}
use Rattle.pg_table_tests.proofs.inserts.Inserts.add.Goals as goal

pub invariant_of-self : goal.invariant_of-self
invariant_of-self c =
    let old = c.args.self.now.table in
    record {
      single = single_either c.add.result old (row_added_in old c.args.me c.args.values) c.add.new.self c.add.ensures.ok c.add.ensures.err
          c.args.self.now.single (single_added old c.args.me c.args.values c.add.ensures.kept c.args.self.now.single);
    }
