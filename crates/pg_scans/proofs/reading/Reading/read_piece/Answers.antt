use Rattle.pg_scans.proofs.Pieces.{read_on, read_over, read_through}
use Rattle.pg_scans.proofs.reading.Reading.read_piece.Goals as goal

pub returns-in_default-clause-ok : goal.returns-in_default-clause-ok
returns-in_default-clause-ok c =
    (read_over c.args.tables.now c.args.xacts.now c.args.self.now c.finish_table-in_default.new.self c.present_table.result c.new.result c.present_table.ensures
    c.in_default.ensures c.requires.reading c.new.ensures c.in_ok-finish_table.ensures.ok).0

pub returns-in_default-clause-less : goal.returns-in_default-clause-less
returns-in_default-clause-less c =
    (read_over c.args.tables.now c.args.xacts.now c.args.self.now c.finish_table-in_default.new.self c.present_table.result c.new.result c.present_table.ensures
    c.in_default.ensures c.requires.reading c.new.ensures c.in_ok-finish_table.ensures.ok).1

pub returns-in_ok-go_on-in-Some-next-clause-ok : goal.returns-in_ok-go_on-in-Some-next-clause-ok
returns-in_ok-go_on-in-Some-next-clause-ok c =
    (read_on c.args.tables.now c.args.xacts.now c.args.self.now c.go_on.new.self c.present_table.result c.in-Some.table.now c.in_ok-scan.scan.seen
    c.in_ok-scan.scan.next c.in-Some-next.next c.present_table.ensures c.in-Some.ensures c.requires.reading c.in_ok-scan.ensures.seen
    c.in_ok-scan.ensures.next c.in-Some-next.is c.in_ok-go_on-in-Some-next.ensures.ok).0

pub returns-in_ok-go_on-in-Some-next-clause-less : goal.returns-in_ok-go_on-in-Some-next-clause-less
returns-in_ok-go_on-in-Some-next-clause-less c =
    (read_on c.args.tables.now c.args.xacts.now c.args.self.now c.go_on.new.self c.present_table.result c.in-Some.table.now c.in_ok-scan.scan.seen
    c.in_ok-scan.scan.next c.in-Some-next.next c.present_table.ensures c.in-Some.ensures c.requires.reading c.in_ok-scan.ensures.seen
    c.in_ok-scan.ensures.next c.in-Some-next.is c.in_ok-go_on-in-Some-next.ensures.ok).1

pub returns-in_ok-finish_table-in-None-clause-ok : goal.returns-in_ok-finish_table-in-None-clause-ok
returns-in_ok-finish_table-in-None-clause-ok c =
    (read_through c.args.tables.now c.args.xacts.now c.args.self.now c.finish_table-in-None.new.self c.present_table.result c.in-Some.table.now
    c.in_ok-scan.scan.seen c.in_ok-scan.scan.next c.present_table.ensures c.in-Some.ensures c.requires.reading c.in_ok-scan.ensures.kept
    c.in_ok-scan.ensures.seen c.in_ok-scan.ensures.next c.in-None.is c.in_ok-finish_table-in-None.ensures.ok).0

pub returns-in_ok-finish_table-in-None-clause-less : goal.returns-in_ok-finish_table-in-None-clause-less
returns-in_ok-finish_table-in-None-clause-less c =
    (read_through c.args.tables.now c.args.xacts.now c.args.self.now c.finish_table-in-None.new.self c.present_table.result c.in-Some.table.now
    c.in_ok-scan.scan.seen c.in_ok-scan.scan.next c.present_table.ensures c.in-Some.ensures c.requires.reading c.in_ok-scan.ensures.kept
    c.in_ok-scan.ensures.seen c.in_ok-scan.ensures.next c.in-None.is c.in_ok-finish_table-in-None.ensures.ok).1
