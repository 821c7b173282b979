use Rattle.std.proofs.Common.{◌≡◌, None, Some, subst}
use Rattle.pg_rows.specs.Stores.{current_number, version_of}
use Rattle.pg_table.proofs.Versions.{current_found, current_gone, drawn_with_values}
use Rattle.pg_table.proofs.table.Table.current_version.Goals as goal

pub version-requires-clause-drawn : goal.version-requires-clause-drawn
version-requires-clause-drawn c = (drawn_with_values c.self.inside.rows.versions c.in-Some.number c.in-Some.ensures.there).1

pub returns-in-Some : goal.returns-in-Some
returns-in-Some c =
    current_found c.args.self.now c.args.xacts.now c.args.me.now.xact c.args.row c.requires.first c.requires.drawn c.in-Some.number c.version.result.now
    (subst (λ state. Some c.in-Some.number ≡ current_number c.args.xacts.now c.args.me.now.xact state.store.versions c.args.row) c.self.view_is c.in-Some.ensures.number)
    (subst (λ state. version_of state.store.versions c.in-Some.number ≡ Some c.version.result.now) c.self.view_is c.version.ensures)

pub returns-in-None : goal.returns-in-None
returns-in-None c =
    current_gone c.args.self.now c.args.xacts.now c.args.me.now.xact c.args.row c.requires.first c.requires.drawn
    (subst (λ state. None ≡ current_number c.args.xacts.now c.args.me.now.xact state.store.versions c.args.row) c.self.view_is c.in-None.ensures.number)
