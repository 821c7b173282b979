use Rattle.std.proofs.Common.{◌≡◌, None, Some, subst}
use Rattle.pg_rows.specs.Stores.{newest_number, version_of}
use Rattle.pg_table.proofs.Holding.{newest_drawn, other_writer, own_none, own_writer}
use Rattle.pg_table.proofs.table.Table.is_own.Goals as goal

pub version-version-requires-clause-first : goal.version-version-requires-clause-first
version-version-requires-clause-first c = (newest_drawn c.self.inside.rows.versions c.args.row c.in-Some.number c.in-Some.ensures).0

pub version-version-requires-clause-drawn : goal.version-version-requires-clause-drawn
version-version-requires-clause-drawn c = (newest_drawn c.self.inside.rows.versions c.args.row c.in-Some.number c.in-Some.ensures).1

pub returns-in-None : goal.returns-in-None
returns-in-None c =
    own_none c.args.self.now c.args.me.now c.args.row c.requires.first c.requires.drawn
    (subst (λ state. None ≡ newest_number state.store.versions c.args.row) c.self.view_is c.in-None.ensures)

pub returns-then-version-me : goal.returns-then-version-me
returns-then-version-me c =
    own_writer c.args.self.now c.args.me.now c.args.row c.in-Some.number c.version-version.result.now c.requires.first c.requires.drawn
    (subst (λ state. Some c.in-Some.number ≡ newest_number state.store.versions c.args.row) c.self.view_is c.in-Some.ensures)
    (subst (λ state. version_of state.store.versions c.in-Some.number ≡ Some c.version-version.result.now) c.self.view_is c.version-version.ensures)
    c.if-version-me.true

pub returns-else-version-me : goal.returns-else-version-me
returns-else-version-me c =
    other_writer c.args.self.now c.args.me.now c.args.row c.in-Some.number c.version-version.result.now c.requires.first c.requires.drawn
    (subst (λ state. Some c.in-Some.number ≡ newest_number state.store.versions c.args.row) c.self.view_is c.in-Some.ensures)
    (subst (λ state. version_of state.store.versions c.in-Some.number ≡ Some c.version-version.result.now) c.self.view_is c.version-version.ensures)
    c.if-version-me.false
