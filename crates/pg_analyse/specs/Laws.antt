-- What holds of what is declared, and of a statement that has no error.
use Rattle.std.specs.Prelude.{◌≡◌, true, List, [], ◌∷◌, ◌++◌, Ok}
use Rattle.pg_parse_stmt.specs.Laws.{is_statement}
use Rattle.pg_parse_stmt.specs.declared.tree.StmtTree.{StmtTree}
use Rattle.pg_model.specs.declared.catalogue.TableShape.{TableShape}
use Rattle.pg_model.specs.declared.statement.Statement.{Statement}
use Rattle.pg_model.specs.Statements.{IsStatement, is_catalogue}
use Rattle.pg_analyse.specs.Analysis.{analysis, declaration}

-- a table that is declared by a statement of the language fits behind those of its catalogue
abbrev pub DeclarationsFit : Type 0
DeclarationsFit = (catalogue : List TableShape) (tree : StmtTree) (shape : TableShape) →
    declaration catalogue tree ≡ Ok shape → is_catalogue catalogue ≡ true → is_statement tree ≡ true →
    is_catalogue (catalogue ++ shape ∷ []) ≡ true

-- a statement of the language without errors fits the catalogue
abbrev pub StatementsFit : Type 0
StatementsFit = (catalogue : List TableShape) (tree : StmtTree) (given : Statement) →
    analysis catalogue tree ≡ Ok given → is_statement tree ≡ true → IsStatement catalogue given
