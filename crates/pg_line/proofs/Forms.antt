-- What lines say that name a session.
use Rattle.std.proofs.Common.{◌≡◌, ℕ, true, false, List, [], ◌∷◌, Some, Result, refl}
use Rattle.std.specs.Prelude.{codes}
use Rattle.pg_parse_stmt.specs.declared.tree.StmtTree.{StmtTree}
use Rattle.pg_line.specs.declared.form.LineForm.TheVariants as form
use Rattle.pg_line.specs.declared.form.PlaceFault.{PlaceFault}
use Rattle.pg_line.specs.declared.form.SessionName.{SessionName}
use Rattle.pg_line.specs.Words.{Word, is_the}
use Rattle.pg_line.specs.Sessions.{session_named}
use Rattle.pg_line.specs.Statements.{IsStatementAt}
use Rattle.pg_line.specs.Forms.{command, statement, IsFormBy}

pub given_says : (version : ℕ) (line : List ℕ) (word : Word) (from : ℕ) (session : SessionName)
    (outcome : Result StmtTree PlaceFault) →
    is_the (codes "setup") word ≡ false → session_named word ≡ Some session →
    IsStatementAt version line from outcome →
    IsFormBy version line (statement word from) (form.Given session outcome)
given_says version line word from session outcome e named is = rw (e, named) (outcome, is, refl)

pub go_says : (version : ℕ) (line : List ℕ) (verb word : Word) (session : SessionName) →
    is_the (codes "go") verb ≡ true → session_named word ≡ Some session →
    IsFormBy version line (command (verb ∷ word ∷ [])) (form.Go session)
go_says version line verb word session e named = rw (e, named) refl

pub cut_says : (version : ℕ) (line : List ℕ) (verb word : Word) (session : SessionName) →
    is_the (codes "go") verb ≡ false → is_the (codes "cut") verb ≡ true → session_named word ≡ Some session →
    IsFormBy version line (command (verb ∷ word ∷ [])) (form.Cut session)
cut_says version line verb word session e h named = rw (e, h, named) refl
