-- What stands on a line from a place on, read as a statement: its tree, or the first place fault.
use Rattle.std.specs.Prelude.{◌≡◌, ◌⊎◌, ℕ, ◌+◌, if◌then◌else◌, nat_le, List, length, Option, None, Some, Result, Ok, Err}
use Rattle.pg_lexer.specs.Reading.{IsReadFrom}
use Rattle.pg_lexer.specs.declared.token.BadPlace.{BadPlace}
use Rattle.pg_lexer.specs.declared.token.BadPlace.TheVariants as bad
use Rattle.pg_lexer.specs.declared.token.Spanned.{Spanned}
use Rattle.pg_parse_expr.specs.declared.whole.ParseFault.{ParseFault}
use Rattle.pg_parse_expr.specs.declared.whole.ParseFault.TheVariants as parse
use Rattle.pg_parse_stmt.specs.Places.{IsParsed}
use Rattle.pg_parse_stmt.specs.declared.tree.StmtTree.{StmtTree}
use Rattle.pg_line.specs.declared.form.PlaceFault.{PlaceFault}
use Rattle.pg_line.specs.declared.form.PlaceFault.TheVariants as fault

-- the place where a fault stands
abbrev pub place_of : PlaceFault → ℕ
place_of (fault.Byte place) = place
place_of (fault.Literal place) = place
place_of (fault.LongName place) = place
place_of (fault.Syntax place) = place
place_of (fault.Depth place) = place
place_of (fault.Items place) = place

-- a fault of the tokens themselves
abbrev pub lexical : BadPlace → PlaceFault
lexical (bad.Byte place) = fault.Byte place
lexical (bad.Literal place) = fault.Literal place
lexical (bad.Name place) = fault.LongName place

-- a fault of the grammar as a fault of the line; that memory ran out is none
abbrev pub IsPlaced : ParseFault → PlaceFault → Type 0
IsPlaced (parse.Syntax place) placed = placed ≡ fault.Syntax place
IsPlaced (parse.Depth place) placed = placed ≡ fault.Depth place
IsPlaced (parse.Items place) placed = placed ≡ fault.Items place
IsPlaced parse.Memory placed = ⊥

-- the tokens before `end` have this fault of the grammar: the tokens before its place begin a statement that keeps the
-- limits, those up to it do not; what ends too early has its fault at `end`
abbrev pub IsGrammatical : ℕ → List Spanned → ℕ → PlaceFault → Type 0
IsGrammatical version tokens end placed =
    (fault : ParseFault) × IsParsed version tokens end (Err fault) × IsPlaced fault placed

-- Of a fault of the tokens and a fault of the grammar before it the one at the lower place counts, and at equal places
-- that of the tokens. Where the tokens before a fault of their own end too early, their fault of the grammar stands one
-- past the line, and so never counts: the line goes on behind these tokens.
abbrev pub first_of : PlaceFault → PlaceFault → PlaceFault
first_of of_tokens of_grammar =
    if nat_le (place_of of_tokens) (place_of of_grammar) then of_tokens else of_grammar

-- What tokens say, behind which the line ends or is bad. `end` is the place one past the line.
abbrev pub IsOutcome : ℕ → List Spanned → ℕ → Option BadPlace → Result StmtTree PlaceFault → Type 0
IsOutcome version tokens end None (Ok tree) = IsParsed version tokens end (Ok tree)
IsOutcome version tokens end None (Err fault) = IsGrammatical version tokens end fault
IsOutcome version tokens end (Some bad) (Ok tree) = ⊥
IsOutcome version tokens end (Some bad) (Err fault) =
    ((tree : StmtTree) × IsParsed version tokens end (Ok tree) × (fault ≡ lexical bad))
    ⊎ ((other : PlaceFault) × IsGrammatical version tokens end other × (fault ≡ first_of (lexical bad) other))

-- the line is, from a place on, this statement of a version of the language, or has this as its first fault; places
-- count bytes from 1
abbrev pub IsStatementAt : ℕ → List ℕ → ℕ → Result StmtTree PlaceFault → Type 0
IsStatementAt version line from outcome =
    (tokens : List Spanned) × (bad : Option BadPlace) × IsReadFrom from line tokens bad
    × IsOutcome version tokens (length line + 1) bad outcome
