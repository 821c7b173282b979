-- The reading of a line: its tokens in order, and what is bad about it.
use Rattle.std.specs.Prelude.{◌≡◌, ℕ, ◌+◌, ◌-◌, true, List, [], ◌∷◌, ◌++◌, length, drop, Option, None, Some, Result, Ok, Err}
use Rattle.std.specs.List.{list_all}
use Rattle.pg_lexer.specs.declared.read.LexFault.{LexFault}
use Rattle.pg_lexer.specs.declared.read.LexFault.TheVariants as fault
use Rattle.pg_lexer.specs.declared.token.BadPlace.{BadPlace}
use Rattle.pg_lexer.specs.declared.token.BadPlace.TheVariants as bad
use Rattle.pg_lexer.specs.declared.token.Spanned.{Spanned}
use Rattle.pg_lexer.specs.Bytes.{is_blank}
use Rattle.pg_lexer.specs.Lexemes.{IsCut, IsBad}

-- the line from `at` on is white space, and from `place` on it has these bytes
pub record Begins (at : ℕ) (line : List ℕ) (place : ℕ) (bytes : List ℕ) : Type 0 where
  pub blanks : List ℕ
  pub split : line ≡ blanks ++ bytes
  pub blank : list_all is_blank blanks ≡ true
  pub placed : place ≡ at + length blanks

-- behind white space comes this token, and then the bytes `after`
pub record BeginsWith (at : ℕ) (line : List ℕ) (token : Spanned) (after : List ℕ) : Type 0 where
  pub bytes : List ℕ
  pub front : List ℕ
  pub begins : Begins at line token.start bytes
  pub cut : IsCut token.start bytes front after (Ok token.token)
  pub ends : token.end ≡ token.start + length front

-- behind white space comes what is bad
pub record BeginsBad (at : ℕ) (line : List ℕ) (fault : BadPlace) : Type 0 where
  pub place : ℕ
  pub bytes : List ℕ
  pub begins : Begins at line place bytes
  pub bad : IsBad place bytes fault

-- The line, whose first byte stands at the place `at`, has these tokens, and then only white space or what is bad.
abbrev pub IsRead : ℕ → List ℕ → List Spanned → Option BadPlace → Type 0
IsRead at line [] None = list_all is_blank line ≡ true
IsRead at line [] (Some fault) = BeginsBad at line fault
IsRead at line (token ∷ tokens) fault = (after : List ℕ) × BeginsWith at line token after × IsRead token.end after tokens fault

-- the reading of a line from a place on; places count bytes from 1
abbrev pub IsReadFrom : ℕ → List ℕ → List Spanned → Option BadPlace → Type 0
IsReadFrom from line = IsRead from (drop (from - 1) line)

-- from a place on the line has some tokens, and then what is bad
abbrev pub HasFault : ℕ → List ℕ → BadPlace → Type 0
HasFault from line fault = (tokens : List Spanned) × IsReadFrom from line tokens (Some fault)

-- all tokens from a place on, or the first bad place
abbrev pub IsReadOrFault : ℕ → List ℕ → Result (List Spanned) LexFault → Type 0
IsReadOrFault from line (Ok tokens) = IsReadFrom from line tokens None
IsReadOrFault from line (Err (fault.Byte place)) = HasFault from line (bad.Byte place)
IsReadOrFault from line (Err (fault.Literal place)) = HasFault from line (bad.Literal place)
IsReadOrFault from line (Err (fault.Name place)) = HasFault from line (bad.Name place)
IsReadOrFault from line (Err fault.Memory) = Unit {0}
