-- What is proved of the grammar alone.
use Rattle.std.specs.Prelude.{◌≡◌, ◌≤◌, ℕ, ℤ, pos, negsuc, Bool, true, false, ◌&&◌, nat_le, List, [], Option, Some, None, is_none}
use Rattle.std.specs.List.{list_all}
use Rattle.pg_grammar.specs.Limits.{Limit}
use Rattle.pg_lexer.specs.Bytes.{is_name, is_text}
use Rattle.pg_lexer.specs.Keywords.{keyword_of, may_be_name}
use Rattle.pg_lexer.specs.declared.keyword.Keyword.{Keyword}
use Rattle.pg_lexer.specs.declared.token.Token.{Token}
use Rattle.pg_lexer.specs.declared.token.Token.TheVariants as token
use Rattle.pg_values.specs.declared.value.Value.{Value}
use Rattle.pg_values.specs.declared.value.Value.TheVariants as value
use Rattle.pg_parse_expr.specs.Grammar.{expr}
use Rattle.pg_parse_expr.specs.Tree.{Tree, height, literal, column, column_of, action, unary, binary}

-- a list of tokens has at most one tree, also where the last tokens need not keep a limit
abbrev pub AtMostOneTree : Type 0
AtMostOneTree = (m n : Limit → ℕ) (tokens : List Token) (a b : Tree) → expr m tokens a [] → expr n tokens b [] → a ≡ b

-- a number without a sign
abbrev pub lies : ℕ → ℕ → ℤ → Bool
lies least greatest (pos n) = nat_le least n && nat_le n greatest
lies least greatest (negsuc n) = false

-- a value that a literal may have: a number is an integer where 32 bits hold it, and else a bigint
abbrev pub is_literal : Value → Bool
is_literal value.Null = true
is_literal (value.Bool truth) = true
is_literal (value.Int n) = lies 0 2147483647 n
is_literal (value.Big n) = lies 2147483648 9223372036854775807 n
is_literal (value.Text text) = is_text text

abbrev pub is_free : Option Keyword → Bool
is_free None = true
is_free (Some reserved) = may_be_name reserved

-- a name that a column or a source may have
abbrev pub is_free_name : List ℕ → Bool
is_free_name name = is_name name && is_free (keyword_of name)

-- every literal and every name of the tree can be written
abbrev pub is_written : Tree → Bool
is_written (literal value) = is_literal value
is_written (column name) = is_free_name name
is_written (column_of source name) = is_free_name source && is_free_name name
is_written action = true
is_written (unary op a) = is_written a
is_written (binary op a b) = is_written a && is_written b

-- a token that a line may have
abbrev pub is_token : Token → Bool
is_token (token.Integer n) = nat_le n 9223372036854775807
is_token (token.Quoted text) = is_text text
is_token (token.Name name) = is_name name && is_none (keyword_of name)
is_token (token.Keyword reserved) = true
is_token (token.Sign s) = true

-- every tree within the limits has a spelling
abbrev pub EachTreeIsSpelled : Type 0
EachTreeIsSpelled =
    (tree : Tree) → is_written tree ≡ true → height tree ≤ 64 →
    (tokens : List Token) × (list_all is_token tokens ≡ true) × expr (λ k. 0) tokens tree []

-- and what is read is a tree within the limits
abbrev pub EachTreeIsWithin : Type 0
EachTreeIsWithin =
    (tokens : List Token) (tree : Tree) → list_all is_token tokens ≡ true → expr (λ k. 0) tokens tree [] →
    (is_written tree ≡ true) × (height tree ≤ 64)
