-- Forms that many rules have.
use Rattle.std.specs.Prelude.{List, [], ◌∷◌, ◌++◌, Option, Some, None}
use Rattle.pg_grammar.specs.Languages.{Lang, gives, token, bind, either, more}
use Rattle.pg_lexer.specs.declared.keyword.Keyword.{Keyword}
use Rattle.pg_lexer.specs.declared.sign.Sign.{Sign}
use Rattle.pg_lexer.specs.declared.sign.Sign.TheVariants as s
use Rattle.pg_lexer.specs.declared.token.Token.{Token}
use Rattle.pg_lexer.specs.declared.token.Token.TheVariants as token_of

-- a reserved word, and then L
abbrev pub word : {V : Type 0} → Keyword → Lang Token V → Lang Token V
word w L = token (token_of.Keyword w) L

-- a sign, and then L
abbrev pub sign : {V : Type 0} → Sign → Lang Token V → Lang Token V
sign c L = token (token_of.Sign c) L

-- [L], where x stands for what is left out
abbrev pub or_else : {V : Type 0} → V → Lang Token V → Lang Token V
or_else x L = either L (gives x)

-- [L]
abbrev pub optional : {V : Type 0} → Lang Token V → Lang Token (Option V)
optional L = or_else None (bind L (λ v. gives (Some v)))

-- a comma, and one more L
unfoldable pub next_of : {V : Type 0} → Lang Token V → List V → Lang Token (List V)
next_of L list = sign s.Comma (bind L (λ v. gives (list ++ v ∷ [])))

-- L {"," L}
unfoldable pub list_of : {V : Type 0} → Lang Token V → Lang Token (List V)
list_of L = bind L (λ v. more (next_of L) (v ∷ []))

-- "(" L ")"
unfoldable pub in_brackets : {V : Type 0} → Lang Token V → Lang Token V
in_brackets L = sign s.Open (bind L (λ v. sign s.Close (gives v)))
