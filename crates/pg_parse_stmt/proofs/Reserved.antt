-- Reserved words as names.
use Rattle.std.proofs.Common.{◌≡◌, ◌∷◌, ℕ, true, false, List, Some, refl, subst, inl, inr}
use Rattle.pg_parse_stmt.proofs.Common.{Limit, Keyword, Token, may_be_name, spelling, name_of, name, alias, bare_name_of}
use Rattle.pg_lexer.specs.declared.keyword.Keyword.TheVariants as k
use Rattle.pg_lexer.specs.declared.token.Token.TheVariants as token_of

no_name : (reserved : Keyword) (v : List ℕ) → may_be_name reserved ≡ false →
    name_of (token_of.Keyword reserved) ≡ Some v → ⊥
unfolding name_of
no_name reserved v h e = let o = rw h at e in cc o

no_bare_name : (reserved : Keyword) (v : List ℕ) → bare_name_of (token_of.Keyword reserved) ≡ Some v → ⊥
unfolding bare_name_of
no_bare_name reserved v e = cc e

pub reserved_words_are_no_names : (reserved : Keyword) (m : Limit → ℕ) (tokens behind : List Token) (v : List ℕ) →
    may_be_name reserved ≡ false → name m (token_of.Keyword reserved ∷ tokens) v behind → ⊥
unfolding name
reserved_words_are_no_names reserved m tokens behind v h l =
    let head : l.head ≡ token_of.Keyword reserved = cc l.is in
    no_name reserved v h (subst (λ q. name_of q ≡ Some v) head l.value)

pub words_that_may_be_names : (reserved : Keyword) (m : Limit → ℕ) (tokens : List Token) → may_be_name reserved ≡ true →
    name m (token_of.Keyword reserved ∷ tokens) (spelling reserved) tokens
unfolding name name_of
words_that_may_be_names reserved m tokens h = record { head = token_of.Keyword reserved; is = refl; value = rw h refl }

pub no_word_is_an_alias_without_as : (reserved : Keyword) (m : Limit → ℕ) (tokens behind : List Token) (v : List ℕ) →
    alias m (token_of.Keyword reserved ∷ tokens) v behind → reserved ≡ k.As
unfolding alias
no_word_is_an_alias_without_as reserved m tokens behind v l =
    elim l [
      | inl x ↦ cc x.1
      | inr x ↦
          let head : x.head ≡ token_of.Keyword reserved = cc x.is in
          absurd (no_bare_name reserved v (subst (λ q. bare_name_of q ≡ Some v) head x.value))
    ]
