-- Columns and parts of keys
use Rattle.std.proofs.Common.{◌≡◌, ◌∷◌, ℕ, false, List, [], Some, None, refl, sym, ap, ◌∙◌}
use Rattle.pg_parse_stmt.proofs.Common.{Fault, gives, one, bind, next, Misses, Seen, read, failed, Reads, Bars, Spelled, bars_token, bars_one, bars_bind, reads_gives, leads_right, Token, expr, name_of, Tree, any, is_open, list_of, in_brackets, spelled_or_else, behind_columns, name, names, columns, element}
use Rattle.pg_parse_stmt.proofs.Forms.{made_read, made_failed, next_is, there, left_side, right_side, before_any}
use Rattle.pg_lexer.specs.declared.sign.Sign.TheVariants as s
use Rattle.pg_lexer.specs.declared.token.Token.TheVariants as t
use Rattle.pg_parse_stmt.specs.declared.tree.Element.TheVariants as element_of
use Rattle.pg_parse_stmt.proofs.Lists.{starts_any}

open_goes_on : behind_columns (Some (t.Sign s.Open)) ≡ false
unfolding behind_columns is_open
open_goes_on = refl

pub columns_read : (xs ys : List Token) (o : Seen Token (List (List ℕ))) → xs ≡ t.Sign s.Open ∷ ys →
    Reads (in_brackets (list_of name)) any xs o →
    Reads columns behind_columns xs o
unfolding columns names
columns_read xs ys o e r =
    there (next_is behind_columns e open_goes_on) (before_any r)

pub columns_none : (xs : List Token) (v : List (List ℕ)) → v ≡ [] → Misses (t.Sign s.Open) xs →
    Reads columns behind_columns xs (read v xs)
unfolding columns names in_brackets
columns_none xs v e miss =
    (leads_right (in_brackets (list_of name)) (gives []) behind_columns xs
    (bars_token behind_columns (t.Sign s.Open) _ 0 xs (λ n. miss.misses n))).to (read v xs)
    (reads_gives [] v behind_columns xs e)

pub open_is_no_name : (u : Token) (y : List ℕ) → u ≡ t.Sign s.Open → name_of u ≡ Some y → ⊥
unfolding name_of
open_is_no_name u y e h = let o : None ≡ Some y = sym (ap name_of e) ∙ h in cc o

bars_brackets : (xs : List Token) → Misses (t.Sign s.Open) xs → Bars (bind (in_brackets expr) (λ v. gives (element_of.Expr v))) any 1 xs
unfolding in_brackets
bars_brackets xs miss =
    bars_bind any any (in_brackets expr) _ 1 xs (bars_token any (t.Sign s.Open) _ 0 xs (λ n. miss.misses n))
    (λ u. starts_any (gives (element_of.Expr u)) any)

bars_name : (xs ys : List Token) → xs ≡ t.Sign s.Open ∷ ys → Bars (bind name (λ v. gives (element_of.Column v))) any 1 xs
unfolding name
bars_name xs ys e =
    bars_bind any any (one name_of) _ 1 xs (bars_one any name_of 0 xs
    (λ u y n h. open_is_no_name u y (cc (ap next e, n)) h)) (λ u. starts_any (gives (element_of.Column u)) any)

pub element_name : (xs ys : List Token) (v : List ℕ) → Misses (t.Sign s.Open) xs → Reads name any xs (read v ys) →
    Reads element any xs (read (element_of.Column v) ys)
unfolding element
element_name xs ys v miss r = left_side (bars_brackets xs miss) (made_read r)

pub element_no_name : (xs : List Token) (f : Fault) → Misses (t.Sign s.Open) xs → Reads name any xs (failed f) →
    Reads element any xs (failed f)
unfolding element
element_no_name xs f miss r = left_side (bars_brackets xs miss) (made_failed r)

pub element_expr : (xs ys zs : List Token) (v : Tree) → xs ≡ t.Sign s.Open ∷ ys →
    Reads (in_brackets expr) any xs (read v zs) → Reads element any xs (read (element_of.Expr v) zs)
unfolding element
element_expr xs ys zs v e r = right_side (bars_name xs ys e) (made_read r)

pub element_no_expr : (xs ys : List Token) (f : Fault) → xs ≡ t.Sign s.Open ∷ ys →
    Reads (in_brackets expr) any xs (failed f) → Reads element any xs (failed f)
unfolding element
element_no_expr xs ys f e r = right_side (bars_name xs ys e) (made_failed r)

pub spelled_columns : Spelled columns
unfolding columns
spelled_columns = spelled_or_else [] (in_brackets names)
