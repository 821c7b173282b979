-- A list of tokens has at most one tree.
use Rattle.std.proofs.Common.{◌≡◌, ◌≤◌, ℕ, suc, Bool, true, false, not, List, [], Option, Some, None, refl, ap, ◌∙◌, subst, arith, inl, inr}
use Rattle.std.proofs.Math.Dec.{leb, eqb}
use Rattle.std.specs.Prelude.{is_some}
use Rattle.std.proofs.lemmas.Bool.{eq-eqb, eqb-true, le-leb, leb-true, cases_Bool, both_ways}
use Rattle.pg_exprs.specs.declared.operator.BinaryOp.{BinaryOp}
use Rattle.pg_exprs.specs.declared.operator.BinaryOp.TheVariants.{IsDistinctFrom, IsNotDistinctFrom}
use Rattle.pg_exprs.specs.declared.operator.UnaryOp.{UnaryOp}
use Rattle.pg_exprs.specs.declared.operator.UnaryOp.TheVariants.{IsNull, IsNotNull}
use Rattle.pg_grammar.specs.Answers.{next}
use Rattle.pg_grammar.specs.Languages.{Lang, gives, token, one, bind, either, more}
use Rattle.pg_grammar.specs.Limits.{Limit, nodes}
use Rattle.pg_grammar.proofs.Agreeing.{Agree, Apart, apart_starts, agree_less, agree_gives, agree_token, agree_one, agree_bind, agree_either, agree_reaches, agree_more, agree_knot}
use Rattle.pg_grammar.proofs.Words.{Starts, starts_gives, starts_token, starts_one, starts_bind, starts_either, starts_more, starts_reaches, starts_knot}
use Rattle.pg_lexer.specs.declared.keyword.Keyword.TheVariants as word
use Rattle.pg_lexer.specs.declared.sign.Sign.TheVariants as sign
use Rattle.pg_lexer.specs.declared.token.Token.{Token}
use Rattle.pg_lexer.specs.declared.token.Token.TheVariants.{Keyword, Sign, Name, Integer, Quoted}
use Rattle.pg_lexer.specs.Keywords.{may_be_name}
use Rattle.pg_parse_expr.specs.Behind.{has, behind_factor, behind_product, behind_sum, behind_concatenation, behind_comparison, behind_predicate, behind_conjunction, behind_expr}
use Rattle.pg_parse_expr.specs.Operators.{value_of, literal_of, name_of, action_name, or_op, and_op, compare_op, concat_op, sum_op, product_op}
use Rattle.pg_parse_expr.specs.Grammar.{Rule, operation, chain, product, sum, concatenation, compared, comparison, tested, test, predicate, negation_over, negation, conjunction, disjunction, named, called, leaf, minus, bracket, factor_over, factor, expr_at, expr}
use Rattle.pg_parse_expr.specs.Tree.{Tree, column, column_of, binary}
use Rattle.pg_parse_expr.proofs.Leaves.{name_no_literal}

-- how loosely a token binds what stands before it: 0 for what goes on with a name, the level of an operator, and 9 for
-- all that goes on with no part of an expression
rank : Option Token → ℕ
rank (Some (Sign sign.Dot)) = 0
rank (Some (Sign sign.Open)) = 0
rank (Some (Sign sign.Star)) = 1
rank (Some (Sign sign.Slash)) = 1
rank (Some (Sign sign.Percent)) = 1
rank (Some (Sign sign.Plus)) = 2
rank (Some (Sign sign.Minus)) = 2
rank (Some (Sign sign.Concat)) = 3
rank (Some (Sign sign.Equal)) = 4
rank (Some (Sign sign.NotEqual)) = 4
rank (Some (Sign sign.Less)) = 4
rank (Some (Sign sign.LessOrEqual)) = 4
rank (Some (Sign sign.Greater)) = 4
rank (Some (Sign sign.GreaterOrEqual)) = 4
rank (Some (Keyword word.Is)) = 5
rank (Some (Keyword word.And)) = 7
rank (Some (Keyword word.Or)) = 8
rank _ = 9

-- what may stand behind a part of a level, and what goes on with it
abbrev behind : ℕ → Option Token → Bool
behind level o = leb (suc level) (rank o)

abbrev at_level : ℕ → Option Token → Bool
at_level level o = eqb (rank o) level

-- each operator is of its level
abbrev Ranked : (Token → Option BinaryOp) → ℕ → Type 0
Ranked op level = (t : Token) (o : BinaryOp) → op t ≡ Some o → rank (Some t) ≡ level

ranked_product : Ranked product_op 1
unfolding product_op rank
ranked_product (Sign sign.Star) o e = refl
ranked_product (Sign sign.Slash) o e = refl
ranked_product (Sign sign.Percent) o e = refl
ranked_product _ o e = absurd (cc e)

ranked_sum : Ranked sum_op 2
unfolding sum_op rank
ranked_sum (Sign sign.Plus) o e = refl
ranked_sum (Sign sign.Minus) o e = refl
ranked_sum _ o e = absurd (cc e)

ranked_concat : Ranked concat_op 3
unfolding concat_op rank
ranked_concat (Sign sign.Concat) o e = refl
ranked_concat _ o e = absurd (cc e)

ranked_compare : Ranked compare_op 4
unfolding compare_op rank
ranked_compare (Sign sign.Equal) o e = refl
ranked_compare (Sign sign.NotEqual) o e = refl
ranked_compare (Sign sign.Less) o e = refl
ranked_compare (Sign sign.LessOrEqual) o e = refl
ranked_compare (Sign sign.Greater) o e = refl
ranked_compare (Sign sign.GreaterOrEqual) o e = refl
ranked_compare _ o e = absurd (cc e)

ranked_and : Ranked and_op 7
unfolding and_op rank
ranked_and (Keyword word.And) o e = refl
ranked_and _ o e = absurd (cc e)

ranked_or : Ranked or_op 8
unfolding or_op rank
ranked_or (Keyword word.Or) o e = refl
ranked_or _ o e = absurd (cc e)

-- what begins a factor: 1 for a minus sign, 2 for a bracket, 0 for all else, but NOT, which is 3 and begins none
mark : Option Token → ℕ
mark (Some (Sign sign.Minus)) = 1
mark (Some (Sign sign.Open)) = 2
mark (Some (Keyword word.Not)) = 3
mark _ = 0

abbrev marked : ℕ → Option Token → Bool
marked n o = eqb (mark o) n

abbrev up_to : ℕ → Option Token → Bool
up_to n o = leb (mark o) n

literal_unmarked : (t : Token) (e : Tree) → literal_of t ≡ Some e → mark (Some t) ≡ 0
unfolding literal_of value_of mark
literal_unmarked (Integer n) e h = refl
literal_unmarked (Quoted text) e h = refl
literal_unmarked (Name name) e h = absurd (cc h)
literal_unmarked (Sign s) e h = absurd (cc h)
literal_unmarked (Keyword word.Not) e h = absurd (cc h)
literal_unmarked (Keyword _) e h = refl

name_unmarked : (t : Token) (n : List ℕ) → name_of t ≡ Some n → mark (Some t) ≡ 0
unfolding name_of mark may_be_name
name_unmarked (Integer n) e h = absurd (cc h)
name_unmarked (Quoted text) e h = absurd (cc h)
name_unmarked (Name name) e h = refl
name_unmarked (Sign s) e h = absurd (cc h)
name_unmarked (Keyword word.Not) e h = absurd (cc h)
name_unmarked (Keyword _) e h = refl

-- levels
deeper : (j k : ℕ) → j ≤ k → (o : Option Token) → behind k o ≡ true → behind j o ≡ true
deeper j k h o b = let l = leb-true (suc k) (rank o) b in le-leb (suc j) (rank o) (omega (arith, h, l))

below : (j k : ℕ) → suc j ≤ k → (o : Option Token) → at_level k o ≡ true → behind j o ≡ true
below j k h o a = let l = eqb-true (rank o) k a in le-leb (suc j) (rank o) (omega (arith, h, l))

no_more : (k : ℕ) (o : Option Token) → behind k o ≡ true → at_level k o ≡ false
no_more k o b =
    elim (cases_Bool (at_level k o)) [
      | inl is ↦ absurd (let l = leb-true (suc k) (rank o) b in let e = eqb-true (rank o) k is in omega (arith, l, e))
      | inr other ↦ other
    ]

-- what begins with p begins with q
starts_as : {V : Type 0} (p q g : Option Token → Bool) (L : Lang Token V) →
    ((o : Option Token) → p o ≡ true → q o ≡ true) →
    Starts p L g → Starts q L g
starts_as p q g L h a = record { starts = λ m s v z l c. h (next s) (a.starts m s v z l c) }

abbrev always : Option Token → Bool
always o = true

anyhow : {V : Type 0} (g : Option Token → Bool) (L : Lang Token V) → Starts always L g
anyhow g L = record { starts = λ m s v z l c. refl }

-- a step of operators
step_starts : (op : Token → Option BinaryOp) (k : ℕ) → Ranked op k →
    (F : Rule) (d : ℕ) (left : Tree) (g : Option Token → Bool) →
    Starts (at_level k) (operation op F d left) g
unfolding operation
step_starts op k ranked F d left g =
    starts_reaches (at_level k) g nodes _ _
    (starts_bind (at_level k) always g (one op) _ (starts_one (at_level k) always op
    (λ t o e. eq-eqb (rank (Some t)) k (ranked t o e))) (λ o. anyhow g _))

step_agrees : (op : Token → Option BinaryOp) (j : ℕ) (F H : Rule) → ((d : ℕ) → Agree (F d) (H d) (behind j)) →
    (d : ℕ) (left : Tree) →
    Agree (operation op F d left) (operation op H d left) (behind j)
unfolding operation
step_agrees op j F H a d left =
    agree_reaches (behind j) nodes _ _ _ _
    (agree_bind always (behind j) (one op) (one op) _ _ (agree_one always op)
    (λ o. agree_bind (behind j) (behind j) (F (suc d)) (H (suc d)) _ _ (a (suc d))
    (λ right. agree_gives (behind j) (binary o left right))
    (λ x. starts_gives (behind j) (behind j) _ (λ q e. e)) (λ x. starts_gives (behind j) (behind j) _ (λ q e. e)))
    (λ o. anyhow (behind j) _) (λ o. anyhow (behind j) _))

-- operands of one level with steps of the next
steps_agree : (j k : ℕ) → suc j ≤ k → (S R : Tree → Lang Token Tree) → ((a : Tree) → Agree (S a) (R a) (behind j)) →
    ((a : Tree) → Starts (at_level k) (S a) (behind j)) → ((a : Tree) → Starts (at_level k) (R a) (behind j)) →
    (a : Tree) →
    Agree (more S a) (more R a) (behind k)
steps_agree j k h S R a b c x =
    agree_more (at_level k) (behind j) (behind k) S R a b c (below j k h) (deeper j k (omega (arith, h))) (no_more k) x

steps_start : (j k : ℕ) → suc j ≤ k → (S : Tree → Lang Token Tree) →
    ((a : Tree) → Starts (at_level k) (S a) (behind j)) → (a : Tree) →
    Starts (behind j) (more S a) (behind k)
steps_start j k h S b x =
    starts_more (behind j) (behind k) S x (λ a. starts_as (at_level k) (behind j) (behind j) (S a) (below j k h) (b a))
    (deeper j k (omega (arith, h)))

chain_agrees : (op : Token → Option BinaryOp) (j k : ℕ) → suc j ≤ k → Ranked op k → (F H : Rule) →
    ((d : ℕ) → Agree (F d) (H d) (behind j)) → (d : ℕ) → Agree (chain op F d) (chain op H d) (behind k)
unfolding chain
chain_agrees op j k h ranked F H a d =
    agree_bind (behind j) (behind k) (F d) (H d) _ _ (a d)
    (steps_agree j k h (operation op F d) (operation op H d) (step_agrees op j F H a d)
    (λ x. step_starts op k ranked F d x (behind j)) (λ x. step_starts op k ranked H d x (behind j)))
    (steps_start j k h (operation op F d) (λ x. step_starts op k ranked F d x (behind j)))
    (steps_start j k h (operation op H d) (λ x. step_starts op k ranked H d x (behind j)))

chain_starts : (p : Option Token → Bool) (op : Token → Option BinaryOp) (j k : ℕ) → suc j ≤ k → Ranked op k →
    (F : Rule) (d : ℕ) →
    Starts p (F d) (behind j) → Starts p (chain op F d) (behind k)
unfolding chain
chain_starts p op j k h ranked F d a =
    starts_bind p (behind j) (behind k) (F d) _ a (steps_start j k h (operation op F d)
    (λ x. step_starts op k ranked F d x (behind j)))

-- a rule over factors that begin with p
module _ (F H : Rule) (agrees : (d : ℕ) → Agree (F d) (H d) (behind 0)) where
  product_agrees : (d : ℕ) → Agree (product F d) (product H d) (behind 1)
  unfolding product
  product_agrees d = chain_agrees product_op 0 1 (omega arith) ranked_product F H agrees d

  sum_agrees : (d : ℕ) → Agree (sum F d) (sum H d) (behind 2)
  unfolding sum
  sum_agrees d = chain_agrees sum_op 1 2 (omega arith) ranked_sum (product F) (product H) product_agrees d

  concatenation_agrees : (d : ℕ) → Agree (concatenation F d) (concatenation H d) (behind 3)
  unfolding concatenation
  concatenation_agrees d = chain_agrees concat_op 2 3 (omega arith) ranked_concat (sum F) (sum H) sum_agrees d

compared_starts : (F : Rule) (d : ℕ) (left : Tree) → Starts (behind 3) (compared F d left) (behind 4)
unfolding compared
compared_starts F d left =
    starts_either (behind 3) (behind 4) _ _
    (starts_as (at_level 4) (behind 3) (behind 4) _ (below 3 4 (omega arith))
    (step_starts compare_op 4 ranked_compare (concatenation F) d left (behind 4)))
    (starts_gives (behind 3) (behind 4) left (deeper 3 4 (omega arith)))

compared_agrees : (F H : Rule) → ((d : ℕ) → Agree (F d) (H d) (behind 0)) → (d : ℕ) (left : Tree) →
    Agree (compared F d left) (compared H d left) (behind 4)
unfolding compared
compared_agrees F H a d left =
    agree_either (behind 4) (operation compare_op (concatenation F) d left)
    (operation compare_op (concatenation H) d left) (gives left) (gives left)
    (agree_less (behind 3) (behind 4) _ _ (deeper 3 4 (omega arith))
    (step_agrees compare_op 3 (concatenation F) (concatenation H) (concatenation_agrees F H a) d left))
    (agree_gives (behind 4) left) (apart_here F) (apart_here H)
  where
    apart_here : (F : Rule) → Apart (operation compare_op (concatenation F) d left) (gives left) (behind 4)
    apart_here F =
        apart_starts (at_level 4) (behind 4) (behind 4) (operation compare_op (concatenation F) d left) (gives left)
        (step_starts compare_op 4 ranked_compare (concatenation F) d left (behind 4))
        (starts_gives (behind 4) (behind 4) left (λ o e. e)) no_behind
      where
        no_behind : (o : Option Token) → at_level 4 o ≡ true → behind 4 o ≡ false
        no_behind o e =
            elim (cases_Bool (behind 4 o)) [
              | inl is ↦ absurd (both_ways (at_level 4 o)
                  (no_more 4 o is) e)
              | inr other ↦ other
            ]

comparison_agrees : (F H : Rule) → ((d : ℕ) → Agree (F d) (H d) (behind 0)) → (d : ℕ) →
    Agree (comparison F d) (comparison H d) (behind 4)
unfolding comparison
comparison_agrees F H a d =
    agree_bind (behind 3) (behind 4) (concatenation F d) (concatenation H d) (compared F d) (compared H d)
    (concatenation_agrees F H a d)
    (compared_agrees F H a d) (compared_starts F d) (compared_starts H d)

-- the words behind IS
spot : Option Token → ℕ
spot (Some (Keyword word.Null)) = 1
spot (Some (Keyword word.Distinct)) = 2
spot (Some (Keyword word.Not)) = 3
spot _ = 0

abbrev spotted : ℕ → Option Token → Bool
spotted n o = eqb (spot o) n

other_spot : (n k : ℕ) → eqb n k ≡ false → (o : Option Token) → spotted n o ≡ true → spotted k o ≡ false
other_spot n k h o e = let same = eqb-true (spot o) n e in rw same h

tested_agrees : (null : UnaryOp) (distinct : BinaryOp) (F H : Rule) → ((d : ℕ) → Agree (F d) (H d) (behind 0)) →
    (d : ℕ) (left : Tree) →
    Agree (tested null distinct F d left) (tested null distinct H d left) (behind 4)
unfolding tested spot
tested_agrees null distinct F H a d left =
    agree_either (behind 4) _ _ _ _ (agree_token (behind 4) (Keyword word.Null) _ _ (agree_gives (behind 4) _))
    (agree_token (behind 4) (Keyword word.Distinct) _ _ (agree_token (behind 4) (Keyword word.From) _ _
    (agree_bind (behind 4) (behind 4) (concatenation F (suc d)) (concatenation H (suc d)) _ _
    (agree_less (behind 3) (behind 4) _ _ (deeper 3 4 (omega arith)) (concatenation_agrees F H a (suc d)))
    (λ right. agree_gives (behind 4) (binary distinct left right))
    (λ x. starts_gives (behind 4) (behind 4) _ (λ q e. e)) (λ x. starts_gives (behind 4) (behind 4) _ (λ q e. e)))))
    (apart_starts (spotted 1) (spotted 2) (behind 4) _ _ (starts_token (spotted 1) (behind 4)
    (Keyword word.Null) _ refl)
    (starts_token (spotted 2) (behind 4) (Keyword word.Distinct) _ refl) (other_spot 1 2 refl))
    (apart_starts (spotted 1) (spotted 2) (behind 4) _ _ (starts_token (spotted 1) (behind 4)
    (Keyword word.Null) _ refl)
    (starts_token (spotted 2) (behind 4) (Keyword word.Distinct) _ refl) (other_spot 1 2 refl))

abbrev below_not : Option Token → Bool
below_not o = leb (spot o) 2

tested_starts : (null : UnaryOp) (distinct : BinaryOp) (F : Rule) (d : ℕ) (left : Tree) →
    Starts below_not (tested null distinct F d left) (behind 4)
unfolding tested spot
tested_starts null distinct F d left =
    starts_either below_not (behind 4) _ _ (starts_token below_not (behind 4) (Keyword word.Null) _ refl)
    (starts_token below_not (behind 4) (Keyword word.Distinct) _ refl)

not_below : (o : Option Token) → spotted 3 o ≡ true → below_not o ≡ false
not_below o e = let same = eqb-true (spot o) 3 e in rw same refl

test_agrees : (F H : Rule) → ((d : ℕ) → Agree (F d) (H d) (behind 0)) → (d : ℕ) (left : Tree) →
    Agree (test F d left) (test H d left) (behind 4)
unfolding test spot
test_agrees F H a d left =
    agree_reaches (behind 4) nodes _ _ _ _
    (agree_token (behind 4) (Keyword word.Is) _ _
    (agree_either (behind 4) _ _ _ _ (agree_token (behind 4) (Keyword word.Not) _ _
    (tested_agrees IsNotNull IsNotDistinctFrom F H a d left))
    (tested_agrees IsNull IsDistinctFrom F H a d left)
    (apart_starts (spotted 3) below_not (behind 4) _ _ (starts_token (spotted 3) (behind 4) (Keyword word.Not) _ refl)
    (tested_starts IsNull IsDistinctFrom H d left) not_below)
    (apart_starts (spotted 3) below_not (behind 4) _ _ (starts_token (spotted 3) (behind 4) (Keyword word.Not) _ refl)
    (tested_starts IsNull IsDistinctFrom F d left) not_below)))

test_starts : (F : Rule) (d : ℕ) (left : Tree) → Starts (at_level 5) (test F d left) (behind 4)
unfolding test rank
test_starts F d left =
    starts_reaches (at_level 5) (behind 4) nodes _ _ (starts_token (at_level 5) (behind 4) (Keyword word.Is) _ refl)

predicate_agrees : (F H : Rule) → ((d : ℕ) → Agree (F d) (H d) (behind 0)) → (d : ℕ) →
    Agree (predicate F d) (predicate H d) (behind 5)
unfolding predicate
predicate_agrees F H a d =
    agree_bind (behind 4) (behind 5) (comparison F d) (comparison H d) _ _ (comparison_agrees F H a d)
    (steps_agree 4 5 (omega arith) (test F d) (test H d) (test_agrees F H a d) (test_starts F d) (test_starts H d))
    (steps_start 4 5 (omega arith) (test F d) (test_starts F d))
    (steps_start 4 5 (omega arith) (test H d) (test_starts H d))

-- what a factor begins with, a predicate does
predicate_starts : (p : Option Token → Bool) (F : Rule) (d : ℕ) → Starts p (F d) (behind 0) →
    Starts p (predicate F d) (behind 5)
unfolding predicate comparison concatenation sum product
predicate_starts p F d a =
    starts_bind p (behind 4) (behind 5) (comparison F d) _
    (starts_bind p (behind 3) (behind 4) (concatenation F d) (compared F d)
    (chain_starts p concat_op 2 3 (omega arith) ranked_concat (sum F) d
    (chain_starts p sum_op 1 2 (omega arith) ranked_sum (product F) d
    (chain_starts p product_op 0 1 (omega arith) ranked_product F d a)))
    (compared_starts F d))
    (steps_start 4 5 (omega arith) (test F d) (test_starts F d))

-- a factor begins with no NOT
abbrev opens : Option Token → Bool
opens = up_to 2

not_opens : (o : Option Token) → marked 3 o ≡ true → opens o ≡ false
not_opens o e = let same = eqb-true (mark o) 3 e in rw same refl

module _ (F H : Rule) (agrees : (d : ℕ) → Agree (F d) (H d) (behind 0))
    (begins : (d : ℕ) → Starts opens (F d) (behind 0))
    (begun : (d : ℕ) → Starts opens (H d) (behind 0)) where
  negation_agrees_over : (P Q : Rule) → ((d : ℕ) → Agree (P d) (Q d) (behind 5)) → (d : ℕ) →
      Agree (negation_over F P d) (negation_over H Q d) (behind 5)
  unfolding negation_over mark
  negation_agrees_over P Q a d =
      agree_either (behind 5) _ _ _ _
      (agree_reaches (behind 5) nodes _ _ _ _ (agree_token (behind 5) (Keyword word.Not) _ _
      (agree_bind (behind 5) (behind 5) (P (suc d)) (Q (suc d)) _ _ (a (suc d)) (λ x. agree_gives (behind 5) _)
      (λ x. starts_gives (behind 5) (behind 5) _ (λ q e. e)) (λ x. starts_gives (behind 5) (behind 5) _ (λ q e. e)))))
      (predicate_agrees F H agrees d)
      (apart_starts (marked 3) opens (behind 5) _ _ (starts_reaches (marked 3) (behind 5) nodes _ _
      (starts_token (marked 3) (behind 5) (Keyword word.Not) _ refl))
      (predicate_starts opens H d (begun d)) not_opens)
      (apart_starts (marked 3) opens (behind 5) _ _ (starts_reaches (marked 3) (behind 5) nodes _ _
      (starts_token (marked 3) (behind 5) (Keyword word.Not) _ refl))
      (predicate_starts opens F d (begins d)) not_opens)

  negation_agrees : (d : ℕ) → Agree (negation F d) (negation H d) (behind 5)
  unfolding negation
  negation_agrees d =
      agree_knot always (behind 5) (negation_over F) (negation_over H) (λ P s j. anyhow (behind 5) _)
      (λ P s j. anyhow (behind 5) _)
      (λ P Q s t a j. negation_agrees_over P Q a j) d

  conjunction_agrees : (d : ℕ) → Agree (conjunction F d) (conjunction H d) (behind 7)
  unfolding conjunction
  conjunction_agrees d = chain_agrees and_op 5 7 (omega arith) ranked_and (negation F) (negation H) negation_agrees d

  disjunction_agrees : (d : ℕ) → Agree (disjunction F d) (disjunction H d) (behind 8)
  unfolding disjunction
  disjunction_agrees d =
      chain_agrees or_op 7 8 (omega arith) ranked_or (conjunction F) (conjunction H) conjunction_agrees d

-- the parts of a factor
is_literal : Option Token → Bool
is_literal None = false
is_literal (Some t) = is_some (literal_of t)

abbrev no_literal : Option Token → Bool
no_literal o = not (is_literal o)

called_starts : (g : Option Token → Bool) (p : Option Token → Bool) → p (Some action_name) ≡ true → Starts p called g
unfolding called
called_starts g p h = starts_token p g action_name _ h

named_starts : (g : Option Token → Bool) (p : Option Token → Bool) →
    ((t : Token) (n : List ℕ) → name_of t ≡ Some n → p (Some t) ≡ true) → Starts p named g
unfolding named
named_starts g p h = starts_bind p always g (one name_of) _ (starts_one p always name_of h) (λ n. anyhow g _)

-- a name that goes on with a bracket is `merge_action()`
called_or_named : Apart called named (behind 0)
unfolding called named rank
called_or_named = record {
  apart = λ m n s v w y z l r c d.
      let open_next : next r.1 ≡ Some (Sign sign.Open) = cc (l.1, l.2.1, r.2.is) in
      elim r.3 [
        | inl dot ↦ absurd (cc (open_next, ap next dot.1))
        | inr bare ↦ absurd (cc (subst (λ q. behind 0 q ≡ true) (ap next bare.1 ∙ open_next) d))
      ];
}

goes_on : Option Token → ℕ
goes_on (Some (Sign sign.Dot)) = 1
goes_on _ = 0

abbrev is_dot : Option Token → Bool
is_dot o = eqb (goes_on o) 1

abbrev no_dot : Option Token → Bool
no_dot o = not (is_dot o)

undotted : (o : Option Token) → behind 0 o ≡ true → no_dot o ≡ true
unfolding rank goes_on
undotted (Some (Sign sign.Dot)) b = absurd (cc b)
undotted (Some (Sign _)) b = refl
undotted (Some (Keyword k)) b = refl
undotted (Some (Name name)) b = refl
undotted (Some (Integer n)) b = refl
undotted (Some (Quoted text)) b = refl
undotted None b = refl

named_agrees : Agree named named (behind 0)
unfolding named goes_on
named_agrees =
    agree_bind always (behind 0) (one name_of) (one name_of) _ _ (agree_one always name_of)
    (λ name. agree_either (behind 0) _ _ _ _
    (agree_token (behind 0) (Sign sign.Dot) _ _ (agree_bind always (behind 0) (one name_of) (one name_of) _ _
    (agree_one always name_of)
    (λ own. agree_gives (behind 0) _) (λ x. anyhow (behind 0) _) (λ x. anyhow (behind 0) _)))
    (agree_gives (behind 0) _) (apart_dot name) (apart_dot name))
    (λ x. anyhow (behind 0) _) (λ x. anyhow (behind 0) _)
  where
    apart_dot : (name : List ℕ) → Apart (token (Sign sign.Dot) (bind (one name_of) (λ own. gives (column_of name own))))
        (gives (column name)) (behind 0)
    apart_dot name =
        apart_starts is_dot no_dot (behind 0) _ _ (starts_token is_dot (behind 0) (Sign sign.Dot) _ refl)
        (starts_gives no_dot (behind 0) _ undotted) (λ o e. ap not e)

leaf_agrees : (d : ℕ) → Agree (leaf d) (leaf d) (behind 0)
unfolding leaf is_literal literal_of value_of called
leaf_agrees d =
    agree_reaches (behind 0) nodes _ _ _ _
    (agree_either (behind 0) (one literal_of) (one literal_of) (either called named) (either called named)
    (agree_one (behind 0) literal_of)
    (agree_either
    (behind 0) called called named named called_agrees named_agrees called_or_named called_or_named) literal_or_named literal_or_named)
  where
    called_agrees : Agree called called (behind 0)
    called_agrees =
        agree_token (behind 0) action_name _ _ (agree_token (behind 0) (Sign sign.Open) _ _
        (agree_token (behind 0) (Sign sign.Close) _ _ (agree_gives (behind 0) _)))

    literal_or_named : Apart (one literal_of) (either called named) (behind 0)
    literal_or_named =
        apart_starts is_literal no_literal (behind 0) _ _
        (starts_one is_literal (behind 0) literal_of (λ t e h. ap is_some h))
        (starts_either no_literal (behind 0) called named (called_starts (behind 0) no_literal refl)
        (named_starts (behind 0) no_literal (λ t n h. ap (λ q. not (is_some q)) (name_no_literal t n h))))
        (λ o e. ap not e)

leaf_starts : (d : ℕ) → Starts (marked 0) (leaf d) (behind 0)
unfolding leaf mark
leaf_starts d =
    starts_reaches (marked 0) (behind 0) nodes _ _
    (starts_either (marked 0) (behind 0) _ _ (starts_one (marked 0) (behind 0) literal_of
    (λ t e h. eq-eqb (mark (Some t)) 0 (literal_unmarked t e h)))
    (starts_either (marked 0) (behind 0) called named (called_starts (behind 0) (marked 0) refl)
    (named_starts (behind 0) (marked 0) (λ t n h. eq-eqb (mark (Some t)) 0 (name_unmarked t n h)))))

minus_starts : (F : Rule) (d : ℕ) → Starts (marked 1) (minus F d) (behind 0)
unfolding minus mark
minus_starts F d =
    starts_reaches (marked 1) (behind 0) nodes _ _ (starts_token (marked 1) (behind 0) (Sign sign.Minus) _ refl)

bracket_starts : (F : Rule) (d : ℕ) → Starts (marked 2) (bracket F d) (behind 0)
unfolding bracket mark
bracket_starts F d = starts_token (marked 2) (behind 0) (Sign sign.Open) _ refl

other_mark : (n k : ℕ) → eqb n k ≡ false → (o : Option Token) → marked n o ≡ true → marked k o ≡ false
other_mark n k h o e = let same = eqb-true (mark o) n e in rw same h

within : (n k : ℕ) → n ≤ k → (o : Option Token) → marked n o ≡ true → up_to k o ≡ true
within n k h o e = let same = eqb-true (mark o) n e in le-leb (mark o) k (omega (arith, h, same))

unbracketed_starts : (F : Rule) (d : ℕ) → Starts (up_to 1) (either (leaf d) (minus F d)) (behind 0)
unbracketed_starts F d =
    starts_either (up_to 1) (behind 0) (leaf d) (minus F d) (starts_as (marked 0) (up_to 1) (behind 0) _
    (within 0 1 (omega arith)) (leaf_starts d))
    (starts_as (marked 1) (up_to 1) (behind 0) _ (within 1 1 (omega arith)) (minus_starts F d))

no_bracket : (o : Option Token) → up_to 1 o ≡ true → marked 2 o ≡ false
no_bracket o e =
    elim (cases_Bool (marked 2 o)) [
      | inl is ↦ absurd (let l = leb-true (mark o) 1 e in let two = eqb-true (mark o) 2 is in omega (arith, l, two))
      | inr other ↦ other
    ]

factor_over_starts : (F : Rule) → ((d : ℕ) → Starts opens (F d) (behind 0)) → (d : ℕ) →
    Starts opens (factor_over F d) (behind 0)
unfolding factor_over
factor_over_starts F a d =
    starts_either opens (behind 0) _ _
    (starts_either opens (behind 0) (leaf d) (minus F d) (starts_as (marked 0) opens (behind 0) _
    (within 0 2 (omega arith)) (leaf_starts d))
    (starts_as (marked 1) opens (behind 0) _ (within 1 2 (omega arith)) (minus_starts F d)))
    (starts_as (marked 2) opens (behind 0) _ (within 2 2 (omega arith)) (bracket_starts F d))

factor_over_agrees : (F H : Rule) → ((d : ℕ) → Starts opens (F d) (behind 0)) →
    ((d : ℕ) → Starts opens (H d) (behind 0)) →
    ((d : ℕ) → Agree (F d) (H d) (behind 0)) → (d : ℕ) → Agree (factor_over F d) (factor_over H d) (behind 0)
unfolding factor_over minus bracket rank
factor_over_agrees F H a b agrees d =
    agree_either (behind 0) (either (leaf d) (minus F d)) (either (leaf d) (minus H d)) (bracket F d) (bracket H d)
    (agree_either (behind 0) (leaf d) (leaf d) (minus F d) (minus H d) (leaf_agrees d) minus_agrees
    (apart_starts (marked 0) (marked 1) (behind 0) _ _ (leaf_starts d) (minus_starts H d) (other_mark 0 1 refl))
    (apart_starts (marked 0) (marked 1) (behind 0) _ _ (leaf_starts d) (minus_starts F d) (other_mark 0 1 refl)))
    bracket_agrees
    (apart_starts (up_to 1) (marked 2) (behind 0) _ _ (unbracketed_starts F d) (bracket_starts H d) no_bracket)
    (apart_starts (up_to 1) (marked 2) (behind 0) _ _ (unbracketed_starts H d) (bracket_starts F d) no_bracket)
  where
    minus_agrees : Agree (minus F d) (minus H d) (behind 0)
    minus_agrees =
        agree_reaches (behind 0) nodes _ _ _ _ (agree_token (behind 0) (Sign sign.Minus) _ _
        (agree_bind (behind 0) (behind 0) (F (suc d)) (H (suc d)) _ _ (agrees (suc d)) (λ x. agree_gives (behind 0) _)
        (λ x. starts_gives (behind 0) (behind 0) _ (λ q e. e)) (λ x. starts_gives (behind 0) (behind 0) _ (λ q e. e))))

    bracket_agrees : Agree (bracket F d) (bracket H d) (behind 0)
    bracket_agrees =
        agree_token (behind 0) (Sign sign.Open) _ _
        (agree_bind (behind 8) (behind 0) (disjunction F d) (disjunction H d) _ _ (disjunction_agrees F H agrees a b d)
        (λ x. agree_token (behind 0) (Sign sign.Close) _ _ (agree_gives (behind 0) x))
        (λ x. starts_token (behind 8) (behind 0) (Sign sign.Close) _ refl)
        (λ x. starts_token (behind 8) (behind 0) (Sign sign.Close) _ refl))

factor_starts : (d : ℕ) → Starts opens (factor d) (behind 0)
unfolding factor
factor_starts d = starts_knot opens (behind 0) factor_over (λ F a j. factor_over_starts F a j) d

factor_agrees : (d : ℕ) → Agree (factor d) (factor d) (behind 0)
unfolding factor
factor_agrees d =
    agree_knot opens (behind 0) factor_over factor_over (λ F a j. factor_over_starts F a j)
    (λ F a j. factor_over_starts F a j) (λ F H a b h j. factor_over_agrees F H a b h j) d

-- what may stand behind an expression goes on with no part of one
behind_all : (o : Option Token) → behind_expr o ≡ true → behind 8 o ≡ true
unfolding rank has behind_factor behind_product behind_sum behind_concatenation behind_comparison behind_predicate behind_conjunction behind_expr or_op and_op compare_op concat_op sum_op product_op
behind_all None e = refl
behind_all (Some (Sign sign.Dot)) e = absurd (cc e)
behind_all (Some (Sign sign.Open)) e = absurd (cc e)
behind_all (Some (Sign sign.Star)) e = absurd (cc e)
behind_all (Some (Sign sign.Slash)) e = absurd (cc e)
behind_all (Some (Sign sign.Percent)) e = absurd (cc e)
behind_all (Some (Sign sign.Plus)) e = absurd (cc e)
behind_all (Some (Sign sign.Minus)) e = absurd (cc e)
behind_all (Some (Sign sign.Concat)) e = absurd (cc e)
behind_all (Some (Sign sign.Equal)) e = absurd (cc e)
behind_all (Some (Sign sign.NotEqual)) e = absurd (cc e)
behind_all (Some (Sign sign.Less)) e = absurd (cc e)
behind_all (Some (Sign sign.LessOrEqual)) e = absurd (cc e)
behind_all (Some (Sign sign.Greater)) e = absurd (cc e)
behind_all (Some (Sign sign.GreaterOrEqual)) e = absurd (cc e)
behind_all (Some (Keyword word.Is)) e = absurd (cc e)
behind_all (Some (Keyword word.And)) e = absurd (cc e)
behind_all (Some (Keyword word.Or)) e = absurd (cc e)
behind_all (Some _) e = refl

-- one reading of an expression, whatever may stand behind it
pub expr_agrees : Agree expr expr behind_expr
unfolding expr expr_at
expr_agrees =
    agree_less (behind 8) behind_expr (disjunction factor 0) (disjunction factor 0) behind_all
    (disjunction_agrees factor factor factor_agrees factor_starts factor_starts 0)

-- and so where nothing does
pub at_most_one_tree : (m n : Limit → ℕ) (tokens : List Token) (a b : Tree) → expr m tokens a [] → expr n tokens b [] →
    a ≡ b
unfolding has behind_factor behind_product behind_sum behind_concatenation behind_comparison behind_predicate behind_conjunction behind_expr
at_most_one_tree m n tokens a b l r = (expr_agrees.same m n tokens a b [] [] l r refl refl).0
