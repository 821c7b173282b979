-- Every tree within the limits has a spelling: brackets stand round each operator but the minus sign.
use Rattle.std.proofs.Common.{◌≡◌, ◌≤◌, ◌+◌, ℕ, zero, suc, pos, negsuc, true, false, List, [], ◌∷◌, Option, Some, None, refl, sym, ap, arith, inl, inr}
use Rattle.std.proofs.Math.Nat.{le-max_left, le-max_right}
use Rattle.std.specs.Prelude.{nat_le, is_none}
use Rattle.std.specs.List.{list_all}
use Rattle.std.proofs.lemmas.Bool.{and_from, and_parts, leb-true, le-leb, lt-leb}
use Rattle.pg_exprs.specs.declared.operator.Arithmetic.{Arithmetic}
use Rattle.pg_exprs.specs.declared.operator.Arithmetic.TheVariants.{Add, Subtract, Multiply, Divide, Remainder}
use Rattle.pg_exprs.specs.declared.operator.BinaryOp.{BinaryOp}
use Rattle.pg_exprs.specs.declared.operator.BinaryOp.TheVariants.{Or, And, IsDistinctFrom, IsNotDistinctFrom, Compare, Concat, Compute}
use Rattle.pg_exprs.specs.declared.operator.Comparison.{Comparison}
use Rattle.pg_exprs.specs.declared.operator.Comparison.TheVariants as comparing
use Rattle.pg_exprs.specs.declared.operator.UnaryOp.TheVariants.{Negate, Not, IsNull, IsNotNull}
use Rattle.pg_grammar.specs.Languages.{tie}
use Rattle.pg_grammar.specs.Limits.{Limit}
use Rattle.pg_lexer.specs.declared.keyword.Keyword.{Keyword as Reserved}
use Rattle.pg_lexer.specs.declared.keyword.Keyword.TheVariants as word
use Rattle.pg_lexer.specs.declared.sign.Sign.TheVariants as sign
use Rattle.pg_lexer.specs.declared.token.Token.{Token}
use Rattle.pg_lexer.specs.declared.token.Token.TheVariants.{Keyword, Sign, Integer, Quoted}
use Rattle.pg_lexer.specs.Bytes.{is_name}
use Rattle.pg_lexer.specs.Keywords.{keyword_of, keywords, spelling}
use Rattle.pg_lexer.specs.Lexemes.{word_token}
use Rattle.pg_lexer.proofs.Words.{spelled}
use Rattle.pg_values.specs.declared.value.Value.{Value}
use Rattle.pg_values.specs.declared.value.Value.TheVariants as value
use Rattle.pg_parse_expr.specs.Operators.{value_of, literal_of, literal_if, number_value, name_of, action_name, merge_action, or_op, and_op, compare_op, concat_op, sum_op, product_op}
use Rattle.pg_parse_expr.specs.Grammar.{Rule, operation, chain, product, sum, concatenation, compared, comparison, tested, test, predicate, negation_over, negation, conjunction, disjunction, named, called, leaf, minus, bracket, factor_over, factor, expr_at, expr}
use Rattle.pg_parse_expr.specs.Laws.{is_literal, lies, is_free, is_free_name, is_written, is_token}
use Rattle.pg_parse_expr.specs.Tree.{Tree, height, literal, column, column_of, action, unary, binary}

-- the token of a literal, and that of a name
pub literal_token : Value → Token
literal_token value.Null = Keyword word.Null
literal_token (value.Bool true) = Keyword word.True
literal_token (value.Bool false) = Keyword word.False
literal_token (value.Int (pos n)) = Integer n
literal_token (value.Big (pos n)) = Integer n
literal_token (value.Int (negsuc n)) = Keyword word.Null
literal_token (value.Big (negsuc n)) = Keyword word.Null
literal_token (value.Text text) = Quoted text

pub name_token : List ℕ → Token
name_token name = word_token name (keyword_of name)

comparison_token : Comparison → Token
comparison_token comparing.Equal = Sign sign.Equal
comparison_token comparing.NotEqual = Sign sign.NotEqual
comparison_token comparing.Less = Sign sign.Less
comparison_token comparing.LessOrEqual = Sign sign.LessOrEqual
comparison_token comparing.Greater = Sign sign.Greater
comparison_token comparing.GreaterOrEqual = Sign sign.GreaterOrEqual

arithmetic_token : Arithmetic → Token
arithmetic_token Add = Sign sign.Plus
arithmetic_token Subtract = Sign sign.Minus
arithmetic_token Multiply = Sign sign.Star
arithmetic_token Divide = Sign sign.Slash
arithmetic_token Remainder = Sign sign.Percent

-- an operator before other tokens
put_op : BinaryOp → List Token → List Token
put_op Or z = Keyword word.Or ∷ z
put_op And z = Keyword word.And ∷ z
put_op IsDistinctFrom z = Keyword word.Is ∷ Keyword word.Distinct ∷ Keyword word.From ∷ z
put_op IsNotDistinctFrom z = Keyword word.Is ∷ Keyword word.Not ∷ Keyword word.Distinct ∷ Keyword word.From ∷ z
put_op (Compare op) z = comparison_token op ∷ z
put_op Concat z = Sign sign.Concat ∷ z
put_op (Compute op) z = arithmetic_token op ∷ z

-- a tree before other tokens
put : Tree → List Token → List Token
put (literal value) z = literal_token value ∷ z
put (column name) z = name_token name ∷ z
put (column_of source name) z = name_token source ∷ Sign sign.Dot ∷ name_token name ∷ z
put action z = action_name ∷ Sign sign.Open ∷ Sign sign.Close ∷ z
put (unary Negate a) z = Sign sign.Minus ∷ put a z
put (unary Not a) z = Sign sign.Open ∷ Keyword word.Not ∷ put a (Sign sign.Close ∷ z)
put (unary IsNull a) z = Sign sign.Open ∷ put a (Keyword word.Is ∷ Keyword word.Null ∷ Sign sign.Close ∷ z)
put (unary IsNotNull a) z =
    Sign sign.Open ∷ put a (Keyword word.Is ∷ Keyword word.Not ∷ Keyword word.Null ∷ Sign sign.Close ∷ z)
put (binary op a b) z = Sign sign.Open ∷ put a (put_op op (put b (Sign sign.Close ∷ z)))

-- what the tokens mean
pub integer_read : (n : ℕ) → lies 0 2147483647 (pos n) ≡ true → number_value n ≡ Some (value.Int (pos n))
integer_read n h =
    let small = (and_parts (nat_le 0 n) (nat_le n 2147483647) h).1 in
    rw small refl

pub bigint_read : (n : ℕ) → lies 2147483648 9223372036854775807 (pos n) ≡ true →
    number_value n ≡ Some (value.Big (pos n))
bigint_read n h =
    let parts = and_parts (nat_le 2147483648 n) (nat_le n 9223372036854775807) h in
    let large = leb-true 2147483648 n parts.0 in
    let other : nat_le n 2147483647 ≡ false = lt-leb n 2147483647 (omega (arith, large)) in
    let fits = parts.1 in
    rw other (rw fits refl)

literal_read : (v : Value) → is_literal v ≡ true → literal_of (literal_token v) ≡ Some (literal v)
unfolding literal_of value_of literal_token
literal_read value.Null h = refl
literal_read (value.Bool true) h = refl
literal_read (value.Bool false) h = refl
literal_read (value.Int (pos n)) h = ap literal_if (integer_read n h)
literal_read (value.Int (negsuc n)) h = absurd (cc h)
literal_read (value.Big (pos n)) h = ap literal_if (bigint_read n h)
literal_read (value.Big (negsuc n)) h = absurd (cc h)
literal_read (value.Text text) h = refl

name_read_as : (name : List ℕ) (o : Option Reserved) → keyword_of name ≡ o → is_free o ≡ true →
    name_of (word_token name o) ≡ Some name
unfolding name_of
name_read_as name None e h = refl
name_read_as name (Some k) e h = rw h (ap Some (sym ((spelled k name).0 e)))

pub name_read : (name : List ℕ) → is_free_name name ≡ true → name_of (name_token name) ≡ Some name
unfolding name_token
name_read name h = name_read_as name (keyword_of name) refl (and_parts (is_name name) _ h).1

compare_read : (op : Comparison) → compare_op (comparison_token op) ≡ Some (Compare op)
unfolding compare_op comparison_token
compare_read comparing.Equal = refl
compare_read comparing.NotEqual = refl
compare_read comparing.Less = refl
compare_read comparing.LessOrEqual = refl
compare_read comparing.Greater = refl
compare_read comparing.GreaterOrEqual = refl

-- a word of a level is one of every looser level
module _ (F : Rule) (d : ℕ) (m : Limit → ℕ) (s : List Token) (v : Tree) (z : List Token) where
  alone : (op : Token → Option BinaryOp) (operand : Rule) → operand d m s v z → chain op operand d m s v z
  unfolding chain
  alone op operand l = (v, z, l, (zero, (refl, refl)))

  up_product : F d m s v z → product F d m s v z
  unfolding product
  up_product l = alone product_op F l

  up_sum : product F d m s v z → sum F d m s v z
  unfolding sum
  up_sum l = alone sum_op (product F) l

  up_concatenation : sum F d m s v z → concatenation F d m s v z
  unfolding concatenation
  up_concatenation l = alone concat_op (sum F) l

  up_comparison : concatenation F d m s v z → comparison F d m s v z
  unfolding comparison compared
  up_comparison l = (v, z, l, inr (refl, refl))

  up_predicate : comparison F d m s v z → predicate F d m s v z
  unfolding predicate
  up_predicate l = (v, z, l, (zero, (refl, refl)))

  up_negation : predicate F d m s v z → negation F d m s v z
  unfolding negation negation_over
  up_negation l = (suc zero, inr (inr l))

  up_conjunction : negation F d m s v z → conjunction F d m s v z
  unfolding conjunction
  up_conjunction l = alone and_op (negation F) l

  up_disjunction : conjunction F d m s v z → disjunction F d m s v z
  unfolding disjunction
  up_disjunction l = alone or_op (conjunction F) l

  from_predicate : predicate F d m s v z → disjunction F d m s v z
  from_predicate l = up_disjunction (up_conjunction (up_negation l))

  from_concatenation : concatenation F d m s v z → disjunction F d m s v z
  from_concatenation l = from_predicate (up_predicate (up_comparison l))

  from_sum : sum F d m s v z → disjunction F d m s v z
  from_sum l = from_concatenation (up_concatenation l)

  from_product : product F d m s v z → disjunction F d m s v z
  from_product l = from_sum (up_sum l)

  to_sum : F d m s v z → sum F d m s v z
  to_sum l = up_sum (up_product l)

  to_concatenation : F d m s v z → concatenation F d m s v z
  to_concatenation l = up_concatenation (to_sum l)

  to_comparison : F d m s v z → comparison F d m s v z
  to_comparison l = up_comparison (to_concatenation l)

  to_predicate : F d m s v z → predicate F d m s v z
  to_predicate l = up_predicate (to_comparison l)

  to_negation : F d m s v z → negation F d m s v z
  to_negation l = up_negation (to_predicate l)

  to_conjunction : F d m s v z → conjunction F d m s v z
  to_conjunction l = up_conjunction (to_negation l)

-- one operator between two operands
chained : (op : Token → Option BinaryOp) (operand : Rule) (d : ℕ) (m : Limit → ℕ) (s y z : List Token) (t : Token)
    (o : BinaryOp)
    (a b : Tree) → op t ≡ Some o → suc (d + height a) ≤ 64 → operand d m s a (t ∷ y) → operand (suc d) m y b z →
    chain op operand d m s (binary o a b) z
unfolding chain operation
chained op operand d m s y z t o a b e low l r = (
  a,
  t ∷ y,
  l,
  (
    suc zero,
    (
      binary o a b,
      z,
      (
        λ c. low,
        (
          o,
          y,
          record { head = t; is = refl; value = e },
          (b, z, r, (refl, refl)),
        ),
      ),
      (refl, refl),
    ),
  ),
)

module _ (F : Rule) (d : ℕ) (m : Limit → ℕ) (s y z : List Token) (a b : Tree) (low : suc (d + height a) ≤ 64)
    (r : F (suc d) m y b z) where
  computed : (op : Arithmetic) → F d m s a (arithmetic_token op ∷ y) → disjunction F d m s (binary (Compute op) a b) z
  unfolding sum product sum_op product_op arithmetic_token
  computed Add l =
      from_sum F d m s _ z (chained sum_op (product F) d m s y z _ _ a b refl low (up_product F d m s a _ l)
      (up_product F (suc d) m y b z r))
  computed Subtract l =
      from_sum F d m s _ z (chained sum_op (product F) d m s y z _ _ a b refl low (up_product F d m s a _ l)
      (up_product F (suc d) m y b z r))
  computed Multiply l = from_product F d m s _ z (chained product_op F d m s y z _ _ a b refl low l r)
  computed Divide l = from_product F d m s _ z (chained product_op F d m s y z _ _ a b refl low l r)
  computed Remainder l = from_product F d m s _ z (chained product_op F d m s y z _ _ a b refl low l r)

  joined : (op : BinaryOp) → F d m s a (put_op op y) → disjunction F d m s (binary op a b) z
  unfolding disjunction conjunction predicate comparison compared operation concatenation test tested or_op and_op concat_op put_op
  joined Or l =
      chained or_op (conjunction F) d m s y z _ _ a b refl low (to_conjunction F d m s a _ l)
      (to_conjunction F (suc d) m y b z r)
  joined And l =
      up_disjunction F d m s _ z (chained and_op (negation F) d m s y z _ _ a b refl low (to_negation F d m s a _ l)
      (to_negation F (suc d) m y b z r))
  joined IsDistinctFrom l =
      from_predicate F d m s _ z (
        a,
        put_op IsDistinctFrom y,
        to_comparison F d m s a _ l,
        (
          suc zero,
          (
            binary IsDistinctFrom a b,
            z,
            (
              λ c. low,
              (
                _,
                refl,
                inr (inr (
                  _,
                  refl,
                  (
                    y,
                    refl,
                    (b, z, to_concatenation F (suc d) m y b z r, (refl, refl)),
                  ),
                )),
              ),
            ),
            (refl, refl),
          ),
        ),
      )
  joined IsNotDistinctFrom l =
      from_predicate F d m s _ z (
        a,
        put_op IsNotDistinctFrom y,
        to_comparison F d m s a _ l,
        (
          suc zero,
          (
            binary IsNotDistinctFrom a b,
            z,
            (
              λ c. low,
              (
                _,
                refl,
                inl (
                  _,
                  refl,
                  inr (
                    _,
                    refl,
                    (
                      y,
                      refl,
                      (b, z, to_concatenation F (suc d) m y b z r, (refl, refl)),
                    ),
                  ),
                ),
              ),
            ),
            (refl, refl),
          ),
        ),
      )
  joined (Compare op) l =
      from_predicate F d m s _ z (up_predicate F d m s _ z (
        a,
        comparison_token op ∷ y,
        to_concatenation F d m s a _ l,
        inl (
          λ c. low,
          (
            Compare op,
            y,
            record { head = comparison_token op; is = refl; value = compare_read op },
            (b, z, to_concatenation F (suc d) m y b z r, (refl, refl)),
          ),
        ),
      ))
  joined Concat l =
      from_concatenation F d m s _ z (chained concat_op (sum F) d m s y z _ _ a b refl low (to_sum F d m s a _ l)
      (to_sum F (suc d) m y b z r))
  joined (Compute op) l = computed op l

-- in brackets
bracketed : (F : Rule) (d : ℕ) (m : Limit → ℕ) (s z : List Token) (v : Tree) →
    disjunction F d m s v (Sign sign.Close ∷ z) →
    factor_over F d m (Sign sign.Open ∷ s) v z
unfolding factor_over bracket
bracketed F d m s z v l = inr (s, refl, (v, Sign sign.Close ∷ z, l, (z, refl, (refl, refl))))

negated : (F : Rule) (d : ℕ) (m : Limit → ℕ) (s z : List Token) (a : Tree) → suc d ≤ 64 → F (suc d) m s a z →
    disjunction F d m (Keyword word.Not ∷ s) (unary Not a) z
unfolding negation negation_over
negated F d m s z a low l =
    up_disjunction F d m _ _ z (up_conjunction F d m _ _ z (
      suc (suc zero),
      inr (inl (
        λ c. low,
        (
          s,
          refl,
          (
            a,
            z,
            inr (inr (to_predicate F (suc d) m s a z l)),
            (refl, refl),
          ),
        ),
      )),
    ))

is_null : (F : Rule) (d : ℕ) (m : Limit → ℕ) (s z : List Token) (a : Tree) → suc (d + height a) ≤ 64 →
    F d m s a (Keyword word.Is ∷ Keyword word.Null ∷ z) → disjunction F d m s (unary IsNull a) z
unfolding predicate test tested
is_null F d m s z a low l =
    from_predicate F d m s _ z (
      a,
      _,
      to_comparison F d m s a _ l,
      (
        suc zero,
        (
          unary IsNull a,
          z,
          (λ c. low, (_, refl, inr (inl (z, refl, (refl, refl))))),
          (refl, refl),
        ),
      ),
    )

is_not_null : (F : Rule) (d : ℕ) (m : Limit → ℕ) (s z : List Token) (a : Tree) → suc (d + height a) ≤ 64 →
    F d m s a (Keyword word.Is ∷ Keyword word.Not ∷ Keyword word.Null ∷ z) → disjunction F d m s (unary IsNotNull a) z
unfolding predicate test tested
is_not_null F d m s z a low l =
    from_predicate F d m s _ z (
      a,
      _,
      to_comparison F d m s a _ l,
      (
        suc zero,
        (
          unary IsNotNull a,
          z,
          (λ c. low, (_, refl, inl (_, refl, inl (z, refl, (refl, refl))))),
          (refl, refl),
        ),
      ),
    )

-- each tree is a factor
spells : (tree : Tree) → is_written tree ≡ true → (n d : ℕ) → height tree ≤ n → d + height tree ≤ 64 →
    (m : Limit → ℕ) (z : List Token) →
    tie factor_over n d m (put tree z) tree z
unfolding factor_over leaf minus called named put
spells (literal v) w zero d h l m z = absurd (omega (arith, h))
spells (literal v) w (suc n) d h l m z =
    inr (inl (inl (
      λ c. omega (arith, l),
      inl (record {
        head =
            literal_token v;
        is = refl;
        value = literal_read v w;
      }),
    )))
spells (column name) w zero d h l m z = absurd (omega (arith, h))
spells (column name) w (suc n) d h l m z =
    inr (inl (inl (
      λ c. omega (arith, l),
      inr (inr (
        name,
        z,
        record {
          head =
              name_token name;
          is = refl;
          value = name_read name w;
        },
        inr (refl, refl),
      )),
    )))
spells (column_of source name) w zero d h l m z = absurd (omega (arith, h))
spells (column_of source name) w (suc n) d h l m z =
    let names = and_parts (is_free_name source) (is_free_name name) w in
    inr (inl (inl (
      λ c. omega (arith, l),
      inr (inr (
        source,
        _,
        record { head = name_token source; is = refl; value = name_read source names.0 },
        inl (
          _,
          refl,
          (
            name,
            z,
            record {
              head =
                  name_token name;
              is = refl;
              value = name_read name names.1;
            },
            (refl, refl),
          ),
        ),
      )),
    )))
spells action w zero d h l m z = absurd (omega (arith, h))
spells action w (suc n) d h l m z =
    inr (inl (inl (λ c. omega (arith, l), inr (inl (_, refl, (_, refl, (z, refl, (refl, refl))))))))
spells (unary op a) w zero d h l m z = absurd (omega (arith, h))
spells (unary Negate a) w (suc n) d h l m z =
    inr (inl (inr (
      λ c. omega (arith, l),
      (
        put a z,
        refl,
        (
          a,
          z,
          spells a w n (suc d) (omega (arith, h))
              (omega (arith, l)) m z,
          (refl, refl),
        ),
      ),
    )))
spells (unary Not a) w (suc n) d h l m z =
    inr (bracketed (tie factor_over n) d m _ z _ (negated (tie factor_over n) d m _ _ a (omega (arith, l))
    (spells a w n (suc d) (omega (arith, h)) (omega (arith, l)) m (Sign sign.Close ∷ z))))
spells (unary IsNull a) w (suc n) d h l m z =
    inr (bracketed (tie factor_over n) d m _ z _ (is_null (tie factor_over n) d m _ _ a (omega (arith, l))
    (spells a w n d (omega (arith, h)) (omega (arith, l)) m _)))
spells (unary IsNotNull a) w (suc n) d h l m z =
    inr (bracketed (tie factor_over n) d m _ z _ (is_not_null (tie factor_over n) d m _ _ a (omega (arith, l))
    (spells a w n d (omega (arith, h)) (omega (arith, l)) m _)))
spells (binary op a b) w zero d h l m z = absurd (omega (arith, h))
spells (binary op a b) w (suc n) d h l m z =
    let written = and_parts (is_written a) (is_written b) w in
    let left = le-max_left (height a) (height b) in
    let right = le-max_right (height a) (height b) in
    inr (bracketed (tie factor_over n) d m _ z _ (joined (tie factor_over n) d m _ _ _ a b (omega (arith, l, left))
    (spells b written.1 n (suc d) (omega (arith, h, right)) (omega (arith, l, right)) m (Sign sign.Close ∷ z)) op
    (spells a written.0 n d (omega (arith, h, left)) (omega (arith, l, left)) m _)))

-- its tokens are ones that a line may have
pub literal_is_token : (v : Value) → is_literal v ≡ true → is_token (literal_token v) ≡ true
unfolding literal_token
literal_is_token value.Null h = refl
literal_is_token (value.Bool true) h = refl
literal_is_token (value.Bool false) h = refl
literal_is_token (value.Int (pos n)) h =
    let small = leb-true n 2147483647 (and_parts (nat_le 0 n) (nat_le n 2147483647) h).1 in
    le-leb n 9223372036854775807 (omega (arith, small))
literal_is_token (value.Int (negsuc n)) h = absurd (cc h)
literal_is_token (value.Big (pos n)) h = (and_parts (nat_le 2147483648 n) (nat_le n 9223372036854775807) h).1
literal_is_token (value.Big (negsuc n)) h = absurd (cc h)
literal_is_token (value.Text text) h = h

name_is_token_as : (name : List ℕ) (o : Option Reserved) → keyword_of name ≡ o → is_name name ≡ true →
    is_token (word_token name o) ≡ true
name_is_token_as name None e h = and_from (is_name name) (is_none (keyword_of name)) h (ap is_none e)
name_is_token_as name (Some k) e h = refl

pub name_is_token : (name : List ℕ) → is_free_name name ≡ true → is_token (name_token name) ≡ true
unfolding name_token
name_is_token name h = name_is_token_as name (keyword_of name) refl (and_parts (is_name name) _ h).0

put_op_tokens : (op : BinaryOp) (z : List Token) → list_all is_token z ≡ true → list_all is_token (put_op op z) ≡ true
unfolding put_op comparison_token arithmetic_token
put_op_tokens Or z h = h
put_op_tokens And z h = h
put_op_tokens IsDistinctFrom z h = h
put_op_tokens IsNotDistinctFrom z h = h
put_op_tokens (Compare comparing.Equal) z h = h
put_op_tokens (Compare comparing.NotEqual) z h = h
put_op_tokens (Compare comparing.Less) z h = h
put_op_tokens (Compare comparing.LessOrEqual) z h = h
put_op_tokens (Compare comparing.Greater) z h = h
put_op_tokens (Compare comparing.GreaterOrEqual) z h = h
put_op_tokens Concat z h = h
put_op_tokens (Compute Add) z h = h
put_op_tokens (Compute Subtract) z h = h
put_op_tokens (Compute Multiply) z h = h
put_op_tokens (Compute Divide) z h = h
put_op_tokens (Compute Remainder) z h = h

action_is_token : is_token action_name ≡ true
unfolding merge_action is_name keyword_of keywords spelling
action_is_token = refl

put_tokens : (tree : Tree) → is_written tree ≡ true → (z : List Token) → list_all is_token z ≡ true →
    list_all is_token (put tree z) ≡ true
unfolding put
put_tokens (literal v) w z h = and_from (is_token (literal_token v)) (list_all is_token z) (literal_is_token v w) h
put_tokens (column name) w z h = and_from (is_token (name_token name)) (list_all is_token z) (name_is_token name w) h
put_tokens (column_of source name) w z h =
    let names = and_parts (is_free_name source) (is_free_name name) w in
    and_from (is_token (name_token source)) _ (name_is_token source names.0)
    (and_from (is_token (name_token name)) (list_all is_token z) (name_is_token name names.1) h)
put_tokens action w z h = and_from (is_token action_name) (list_all is_token z) action_is_token h
put_tokens (unary Negate a) w z h = put_tokens a w z h
put_tokens (unary Not a) w z h = put_tokens a w (Sign sign.Close ∷ z) h
put_tokens (unary IsNull a) w z h = put_tokens a w (Keyword word.Is ∷ Keyword word.Null ∷ Sign sign.Close ∷ z) h
put_tokens (unary IsNotNull a) w z h =
    put_tokens a w (Keyword word.Is ∷ Keyword word.Not ∷ Keyword word.Null ∷ Sign sign.Close ∷ z) h
put_tokens (binary op a b) w z h =
    let written = and_parts (is_written a) (is_written b) w in
    put_tokens a written.0 _ (put_op_tokens op _ (put_tokens b written.1 (Sign sign.Close ∷ z) h))

-- an expression is spelled before any tokens that a line may have
pub expr_spelled : (tree : Tree) → is_written tree ≡ true → height tree ≤ 64 → (z : List Token) →
    list_all is_token z ≡ true →
    (tokens : List Token) × (list_all is_token tokens ≡ true) × expr (λ k. 0) tokens tree z
unfolding expr expr_at factor
expr_spelled tree w h z a = (
  put tree z,
  put_tokens tree w z a,
  up_disjunction factor 0 _ _ tree z
      (to_conjunction factor 0 _ _ tree z (
        height tree,
        spells tree w (height tree) 0 (omega arith)
            (omega (arith, h)) _ z,
      )),
)

pub each_tree_is_spelled : (tree : Tree) → is_written tree ≡ true → height tree ≤ 64 →
    (tokens : List Token) × (list_all is_token tokens ≡ true) × expr (λ k. 0) tokens tree []
each_tree_is_spelled tree w h = expr_spelled tree w h [] refl
