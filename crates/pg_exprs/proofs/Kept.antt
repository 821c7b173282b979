-- The value of an expression has the expression's kind.
use Rattle.std.proofs.Common.{◌≡◌, Bool, true, false, not, ℕ, ℤ, List, refl, inl, inr}
use Rattle.std.specs.Prelude.{◌&&◌, ◌++◌, ◌+ℤ◌, ◌-ℤ◌, ◌*ℤ◌, length, nat_le, neg_ℤ, Option, Some, None, Result, Ok, Err, if◌then◌else◌}
use Rattle.std.specs.declared.cmp.Ordering.{Ordering}
use Rattle.pg_values.specs.declared.concatenation.TextFault.TheVariants.{TooLong}
use Rattle.pg_values.specs.declared.number.NumberFault.TheVariants.{IntRange, BigRange}
use Rattle.pg_values.specs.declared.value.Kind.{Kind}
use Rattle.pg_values.specs.declared.value.Kind.TheVariants as kind
use Rattle.pg_values.specs.declared.value.Value.{Value}
use Rattle.pg_values.specs.declared.value.Value.TheVariants.{Null, Int, Big, Text, Bool as OfBool}
use Rattle.pg_values.specs.Concat.{concat_values}
use Rattle.pg_values.specs.Kind.{kind_of_value}
use Rattle.pg_values.specs.Order.{compare_values}
use Rattle.pg_values.specs.Truth.{and_truths, or_truths, not_truth}
use Rattle.pg_values.specs.Number.{is_int, is_big, int_value, big_value, or_zero_divisor, on_numbers, quotient, rest, negate_value}
use Rattle.pg_exprs.specs.declared.evaluate.EvalFault.{EvalFault}
use Rattle.pg_exprs.specs.declared.kinds.KindFault.{KindFault}
use Rattle.pg_exprs.specs.declared.operator.Arithmetic.{Arithmetic}
use Rattle.pg_exprs.specs.declared.operator.Arithmetic.TheVariants.{Add, Subtract, Multiply, Divide, Remainder}
use Rattle.pg_exprs.specs.declared.operator.BinaryOp.{BinaryOp}
use Rattle.pg_exprs.specs.declared.operator.BinaryOp.TheVariants.{Or, And, IsDistinctFrom, IsNotDistinctFrom, Compare, Concat, Compute}
use Rattle.pg_exprs.specs.declared.operator.Comparison.{Comparison}
use Rattle.pg_exprs.specs.declared.operator.UnaryOp.{UnaryOp}
use Rattle.pg_exprs.specs.declared.operator.UnaryOp.TheVariants.{Not, IsNull, IsNotNull, Negate}
use Rattle.pg_exprs.specs.Columns.{column_kind}
use Rattle.pg_exprs.specs.Environment.{Environment, column_value, action_value, text_or_null}
use Rattle.pg_exprs.specs.Evaluation.{truth_of, truth_value, is_null, are_distinct, right_outcome, comparison_value, number_outcome, text_outcome, arithmetic_value, unary_value, binary_value, decides, unary_outcome, binary_outcome, eval}
use Rattle.pg_exprs.specs.Kinds.{is_boolean, is_text, are_comparable, kind_if, arithmetic_kind, unary_kind, binary_kind, unary_kind_of, binary_kind_of, kind_of}
use Rattle.pg_exprs.specs.Laws.{HasKind, FitsShape}
use Rattle.pg_exprs.specs.Tree.{Tree, literal, column, action, unary, binary}

-- the kind of operands that were taken
kind_if-is : (taken : Bool) (k : Kind) (found : Option Kind) → kind_if taken k ≡ Ok found → Some k ≡ found
kind_if-is true k found e = cc
kind_if-is false k found e = absurd (cc)

-- a value and a kind that stand for such
along : {v w : Value} {k l : Option Kind} → v ≡ w → k ≡ l → HasKind v k → HasKind w l
along p q has = rw (← p, ← q) has

truth_value-kind : (t : Option Bool) → HasKind (truth_value t) (Some kind.Bool)
truth_value-kind None = inl refl
truth_value-kind (Some b) = inr refl

abbrev evaluated : Value → Result Value EvalFault
evaluated value = Ok value

-- numbers in range
int_kept : (fits : Bool) (z : ℤ) (w : Value) → number_outcome (if fits then Ok (Int z) else Err IntRange) ≡ Ok w → kind_of_value w ≡ Some kind.Int
int_kept true z w made = let e : Int z ≡ w = cc in rw (← e) refl
int_kept false z w made = absurd (cc)

big_kept : (fits : Bool) (z : ℤ) (w : Value) → number_outcome (if fits then Ok (Big z) else Err BigRange) ≡ Ok w → kind_of_value w ≡ Some kind.Big
big_kept true z w made = let e : Big z ≡ w = cc in rw (← e) refl
big_kept false z w made = absurd (cc)

int_result_kept : (o : Option ℤ) (w : Value) → number_outcome (or_zero_divisor int_value o) ≡ Ok w → kind_of_value w ≡ Some kind.Int
int_result_kept None w made = absurd (cc)
int_result_kept (Some z) w made = int_kept (is_int z) z w made

big_result_kept : (o : Option ℤ) (w : Value) → number_outcome (or_zero_divisor big_value o) ≡ Ok w → kind_of_value w ≡ Some kind.Big
big_result_kept None w made = absurd (cc)
big_result_kept (Some z) w made = big_kept (is_big z) z w made

-- the kind of a value that is not NULL
of_int : (z : ℤ) (k : Option Kind) → HasKind (Int z) k → Some kind.Int ≡ k
of_int z k (inl null) = absurd (cc)
of_int z k (inr is) = is

of_big : (z : ℤ) (k : Option Kind) → HasKind (Big z) k → Some kind.Big ≡ k
of_big z k (inl null) = absurd (cc)
of_big z k (inr is) = is

null_kept : (k : Option Kind) (w : Value) → number_outcome (Ok Null) ≡ Ok w → HasKind w k
null_kept k w made = inl (cc)

on_numbers_kept : (op : ℤ → ℤ → Option ℤ) (a b : Value) (ka kb k : Option Kind) (w : Value) → HasKind a ka → HasKind b kb →
    arithmetic_kind ka kb ≡ Ok k → number_outcome (on_numbers op a b) ≡ Ok w → HasKind w k
on_numbers_kept op (Int a) (Int b) ka kb k w ha hb found made =
    let taken = rw (← of_int a ka ha, ← of_int b kb hb) at found in
    let is = int_result_kept (op a b) w made in inr (cc)
on_numbers_kept op (Int a) (Big b) ka kb k w ha hb found made =
    let taken = rw (← of_int a ka ha, ← of_big b kb hb) at found in
    let is = big_result_kept (op a b) w made in inr (cc)
on_numbers_kept op (Big a) (Int b) ka kb k w ha hb found made =
    let taken = rw (← of_big a ka ha, ← of_int b kb hb) at found in
    let is = big_result_kept (op a b) w made in inr (cc)
on_numbers_kept op (Big a) (Big b) ka kb k w ha hb found made =
    let taken = rw (← of_big a ka ha, ← of_big b kb hb) at found in
    let is = big_result_kept (op a b) w made in inr (cc)
on_numbers_kept op _ _ ka kb k w ha hb found made = null_kept k w made

arithmetic_kept : (op : Arithmetic) (a b : Value) (ka kb k : Option Kind) (w : Value) → HasKind a ka → HasKind b kb →
    arithmetic_kind ka kb ≡ Ok k → number_outcome (arithmetic_value op a b) ≡ Ok w → HasKind w k
arithmetic_kept Add = on_numbers_kept (λ a b. Some (a +ℤ b))
arithmetic_kept Subtract = on_numbers_kept (λ a b. Some (a -ℤ b))
arithmetic_kept Multiply = on_numbers_kept (λ a b. Some (a *ℤ b))
arithmetic_kept Divide = on_numbers_kept quotient
arithmetic_kept Remainder = on_numbers_kept rest

negate_kept : (a : Value) (ka k : Option Kind) (w : Value) → HasKind a ka →
    arithmetic_kind ka None ≡ Ok k → number_outcome (negate_value a) ≡ Ok w → HasKind w k
negate_kept (Int a) ka k w ha found made =
    let taken = rw (← of_int a ka ha) at found in
    let is = int_kept (is_int (neg_ℤ a)) (neg_ℤ a) w made in inr (cc)
negate_kept (Big a) ka k w ha found made =
    let taken = rw (← of_big a ka ha) at found in
    let is = big_kept (is_big (neg_ℤ a)) (neg_ℤ a) w made in inr (cc)
negate_kept _ ka k w ha found made = null_kept k w made

joined_kept : (fits : Bool) (t : List ℕ) (w : Value) → text_outcome (if fits then Ok (Text t) else Err TooLong) ≡ Ok w → HasKind w (Some kind.Text)
joined_kept true t w made = let e : Text t ≡ w = cc in rw (← e) (inr refl)
joined_kept false t w made = absurd (cc)

concat_kept : (a b w : Value) → text_outcome (concat_values a b) ≡ Ok w → HasKind w (Some kind.Text)
concat_kept (Text a) (Text b) w made = joined_kept (nat_le (length (a ++ b)) 4096) (a ++ b) w made
concat_kept _ _ w made = inl (cc)

comparison_value-kind : (op : Comparison) (o : Option Ordering) → HasKind (comparison_value op o) (Some kind.Bool)
comparison_value-kind op None = inl refl
comparison_value-kind op (Some order) = inr refl

-- an operator whose value is boolean or NULL
boolean_kept : (taken : Bool) (v : Value) (k : Option Kind) (w : Value) → HasKind v (Some kind.Bool) →
    kind_if taken kind.Bool ≡ Ok k → evaluated v ≡ Ok w → HasKind w k
boolean_kept taken v k w has found made = along (cc) (kind_if-is taken kind.Bool k found) has

unary_value_kept : (op : UnaryOp) (a : Value) (ka k : Option Kind) (w : Value) → HasKind a ka →
    unary_kind op ka ≡ Ok k → unary_value op a ≡ Ok w → HasKind w k
unary_value_kept Not a ka k w ha found made = boolean_kept (is_boolean ka) _ k w (truth_value-kind (not_truth (truth_of a))) found made
unary_value_kept IsNull a ka k w ha found made = boolean_kept true (OfBool (is_null a)) k w (inr refl) found made
unary_value_kept IsNotNull a ka k w ha found made = boolean_kept true (OfBool (not (is_null a))) k w (inr refl) found made
unary_value_kept Negate a ka k w ha found made = negate_kept a ka k w ha found made

binary_value_kept : (op : BinaryOp) (a b : Value) (ka kb k : Option Kind) (w : Value) → HasKind a ka → HasKind b kb →
    binary_kind op ka kb ≡ Ok k → binary_value op a b ≡ Ok w → HasKind w k
binary_value_kept Or a b ka kb k w ha hb found made =
    boolean_kept (is_boolean ka && is_boolean kb) _ k w (truth_value-kind (or_truths (truth_of a) (truth_of b))) found made
binary_value_kept And a b ka kb k w ha hb found made =
    boolean_kept (is_boolean ka && is_boolean kb) _ k w (truth_value-kind (and_truths (truth_of a) (truth_of b))) found made
binary_value_kept IsDistinctFrom a b ka kb k w ha hb found made =
    boolean_kept (are_comparable ka kb) (OfBool (are_distinct a b)) k w (inr refl) found made
binary_value_kept IsNotDistinctFrom a b ka kb k w ha hb found made =
    boolean_kept (are_comparable ka kb) (OfBool (not (are_distinct a b))) k w (inr refl) found made
binary_value_kept (Compare op) a b ka kb k w ha hb found made =
    boolean_kept (are_comparable ka kb) _ k w (comparison_value-kind op (compare_values a b)) found made
binary_value_kept Concat a b ka kb k w ha hb found made =
    along refl (kind_if-is (is_text ka && is_text kb) kind.Text k found) (concat_kept a b w made)
binary_value_kept (Compute op) a b ka kb k w ha hb found made = arithmetic_kept op a b ka kb k w ha hb found made

-- what decides AND or OR is boolean
decided-boolean : (op : BinaryOp) (a : Value) → decides op a ≡ true → kind_of_value a ≡ Some kind.Bool
decided-boolean And (OfBool b) d = refl
decided-boolean Or (OfBool b) d = refl
decided-boolean _ _ d = absurd (cc)

deciding-boolean : (op : BinaryOp) (a : Value) (ka kb k : Option Kind) → decides op a ≡ true →
    binary_kind op ka kb ≡ Ok k → Some kind.Bool ≡ k
deciding-boolean And a ka kb k d found = kind_if-is (is_boolean ka && is_boolean kb) kind.Bool k found
deciding-boolean Or a ka kb k d found = kind_if-is (is_boolean ka && is_boolean kb) kind.Bool k found
deciding-boolean _ a ka kb k d found = absurd (cc)

-- an operand whose value has its kind
abbrev Keeps : Result (Option Kind) KindFault → Result Value EvalFault → Type 0
Keeps kinds values = (k : Option Kind) (w : Value) → kinds ≡ Ok k → values ≡ Ok w → HasKind w k

unary_kept : (op : UnaryOp) (kinds : Result (Option Kind) KindFault) (values : Result Value EvalFault) → Keeps kinds values →
    Keeps (unary_kind_of op kinds) (unary_outcome op values)
unary_kept op (Ok ka) (Ok a) keeps k w found made = unary_value_kept op a ka k w (keeps ka a refl refl) found made
unary_kept op (Ok ka) (Err fault) keeps k w found made = absurd (cc)
unary_kept op (Err fault) values keeps k w found made = absurd (cc)

-- where the left side decides, or does not
right_kept : (op : BinaryOp) (decided : Bool) (a : Value) (right : Result Value EvalFault) (ka kb : Option Kind) → decides op a ≡ decided →
    HasKind a ka → Keeps (Ok kb) right →
    Keeps (binary_kind op ka kb) (if decided then Ok a else right_outcome op a right)
right_kept op true a right ka kb d ha keeps k w found made =
    let is : a ≡ w = cc in along is (deciding-boolean op a ka kb k d found) (inr (decided-boolean op a d))
right_kept op false a (Ok b) ka kb d ha keeps k w found made =
    binary_value_kept op a b ka kb k w ha (keeps kb b refl refl) found made
right_kept op false a (Err fault) ka kb d ha keeps k w found made = absurd (cc)

binary_kept : (op : BinaryOp) (ka kb : Result (Option Kind) KindFault) (left right : Result Value EvalFault) →
    Keeps ka left → Keeps kb right → Keeps (binary_kind_of op ka kb) (binary_outcome op left right)
binary_kept op (Ok ka) (Ok kb) (Ok a) right keeps_left keeps_right k w found made =
    right_kept op (decides op a) a right ka kb refl (keeps_left ka a refl refl) keeps_right k w found made
binary_kept op (Ok ka) (Ok kb) (Err fault) right keeps_left keeps_right k w found made = absurd (cc)
binary_kept op (Ok ka) (Err fault) left right keeps_left keeps_right k w found made = absurd (cc)
binary_kept op (Err fault) kb left right keeps_left keeps_right k w found made = absurd (cc)

text_or_null-kind : (text : Option (List ℕ)) → HasKind (text_or_null text) (Some kind.Text)
text_or_null-kind None = inl refl
text_or_null-kind (Some text) = inr refl

pub kept : (tree : Tree) (shape : List (List (Option Kind))) (env : Environment) (k : Option Kind) (w : Value) →
    FitsShape env shape → kind_of tree shape ≡ Ok k → eval tree env ≡ Ok w → HasKind w k
kept (literal value) shape env k w fits found made = along {v = value} {k = kind_of_value value} (cc) (cc) (inr refl)
kept (column source number) shape env k w fits found made =
    along {v = column_value env source number} {k = column_kind shape source number} (cc) (cc) (fits source number)
kept action shape env k w fits found made =
    along {v = action_value env} {k = Some kind.Text} (cc) (cc) (text_or_null-kind env.action)
kept (unary op a) shape env k w fits found made =
    unary_kept op (kind_of a shape) (eval a env) (λ ka v. kept a shape env ka v fits) k w found made
kept (binary op a b) shape env k w fits found made =
    binary_kept op (kind_of a shape) (kind_of b shape) (eval a env) (eval b env)
    (λ ka v. kept a shape env ka v fits) (λ kb v. kept b shape env kb v fits) k w found made
