-- One operator with its right operand, and chains of them.
use Rattle.std.proofs.Common.{◌≡◌, ◌∷◌, ◌++◌, ◌+◌, ◌<◌, ◌≤◌, ℕ, suc, Bool, false, List, [], length, Option, refl, sym, ap, ◌∙◌, subst, arith, length-append}
use Rattle.pg_exprs.specs.declared.operator.BinaryOp.{BinaryOp}
use Rattle.pg_grammar.specs.declared.fault.Fault.{Fault}
use Rattle.pg_grammar.specs.declared.fault.Fault.TheVariants.{Deep, Memory}
use Rattle.std.specs.Prelude.{Result, Ok, Err, MatchResult}
use Rattle.pg_grammar.specs.declared.part.Part.{Part}
use Rattle.pg_grammar.specs.Parts.{seen}
use Rattle.pg_grammar.specs.Limits.{Limit, nodes}
use Rattle.pg_grammar.specs.Languages.{Lang, gives, one, bind, more, Took}
use Rattle.pg_grammar.specs.Answers.{next, Lacks, Seen, read, failed, IsRead, Reads}
use Rattle.pg_grammar.proofs.Leading.{Leads, leads_on, reads_narrow}
use Rattle.pg_grammar.proofs.Words.{Starts, Bars, Spelled, starts_gives, starts_either, spelled_gives, spelled_bind, spelled_more, begun_bind, begun_one, bars_reaches, bars_bind, bars_one, bars_gives}
use Rattle.pg_grammar.proofs.Combining.{reads_gives, reads_over, leads_reaches, leads_one, leads_bind, reads_bind_failed, leads_more, leads_no_more, leads_left, leads_right}
use Rattle.pg_lexer.specs.declared.token.Token.{Token}
use Rattle.pg_parse_expr.specs.declared.level.Level.{Level}
use Rattle.pg_parse_expr.specs.Behind.{behind_concatenation, behind_comparison}
use Rattle.pg_parse_expr.specs.Grammar.{Rule, operation, chain, concatenation, compared, comparison, factor}
use Rattle.pg_parse_expr.specs.Levels.{op_at, operand_at, before_at, behind_at, step_at, chain_at}
use Rattle.pg_parse_expr.specs.Operators.{compare_op}
use Rattle.pg_parse_expr.specs.Tree.{Tree, height, binary}
use Rattle.pg_parse_expr.proofs.After.{any, starts_any, starts_operation, starts_steps, op_not_behind, compare_before, compare_not_behind, comparison_before}
use Rattle.pg_parse_expr.proofs.Spelling.{spelled_operand, spelled_concatenation, spelled_compared}

pub reads_memory : {V : Type 0} (L : Lang Token V) (follows : Option Token → Bool) (xs : List Token) →
    Reads L follows xs (failed Memory)
reads_memory L follows xs = record { is = tt }

pub leads_here : {V : Type 0} (L : Lang Token V) (follows : Option Token → Bool) (xs : List Token) →
    Leads L xs L xs follows
leads_here L follows xs = record { to = λ o r. r }

-- what is read takes a token, where the language has no empty word
pub reads_shorter : {V : Type 0} (L : Lang Token V) (follows : Option Token → Bool) (xs zs : List Token) (v : V) →
    ((m : Limit → ℕ) (z : List Token) → L m [] v z → ⊥) → Reads L follows xs (read v zs) → length zs < length xs
reads_shorter {V} L follows xs zs v none r = go f.front f.split (λ m z. f.spelled m z)
  where
    f : IsRead L follows xs v zs
    f = r.is

    go : (front : List Token) → xs ≡ front ++ zs → ((m : Limit → ℕ) (z : List Token) → L m (front ++ z) v z) →
        length zs < length xs
    go [] s h = absurd (none (λ k. 0) [] (h (λ k. 0) []))
    go (t ∷ front) s h = let l = ap length s ∙ length-append (t ∷ front) zs in omega (arith, l)

-- one operator, whatever its level
module _ (op : Token → Option BinaryOp) (operand : Rule) (before : Option Token → Bool)
    (words : (d : ℕ) → Spelled (operand d)) where
  right_of : ℕ → Tree → BinaryOp → Lang Token Tree
  right_of d left o = bind (operand (suc d)) (λ right. gives (binary o left right))

  spelled_right_of : (d : ℕ) (left : Tree) (o : BinaryOp) → Spelled (right_of d left o)
  unfolding right_of
  spelled_right_of d left o =
      spelled_bind (operand (suc d)) (λ right. gives (binary o left right)) (words (suc d))
      (λ right. spelled_gives (binary o left right))

  pub operation_deep : (d h : ℕ) (left : Tree) (xs ys : List Token) (o : BinaryOp) (n : ℕ) → 64 ≤ d + height left →
      Took op xs o ys →
      n ≡ length xs → Reads (operation op operand d left) before xs (failed (Deep n))
  unfolding operation right_of
  operation_deep d h left xs ys o n deep t e =
      reads_over nodes (suc (d + height left)) (bind (one op) (right_of d left)) before xs ys t.head n
      (omega (arith, deep)) t.is
      (begun_bind t.head (one op) (right_of d left) (begun_one op t.head o t.value) (λ x. spelled_right_of d left x)) e

  leads_operation : (d : ℕ) (left : Tree) (xs ys : List Token) (o : BinaryOp) → d + height left < 64 → Took op xs o ys →
      Leads (operation op operand d left) xs (right_of d left o) ys before
  unfolding operation right_of
  leads_operation d left xs ys o fits t =
      leads_on (leads_reaches nodes (suc (d + height left)) (bind (one op) (right_of d left)) before xs
      (omega (arith, fits)))
      (leads_one op (right_of d left) before xs ys t.head o t.is t.value)

  pub operation_failed : (d k : ℕ) (left : Tree) (xs ys : List Token) (o : BinaryOp) (e : Fault) →
      d + height left < 64 → Took op xs o ys →
      k ≡ suc d → Reads (operand k) before ys (failed e) → Reads (operation op operand d left) before xs (failed e)
  unfolding right_of
  operation_failed d k left xs ys o e fits t same r =
      (leads_operation d left xs ys o fits t).to (failed e)
      (reads_bind_failed (operand (suc d)) (λ right. gives (binary o left right)) before before ys e
      (subst (λ j. Reads (operand j) before ys (failed e)) same r)
      (λ right. starts_gives before before (binary o left right) (λ t h. h))
      (λ right. spelled_gives (binary o left right)))

  pub operation_read : (d k : ℕ) (left right tree : Tree) (xs ys zs : List Token) (o : BinaryOp) →
      d + height left < 64 → Took op xs o ys →
      k ≡ suc d → Reads (operand k) before ys (read right zs) → tree ≡ binary o left right →
      Reads (operation op operand d left) before xs (read tree zs)
  unfolding right_of
  operation_read d k left right tree xs ys zs o fits t same r e =
      (leads_on (leads_operation d left xs ys o fits t)
      (leads_bind (operand (suc d)) (λ right. gives (binary o left right)) before before ys zs right
      (subst (λ j. Reads (operand j) before ys (read right zs)) same r)
      (λ right. starts_gives before before (binary o left right) (λ t h. h)))).to
      (read tree zs) (reads_gives (binary o left right) tree before zs e)

  pub bars_operation : (d : ℕ) (left : Tree) (g : Option Token → Bool) (xs : List Token) → Lacks op xs →
      Bars (operation op operand d left) g 1 xs
  unfolding operation right_of
  bars_operation d left g xs none =
      bars_reaches g nodes (suc (d + height left)) (bind (one op) (right_of d left)) 1 xs
      (bars_bind any g (one op) (right_of d left) 1 xs (bars_one any op 0 xs none.lacks)
      (λ x. starts_any (right_of d left x) g))

-- an operation takes a token
took_none : {X : Type 0} (f : Token → Option X) (x : X) (z : List Token) → Took f [] x z → ⊥
took_none f x z t = let e : [] ≡ t.head ∷ z = t.is in cc e

operation_some : (op : Token → Option BinaryOp) (operand : Rule) (d : ℕ) (left v : Tree) (m : Limit → ℕ)
    (z : List Token) → operation op operand d left m [] v z → ⊥
unfolding operation
operation_some op operand d left v m z l = took_none op l.1.0 l.1.1 l.1.2

-- the levels that group to the left
module _ (level : Level) (d : ℕ) where
  pub step_deep : (left : Tree) (xs ys : List Token) (o : BinaryOp) (n : ℕ) → 64 ≤ d + height left →
      Took (op_at level) xs o ys →
      n ≡ length xs → Reads (step_at level d left) (before_at level) xs (failed (Deep n))
  unfolding step_at
  step_deep left xs ys o n deep t e =
      operation_deep (op_at level) (operand_at level) (before_at level)
      (spelled_operand level) d 0 left xs ys o n deep t e

  pub step_failed : (k : ℕ) (left : Tree) (xs ys : List Token) (o : BinaryOp) (e : Fault) → d + height left < 64 →
      Took (op_at level) xs o ys →
      k ≡ suc d → Reads (operand_at level k) (before_at level) ys (failed e) → Reads (step_at level d left)
      (before_at level) xs (failed e)
  unfolding step_at
  step_failed k left xs ys o e fits t same r =
      operation_failed (op_at level) (operand_at level) (before_at level)
      (spelled_operand level) d k left xs ys o e fits t same r

  pub step_read : (k : ℕ) (left right tree : Tree) (xs ys zs : List Token) (o : BinaryOp) → d + height left < 64 →
      Took (op_at level) xs o ys →
      k ≡ suc d → Reads (operand_at level k) (before_at level) ys (read right zs) → tree ≡ binary o left right →
      Reads (step_at level d left) (before_at level) xs (read tree zs)
  unfolding step_at
  step_read k left right tree xs ys zs o fits t same r e =
      operation_read (op_at level) (operand_at level) (before_at level)
      (spelled_operand level) d k left right tree xs ys zs o fits t same r e

  pub step_shorter : (left v : Tree) (xs zs : List Token) →
      Reads (step_at level d left) (before_at level) xs (read v zs) → length zs < length xs
  unfolding step_at
  step_shorter left v xs zs r =
      reads_shorter (step_at level d left) (before_at level) xs zs v
      (operation_some (op_at level) (operand_at level) d left v) r

  turns : (left : Tree) (xs ys : List Token) (o : BinaryOp) → Took (op_at level) xs o ys →
      Leads (more (step_at level d) left) xs (bind (step_at level d left) (more (step_at level d))) xs (behind_at level)
  turns left xs ys o t =
      leads_more (step_at level d) left (behind_at level) xs
      (subst (λ u. behind_at level (next u) ≡ false) (sym t.is) (op_not_behind level t.head o t.value))

  -- one turn of the loop
  pub chain_turn : (left v : Tree) (xs ys zs : List Token) (o : BinaryOp) → Took (op_at level) xs o ys →
      Reads (step_at level d left) (before_at level) xs (read v zs) →
      Leads (more (step_at level d) left) xs (more (step_at level d) v) zs (behind_at level)
  chain_turn left v xs ys zs o t r =
      leads_on (turns left xs ys o t)
      (leads_bind (step_at level d left) (more (step_at level d)) (before_at level) (behind_at level) xs zs v r
      (λ u. starts_steps level d u))

  pub chain_turn_failed : (left : Tree) (xs ys : List Token) (o : BinaryOp) (e : Fault) → Took (op_at level) xs o ys →
      Reads (step_at level d left) (before_at level) xs (failed e) → Reads (more (step_at level d) left)
      (behind_at level) xs (failed e)
  chain_turn_failed left xs ys o e t r =
      (turns left xs ys o t).to (failed e)
      (reads_bind_failed (step_at level d left) (more (step_at level d)) (before_at level) (behind_at level) xs e r
      (λ u. starts_steps level d u)
      (λ u. spelled_more (step_at level d) u))

  -- its end
  pub chain_end : (left : Tree) (xs : List Token) → Lacks (op_at level) xs →
      Reads (more (step_at level d) left) (behind_at level) xs (read left xs)
  unfolding step_at
  chain_end left xs none =
      (leads_no_more (step_at level d) left (before_at level) (behind_at level) xs
      (bars_operation (op_at level) (operand_at level) (before_at level) (spelled_operand level) d left
      (before_at level) xs none)
      (λ u. starts_steps level d u)).to (read left xs) (reads_gives left left (behind_at level) xs refl)

  -- a chain: its first operand, and the rest
  pub chain_failed : (xs : List Token) (e : Fault) → Reads (operand_at level d) (before_at level) xs (failed e) →
      Reads (chain_at level d) (behind_at level) xs (failed e)
  unfolding chain_at chain step_at
  chain_failed xs e r =
      reads_bind_failed (operand_at level d) (more (step_at level d)) (before_at level) (behind_at level) xs e r
      (λ u. starts_steps level d u)
      (λ u. spelled_more (step_at level d) u)

  pub chain_read : (xs ys : List Token) (x : Tree) (o : Seen Token Tree) →
      Reads (operand_at level d) (before_at level) xs (read x ys) →
      Reads (more (step_at level d) x) (behind_at level) ys o → Reads (chain_at level d) (behind_at level) xs o
  unfolding chain_at chain step_at
  chain_read xs ys x o r s =
      (leads_bind (operand_at level d) (more (step_at level d)) (before_at level) (behind_at level) xs ys x r
      (λ u. starts_steps level d u)).to o s

-- at most one comparison
module _ (d : ℕ) where
  pub compare_deep : (left : Tree) (xs ys : List Token) (o : BinaryOp) (n : ℕ) → 64 ≤ d + height left →
      Took compare_op xs o ys →
      n ≡ length xs → Reads (operation compare_op (concatenation factor) d left) behind_concatenation xs
      (failed (Deep n))
  compare_deep left xs ys o n deep t e =
      operation_deep compare_op
      (concatenation factor) behind_concatenation spelled_concatenation d 0 left xs ys o n deep t e

  pub compare_failed : (k : ℕ) (left : Tree) (xs ys : List Token) (o : BinaryOp) (e : Fault) → d + height left < 64 →
      Took compare_op xs o ys →
      k ≡ suc d → Reads (concatenation factor k) behind_concatenation ys (failed e) →
      Reads (operation compare_op (concatenation factor) d left) behind_concatenation xs (failed e)
  compare_failed k left xs ys o e fits t same r =
      operation_failed compare_op
      (concatenation factor) behind_concatenation spelled_concatenation d k left xs ys o e fits t same r

  pub compare_read : (k : ℕ) (left right tree : Tree) (xs ys zs : List Token) (o : BinaryOp) → d + height left < 64 →
      Took compare_op xs o ys →
      k ≡ suc d → Reads (concatenation factor k) behind_concatenation ys (read right zs) → tree ≡ binary o left right →
      Reads (operation compare_op (concatenation factor) d left) behind_concatenation xs (read tree zs)
  compare_read k left right tree xs ys zs o fits t same r e =
      operation_read compare_op
      (concatenation factor) behind_concatenation spelled_concatenation d k left right tree xs ys zs o fits t same r e

  pub compared_some : (left : Tree) (xs ys : List Token) (op : BinaryOp) (o : Seen Token Tree) →
      Took compare_op xs op ys →
      Reads (operation compare_op (concatenation factor) d left) behind_concatenation xs o → Reads
      (compared factor d left) behind_comparison xs o
  unfolding compared
  compared_some left xs ys op o t r =
      (leads_left (operation compare_op (concatenation factor) d left) (gives left) behind_comparison xs
      (bars_gives behind_comparison left 0 xs
      (subst (λ u. behind_comparison (next u) ≡ false) (sym t.is) (compare_not_behind t.head op t.value)))).to o
      (reads_narrow (operation compare_op
      (concatenation factor) d left) behind_concatenation behind_comparison xs o comparison_before r)

  pub compared_none : (left : Tree) (xs : List Token) → Lacks compare_op xs →
      Reads (compared factor d left) behind_comparison xs (read left xs)
  unfolding compared
  compared_none left xs none =
      (leads_right (operation compare_op (concatenation factor) d left) (gives left) behind_comparison xs
      (bars_operation compare_op
      (concatenation factor) behind_concatenation spelled_concatenation d left behind_comparison xs none)).to
      (read left xs) (reads_gives left left behind_comparison xs refl)

  pub starts_compared : (left : Tree) → Starts behind_concatenation (compared factor d left) behind_comparison
  unfolding compared
  starts_compared left =
      starts_either behind_concatenation behind_comparison (operation compare_op (concatenation factor) d left)
      (gives left)
      (starts_operation compare_op (concatenation factor) behind_concatenation d left behind_comparison compare_before)
      (starts_gives behind_concatenation behind_comparison left comparison_before)

  pub comparison_failed : (xs : List Token) (e : Fault) →
      Reads (concatenation factor d) behind_concatenation xs (failed e) →
      Reads (comparison factor d) behind_comparison xs (failed e)
  unfolding comparison
  comparison_failed xs e r =
      reads_bind_failed (concatenation factor d)
      (compared factor d) behind_concatenation behind_comparison xs e r starts_compared (spelled_compared d)

  pub comparison_read : (xs ys : List Token) (x : Tree) (o : Seen Token Tree) →
      Reads (concatenation factor d) behind_concatenation xs (read x ys) →
      Reads (compared factor d x) behind_comparison ys o → Reads (comparison factor d) behind_comparison xs o
  unfolding comparison
  comparison_read xs ys x o r s =
      (leads_bind (concatenation factor d)
      (compared factor d) behind_concatenation behind_comparison xs ys x r starts_compared).to o s

-- what is read with the memory for its tree, or no memory for it
pub joined_reads : (L : Lang Token Tree) (follows : Option Token → Bool) (xs : List Token)
    (r : Result (Part Token Tree) Fault) (tree : Tree) (zs : List Token) →
    MatchResult r (λ p. (p.value ≡ tree) × (p.rest.now ≡ zs)) (λ e. e ≡ Memory) → Reads L follows xs (read tree zs) →
    Reads L follows xs (seen r)
joined_reads L follows xs (Ok p) tree zs e r =
    subst (λ v. Reads L follows xs (read v p.rest.now)) (sym e.0)
    (subst (λ z. Reads L follows xs (read tree z)) (sym e.1) r)
joined_reads L follows xs (Err f) tree zs e r =
    subst (λ g. Reads L follows xs (failed g)) (sym e) (reads_memory L follows xs)

-- what one more operator of a chain answers
pub ruleset chain_steps = (step_deep, step_failed, step_read)

-- what a comparison answers
pub ruleset compare_steps = (compare_deep, compare_failed, compare_read)
