-- Defaults, columns and the parts of CREATE TABLE
use Rattle.std.proofs.Common.{◌≡◌, ◌∷◌, ◌++◌, ℕ, Bool, true, false, List, [], length, Option, Some, None, refl, sym, ap, ◌∙◌, not, subst, pos, neg_ℤ, is_some}
use Rattle.pg_parse_stmt.proofs.Common.{Fault, Syntax, Lang, Took, gives, one, bind, more, next, Misses, Lacks, Seen, read, failed, Reads, Starts, Bars, Spelled, starts_one, starts_bind, spelled_gives, spelled_bind, bars_token, bars_one, bars_bind, reads_gives, reads_one, reads_bind_failed, leads_left, leads_right, Token, has, name_of, value_of, any, behind_part, word, sign, optional, rule_of, false≢true, Leads, leads_on, reads_narrow, spelled_more, bars_from, leads_bind, leads_more, leads_no_more, leads_assoc, leads_gives, leads_one, may_be_name, begins_constraint, name, default, column_rule_behind, next_rule, column_part, table_constraint_behind, constraint_part, part, spelled_constraint, kind_of, constraint_of, negative_of, Value, ConstraintWord, RuleWord, ColumnRule, TableConstraint, TablePart}
use Rattle.pg_parse_stmt.proofs.Forms.{part_then, no_part}
use Rattle.pg_lexer.specs.declared.keyword.Keyword.TheVariants as k
use Rattle.pg_lexer.specs.declared.sign.Sign.TheVariants as s
use Rattle.pg_lexer.specs.declared.token.Token.TheVariants as t
use Rattle.pg_values.specs.declared.value.Value.TheVariants as value
use Rattle.pg_parse_stmt.specs.declared.tree.TablePart.TheVariants as part_of
use Rattle.pg_parse_stmt.proofs.Lists.{starts_any}
use Rattle.pg_parse_stmt.proofs.Steps.{word_read, starts_optional}
use Rattle.pg_parse_stmt.proofs.Exits.{reads_lacks, lacks_first, lacks_end}
use Rattle.pg_parse_stmt.proofs.Constraints.{spelled_table_constraint}

module _ (xs ys : List Token) (u : Token) (v : Value) (l : ℕ) where
  pub negative_read : xs ≡ u ∷ ys → Some v ≡ negative_of u → Reads (one negative_of) any xs (read v ys)
  negative_read e h = reads_one negative_of any xs ys u v e (sym h)

  pub no_negative : xs ≡ u ∷ ys → None ≡ negative_of u → l ≡ length xs →
      Reads (one negative_of) any xs (failed (Syntax l))
  unfolding negative_of
  no_negative e h q =
      reads_lacks negative_of any (t.Integer 0) (value.Int (neg_ℤ (pos 0))) refl xs l
      (lacks_first negative_of u xs ys e (sym h)) q

  value_leads : Misses (t.Sign s.Minus) xs → Leads default xs (one value_of) xs any
  unfolding default
  value_leads miss =
      leads_left (one value_of) (sign s.Minus (one negative_of)) any xs
      (bars_token any (t.Sign s.Minus) (one negative_of) 0 xs (λ n. miss.misses n))

  pub default_read : Misses (t.Sign s.Minus) xs → xs ≡ u ∷ ys → Some v ≡ value_of u → Reads default any xs (read v ys)
  default_read miss e h = (value_leads miss).to (read v ys) (reads_one value_of any xs ys u v e (sym h))

  pub no_default : Misses (t.Sign s.Minus) xs → xs ≡ u ∷ ys → None ≡ value_of u → l ≡ length xs →
      Reads default any xs (failed (Syntax l))
  unfolding value_of
  no_default miss e h q =
      (value_leads miss).to (failed (Syntax l)) (reads_lacks value_of any (t.Quoted []) (value.Text []) refl xs l
      (lacks_first value_of u xs ys e (sym h)) q)

module _ (xs : List Token) (l : ℕ) where
  pub no_negative_at_end : length xs ≡ 0 → l ≡ length xs → Reads (one negative_of) any xs (failed (Syntax l))
  unfolding negative_of
  no_negative_at_end e q =
      reads_lacks negative_of any (t.Integer 0) (value.Int (neg_ℤ (pos 0))) refl xs l (lacks_end negative_of xs e) q

  pub no_default_at_end : length xs ≡ 0 → Misses (t.Sign s.Minus) xs → l ≡ length xs →
      Reads default any xs (failed (Syntax l))
  unfolding value_of default
  no_default_at_end e miss q =
      (leads_left (one value_of) (sign s.Minus (one negative_of)) any xs
      (bars_token any (t.Sign s.Minus) (one negative_of) 0 xs (λ n. miss.misses n))).to (failed (Syntax l))
      (reads_lacks value_of any (t.Quoted []) (value.Text []) refl xs l (lacks_end value_of xs e) q)

minus_no_value : (u : Token) (x : Value) → u ≡ t.Sign s.Minus → value_of u ≡ Some x → ⊥
unfolding value_of
minus_no_value u x e h = let o : None ≡ Some x = sym (ap value_of e) ∙ h in cc o

pub default_minus : (xs ys : List Token) (o : Seen Token Value) → xs ≡ t.Sign s.Minus ∷ ys →
    Reads (one negative_of) any ys o → Reads default any xs o
unfolding default
default_minus xs ys o e r =
    (leads_right (one value_of) (sign s.Minus (one negative_of)) any xs
    (bars_one any value_of 0 xs (λ u x n h. minus_no_value u x (cc (e, n)) h))).to o
    (word_read (t.Sign s.Minus) (one negative_of) any xs ys o e r)

-- the rules of a column
after_rule : List ColumnRule → ColumnRule → Lang Token (List ColumnRule)
after_rule list r = gives (list ++ r ∷ [])

behind_word : List ColumnRule → RuleWord → Lang Token (List ColumnRule)
behind_word list w = bind (column_rule_behind w) (after_rule list)

then_rules : List ColumnRule → ColumnRule → Lang Token (List ColumnRule)
then_rules list r = bind (after_rule list r) (more next_rule)

spelled_then_rules : (list : List ColumnRule) (r : ColumnRule) → Spelled (then_rules list r)
unfolding then_rules after_rule
spelled_then_rules list r =
    spelled_bind (gives (list ++ r ∷ [])) (more next_rule) (spelled_gives (list ++ r ∷ []))
    (λ a. spelled_more next_rule a)

part_has : (xs ys : List Token) (w : RuleWord) → Took rule_of xs w ys → behind_part (next xs) ≡ false
unfolding behind_part has
part_has xs ys w k =
    let h : is_some (rule_of k.head) ≡ true = ap is_some k.value in
    ap (λ x. behind_part (next x)) k.is ∙ ap not h

leads_rule : (list : List ColumnRule) (xs ys : List Token) (w : RuleWord) → Took rule_of xs w ys →
    Leads (more next_rule list) xs (bind (column_rule_behind w) (then_rules list)) ys behind_part
unfolding next_rule behind_word after_rule then_rules
leads_rule list xs ys w k =
    leads_on (leads_more next_rule list behind_part xs (part_has xs ys w k))
    (leads_on (leads_assoc (one rule_of) (behind_word list) (more next_rule) behind_part xs)
    (leads_on (leads_one rule_of (λ x. bind (behind_word list x)
    (more next_rule)) behind_part xs ys k.head w k.is k.value)
    (leads_assoc (column_rule_behind w) (after_rule list) (more next_rule) behind_part ys)))

pub rules_go_on : (list longer : List ColumnRule) (ts xs ys zs : List Token) (w : RuleWord) (r : ColumnRule) →
    longer ≡ list ++ r ∷ [] →
    Leads (more next_rule []) ts (more next_rule list) xs behind_part → Took rule_of xs w ys → Reads
    (column_rule_behind w) any ys (read r zs) →
    Leads (more next_rule []) ts (more next_rule longer) zs behind_part
unfolding then_rules after_rule
rules_go_on list longer ts xs ys zs w r h a k q =
    subst (λ x. Leads (more next_rule []) ts (more next_rule x) zs behind_part) (sym h)
    (leads_on a (leads_on (leads_rule list xs ys w k)
    (leads_on (leads_bind (column_rule_behind w) (then_rules list) any behind_part ys zs r q
    (λ u. starts_any (then_rules list u) behind_part))
    (leads_gives (list ++ r ∷ []) (more next_rule) behind_part zs))))

pub rules_break_off : (list : List ColumnRule) (ts xs ys : List Token) (w : RuleWord) (f : Fault) →
    Leads (more next_rule []) ts (more next_rule list) xs behind_part →
    Took rule_of xs w ys → Reads (column_rule_behind w) any ys (failed f) → Reads (more next_rule []) behind_part ts
    (failed f)
rules_break_off list ts xs ys w f a k q =
    a.to (failed f) ((leads_rule list xs ys w k).to (failed f)
    (reads_bind_failed (column_rule_behind w) (then_rules list) any behind_part ys f q
    (λ u. starts_any (then_rules list u) behind_part) (spelled_then_rules list)))

pub rules_end : (list : List ColumnRule) (ts xs : List Token) →
    Leads (more next_rule []) ts (more next_rule list) xs behind_part → Lacks rule_of xs →
    Reads (more next_rule []) behind_part ts (read list xs)
unfolding next_rule behind_word after_rule
rules_end list ts xs a lacks =
    a.to (read list xs) ((leads_no_more next_rule list any behind_part xs
    (bars_bind any any (one rule_of) (behind_word list) 1 xs (bars_one any rule_of 0 xs
    (λ u x n h. lacks.lacks u x n h)) (λ w. starts_any (behind_word list w) any))
    (λ u. starts_any (more next_rule u) behind_part)).to (read list xs)
    (reads_gives list list behind_part xs refl))

-- a constraint
pub spelled_by_word : Spelled (bind (one constraint_of) table_constraint_behind)
spelled_by_word = spelled_bind (one constraint_of) table_constraint_behind spelled_constraint spelled_table_constraint

pub word_constraint_read : (xs ys : List Token) (w : ConstraintWord) (o : Seen Token TableConstraint) →
    Reads (one constraint_of) any xs (read w ys) → Reads (table_constraint_behind w) any ys o →
    Reads (bind (one constraint_of) table_constraint_behind) any xs o
word_constraint_read xs ys w o r q = part_then r q

pub word_constraint_failed : (xs : List Token) (f : Fault) → Reads (one constraint_of) any xs (failed f) →
    Reads (bind (one constraint_of) table_constraint_behind) any xs (failed f)
word_constraint_failed xs f r = no_part spelled_table_constraint r

by_words : (b : Option Token → Bool) → b (Some (t.Keyword k.Primary)) ≡ true → b (Some (t.Keyword k.Unique)) ≡ true →
    b (Some (t.Keyword k.Check)) ≡ true →
    (u : Token) (x : ConstraintWord) → constraint_of u ≡ Some x → b (Some u) ≡ true
unfolding constraint_of
by_words b h i j (t.Keyword k.Primary) x e = h
by_words b h i j (t.Keyword k.Unique) x e = i
by_words b h i j (t.Keyword k.Check) x e = j
by_words b h i j _ x e = absurd (cc e)

pub starts_by_word : (b g : Option Token → Bool) → b (Some (t.Keyword k.Primary)) ≡ true →
    b (Some (t.Keyword k.Unique)) ≡ true → b (Some (t.Keyword k.Check)) ≡ true →
    Starts b (bind (one constraint_of) table_constraint_behind) g
starts_by_word b g h i j =
    starts_bind b any g (one constraint_of) table_constraint_behind (starts_one b any constraint_of (by_words b h i j))
    (λ w. starts_any (table_constraint_behind w) g)

-- a column, and a constraint of the table
column_after_name : List ℕ → Lang Token TablePart
column_after_name n =
    bind (one kind_of) (λ x. bind (more next_rule []) (λ r.
    gives (part_of.Column (record { name = n; kind = x; rules = r }))))

constraint_after_name : Option (List ℕ) → Lang Token TablePart
constraint_after_name n =
    bind (bind (one constraint_of) table_constraint_behind) (λ c. gives (part_of.Constraint n c))

starts_constraint_part : Starts begins_constraint constraint_part any
unfolding constraint_part constraint_after_name begins_constraint
starts_constraint_part =
    starts_bind begins_constraint begins_constraint any (optional (word k.Constraint name)) constraint_after_name
    (starts_optional (t.Keyword k.Constraint) name begins_constraint refl)
    (λ n. starts_bind begins_constraint any any (bind (one constraint_of) table_constraint_behind)
    (λ c. gives (part_of.Constraint n c)) (starts_by_word begins_constraint any refl refl refl)
    (λ c. starts_any (gives (part_of.Constraint n c)) any))

no_name_begins : (u : Token) (x : List ℕ) → begins_constraint (Some u) ≡ true → name_of u ≡ Some x → ⊥
unfolding begins_constraint name_of may_be_name
no_name_begins (t.Keyword k.Constraint) x h e = let o : None ≡ Some x = e in cc o
no_name_begins (t.Keyword k.Primary) x h e = let o : None ≡ Some x = e in cc o
no_name_begins (t.Keyword k.Unique) x h e = let o : None ≡ Some x = e in cc o
no_name_begins (t.Keyword k.Check) x h e = let o : None ≡ Some x = e in cc o
no_name_begins _ x h e = false≢true h

pub part_constraint : (xs : List Token) (o : Seen Token TablePart) → true ≡ begins_constraint (next xs) →
    Reads constraint_part any xs o → Reads part behind_part xs o
unfolding part column_part column_after_name name
part_constraint xs o h r =
    (leads_right (bind (one name_of) column_after_name) constraint_part behind_part xs
    (bars_bind any behind_part (one name_of) column_after_name 1 xs
    (bars_one any name_of 0 xs (λ u x n e. no_name_begins u x (ap begins_constraint (sym n) ∙ sym h) e))
    (λ x. starts_any (column_after_name x) behind_part))).to o
    (reads_narrow constraint_part any behind_part xs o (λ o e. refl) r)

any_bars : {V : Type 0} (L : Lang Token V) (g : Option Token → Bool) (j : ℕ) (xs : List Token) → Bars L any j xs →
    Bars L g j xs
any_bars L g j xs b = record { bars = λ m w v z e l c. b.bars m w v z e l refl }

pub part_column : (xs : List Token) (o : Seen Token TablePart) → false ≡ begins_constraint (next xs) →
    Reads column_part behind_part xs o → Reads part behind_part xs o
unfolding part
part_column xs o h r =
    (leads_left column_part constraint_part behind_part xs
    (any_bars constraint_part behind_part 1 xs
    (bars_from begins_constraint any constraint_part 0 xs starts_constraint_part (sym h)))).to o r
