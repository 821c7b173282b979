-- Literals, columns and `merge_action()`.
use Rattle.std.proofs.Common.{◌≡◌, ◌≢◌, ◌⊎◌, ◌∷◌, ◌<◌, ◌≤◌, ℕ, suc, Bool, true, false, List, [], length, Option, Some, None, refl, sym, ap, ◌∙◌, subst, inl, inr, arith}
use Rattle.pg_grammar.specs.declared.fault.Fault.TheVariants.{Syntax, Deep}
use Rattle.pg_grammar.specs.Limits.{nodes}
use Rattle.pg_grammar.specs.Languages.{Lang, gives, one, bind, either, token, Took}
use Rattle.pg_grammar.specs.Answers.{next, Lacks, Misses, Seen, read, failed, Reads}
use Rattle.pg_grammar.proofs.Leading.{Leads, leads_on}
use Rattle.pg_grammar.proofs.Words.{Bars, Begun, spelled_gives, spelled_right, spelled_token, spelled_one, spelled_bind, begun_left, begun_right, begun_bind, begun_one, bars_reaches, bars_bind, bars_one, bars_one_next, bars_gives, bars_token, bars_either}
use Rattle.pg_grammar.proofs.Combining.{reads_gives, reads_one, reads_refused, reads_over, leads_reaches, leads_one, leads_token, leads_left, leads_right, leads_left_by, leads_right_by}
use Rattle.std.specs.Prelude.{if◌then◌else◌}
use Rattle.std.specs.Str.{bytes_eq}
use Rattle.std.proofs.lemmas.Bool.{both_ways, false≢true}
use Rattle.pg_lexer.specs.declared.keyword.Keyword.{Keyword}
use Rattle.pg_lexer.specs.declared.keyword.Keyword.TheVariants as word
use Rattle.pg_lexer.specs.declared.sign.Sign.TheVariants as sign
use Rattle.pg_lexer.specs.declared.token.Token.{Token}
use Rattle.pg_lexer.specs.declared.token.Token.TheVariants as t
use Rattle.pg_lexer.specs.Keywords.{spelling, may_be_name}
use Rattle.pg_values.specs.declared.value.Value.{Value}
use Rattle.pg_parse_expr.specs.Behind.{behind_factor}
use Rattle.pg_parse_expr.specs.Grammar.{named, called, leaf}
use Rattle.pg_parse_expr.specs.Operators.{value_of, literal_of, literal_if, literal_word, number_value, name_of, merge_action, action_name}
use Rattle.pg_parse_expr.specs.Tree.{Tree, height, literal, column, column_of, action}
use Rattle.pg_values.specs.declared.value.Value.TheVariants as value
use Rattle.pg_parse_expr.proofs.After.{any, starts_any}
use Rattle.pg_parse_expr.proofs.Spelling.{spelled_leaf}

-- no name is a literal
pub name_no_literal : (u : Token) (n : List ℕ) → name_of u ≡ Some n → literal_of u ≡ None
unfolding name_of literal_of value_of may_be_name
name_no_literal (t.Name _) n h = refl
name_no_literal (t.Integer _) n h = absurd (cc h)
name_no_literal (t.Quoted _) n h = absurd (cc h)
name_no_literal (t.Sign _) n h = absurd (cc h)
name_no_literal (t.Keyword word.True) n h = absurd (cc h)
name_no_literal (t.Keyword word.False) n h = absurd (cc h)
name_no_literal (t.Keyword word.Null) n h = absurd (cc h)
name_no_literal (t.Keyword _) n h = refl

literal_no_name : (u : Token) (v : Tree) (n : List ℕ) → literal_of u ≡ Some v → name_of u ≡ Some n → ⊥
literal_no_name u v n e h = let o : None ≡ Some v = sym (name_no_literal u n h) ∙ e in cc o

-- only the name itself is `merge_action`
other_spelling : (k : Keyword) → may_be_name k ≡ true → bytes_eq (spelling k) merge_action ≡ false
unfolding may_be_name spelling merge_action
other_spelling word.First e = refl
other_spelling word.Key e = refl
other_spelling word.Last e = refl
other_spelling word.Level e = refl
other_spelling word.Locked e = refl
other_spelling word.No e = refl
other_spelling word.Nothing e = refl
other_spelling word.Read e = refl
other_spelling word.Share e = refl
other_spelling word.Source e = refl
other_spelling word.Target e = refl
other_spelling word.Work e = refl
other_spelling _ e = absurd (false≢true e)

same_bytes : bytes_eq merge_action merge_action ≡ true
unfolding merge_action
same_bytes = refl

no_word : (k : Keyword) (b : Bool) → may_be_name k ≡ b → (if b then Some (spelling k) else None) ≡ Some merge_action → ⊥
no_word k true h e =
    let f : spelling k ≡ merge_action = cc e in
    both_ways (bytes_eq (spelling k) merge_action) (other_spelling k h)
    (ap (λ w. bytes_eq w merge_action) f ∙ same_bytes)
no_word k false h e = let g : None ≡ Some merge_action = e in false≢true (cc g)

action_is : (u : Token) → name_of u ≡ Some merge_action → u ≡ action_name
unfolding name_of
action_is (t.Name n) e = let h : n ≡ merge_action = cc e in ap t.Name h
action_is (t.Sign _) e = absurd (let g : None ≡ Some merge_action = e in cc g)
action_is (t.Integer _) e = absurd (let g : None ≡ Some merge_action = e in cc g)
action_is (t.Quoted _) e = absurd (let g : None ≡ Some merge_action = e in cc g)
action_is (t.Keyword k) e = absurd (no_word k (may_be_name k) refl e)

name_action : name_of action_name ≡ Some merge_action
unfolding name_of
name_action = refl

module _ (g : Option Token → Bool) where
  -- neither a name nor `merge_action()` begins here
  pub bars_names : (xs : List Token) → Lacks name_of xs → Bars (either called named) g 1 xs
  unfolding named called
  bars_names xs none =
      bars_either g called named 1 xs
      (bars_token g action_name (token (t.Sign sign.Open) (token (t.Sign sign.Close) (gives action))) 0 xs
      (λ e. none.lacks action_name merge_action e name_action))
      (bars_bind any g (one name_of) (λ name. either (token (t.Sign sign.Dot)
      (bind (one name_of) (λ own. gives (column_of name own)))) (gives (column name))) 1 xs
      (bars_one any name_of 0 xs none.lacks)
      (λ name. starts_any (either (token (t.Sign sign.Dot) (bind (one name_of) (λ own. gives (column_of name own))))
      (gives (column name))) g))

  pub bars_leaf : (d : ℕ) (xs : List Token) → Lacks literal_of xs → Lacks name_of xs → Bars (leaf d) g 1 xs
  unfolding leaf
  bars_leaf d xs no_literal no_name =
      bars_reaches g nodes (suc d) (either (one literal_of) (either called named)) 1 xs
      (bars_either g (one literal_of) (either called named) 1 xs (bars_one g literal_of 0 xs no_literal.lacks)
      (bars_names xs no_name))

-- a literal
literal_lacks : (xs ys : List Token) (v : Tree) → Took literal_of xs v ys → Lacks name_of xs
literal_lacks xs ys v l = record {
  lacks = λ u n e h.
      let f : Some l.head ≡ Some u = sym (ap next l.is) ∙ e in
      let same : l.head ≡ u = cc f in
      literal_no_name u v n (sym (ap literal_of same) ∙ l.value) h;
}

pub leaf_literal : (d : ℕ) (xs ys : List Token) (v : Tree) → Took literal_of xs v ys → d < 64 →
    Reads (leaf d) behind_factor xs (read v ys)
unfolding leaf
leaf_literal d xs ys v l fits =
    (leads_on (leads_reaches nodes (suc d) (either (one literal_of) (either called named)) behind_factor xs
    (omega (arith, fits)))
    (leads_left (one literal_of) (either called named) behind_factor xs
    (bars_names behind_factor xs (literal_lacks xs ys v l)))).to
    (read v ys) (reads_one literal_of behind_factor xs ys l.head v l.is l.value)

pub leaf_literal_deep : (d n : ℕ) (xs ys : List Token) (v : Tree) → Took literal_of xs v ys → 64 ≤ d → n ≡ length xs →
    Reads (leaf d) behind_factor xs (failed (Deep n))
unfolding leaf
leaf_literal_deep d n xs ys v l deep e =
    reads_over nodes (suc d) (either (one literal_of) (either called named)) behind_factor xs ys l.head n
    (omega (arith, deep)) l.is
    (begun_left l.head (one literal_of) (either called named) (begun_one literal_of l.head v l.value)) e

-- a name
begun_named : (u : Token) (n : List ℕ) → name_of u ≡ Some n → Begun u named
unfolding named
begun_named u n e =
    begun_bind u (one name_of) (λ name. either (token (t.Sign sign.Dot)
    (bind (one name_of) (λ own. gives (column_of name own)))) (gives (column name)))
    (begun_one name_of u n e)
    (λ name. spelled_right (token (t.Sign sign.Dot) (bind (one name_of) (λ own. gives (column_of name own))))
    (gives (column name)) (spelled_gives (column name)))

pub leaf_name_deep : (d n : ℕ) (xs ys : List Token) (name : List ℕ) → Took name_of xs name ys → 64 ≤ d → n ≡ length xs →
    Reads (leaf d) behind_factor xs (failed (Deep n))
unfolding leaf
leaf_name_deep d n xs ys name l deep e =
    reads_over nodes (suc d) (either (one literal_of) (either called named)) behind_factor xs ys l.head n
    (omega (arith, deep)) l.is
    (begun_right l.head (one literal_of) (either called named)
    (begun_right l.head called named (begun_named l.head name l.value))) e

pub leaf_name : (d : ℕ) (xs : List Token) (o : Seen Token Tree) → Lacks literal_of xs → d < 64 →
    Reads (either called named) behind_factor xs o → Reads (leaf d) behind_factor xs o
unfolding leaf
leaf_name d xs o none fits r =
    (leads_on (leads_reaches nodes (suc d) (either (one literal_of) (either called named)) behind_factor xs
    (omega (arith, fits)))
    (leads_right (one literal_of) (either called named) behind_factor xs
    (bars_one behind_factor literal_of 0 xs none.lacks))).to o r

pub leaf_refused : (d n : ℕ) (xs : List Token) → Lacks literal_of xs → Lacks name_of xs → n ≡ length xs →
    Reads (leaf d) behind_factor xs (failed (Syntax n))
leaf_refused d n xs no_literal no_name e =
    reads_refused (leaf d) behind_factor xs n (bars_leaf behind_factor d xs no_literal no_name) (spelled_leaf d) e

-- behind a first token, whatever it is
bars_second : (g : Option Token → Bool) (u w : Token) (L : Lang Token Tree) (k : ℕ) (xs ys : List Token) → xs ≡ w ∷ ys →
    Bars L g k ys → Bars (token u L) g (suc k) xs
bars_second g u w L k xs ys x b = record { bars = λ m s v z e l c. b.bars m l.0 v z (cc (e, x, l.1)) l.2 c }

abbrev own_of : List ℕ → Lang Token Tree
own_of name = bind (one name_of) (λ own. gives (column_of name own))

abbrev rest_of : List ℕ → Lang Token Tree
rest_of name = either (token (t.Sign sign.Dot) (own_of name)) (gives (column name))

-- no bracket opens behind the name, or it is another name
leads_named : (xs ys : List Token) (name : List ℕ) → Took name_of xs name ys →
    Misses (t.Sign sign.Open) ys ⊎ (name ≢ merge_action) →
    Leads (either called named) xs (rest_of name) ys behind_factor
unfolding named called
leads_named xs ys name l not_called =
    leads_right_by called named (rest_of name) behind_factor (l.head ∷ []) xs ys l.is (bars not_called)
    (leads_one name_of rest_of behind_factor xs ys l.head name l.is l.value)
  where
    bars : Misses (t.Sign sign.Open) ys ⊎ (name ≢ merge_action) → Bars called behind_factor 2 xs
    bars (inl m) =
        bars_second behind_factor action_name l.head (token (t.Sign sign.Open)
        (token (t.Sign sign.Close) (gives action))) 1 xs ys l.is
        (bars_token behind_factor (t.Sign sign.Open) (token (t.Sign sign.Close) (gives action)) 0 ys m.misses)
    bars (inr other) =
        bars_token behind_factor action_name (token (t.Sign sign.Open) (token (t.Sign sign.Close) (gives action))) 1 xs
        (λ e.
        let f : Some l.head ≡ Some action_name = sym (ap next l.is) ∙ e in
        let same : l.head ≡ action_name = cc f in
        let h : Some name ≡ Some merge_action = sym l.value ∙ (ap name_of same ∙ name_action) in
        other (cc h))

dot_no_open : (ys zs : List Token) → ys ≡ t.Sign sign.Dot ∷ zs → Misses (t.Sign sign.Open) ys
dot_no_open ys zs e = record {
  misses = λ n. let h : Some (t.Sign sign.Dot) ≡ Some (t.Sign sign.Open) = sym
      (ap next e) ∙ n in cc h;
}

behind_dot : behind_factor (Some (t.Sign sign.Dot)) ≡ false
unfolding behind_factor
behind_dot = refl

behind_open : behind_factor (Some (t.Sign sign.Open)) ≡ false
unfolding behind_factor
behind_open = refl

leads_dot : (xs ys zs : List Token) (name : List ℕ) → Took name_of xs name ys → ys ≡ t.Sign sign.Dot ∷ zs →
    Leads (either called named) xs (own_of name) zs behind_factor
leads_dot xs ys zs name l e =
    leads_on (leads_named xs ys name l (inl (dot_no_open ys zs e)))
    (leads_on
    (leads_left (token (t.Sign sign.Dot) (own_of name)) (gives (column name)) behind_factor ys
    (bars_gives behind_factor (column name) 0 ys (subst (λ u. behind_factor (next u) ≡ false) (sym e) behind_dot)))
    (leads_token (t.Sign sign.Dot) (own_of name) behind_factor ys zs e))

pub named_own : (xs ys zs ws : List Token) (name own : List ℕ) (tree : Tree) → Took name_of xs name ys →
    ys ≡ t.Sign sign.Dot ∷ zs → Took name_of zs own ws →
    tree ≡ column_of name own → Reads (either called named) behind_factor xs (read tree ws)
named_own xs ys zs ws name own tree l e k h =
    (leads_on (leads_dot xs ys zs name l e)
    (leads_one name_of (λ own. gives (column_of name own)) behind_factor zs ws k.head own k.is k.value)).to
    (read tree ws) (reads_gives (column_of name own) tree behind_factor ws h)

pub named_dot_refused : (n : ℕ) (xs ys zs : List Token) (name : List ℕ) → Took name_of xs name ys →
    ys ≡ t.Sign sign.Dot ∷ zs → Lacks name_of zs →
    n ≡ length zs → Reads (either called named) behind_factor xs (failed (Syntax n))
named_dot_refused n xs ys zs name l e none h =
    (leads_dot xs ys zs name l e).to (failed (Syntax n))
    (reads_refused (own_of name) behind_factor zs n
    (bars_bind any behind_factor (one name_of) (λ own. gives (column_of name own)) 1 zs
    (bars_one any name_of 0 zs none.lacks)
    (λ own. starts_any (gives (column_of name own)) behind_factor))
    (spelled_bind (one name_of) (λ own. gives (column_of name own))
    (spelled_one name_of action_name merge_action name_action) (λ own. spelled_gives (column_of name own))) h)

pub named_plain : (xs ys : List Token) (name : List ℕ) (tree : Tree) → Took name_of xs name ys →
    Misses (t.Sign sign.Dot) ys →
    Misses (t.Sign sign.Open) ys ⊎ (name ≢ merge_action) → tree ≡ column name → Reads
    (either called named) behind_factor xs (read tree ys)
named_plain xs ys name tree l no_dot not_called e =
    (leads_on (leads_named xs ys name l not_called)
    (leads_right (token (t.Sign sign.Dot) (own_of name)) (gives (column name)) behind_factor ys
    (bars_token behind_factor (t.Sign sign.Dot) (own_of name) 0 ys no_dot.misses))).to
    (read tree ys) (reads_gives (column name) tree behind_factor ys e)

pub named_unbracketed : (xs ys : List Token) (name : List ℕ) (tree : Tree) → Took name_of xs name ys →
    Misses (t.Sign sign.Dot) ys →
    Misses (t.Sign sign.Open) ys → tree ≡ column name → Reads (either called named) behind_factor xs (read tree ys)
named_unbracketed xs ys name tree l no_dot m e = named_plain xs ys name tree l no_dot (inl m) e

pub named_other : (xs ys : List Token) (name : List ℕ) (tree : Tree) → Took name_of xs name ys →
    Misses (t.Sign sign.Dot) ys →
    (name ≡ merge_action → ⊥) → tree ≡ column name → Reads (either called named) behind_factor xs (read tree ys)
named_other xs ys name tree l no_dot m e = named_plain xs ys name tree l no_dot (inr m) e

-- a literal is one node
literal_height : (o : Option Value) (v : Tree) → literal_if o ≡ Some v → height v ≡ 1
literal_height None v e = absurd (let g : None ≡ Some v = e in cc g)
literal_height (Some w) v e = let g : literal w ≡ v = cc e in ap height (sym g)

literal_low_token : (u : Token) (v : Tree) → literal_of u ≡ Some v → height v ≡ 1
unfolding literal_of value_of
literal_low_token (t.Integer n) v e = literal_height (number_value n) v e
literal_low_token (t.Quoted w) v e = let g : literal (value.Text w) ≡ v = cc e in ap height (sym g)
literal_low_token (t.Keyword k) v e = literal_height (literal_word k) v e
literal_low_token (t.Name _) v e = absurd (let g : None ≡ Some v = e in cc g)
literal_low_token (t.Sign _) v e = absurd (let g : None ≡ Some v = e in cc g)

pub literal_low : (xs ys : List Token) (v : Tree) → Took literal_of xs v ys → height v ≡ 1
literal_low xs ys v l = literal_low_token l.head v l.value

-- `merge_action(`
pub leads_called : (xs ys zs : List Token) (name : List ℕ) (o : Seen Token Tree) → Took name_of xs name ys →
    name ≡ merge_action → ys ≡ t.Sign sign.Open ∷ zs →
    Reads (token (t.Sign sign.Close) (gives action)) behind_factor zs o → Reads (either called named) behind_factor xs o
unfolding named called
leads_called xs ys zs name o l same e r =
    (leads_on
    (leads_left_by called named (token (t.Sign sign.Open) (token (t.Sign sign.Close) (gives action))) behind_factor
    (l.head ∷ []) xs ys l.is
    (bars_one_next behind_factor name_of rest_of 1 xs ys l.head l.is
    (λ x h. bars_either behind_factor (token (t.Sign sign.Dot) (own_of x)) (gives (column x)) 1 ys
    (bars_token behind_factor (t.Sign sign.Dot) (own_of x) 0 ys
    (λ n. let d : Some (t.Sign sign.Open) ≡ Some (t.Sign sign.Dot) = sym (ap next e) ∙ n in cc d))
    (bars_gives behind_factor (column x) 0 ys (subst (λ u. behind_factor (next u) ≡ false) (sym e) behind_open))))
    (leads_token action_name (token (t.Sign sign.Open) (token (t.Sign sign.Close) (gives action))) behind_factor xs ys
    (l.is ∙ ap (λ u. u ∷ ys) is)))
    (leads_token (t.Sign sign.Open) (token (t.Sign sign.Close) (gives action)) behind_factor ys zs e)).to o r
  where
    is : l.head ≡ action_name
    is = action_is l.head (l.value ∙ ap Some same)

pub called_closed : (zs ws : List Token) (tree : Tree) → zs ≡ t.Sign sign.Close ∷ ws → tree ≡ action →
    Reads (token (t.Sign sign.Close) (gives action)) behind_factor zs (read tree ws)
called_closed zs ws tree e h =
    (leads_token (t.Sign sign.Close) (gives action) behind_factor zs ws e).to (read tree ws)
    (reads_gives action tree behind_factor ws h)

pub called_refused : (n : ℕ) (zs : List Token) → Misses (t.Sign sign.Close) zs → n ≡ length zs →
    Reads (token (t.Sign sign.Close) (gives action)) behind_factor zs (failed (Syntax n))
called_refused n zs m h =
    reads_refused (token (t.Sign sign.Close) (gives action)) behind_factor zs n
    (bars_token behind_factor (t.Sign sign.Close) (gives action) 0 zs m.misses)
    (spelled_token (t.Sign sign.Close) (gives action) (spelled_gives action)) h
