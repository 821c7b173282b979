-- Items: a star, and all of a source.
use Rattle.std.proofs.Common.{◌≡◌, ◌∷◌, ◌++◌, ◌+◌, ℕ, suc, false, List, [], length, Option, Some, None, refl, sym, ap, ◌∙◌, arith, subst}
use Rattle.pg_parse_stmt.proofs.Common.{Fault, Syntax, Lang, Took, gives, token, one, bind, either, next, read, failed, Reads, Starts, Bars, starts_gives, starts_bind, bars_token, bars_one, bars_bind, bars_gives, reads_gives, reads_one, leads_left, leads_right, Token, behind_factor, behind_expr, expr, name_of, Tree, any, behind_item, word, sign, optional, Deep, Many, Memory, Limit, nodes, sources, IsRead, IsFault, bars_reaches, bars_either, bars_token_next, bars_one_next, Sign, reads_left_by, may_be_name, Not, named, called, leaf, value_of, literal_of, action_name, column, column_of, action, Dotted, BeginsAllOf, name, as_name, all_of, named_expr, item, Item}
use Rattle.pg_lexer.specs.declared.keyword.Keyword.TheVariants as k
use Rattle.pg_lexer.specs.declared.sign.Sign.TheVariants as s
use Rattle.pg_lexer.specs.declared.token.Token.TheVariants as t
use Rattle.pg_parse_stmt.specs.declared.tree.Item.TheVariants as item_of
use Rattle.pg_parse_stmt.proofs.Lists.{starts_any}
use Rattle.pg_parse_stmt.proofs.Steps.{word_read, part_read, starts_optional}
use Rattle.pg_parse_stmt.proofs.Naming.{behind_item_behind_expr}
use Rattle.pg_parse_stmt.proofs.Following.{as_behind_expr}
use Rattle.pg_parse_stmt.proofs.Barring.{bars_expr}

named_behind : Tree → Lang Token Item
named_behind e = bind as_name (λ n. gives (item_of.Expr e n))

starts_behind : (e : Tree) → Starts behind_expr (named_behind e) behind_item
unfolding named_behind as_name
starts_behind e =
    starts_bind behind_expr behind_expr behind_item (optional (word k.As name)) (λ n. gives (item_of.Expr e n))
    (starts_optional (t.Keyword k.As) name behind_expr as_behind_expr)
    (λ n. starts_gives behind_expr behind_item (item_of.Expr e n) behind_item_behind_expr)

bars_named_expr : (j : ℕ) (xs : List Token) → Bars expr behind_expr j xs → Bars named_expr behind_item j xs
unfolding named_expr named_behind
bars_named_expr j xs b = bars_bind behind_expr behind_item expr named_behind j xs b starts_behind

-- "*"
star_no_literal : (u : Token) (x : Tree) → u ≡ t.Sign s.Star → literal_of u ≡ Some x → ⊥
unfolding literal_of value_of
star_no_literal u x e h = let o : None ≡ Some x = sym (ap literal_of e) ∙ h in cc o

star_no_name : (u : Token) (x : List ℕ) → u ≡ t.Sign s.Star → name_of u ≡ Some x → ⊥
unfolding name_of
star_no_name u x e h = let o : None ≡ Some x = sym (ap name_of e) ∙ h in cc o

first_is : (xs ys : List Token) (u w : Token) → xs ≡ w ∷ ys → next xs ≡ Some u → u ≡ w
first_is xs ys u w e n = cc (e, n)

after_name : List ℕ → Lang Token Tree
after_name name =
    either (token (t.Sign s.Dot) (bind (one name_of) (λ own. gives (column_of name own)))) (gives (column name))

star_leaf : (xs ys : List Token) (d : ℕ) → xs ≡ t.Sign s.Star ∷ ys → Bars (leaf d) behind_factor 1 xs
unfolding leaf called named after_name
star_leaf xs ys d e =
    bars_reaches behind_factor nodes (suc d) (either (one literal_of) (either called named)) 1 xs
    (bars_either behind_factor (one literal_of) (either called named) 1 xs
    (bars_one behind_factor literal_of 0 xs (λ u x n h. star_no_literal u x (first_is xs ys u (t.Sign s.Star) e n) h))
    (bars_either behind_factor called named 1 xs
    (bars_token behind_factor action_name (token (t.Sign s.Open) (token (t.Sign s.Close) (gives action))) 0 xs
    (λ n. cc (n, e)))
    (bars_bind any behind_factor (one name_of) after_name 1 xs
    (bars_one any name_of 0 xs (λ u x n h. star_no_name u x (first_is xs ys u (t.Sign s.Star) e n) h))
    (λ x. starts_any (after_name x) behind_factor))))

unfoldable pub all_behind : List ℕ → Lang Token Item
all_behind n = sign s.Dot (sign s.Star (gives (item_of.AllOf n)))

pub item_all : (xs ys : List Token) → xs ≡ t.Sign s.Star ∷ ys → Reads item behind_item xs (read item_of.All ys)
unfolding item all_of all_behind name
item_all xs ys e =
    (leads_left (sign s.Star (gives item_of.All)) (either all_of named_expr) behind_item xs
    (bars_either behind_item all_of named_expr 1 xs
    (bars_bind any behind_item (one name_of) all_behind 1 xs
    (bars_one any name_of 0 xs (λ u x n h. star_no_name u x (first_is xs ys u (t.Sign s.Star) e n) h))
    (λ x. starts_any (all_behind x) behind_item))
    (bars_named_expr 1 xs (bars_expr 0 xs (λ n. cc (n, e)) (λ n. cc (n, e)) (λ n. cc (n, e))
    (λ d. star_leaf xs ys d e))))).to (read item_of.All ys)
    (word_read (t.Sign s.Star) (gives item_of.All) behind_item xs ys (read item_of.All ys) e
    (reads_gives item_of.All item_of.All behind_item ys refl))

-- name "." "*"
name_no_literal : (u : Token) (n : List ℕ) (x : Tree) → name_of u ≡ Some n → literal_of u ≡ Some x → ⊥
unfolding name_of literal_of value_of may_be_name
name_no_literal (t.Name _) n x e h = let o : None ≡ Some x = h in cc o
name_no_literal (t.Sign _) n x e h = let o : None ≡ Some n = e in cc o
name_no_literal (t.Integer _) n x e h = let o : None ≡ Some n = e in cc o
name_no_literal (t.Quoted _) n x e h = let o : None ≡ Some n = e in cc o
name_no_literal (t.Keyword k.True) n x e h = let o : None ≡ Some n = e in cc o
name_no_literal (t.Keyword k.False) n x e h = let o : None ≡ Some n = e in cc o
name_no_literal (t.Keyword k.Null) n x e h = let o : None ≡ Some n = e in cc o
name_no_literal (t.Keyword _) n x e h = let o : None ≡ Some x = h in cc o

sign_no_name : (u : Token) (n : List ℕ) (c : Sign) → name_of u ≡ Some n → u ≡ t.Sign c → ⊥
unfolding name_of
sign_no_name u n c e h = let o : None ≡ Some n = sym (ap name_of h) ∙ e in cc o

not_no_name : (u : Token) (n : List ℕ) → name_of u ≡ Some n → u ≡ t.Keyword k.Not → ⊥
unfolding name_of may_be_name
not_no_name u n e h = let o : None ≡ Some n = sym (ap name_of h) ∙ e in cc o

dot_on : behind_factor (Some (t.Sign s.Dot)) ≡ false
unfolding behind_factor
dot_on = refl

module _ (xs ys : List Token) (u : Token) (n : List ℕ) (e : xs ≡ u ∷ t.Sign s.Dot ∷ t.Sign s.Star ∷ ys)
    (h : name_of u ≡ Some n) where
  dots : List Token
  dots = t.Sign s.Dot ∷ t.Sign s.Star ∷ ys

  stars : List Token
  stars = t.Sign s.Star ∷ ys

  bars_after : (x : List ℕ) → Bars (after_name x) behind_factor 2 dots
  unfolding after_name dots stars
  bars_after x =
      bars_either behind_factor (token (t.Sign s.Dot) (bind (one name_of) (λ own. gives (column_of x own))))
      (gives (column x)) 2 dots
      (bars_token_next behind_factor (t.Sign s.Dot) (bind (one name_of)
      (λ own. gives (column_of x own))) 1 dots stars refl
      (bars_bind any behind_factor (one name_of) (λ own. gives (column_of x own)) 1 stars
      (bars_one any name_of 0 stars (λ w y a b. star_no_name w y (first_is stars ys w (t.Sign s.Star) refl a) b))
      (λ own. starts_any (gives (column_of x own)) behind_factor)))
      (bars_gives behind_factor (column x) 1 dots dot_on)

  called_next : Bars called behind_factor 3 xs
  unfolding called dots
  called_next = record { bars = λ m w v z q l c. cc (q, e, l.1, l.2.1) }

  dots_leaf : (d : ℕ) → Bars (leaf d) behind_factor 3 xs
  unfolding leaf named after_name dots
  dots_leaf d =
      bars_reaches behind_factor nodes (suc d) (either (one literal_of) (either called named)) 3 xs
      (bars_either behind_factor (one literal_of) (either called named) 3 xs
      (bars_one behind_factor literal_of 2 xs (λ w x a b. name_no_literal u n x h
      (subst (λ q. literal_of q ≡ Some x) (first_is xs dots w u e a) b)))
      (bars_either behind_factor called named 3 xs called_next
      (bars_one_next behind_factor name_of after_name 2 xs dots u e (λ x g. bars_after x))))

  dots_expr : Bars named_expr behind_item 3 xs
  unfolding dots
  dots_expr =
      bars_named_expr 3 xs
      (bars_expr 2 xs (λ a. sign_no_name u n s.Minus h (cc (e, a))) (λ a. sign_no_name u n s.Open h (cc (e, a)))
      (λ a. not_no_name u n h (cc (e, a))) dots_leaf)

  reads_all_of : Reads all_of behind_item xs (read (item_of.AllOf n) ys)
  unfolding all_of all_behind name dots stars
  reads_all_of =
      part_read (one name_of) all_behind any behind_item xs dots n (read (item_of.AllOf n) ys)
      (reads_one name_of any xs dots u n e h) (λ x. starts_any (all_behind x) behind_item)
      (word_read (t.Sign s.Dot) (sign s.Star (gives (item_of.AllOf n))) behind_item dots stars
      (read (item_of.AllOf n) ys) refl
      (word_read (t.Sign s.Star) (gives (item_of.AllOf n)) behind_item stars ys (read (item_of.AllOf n) ys) refl
      (reads_gives (item_of.AllOf n) (item_of.AllOf n) behind_item ys refl)))

  item_dots : Reads item behind_item xs (read (item_of.AllOf n) ys)
  unfolding item
  item_dots =
      (leads_right (sign s.Star (gives item_of.All)) (either all_of named_expr) behind_item xs
      (bars_token behind_item (t.Sign s.Star) (gives item_of.All) 0 xs (λ a. sign_no_name u n s.Star h (cc (e, a))))).to
      (read (item_of.AllOf n) ys)
      (reads_left_by 3 all_of named_expr behind_item xs (read (item_of.AllOf n) ys) dots_expr
      (let l = ap length e in omega (arith, l)) reads_all_of)

name_value : (xs ys zs : List Token) (u : Token) (n v : List ℕ) → xs ≡ u ∷ ys → name_of u ≡ Some n →
    Reads (one name_of) any xs (read v zs) → n ≡ v
name_value xs ys zs u n v e h r =
    let i : IsRead (one name_of) any xs v zs = r.is in
    let w : Took name_of (i.front ++ zs) v zs = i.spelled (λ k. 0) zs in
    let same : u ≡ w.head = cc (e, i.split, w.is) in
    let value : Some n ≡ Some v = sym h ∙ (ap name_of same ∙ w.value) in
    cc value

name_no_fault : (xs ys : List Token) (u w : Token) (n : List ℕ) (over : Option Limit) (l : ℕ) → xs ≡ u ∷ w ∷ ys →
    name_of u ≡ Some n → IsFault over (one name_of) any xs l → ⊥
name_no_fault xs ys u w n over l e h r = go r.front refl
  where
    go : (f : List Token) → r.front ≡ f → ⊥
    go [] q =
        let at : xs ≡ r.rest = r.split ∙ ap (λ x. x ++ r.rest) q in
        let word : Took name_of (r.front ++ (u ∷ [])) n [] = subst (λ x. Took name_of (x ++ (u ∷ [])) n []) (sym q)
        (record { head = u; is = refl; value = h }) in
        r.none (λ k. 0) (u ∷ []) [] n (λ k o. omega arith) (sym (ap next e) ∙ ap next at) word refl
    go (a ∷ []) q =
        let at : xs ≡ a ∷ r.rest = r.split ∙ ap (λ x. x ++ r.rest) q in
        let same : u ≡ a = cc (at, e) in
        let behind : w ∷ ys ≡ r.rest = cc (at, e) in
        let word : Took name_of (r.front ++ (w ∷ ys)) n (w ∷ ys) =
        subst (λ x. Took name_of (x ++ (w ∷ ys)) n (w ∷ ys)) (ap (λ x. x ∷ []) same ∙ sym q) (record {
          head =
              u;
          is = refl;
          value = h;
        }) in
        r.none (λ k. 0) (w ∷ ys) (w ∷ ys) n (λ k o. omega arith) (ap next behind) word refl
    go (a ∷ b ∷ f) q =
        let word : Took name_of (r.front ++ (r.tail ++ [])) r.value [] = r.completed (λ k. length (r.tail ++ [])) []
        (λ k. omega arith) in
        let at : a ∷ b ∷ (f ++ (r.tail ++ [])) ≡ word.head ∷ [] = ap (λ x. x ++ (r.tail ++ [])) (sym q) ∙ word.is in
        cc at

pub item_all_of : (xs ys zs : List Token) (v : List ℕ) → BeginsAllOf xs ys → Reads name any xs (read v zs) →
    Reads item behind_item xs (read (item_of.AllOf v) ys)
unfolding name
item_all_of xs ys zs v b r =
    subst (λ x. Reads item behind_item xs (read (item_of.AllOf x) ys))
    (name_value xs (t.Sign s.Dot ∷ t.Sign s.Star ∷ ys) zs b.head b.name v b.is b.named r)
    (item_dots xs ys b.head b.name b.is b.named)

pub item_no_name : (xs ys : List Token) (f : Fault) → BeginsAllOf xs ys → Reads name any xs (failed f) →
    Reads item behind_item xs (failed f)
unfolding name
item_no_name xs ys (Syntax l) b r =
    absurd (name_no_fault xs (t.Sign s.Star ∷ ys) b.head (t.Sign s.Dot) b.name None l b.is b.named r.is)
item_no_name xs ys (Deep l) b r =
    absurd (name_no_fault xs (t.Sign s.Star ∷ ys) b.head (t.Sign s.Dot) b.name (Some nodes) l b.is b.named r.is)
item_no_name xs ys (Many l) b r =
    absurd (name_no_fault xs (t.Sign s.Star ∷ ys) b.head (t.Sign s.Dot) b.name (Some sources) l b.is b.named r.is)
item_no_name xs ys Memory b r = record { is = tt }

pub item_begins : (xs ys zs : List Token) → Dotted xs ys → ys ≡ t.Sign s.Star ∷ zs → BeginsAllOf xs zs
item_begins xs ys zs d e = record { head = d.head; name = d.name; is = cc (d.is, e); named = d.named }
