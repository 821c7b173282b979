-- Names of tables, and what stands behind them.
use Rattle.std.proofs.Common.{◌≡◌, ◌≤◌, ◌∷◌, ℕ, suc, Bool, true, false, List, [], length, Option, Some, None, refl, sym, ap, ◌∙◌, arith, not, is_some}
use Rattle.pg_parse_stmt.proofs.Common.{false≢true, Fault, Syntax, Many, sources, gives, one, bind, next, Lacks, Misses, Seen, read, failed, Reads, Starts, Spelled, starts_token, starts_one, starts_either, spelled_bind, spelled_reaches, begun_bind, begun_one, bars_one, bars_bind, bars_from, bars_reaches, reads_refused, reads_over, leads_reaches, Token, has, name_of, TableRef, any, begins_alias, behind_table, word, optional, name, alias, table_named, table_ref, table_source, spelled_name, spelled_optional, bare_name_of}
use Rattle.pg_parse_stmt.proofs.Forms.{nothing, word_then, left_side, right_side, part_then, no_part, made_read, made_failed, spelled_made, other, there, before_any}
use Rattle.pg_lexer.specs.declared.keyword.Keyword.TheVariants as k
use Rattle.pg_lexer.specs.declared.token.Token.TheVariants as t
use Rattle.pg_parse_stmt.proofs.Lists.{starts_any}

as_is_no_name : (u : Token) (x : List ℕ) → u ≡ t.Keyword k.As → bare_name_of u ≡ Some x → ⊥
unfolding bare_name_of
as_is_no_name u x e h = let o : None ≡ Some x = sym (ap bare_name_of e) ∙ h in cc o

pub alias_as : (xs ys : List Token) (o : Seen Token (List ℕ)) → xs ≡ t.Keyword k.As ∷ ys → Reads name any ys o →
    Reads alias any xs o
unfolding alias
alias_as xs ys o e r =
    left_side (bars_one any bare_name_of 0 xs (λ u x n h. as_is_no_name u x (cc (ap next e, n)) h)) (word_then e r)

pub alias_bare : (xs : List Token) (o : Seen Token (List ℕ)) → Misses (t.Keyword k.As) xs →
    Reads (one bare_name_of) any xs o → Reads alias any xs o
unfolding alias
alias_bare xs o miss r = other miss r

opens_alias : Option Token → Bool
opens_alias o = not (behind_table o)

opens_as : opens_alias (Some (t.Keyword k.As)) ≡ true
unfolding opens_alias behind_table begins_alias
opens_as = refl

opens_bare : (u : Token) (x : List ℕ) → bare_name_of u ≡ Some x → opens_alias (Some u) ≡ true
unfolding opens_alias behind_table begins_alias bare_name_of
opens_bare (t.Name _) x e = refl
opens_bare (t.Keyword _) x e = absurd (let o : None ≡ Some x = e in cc o)
opens_bare (t.Sign _) x e = absurd (let o : None ≡ Some x = e in cc o)
opens_bare (t.Integer _) x e = absurd (let o : None ≡ Some x = e in cc o)
opens_bare (t.Quoted _) x e = absurd (let o : None ≡ Some x = e in cc o)

starts_alias : (g : Option Token → Bool) → Starts opens_alias alias g
unfolding alias
starts_alias g =
    starts_either opens_alias g (word k.As name) (one bare_name_of)
    (starts_token opens_alias g (t.Keyword k.As) name opens_as)
    (starts_one opens_alias g bare_name_of opens_bare)

not_false : (b : Bool) → true ≡ not b → b ≡ false
not_false false e = refl
not_false true e = absurd (false≢true (sym e))

pub alias_written : (xs ys : List Token) (v : List ℕ) → true ≡ not (behind_table (next xs)) →
    Reads alias any xs (read v ys) →
    Reads (optional alias) behind_table xs (read (Some v) ys)
alias_written xs ys v h r =
    there (not_false (behind_table (next xs)) h) (made_read (before_any r))

pub alias_failed : (xs : List Token) (e : Fault) → true ≡ not (behind_table (next xs)) → Reads alias any xs (failed e) →
    Reads (optional alias) behind_table xs (failed e)
alias_failed xs e h r =
    there (not_false (behind_table (next xs)) h) (made_failed (before_any r))

pub alias_left_out : (xs : List Token) → false ≡ not (behind_table (next xs)) →
    Reads (optional alias) behind_table xs (read None xs)
unfolding opens_alias
alias_left_out xs h =
    right_side (bars_bind any behind_table alias (λ v. gives (Some v)) 1 xs
    (bars_from opens_alias any alias 0 xs (starts_alias any) (sym h)) (λ v. starts_any (gives (Some v)) behind_table))
    nothing

pub spelled_named : (n : List ℕ) → Spelled (table_named n)
unfolding table_named
spelled_named n = spelled_made (spelled_optional alias)

pub named_read : (n : List ℕ) (xs ys : List Token) (a : Option (List ℕ)) →
    Reads (optional alias) behind_table xs (read a ys) →
    Reads (table_named n) behind_table xs (read (record { name = n; alias = a }) ys)
unfolding table_named
named_read n xs ys a r = made_read r

pub named_failed : (n : List ℕ) (xs : List Token) (e : Fault) → Reads (optional alias) behind_table xs (failed e) →
    Reads (table_named n) behind_table xs (failed e)
unfolding table_named
named_failed n xs e r = made_failed r

pub table_read : (xs ys : List Token) (n : List ℕ) (o : Seen Token TableRef) → Reads name any xs (read n ys) →
    Reads (table_named n) behind_table ys o →
    Reads table_ref behind_table xs o
unfolding table_ref
table_read xs ys n o r q = part_then r q

pub table_failed : (xs : List Token) (e : Fault) → Reads name any xs (failed e) →
    Reads table_ref behind_table xs (failed e)
unfolding table_ref
table_failed xs e r = no_part spelled_named r

pub table_fits : (n : ℕ) (xs ys : List Token) (v : TableRef) → suc n ≤ 8 → Reads table_ref behind_table xs (read v ys) →
    Reads (table_source n) behind_table xs (read v ys)
unfolding table_source
table_fits n xs ys v le r = (leads_reaches sources (suc n) table_ref behind_table xs le).to (read v ys) r

pub table_fails : (n : ℕ) (xs : List Token) (f : Fault) → suc n ≤ 8 → Reads table_ref behind_table xs (failed f) →
    Reads (table_source n) behind_table xs (failed f)
unfolding table_source
table_fails n xs f le r = (leads_reaches sources (suc n) table_ref behind_table xs le).to (failed f) r

pub some_name : (u : Token) (o : Option (List ℕ)) → name_of u ≡ o → true ≡ is_some o →
    (v : List ℕ) × (name_of u ≡ Some v)
some_name u (Some v) e h = (v, e)
some_name u None e h = absurd (false≢true (sym h))

no_value : (u : Token) (o : Option (List ℕ)) (v : List ℕ) → name_of u ≡ o → false ≡ is_some o → name_of u ≡ Some v → ⊥
no_value u (Some w) v e h i = false≢true h
no_value u None v e h i = let n : None ≡ Some v = sym e ∙ i in cc n

pub no_name_first : (xs : List Token) → false ≡ has name_of (next xs) → Lacks name_of xs
unfolding has
no_name_first [] h = record { lacks = λ u v n g. let o : None ≡ Some u = n in cc o }
no_name_first (x ∷ xs) h = record {
  lacks = λ u v n g.
      let s : Some x ≡ Some u = n in
      let same : x ≡ u = cc s in
      no_value x (name_of x) v refl h (ap name_of same ∙ g);
}

pub table_ninth : (n : ℕ) (xs : List Token) (l : ℕ) → 8 ≤ n → true ≡ has name_of (next xs) → l ≡ length xs →
    Reads (table_source n) behind_table xs (failed (Many l))
unfolding table_source table_ref name has
table_ninth n [] l le h q = absurd (false≢true (sym h))
table_ninth n (u ∷ ys) l le h q =
    let v = some_name u (name_of u) refl h in
    reads_over sources (suc n) (bind (one name_of) table_named) behind_table (u ∷ ys) ys u l (omega (arith, le)) refl
    (begun_bind u (one name_of) table_named (begun_one name_of u v.0 v.1) spelled_named) q

pub table_no_name : (n : ℕ) (xs : List Token) (l : ℕ) → false ≡ has name_of (next xs) → l ≡ length xs →
    Reads (table_source n) behind_table xs (failed (Syntax l))
unfolding table_source table_ref name
table_no_name n xs l h q =
    let lacks = no_name_first xs h in
    reads_refused (table_source n) behind_table xs l
    (bars_reaches behind_table sources (suc n) (bind (one name_of) table_named) 1 xs
    (bars_bind any behind_table (one name_of) table_named 1 xs
    (bars_one any name_of 0 xs (λ u y a b. lacks.lacks u y a b)) (λ u. starts_any (table_named u) behind_table)))
    (spelled_reaches sources (suc n) (bind (one name_of) table_named)
    (spelled_bind (one name_of) table_named spelled_name spelled_named)) q

pub spelled_table_ref : Spelled table_ref
unfolding table_ref
spelled_table_ref = spelled_bind name table_named spelled_name spelled_named
