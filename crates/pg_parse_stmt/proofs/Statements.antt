-- A statement by its first word, and one on a line of its own.
use Rattle.std.proofs.Common.{◌≡◌, ◌∷◌, ℕ, true, false, List, Option, Some, None, Err, Result, refl, sym, subst, not}
use Rattle.pg_parse_stmt.proofs.Common.{Fault, Lang, gives, one, bind, either, Misses, Seen, read, failed, Reads, ReadsWhole, ends, whole_of, Starts, Spelled, starts_gives, starts_token, starts_either, spelled_bind, spelled_left, bars_token, reads_gives, reads_bind_failed, leads_left, reads_narrow, Token, spelling, any, is_word, behind_begin, behind_statement, behind_transaction, word, sign, or_else, committed, isolation, transaction, begin, select, insert, update, delete, merge, create_table, create_index, statement_behind, statement, sentence, spelled_or_else, lead_of, Lead, Select, Insert, Update, Delete, Merge, StmtTree}
use Rattle.pg_parse_stmt.proofs.Forms.{nothing, word_alone, part_then, no_part, made_read, made_failed, spelled_made, one_word, other, there, next_is, left_out, both_left_out, before_any}
use Rattle.pg_lexer.specs.declared.keyword.Keyword.TheVariants as k
use Rattle.pg_lexer.specs.declared.sign.Sign.TheVariants as s
use Rattle.pg_lexer.specs.declared.token.Token.TheVariants as t
use Rattle.pg_parse_stmt.specs.declared.word.Lead.TheVariants as lead
use Rattle.pg_parse_stmt.specs.declared.tree.StmtTree.TheVariants as stmt
use Rattle.pg_grammar.proofs.Sentences.{reads_whole}
use Rattle.pg_parse_stmt.proofs.Lists.{and_left}
use Rattle.pg_parse_stmt.proofs.Steps.{part_read, or_read, or_none}
use Rattle.pg_parse_stmt.proofs.StatementRules.{spelled_select, spelled_update, spelled_delete, spelled_merge, spelled_create_table}
use Rattle.pg_parse_stmt.proofs.InsertRules.{spelled_insert}

-- [WORK | TRANSACTION]
work_goes_on : behind_transaction (Some (t.Keyword k.Work)) ≡ false
unfolding behind_transaction is_word spelling
work_goes_on = refl

transaction_goes_on : behind_transaction (Some (t.Keyword k.Transaction)) ≡ false
unfolding behind_transaction is_word spelling
transaction_goes_on = refl

pub work_read : (x : StmtTree) (xs ys : List Token) → xs ≡ t.Keyword k.Work ∷ ys →
    Reads (transaction x) behind_transaction xs (read x ys)
unfolding transaction
work_read x xs ys e = there (next_is behind_transaction e work_goes_on) (one_word (λ h. cc h) e nothing)

pub transaction_read : (x : StmtTree) (xs ys : List Token) → Misses (t.Keyword k.Work) xs →
    xs ≡ t.Keyword k.Transaction ∷ ys → Reads (transaction x) behind_transaction xs (read x ys)
unfolding transaction
transaction_read x xs ys miss e =
    there (next_is behind_transaction e transaction_goes_on) (other miss (word_alone e))

pub neither_read : (x : StmtTree) (xs : List Token) → Misses (t.Keyword k.Work) xs →
    Misses (t.Keyword k.Transaction) xs → Reads (transaction x) behind_transaction xs (read x xs)
unfolding transaction
neither_read x xs a b = both_left_out a b

-- [ISOLATION LEVEL READ COMMITTED]
isolation_goes_on : behind_begin (Some (t.Keyword k.Isolation)) ≡ false
unfolding behind_begin behind_transaction is_word spelling
isolation_goes_on = refl

isolation_behind : behind_transaction (Some (t.Keyword k.Isolation)) ≡ true
unfolding behind_transaction is_word spelling
isolation_behind = refl

begin_below : (o : Option Token) → behind_begin o ≡ true → behind_transaction o ≡ true
unfolding behind_begin
begin_below o e = and_left (behind_transaction o) (not (is_word k.Isolation o)) e

-- any token may stand behind COMMITTED, so those behind the whole may
pub isolation_on : (x : StmtTree) (xs ys : List Token) (o : Seen Token StmtTree) → xs ≡ t.Keyword k.Isolation ∷ ys →
    Reads (committed x) any ys o → Reads (isolation x) behind_begin xs o
unfolding isolation
isolation_on x xs ys o e r =
    or_read x (t.Keyword k.Isolation) (committed x) behind_begin xs ys o isolation_goes_on e (before_any r)

pub isolation_none : (x : StmtTree) (xs : List Token) → Misses (t.Keyword k.Isolation) xs →
    Reads (isolation x) behind_begin xs (read x xs)
unfolding isolation
isolation_none x xs miss = left_out miss

spelled_isolation : (x : StmtTree) → Spelled (isolation x)
unfolding isolation
spelled_isolation x = spelled_or_else x (word k.Isolation (committed x))

starts_isolation : (x : StmtTree) → Starts behind_transaction (isolation x) behind_begin
unfolding isolation
starts_isolation x =
    starts_either behind_transaction behind_begin (word k.Isolation (committed x)) (gives x)
    (starts_token behind_transaction behind_begin (t.Keyword k.Isolation) (committed x) isolation_behind)
    (starts_gives behind_transaction behind_begin x begin_below)

-- [WORK | TRANSACTION] [ISOLATION LEVEL READ COMMITTED]
pub begin_on : (v : StmtTree) (xs ys : List Token) (o : Seen Token StmtTree) →
    Reads (transaction stmt.Begin) behind_transaction xs (read v ys) → Reads (isolation v) behind_begin ys o →
    Reads begin behind_begin xs o
unfolding begin
begin_on v xs ys o r q =
    part_read (transaction stmt.Begin) isolation behind_transaction behind_begin xs ys v o r starts_isolation q

pub begin_failed : (xs : List Token) (f : Fault) → Reads (transaction stmt.Begin) behind_transaction xs (failed f) →
    Reads begin behind_begin xs (failed f)
unfolding begin
begin_failed xs f r =
    reads_bind_failed
    (transaction stmt.Begin) isolation behind_transaction behind_begin xs f r starts_isolation spelled_isolation

spelled_transaction : (x : StmtTree) → Spelled (transaction x)
unfolding transaction
spelled_transaction x = spelled_or_else x (either (word k.Work (gives x)) (word k.Transaction (gives x)))

spelled_begin : Spelled begin
unfolding begin
spelled_begin = spelled_bind (transaction stmt.Begin) isolation (spelled_transaction stmt.Begin) spelled_isolation

-- a statement of one form
pub select_read : (v : Select) (xs ys : List Token) → Reads select behind_statement xs (read v ys) →
    Reads (bind select (λ x. gives (stmt.Select x))) behind_statement xs (read (stmt.Select v) ys)
select_read v xs ys r = made_read r

pub select_failed : (xs : List Token) (f : Fault) → Reads select behind_statement xs (failed f) →
    Reads (bind select (λ x. gives (stmt.Select x))) behind_statement xs (failed f)
select_failed xs f r = made_failed r

pub insert_read : (v : Insert) (xs ys : List Token) → Reads insert behind_statement xs (read v ys) →
    Reads (bind insert (λ x. gives (stmt.Insert x))) behind_statement xs (read (stmt.Insert v) ys)
insert_read v xs ys r = made_read r

pub insert_failed : (xs : List Token) (f : Fault) → Reads insert behind_statement xs (failed f) →
    Reads (bind insert (λ x. gives (stmt.Insert x))) behind_statement xs (failed f)
insert_failed xs f r = made_failed r

pub update_read : (v : Update) (xs ys : List Token) → Reads update behind_statement xs (read v ys) →
    Reads (bind update (λ x. gives (stmt.Update x))) behind_statement xs (read (stmt.Update v) ys)
update_read v xs ys r = made_read r

pub update_failed : (xs : List Token) (f : Fault) → Reads update behind_statement xs (failed f) →
    Reads (bind update (λ x. gives (stmt.Update x))) behind_statement xs (failed f)
update_failed xs f r = made_failed r

pub delete_read : (v : Delete) (xs ys : List Token) → Reads delete behind_statement xs (read v ys) →
    Reads (bind delete (λ x. gives (stmt.Delete x))) behind_statement xs (read (stmt.Delete v) ys)
delete_read v xs ys r = made_read r

pub delete_failed : (xs : List Token) (f : Fault) → Reads delete behind_statement xs (failed f) →
    Reads (bind delete (λ x. gives (stmt.Delete x))) behind_statement xs (failed f)
delete_failed xs f r = made_failed r

pub merge_read : (v : Merge) (xs ys : List Token) → Reads merge behind_statement xs (read v ys) →
    Reads (bind merge (λ x. gives (stmt.Merge x))) behind_statement xs (read (stmt.Merge v) ys)
merge_read v xs ys r = made_read r

pub merge_failed : (xs : List Token) (f : Fault) → Reads merge behind_statement xs (failed f) →
    Reads (bind merge (λ x. gives (stmt.Merge x))) behind_statement xs (failed f)
merge_failed xs f r = made_failed r

-- CREATE
pub table_on : (xs ys : List Token) (o : Seen Token StmtTree) → xs ≡ t.Keyword k.Table ∷ ys →
    Reads create_table behind_statement xs o →
    Reads (either create_table create_index) behind_statement xs o
unfolding create_index
table_on xs ys o e r =
    (leads_left create_table _ behind_statement xs (bars_token behind_statement (t.Keyword k.Unique) _ 0 xs
    (λ n. cc (e, n)))).to o r

pub index_on : (xs : List Token) (o : Seen Token StmtTree) → Misses (t.Keyword k.Table) xs →
    Reads create_index behind_statement xs o →
    Reads (either create_table create_index) behind_statement xs o
unfolding create_table
index_on xs o miss r = other miss r

-- behind the first word
behind_all : (o : Option Token) → behind_statement o ≡ true → behind_begin o ≡ true
unfolding behind_statement behind_begin behind_transaction is_word
behind_all None e = refl
behind_all (Some (t.Sign s.Semicolon)) e = refl
behind_all (Some _) e = absurd (cc e)

behind_words : (o : Option Token) → behind_statement o ≡ true → behind_transaction o ≡ true
behind_words o e = begin_below o (behind_all o e)

module _ (version : ℕ) (xs : List Token) (o : Seen Token StmtTree) where
  pub behind_begin_word : Reads begin behind_begin xs o →
      Reads (statement_behind version lead.Begin) behind_statement xs o
  unfolding statement_behind
  behind_begin_word r = reads_narrow begin behind_begin behind_statement xs o behind_all r

  pub behind_commit_word : Reads (transaction stmt.Commit) behind_transaction xs o →
      Reads (statement_behind version lead.Commit) behind_statement xs o
  unfolding statement_behind
  behind_commit_word r = reads_narrow (transaction stmt.Commit) behind_transaction behind_statement xs o behind_words r

  pub behind_rollback_word : Reads (transaction stmt.Rollback) behind_transaction xs o →
      Reads (statement_behind version lead.Rollback) behind_statement xs o
  unfolding statement_behind
  behind_rollback_word r =
      reads_narrow (transaction stmt.Rollback) behind_transaction behind_statement xs o behind_words r

  pub behind_select_word : Reads (bind select (λ x. gives (stmt.Select x))) behind_statement xs o →
      Reads (statement_behind version lead.Select) behind_statement xs o
  unfolding statement_behind
  behind_select_word r = r

  pub behind_insert_word : Reads (bind insert (λ x. gives (stmt.Insert x))) behind_statement xs o →
      Reads (statement_behind version lead.Insert) behind_statement xs o
  unfolding statement_behind
  behind_insert_word r = r

  pub behind_update_word : Reads (bind update (λ x. gives (stmt.Update x))) behind_statement xs o →
      Reads (statement_behind version lead.Update) behind_statement xs o
  unfolding statement_behind
  behind_update_word r = r

  pub behind_delete_word : Reads (bind delete (λ x. gives (stmt.Delete x))) behind_statement xs o →
      Reads (statement_behind version lead.Delete) behind_statement xs o
  unfolding statement_behind
  behind_delete_word r = r

  pub behind_merge_word : Reads (bind merge (λ x. gives (stmt.Merge x))) behind_statement xs o →
      Reads (statement_behind version lead.Merge) behind_statement xs o
  unfolding statement_behind
  behind_merge_word r = r

  pub behind_create_word : Reads (either create_table create_index) behind_statement xs o →
      Reads (statement_behind version lead.Create) behind_statement xs o
  unfolding statement_behind
  behind_create_word r = r

spelled_statement_behind : (version : ℕ) (w : Lead) → Spelled (statement_behind version w)
unfolding statement_behind
spelled_statement_behind version lead.Begin = spelled_begin
spelled_statement_behind version lead.Commit = spelled_transaction stmt.Commit
spelled_statement_behind version lead.Rollback = spelled_transaction stmt.Rollback
spelled_statement_behind version lead.Select = spelled_made spelled_select
spelled_statement_behind version lead.Insert = spelled_made spelled_insert
spelled_statement_behind version lead.Update = spelled_made spelled_update
spelled_statement_behind version lead.Delete = spelled_made spelled_delete
spelled_statement_behind version lead.Merge = spelled_made spelled_merge
spelled_statement_behind version lead.Create = spelled_left create_table create_index spelled_create_table

-- a statement
pub statement_on : (version : ℕ) (w : Lead) (xs ys : List Token) (o : Seen Token StmtTree) →
    Reads (one lead_of) any xs (read w ys) →
    Reads (statement_behind version w) behind_statement ys o → Reads (statement version) behind_statement xs o
unfolding statement
statement_on version w xs ys o r q = part_then r q

pub statement_failed : (version : ℕ) (xs : List Token) (f : Fault) → Reads (one lead_of) any xs (failed f) →
    Reads (statement version) behind_statement xs (failed f)
unfolding statement
statement_failed version xs f r = no_part (spelled_statement_behind version) r

-- one `;` may end it
closed : StmtTree → Lang Token StmtTree
closed x = or_else x (sign s.Semicolon (gives x))

ends_below : (o : Option Token) → ends o ≡ true → behind_statement o ≡ true
unfolding behind_statement
ends_below None e = refl
ends_below (Some _) e = absurd (cc e)

semicolon_behind : behind_statement (Some (t.Sign s.Semicolon)) ≡ true
unfolding behind_statement
semicolon_behind = refl

starts_closed : (x : StmtTree) → Starts behind_statement (closed x) ends
unfolding closed
starts_closed x =
    starts_either behind_statement ends (sign s.Semicolon (gives x)) (gives x)
    (starts_token behind_statement ends (t.Sign s.Semicolon) (gives x) semicolon_behind)
    (starts_gives behind_statement ends x ends_below)

spelled_closed : (x : StmtTree) → Spelled (closed x)
unfolding closed
spelled_closed x = spelled_or_else x (sign s.Semicolon (gives x))

sentence_on : (version : ℕ) (v : StmtTree) (xs ys : List Token) (o : Seen Token StmtTree) →
    Reads (statement version) behind_statement xs (read v ys) → Reads (closed v) ends ys o → Reads
    (sentence version) ends xs o
unfolding sentence closed
sentence_on version v xs ys o r q =
    part_read (statement version) closed behind_statement ends xs ys v o r starts_closed q

pub sentence_closed : (version : ℕ) (v : StmtTree) (xs ys zs : List Token) →
    Reads (statement version) behind_statement xs (read v ys) →
    ys ≡ t.Sign s.Semicolon ∷ zs → Reads (sentence version) ends xs (read v zs)
unfolding closed
sentence_closed version v xs ys zs r e =
    sentence_on version v xs ys (read v zs) r
    (or_read v (t.Sign s.Semicolon) (gives v) ends ys zs (read v zs) refl e (reads_gives v v ends zs refl))

pub sentence_open : (version : ℕ) (v : StmtTree) (xs ys : List Token) →
    Reads (statement version) behind_statement xs (read v ys) →
    Misses (t.Sign s.Semicolon) ys → Reads (sentence version) ends xs (read v ys)
unfolding closed
sentence_open version v xs ys r miss =
    sentence_on version v xs ys (read v ys) r (or_none v (t.Sign s.Semicolon) (gives v) ends ys miss)

pub sentence_failed : (version : ℕ) (xs : List Token) (f : Fault) →
    Reads (statement version) behind_statement xs (failed f) →
    Reads (sentence version) ends xs (failed f)
unfolding sentence closed
sentence_failed version xs f r =
    reads_bind_failed (statement version) closed behind_statement ends xs f r starts_closed spelled_closed

-- all of the tokens
pub whole_read : (version : ℕ) (v : StmtTree) (xs ys : List Token) (o : Result StmtTree Fault) →
    Reads (sentence version) ends xs (read v ys) →
    o ≡ whole_of (read v ys) → ReadsWhole (sentence version) xs o
whole_read version v xs ys o r e =
    subst (λ x. ReadsWhole (sentence version) xs x) (sym e) (reads_whole (sentence version) ends xs (read v ys) refl r)

pub whole_failed : (version : ℕ) (xs : List Token) (f : Fault) → Reads (sentence version) ends xs (failed f) →
    ReadsWhole (sentence version) xs (Err f)
whole_failed version xs f r = reads_whole (sentence version) ends xs (failed f) refl r

-- what a statement answers, by its first word
pub ruleset leads = (behind_begin_word, behind_commit_word, behind_rollback_word, behind_select_word, behind_insert_word, behind_update_word, behind_delete_word, behind_merge_word, behind_create_word)
