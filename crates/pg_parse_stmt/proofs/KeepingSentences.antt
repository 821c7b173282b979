-- Each statement that is read is within the limits.
use Rattle.std.proofs.Common.{◌≡◌, ℕ, true, List, [], refl}
use Rattle.pg_parse_stmt.proofs.Common.{list_all, Token, is_token, is_statement, transaction, committed, isolation, begin, statement_behind, statement, sentence, StmtTree, Lead}
use Rattle.pg_parse_stmt.specs.declared.tree.StmtTree.TheVariants as stmt
use Rattle.pg_parse_stmt.specs.declared.word.Lead.TheVariants as lead
use Rattle.pg_parse_stmt.proofs.Keeping.{free_one, Reading, reading_gives, reading_word, reading_sign, reading_bind, reading_either}
use Rattle.pg_parse_stmt.proofs.KeepingStatements.{reading_select, reading_insert, reading_update, reading_delete, reading_merge}
use Rattle.pg_parse_stmt.proofs.KeepingCreates.{reading_create_table, reading_create_index}

reading_transaction : (x : StmtTree) → is_statement x ≡ true → Reading (transaction x) is_statement
unfolding transaction
reading_transaction x h =
    reading_either (reading_either (reading_word (reading_gives h)) (reading_word (reading_gives h))) (reading_gives h)

reading_isolation : (x : StmtTree) → is_statement x ≡ true → Reading (isolation x) is_statement
unfolding isolation committed
reading_isolation x h =
    reading_either (reading_word (reading_word (reading_word (reading_word (reading_gives h))))) (reading_gives h)

reading_statement_behind : (version : ℕ) (l : Lead) → Reading (statement_behind version l) is_statement
unfolding statement_behind begin
reading_statement_behind version lead.Begin = reading_bind (reading_transaction stmt.Begin refl) reading_isolation
reading_statement_behind version lead.Commit = reading_transaction stmt.Commit refl
reading_statement_behind version lead.Rollback = reading_transaction stmt.Rollback refl
reading_statement_behind version lead.Select = reading_bind reading_select (λ x h. reading_gives h)
reading_statement_behind version lead.Insert = reading_bind reading_insert (λ x h. reading_gives h)
reading_statement_behind version lead.Update = reading_bind reading_update (λ x h. reading_gives h)
reading_statement_behind version lead.Delete = reading_bind reading_delete (λ x h. reading_gives h)
reading_statement_behind version lead.Merge = reading_bind reading_merge (λ x h. reading_gives h)
reading_statement_behind version lead.Create = reading_either reading_create_table reading_create_index

reading_sentence : (version : ℕ) → Reading (sentence version) is_statement
unfolding sentence statement
reading_sentence version =
    reading_bind (reading_bind free_one (λ l u. reading_statement_behind version l))
    (λ x h. reading_either (reading_sign (reading_gives h)) (reading_gives h))

pub each_statement_is_within : (version : ℕ) (tokens : List Token) (tree : StmtTree) → list_all is_token tokens ≡ true →
    sentence version (λ k. 0) tokens tree [] → is_statement tree ≡ true
each_statement_is_within version tokens tree a l = ((reading_sentence version).keeps tokens tree [] a l).0
