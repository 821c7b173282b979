-- Each statement within the limits has a spelling.
use Rattle.std.proofs.Common.{◌≡◌, ℕ, true, List, [], Some, refl}
use Rattle.pg_parse_stmt.proofs.Common.{list_all, one, Token, is_token, lead_of, is_statement, select, insert, update, delete, merge, transaction, isolation, begin, statement_behind, statement, sentence, StmtTree, Lead}
use Rattle.pg_lexer.specs.declared.keyword.Keyword.TheVariants as k
use Rattle.pg_lexer.specs.declared.token.Token.TheVariants as token_of
use Rattle.pg_parse_stmt.specs.declared.tree.StmtTree.TheVariants as stmt
use Rattle.pg_parse_stmt.specs.declared.word.Lead.TheVariants as lead
use Rattle.pg_parse_stmt.proofs.Writing.{Writes, writes_gives, writes_one, writes_bind, writes_left, writes_right, writes_none}
use Rattle.pg_parse_stmt.proofs.WritingSelects.{writes_select}
use Rattle.pg_parse_stmt.proofs.WritingChanges.{writes_insert, writes_update, writes_delete, writes_merge}
use Rattle.pg_parse_stmt.proofs.WritingCreates.{writes_create_table, writes_create_index}

writes_transaction : (x : StmtTree) → Writes (transaction x) x
unfolding transaction
writes_transaction x = writes_none x _

writes_isolation : (x : StmtTree) → Writes (isolation x) x
unfolding isolation
writes_isolation x = writes_none x _

-- a statement behind its first word
writes_led : (version : ℕ) (t : Token) (l : Lead) (x : StmtTree) → lead_of t ≡ Some l → is_token t ≡ true →
    Writes (statement_behind version l) x → Writes (statement version) x
unfolding statement
writes_led version t l x e a written =
    writes_bind (one lead_of) (statement_behind version) l x (writes_one lead_of t l e a) written

writes_statement : (version : ℕ) (x : StmtTree) → is_statement x ≡ true → Writes (statement version) x
unfolding statement_behind begin lead_of
writes_statement version stmt.Begin h =
    writes_led version (token_of.Keyword k.Begin) lead.Begin stmt.Begin refl refl
    (writes_bind (transaction stmt.Begin) isolation stmt.Begin _ (writes_transaction stmt.Begin)
    (writes_isolation stmt.Begin))
writes_statement version stmt.Commit h =
    writes_led version (token_of.Keyword k.Commit) lead.Commit stmt.Commit refl refl (writes_transaction stmt.Commit)
writes_statement version stmt.Rollback h =
    writes_led version (token_of.Keyword k.Rollback) lead.Rollback stmt.Rollback refl refl
    (writes_transaction stmt.Rollback)
writes_statement version (stmt.Select q) h =
    writes_led version (token_of.Keyword k.Select) lead.Select (stmt.Select q) refl refl
    (writes_bind select _ q _ (writes_select q h) (writes_gives (stmt.Select q)))
writes_statement version (stmt.Insert q) h =
    writes_led version (token_of.Keyword k.Insert) lead.Insert (stmt.Insert q) refl refl
    (writes_bind insert _ q _ (writes_insert q h) (writes_gives (stmt.Insert q)))
writes_statement version (stmt.Update q) h =
    writes_led version (token_of.Keyword k.Update) lead.Update (stmt.Update q) refl refl
    (writes_bind update _ q _ (writes_update q h) (writes_gives (stmt.Update q)))
writes_statement version (stmt.Delete q) h =
    writes_led version (token_of.Keyword k.Delete) lead.Delete (stmt.Delete q) refl refl
    (writes_bind delete _ q _ (writes_delete q h) (writes_gives (stmt.Delete q)))
writes_statement version (stmt.Merge q) h =
    writes_led version (token_of.Keyword k.Merge) lead.Merge (stmt.Merge q) refl refl
    (writes_bind merge _ q _ (writes_merge q h) (writes_gives (stmt.Merge q)))
writes_statement version (stmt.CreateTable q) h =
    writes_led version (token_of.Keyword k.Create) lead.Create (stmt.CreateTable q) refl refl
    (writes_left _ _ _ (writes_create_table q h))
writes_statement version (stmt.CreateIndex q) h =
    writes_led version (token_of.Keyword k.Create) lead.Create (stmt.CreateIndex q) refl refl
    (writes_right _ _ _ (writes_create_index q h))

writes_sentence : (version : ℕ) (x : StmtTree) → is_statement x ≡ true → Writes (sentence version) x
unfolding sentence
writes_sentence version x h = writes_bind (statement version) _ x x (writes_statement version x h) (writes_none x _)

pub each_statement_is_spelled : (version : ℕ) (tree : StmtTree) → is_statement tree ≡ true →
    (tokens : List Token) × (list_all is_token tokens ≡ true) × sentence version (λ k. 0) tokens tree []
each_statement_is_spelled version tree h = (writes_sentence version tree h).writes [] refl
