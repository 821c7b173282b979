-- One reading of statements: a list of tokens is at most one.
use Rattle.std.proofs.Common.{◌≡◌, ℕ, true, List, [], Option, Some, None, refl}
use Rattle.pg_parse_stmt.proofs.Common.{ends, Lang, gives, one, Limit, Agree, agree_gives, agree_token, agree_one, agree_less, Starts, starts_gives, starts_token, starts_either, Token, any, behind_statement, select, insert, update, delete, merge, create_table, create_index, transaction, committed, isolation, begin, statement_behind, statement, sentence, lead_of, StmtTree, Lead, rank, behind}
use Rattle.pg_lexer.specs.declared.keyword.Keyword.TheVariants as k
use Rattle.pg_lexer.specs.declared.sign.Sign.TheVariants as s
use Rattle.pg_lexer.specs.declared.token.Token.TheVariants as t
use Rattle.pg_parse_stmt.specs.declared.tree.StmtTree.TheVariants as stmt
use Rattle.pg_parse_stmt.specs.declared.word.Lead.TheVariants as lead
use Rattle.pg_parse_stmt.proofs.Agreements.{outside, Single, loosened, starts_or_at, apart_words, agree_then, agree_free, agree_made, agree_choice, agree_words, agree_or, agree_or_word}
use Rattle.pg_parse_stmt.proofs.Follows.{statement_behind as behind_level}
use Rattle.pg_parse_stmt.proofs.StatementRules.{agree_select, agree_update, agree_delete, agree_merge, agree_create_table, agree_create_index}
use Rattle.pg_parse_stmt.proofs.InsertRules.{agree_insert}

-- BEGIN, COMMIT and ROLLBACK
agree_transaction : (x : StmtTree) → Single 17 (transaction x)
unfolding transaction rank
agree_transaction x =
    agree_or (behind 17) x _
    (agree_words (behind 17) (t.Keyword k.Work) (t.Keyword k.Transaction) _ _ (λ e. cc e) (agree_gives (behind 17) x)
    (agree_gives (behind 17) x))
    (starts_either (outside (behind 17)) (behind 17) _ _ (starts_token (outside (behind 17)) (behind 17)
    (t.Keyword k.Work) _ refl)
    (starts_token (outside (behind 17)) (behind 17) (t.Keyword k.Transaction) _ refl))

agree_isolation : (x : StmtTree) → Single 18 (isolation x)
unfolding isolation committed rank
agree_isolation x =
    agree_or_word (behind 18) x (t.Keyword k.Isolation) _ refl
    (agree_token (behind 18) (t.Keyword k.Level) _ _ (agree_token (behind 18) (t.Keyword k.Read) _ _
    (agree_token (behind 18) (t.Keyword k.Committed) _ _ (agree_gives (behind 18) x))))

starts_isolation : (x : StmtTree) → Starts (behind 17) (isolation x) (behind 18)
unfolding isolation rank
starts_isolation x = starts_or_at 17 18 x (t.Keyword k.Isolation) _ refl refl

agree_begin : Single 18 begin
unfolding begin
agree_begin =
    agree_then (behind 17) (behind 18) (transaction stmt.Begin) isolation
    (agree_transaction stmt.Begin) agree_isolation starts_isolation

-- statements
at_end : {L : Lang Token StmtTree} → Single 18 L → Agree L L behind_statement
at_end {L} a = agree_less (behind 18) behind_statement L L (behind_level 18 refl) a

agree_statement_behind : (version : ℕ) (w : Lead) →
    Agree (statement_behind version w) (statement_behind version w) behind_statement
unfolding statement_behind create_table create_index
agree_statement_behind version lead.Begin = at_end agree_begin
agree_statement_behind version lead.Commit = at_end (loosened 17 18 _ refl (agree_transaction stmt.Commit))
agree_statement_behind version lead.Rollback = at_end (loosened 17 18 _ refl (agree_transaction stmt.Rollback))
agree_statement_behind version lead.Select = agree_made behind_statement select _ agree_select
agree_statement_behind version lead.Insert = agree_made behind_statement insert _ agree_insert
agree_statement_behind version lead.Update = agree_made behind_statement update _ agree_update
agree_statement_behind version lead.Delete = agree_made behind_statement delete _ agree_delete
agree_statement_behind version lead.Merge = agree_made behind_statement merge _ agree_merge
agree_statement_behind version lead.Create =
    agree_choice behind_statement create_table create_index agree_create_table agree_create_index
    (apart_words behind_statement (t.Keyword k.Table) (t.Keyword k.Unique) _ _ (λ e. cc e))

agree_statement : (version : ℕ) → Agree (statement version) (statement version) behind_statement
unfolding statement
agree_statement version =
    agree_free behind_statement (one lead_of) (statement_behind version) (agree_one any lead_of)
    (agree_statement_behind version)

end_follows : (o : Option Token) → ends o ≡ true → behind_statement o ≡ true
unfolding behind_statement
end_follows None e = refl
end_follows (Some u) e = absurd (cc e)

agree_sentence : (version : ℕ) → Agree (sentence version) (sentence version) ends
unfolding sentence behind_statement
agree_sentence version =
    agree_then behind_statement ends (statement version) _ (agree_statement version)
    (λ x. agree_or_word ends x (t.Sign s.Semicolon) (gives x) refl (agree_gives ends x))
    (λ x. starts_either behind_statement ends _ _ (starts_token behind_statement ends (t.Sign s.Semicolon) _ refl)
    (starts_gives behind_statement ends x end_follows))

-- where no token stands behind
pub at_most_one_statement : (version : ℕ) (m n : Limit → ℕ) (tokens : List Token) (a b : StmtTree) →
    sentence version m tokens a [] →
    sentence version n tokens b [] → a ≡ b
at_most_one_statement version m n tokens a b l r = ((agree_sentence version).same m n tokens a b [] [] l r refl refl).0
