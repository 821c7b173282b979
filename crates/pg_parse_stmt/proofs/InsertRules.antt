-- INSERT as a rule.
use Rattle.std.proofs.Common.{◌≡◌, Bool, true, false, List, [], Option, Some, None, refl, ◌&&◌}
use Rattle.pg_parse_stmt.proofs.Common.{Seen, Reads, Starts, Spelled, Agree, agree_less, Token, spelling, any, is_word, is_open, behind_as, behind_columns, behind_rows, behind_on_conflict, behind_tuples, behind_list, is_comma, behind_subselect, behind_statement, optional, name, as_name, columns, rows, conflict, returning, insert, spelled_optional, Insert, rank, behind, Rule, maybe, Known, Fits, Ones, and_left, starts_before, spelled, agrees, less, Comes}
use Rattle.pg_lexer.specs.declared.keyword.Keyword.TheVariants as k
use Rattle.pg_lexer.specs.declared.sign.Sign.TheVariants as s
use Rattle.pg_lexer.specs.declared.token.Token.TheVariants as t
use Rattle.pg_grammar.proofs.Rules as rule
use Rattle.pg_parse_stmt.proofs.Steps.{and_right}
use Rattle.pg_parse_stmt.proofs.AgreeParts.{agree_name, agree_columns, agree_returning}
use Rattle.pg_parse_stmt.proofs.AgreeStatements.{agree_as, agree_rows, starts_columns, starts_rows, agree_optional_conflict}
use Rattle.pg_parse_stmt.proofs.ConflictRules.{spelled_rows}
use Rattle.pg_parse_stmt.proofs.Elements.{spelled_columns}
use Rattle.pg_parse_stmt.proofs.Naming.{spelled_as_name}
use Rattle.pg_parse_stmt.proofs.Starting.{or_starts, optional_starts}
use Rattle.pg_grammar.proofs.Rules.{token, gives}
use Rattle.pg_parse_stmt.proofs.Follows.{statement_behind}
use Rattle.pg_parse_stmt.proofs.Named.{parts, known_returning}
use Rattle.pg_parse_stmt.proofs.Following.{end_behind_on_conflict, returning_behind_on_conflict}

-- behind the rows of an INSERT, and behind its ON CONFLICT
abbrev pub after_conflict : Option Token → Bool
after_conflict None = true
after_conflict (Some (t.Sign s.Semicolon)) = true
after_conflict (Some (t.Keyword k.Returning)) = true
after_conflict _ = false

known_as : Known behind_as behind_as as_name
known_as = record { spelled = spelled_as_name; below = λ o e. e }

-- behind the columns of an INSERT
abbrev pub after_columns : Option Token → Bool
after_columns o = behind_as o && behind_columns o

known_columns : Known after_columns behind_columns columns
known_columns = less spelled_columns (λ o e. and_right (behind_as o) (behind_columns o) e)

starts_columns_as : Starts behind_as columns after_columns
starts_columns_as =
    starts_before behind_as behind_as after_columns columns (λ o e. and_left (behind_as o) (behind_columns o) e)
    starts_columns

rows_level : (o : Option Token) → behind_rows o ≡ true → behind 13 o ≡ true
unfolding behind_rows behind_subselect behind_tuples behind_list is_comma rank
rows_level None e = refl
rows_level (Some (t.Sign s.Close)) e = refl
rows_level (Some (t.Sign s.Semicolon)) e = refl
rows_level (Some (t.Keyword k.On)) e = refl
rows_level (Some (t.Keyword k.Returning)) e = refl
rows_level (Some (t.Sign s.Comma)) e = absurd (cc e)
rows_level _ e = absurd (cc e)

known_rows : Known behind_rows behind_rows rows
known_rows = record { spelled = spelled_rows; below = λ o e. e }

conflict_level : (o : Option Token) → after_conflict o ≡ true → behind 15 o ≡ true
unfolding rank
conflict_level None e = refl
conflict_level (Some (t.Sign s.Semicolon)) e = refl
conflict_level (Some (t.Keyword k.Returning)) e = refl
conflict_level _ e = absurd (cc e)

conflict_follows : (o : Option Token) → after_conflict o ≡ true → behind_on_conflict o ≡ true
unfolding behind_statement
conflict_follows None e = end_behind_on_conflict None refl
conflict_follows (Some (t.Sign s.Semicolon)) e = end_behind_on_conflict (Some (t.Sign s.Semicolon)) refl
conflict_follows (Some (t.Keyword k.Returning)) e = returning_behind_on_conflict
conflict_follows _ e = absurd (cc e)

conflict_rows : (o : Option Token) → after_conflict o ≡ true → behind_rows o ≡ true
unfolding behind_rows behind_subselect behind_tuples behind_list is_comma
conflict_rows None e = refl
conflict_rows (Some (t.Sign s.Semicolon)) e = refl
conflict_rows (Some (t.Keyword k.Returning)) e = refl
conflict_rows _ e = absurd (cc e)

known_conflict : Known after_conflict behind_on_conflict (optional conflict)
known_conflict = record { spelled = spelled_optional conflict; below = conflict_follows }

starts_conflict : Starts behind_rows (optional conflict) after_conflict
unfolding conflict behind_rows behind_subselect behind_tuples behind_list is_comma
starts_conflict = optional_starts behind_rows after_conflict (t.Keyword k.On) _ refl conflict_rows

end_after_conflict : (o : Option Token) → behind_statement o ≡ true → after_conflict o ≡ true
unfolding behind_statement
end_after_conflict None e = refl
end_after_conflict (Some (t.Sign s.Semicolon)) e = refl
end_after_conflict _ e = absurd (cc e)

known_end : Known behind_statement (behind 16) returning
known_end = record { spelled = known_returning.spelled; below = statement_behind 16 refl }

starts_end : Starts after_conflict returning behind_statement
unfolding returning
starts_end = or_starts after_conflict behind_statement [] (t.Keyword k.Returning) _ refl end_after_conflict

starts_rows_columns : Starts after_columns rows any
unfolding behind_as behind_columns is_word is_open spelling
starts_rows_columns = starts_rows after_columns refl refl any

-- INTO name [AS name] ["(" names ")"] rows [ON CONFLICT ..] [RETURNING items], behind INSERT
abbrev pub insert_rule : Rule Token Insert
insert_rule =
    token (t.Keyword k.Into) (rule.part any any name (λ n. maybe behind_as behind_as as_name (λ a.
    maybe after_columns behind_columns columns (λ c. rule.part behind_rows behind_rows rows (λ r.
    maybe after_conflict behind_on_conflict (optional conflict) (λ o.
    maybe behind_statement (behind 16) returning (λ i.
    gives (record { table = n; alias = a; columns = c; rows = r; conflict = o; returning = i }))))))))

pub insert_fits : Fits insert_rule behind_statement
unfolding rank
insert_fits =
    search (
      parts,
      known_as,
      starts_columns_as,
      known_columns,
      starts_rows_columns,
      known_rows,
      starts_conflict,
      known_conflict,
      starts_end,
      known_end,
    ) depth 14

pub insert_read : {xs : List Token} {o : Seen Token Insert} → Comes insert_rule behind_statement xs o →
    Reads insert behind_statement xs o
unfolding insert
insert_read c = c.to insert_fits

pub spelled_insert : Spelled insert
unfolding insert
spelled_insert = spelled insert_rule behind_statement insert_fits

insert_ones : Ones insert_rule behind_statement
unfolding rank
insert_ones = (
  agree_name,
  λ n. (
    agree_as,
    λ a. (
      agree_less behind_columns after_columns columns columns (λ o e. and_right (behind_as o) (behind_columns o) e)
          agree_columns,
      λ c. (
        agree_less (behind 13) behind_rows rows rows rows_level agree_rows,
        λ r. (
          agree_less (behind 15) after_conflict (optional conflict) (optional conflict) conflict_level
              agree_optional_conflict,
          λ o. (
            agree_less (behind 16) behind_statement returning returning (statement_behind 16 refl) agree_returning,
            λ i. tt,
          ),
        ),
      ),
    ),
  ),
)

pub agree_insert : Agree insert insert behind_statement
unfolding insert
agree_insert = agrees insert_rule behind_statement insert_fits insert_ones
