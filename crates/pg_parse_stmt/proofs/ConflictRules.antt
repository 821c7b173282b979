-- The rows of an INSERT and its ON CONFLICT as rules.
use Rattle.std.proofs.Common.{◌≡◌, ◌∷◌, List, Option, Some, None, not}
use Rattle.pg_parse_stmt.proofs.Common.{Misses, Seen, read, Reads, Spelled, Token, is_word, behind_tuples, behind_subselect, behind_rows, behind_target, behind_conflict, behind_on_conflict, optional, tuples, subselect, rows, conflict_target, conflict_act, conflict, spelled_tuples, Rows, Conflict, Rule, maybe, made, last, Fits, spelled, own, Comes, comes_some, comes_none}
use Rattle.pg_lexer.specs.declared.keyword.Keyword.TheVariants as k
use Rattle.pg_lexer.specs.declared.token.Token.TheVariants as t
use Rattle.pg_parse_stmt.specs.declared.tree.Rows.TheVariants as rows_of
use Rattle.pg_grammar.proofs.Rules as rule
use Rattle.pg_parse_stmt.proofs.Lists.{and_left}
use Rattle.pg_parse_stmt.proofs.Steps.{and_right}
use Rattle.pg_parse_stmt.proofs.Following.{do_behind_target, on_goes_on_on_conflict}
use Rattle.pg_parse_stmt.proofs.Inserts.{spelled_target, spelled_act}
use Rattle.pg_parse_stmt.proofs.SourceRules.{spelled_subselect}
use Rattle.pg_grammar.proofs.Rules.{token, either, gives}

-- VALUES tuples | SELECT subselect
abbrev pub rows_rule : Rule Token Rows
rows_rule =
    either
    (token (t.Keyword k.Values) (rule.part behind_tuples behind_tuples tuples (λ r. gives (rows_of.Values r))))
    (token (t.Keyword k.Select) (rule.part behind_subselect behind_subselect (subselect 0) (λ q. gives (rows_of.Query q))))

rows_fits : Fits rows_rule behind_rows
unfolding behind_rows
rows_fits = (
  (own spelled_tuples, λ r o e. and_left (behind_tuples o) (behind_subselect o) e, λ r. tt),
  (own (spelled_subselect 0), λ q o e. and_right (behind_tuples o) (behind_subselect o) e, λ q. tt),
)

pub rows_read : {xs : List Token} {o : Seen Token Rows} → Comes rows_rule behind_rows xs o → Reads rows behind_rows xs o
unfolding rows
rows_read c = c.to rows_fits

pub spelled_rows : Spelled rows
unfolding rows
spelled_rows = spelled rows_rule behind_rows rows_fits

pub values_no_select : Some (t.Keyword k.Values) ≡ Some (t.Keyword k.Select) → ⊥
values_no_select e = cc e

-- ON CONFLICT [target] DO NOTHING | ON CONFLICT target DO UPDATE SET sets [WHERE expr]
abbrev pub clause_behind : Rule Token Conflict
clause_behind =
    token (t.Keyword k.Conflict) (maybe behind_target behind_target (optional conflict_target) (λ x.
    token (t.Keyword k.Do) (last behind_conflict behind_conflict (conflict_act x))))

abbrev pub clause_rule : Rule Token Conflict
clause_rule = token (t.Keyword k.On) clause_behind

-- [ON CONFLICT ..]
abbrev pub conflict_rule : Rule Token (Option Conflict)
conflict_rule = either (made Some clause_rule) (gives None)

conflict_fits : Fits conflict_rule behind_on_conflict
unfolding behind_on_conflict
conflict_fits = (
  (
    own spelled_target,
    λ x. do_behind_target,
    λ x. (own (spelled_act x), λ o e. and_left (behind_conflict o) (not (is_word k.On o)) e),
  ),
  tt,
)

pub conflict_there : {xs ys : List Token} {o : Seen Token (Option Conflict)} → xs ≡ t.Keyword k.On ∷ ys →
    Comes (made Some clause_rule) behind_on_conflict xs o → Reads (optional conflict) behind_on_conflict xs o
unfolding conflict
conflict_there {xs} {ys} {o} e c =
    (comes_some (t.Keyword k.On) clause_rule behind_on_conflict xs ys o e on_goes_on_on_conflict c).to conflict_fits

pub conflict_none : {xs : List Token} → Misses (t.Keyword k.On) xs →
    Reads (optional conflict) behind_on_conflict xs (read None xs)
unfolding conflict
conflict_none {xs} miss = (comes_none (t.Keyword k.On) clause_behind behind_on_conflict xs miss).to conflict_fits
