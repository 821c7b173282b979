-- Subselects and sources in brackets as rules.
use Rattle.std.proofs.Common.{ℕ, List}
use Rattle.pg_parse_stmt.proofs.Common.{Seen, Reads, one, Spelled, spelled_left, spelled_token, Token, any, behind_condition, behind_items, behind_from, behind_tuples, behind_subselect, word, in_brackets, name, names, alias, items, condition, tuples, table_source, one_source, from_of, subselect, values_source, query_source, bare_name_of, spelled_name, spelled_names, spelled_items, spelled_tuples, spelled_in_brackets, Source, Subselect, Rule, maybe, Fits, starts_any, spelled, less, own, Comes}
use Rattle.pg_lexer.specs.declared.keyword.Keyword.TheVariants as k
use Rattle.pg_lexer.specs.declared.sign.Sign.TheVariants as s
use Rattle.pg_lexer.specs.declared.token.Token.TheVariants as t
use Rattle.pg_parse_stmt.specs.declared.tree.Source.TheVariants as source_of
use Rattle.pg_grammar.proofs.Rules as rule
use Rattle.pg_parse_stmt.proofs.Conditions.{spelled_where}
use Rattle.pg_parse_stmt.proofs.Sources.{spelled_tables}
use Rattle.pg_parse_stmt.proofs.Following.{from_behind_items, where_behind_from, subselect_end_behind_condition, subselect_end_behind_from, close_behind_tuples, close_behind_subselect}
use Rattle.pg_parse_stmt.proofs.Starting.{optional_starts}
use Rattle.pg_grammar.proofs.Rules.{token, gives}

-- items FROM from [WHERE expr], behind SELECT
abbrev pub subselect_rule : ℕ → Rule Token Subselect
subselect_rule n =
    rule.part behind_items behind_items items (λ i. token (t.Keyword k.From)
    (rule.part behind_from behind_from (from_of table_source one_source n) (λ f.
    maybe behind_subselect behind_condition condition (λ c.
    gives (record { items = i; from = f; condition = c })))))

subselect_fits : (n : ℕ) → Fits (subselect_rule n) behind_subselect
unfolding condition
subselect_fits n =
    search (
      own,
      spelled_items,
      from_behind_items,
      spelled_tables,
      optional_starts,
      where_behind_from,
      subselect_end_behind_from,
      less,
      spelled_where,
      subselect_end_behind_condition,
    ) depth 14

pub subselect_read : (n : ℕ) {xs : List Token} {o : Seen Token Subselect} →
    Comes (subselect_rule n) behind_subselect xs o → Reads (subselect n) behind_subselect xs o
unfolding subselect
subselect_read n c = c.to (subselect_fits n)

pub spelled_subselect : (n : ℕ) → Spelled (subselect n)
unfolding subselect
spelled_subselect n = spelled (subselect_rule n) behind_subselect (subselect_fits n)

spelled_alias : Spelled alias
unfolding alias
spelled_alias = spelled_left (word k.As name) (one bare_name_of) (spelled_token (t.Keyword k.As) name spelled_name)

-- tuples ")" [AS] name "(" names ")", behind "(" VALUES
abbrev pub values_source_rule : Rule Token Source
values_source_rule =
    rule.part behind_tuples behind_tuples tuples (λ r. token (t.Sign s.Close) (rule.part any any alias (λ a.
    rule.part any any (in_brackets names) (λ c.
    gives (source_of.Values (record { rows = r; alias = a; columns = c }))))))

values_source_fits : Fits values_source_rule any
values_source_fits =
    search (
      own,
      spelled_tuples,
      close_behind_tuples,
      spelled_alias,
      starts_any,
      spelled_in_brackets,
      spelled_names,
    ) depth 14

pub values_source_read : {xs : List Token} {o : Seen Token Source} → Comes values_source_rule any xs o →
    Reads values_source any xs o
unfolding values_source
values_source_read c = c.to values_source_fits

pub spelled_values_source : Spelled values_source
unfolding values_source
spelled_values_source = spelled values_source_rule any values_source_fits

-- subselect ")" [AS] name, behind "(" SELECT
abbrev pub query_source_rule : ℕ → Rule Token Source
query_source_rule n =
    rule.part behind_subselect behind_subselect (subselect n) (λ q. token (t.Sign s.Close) (rule.part any any alias (λ a.
    gives (source_of.Query (record { query = q; alias = a })))))

query_source_fits : (n : ℕ) → Fits (query_source_rule n) any
query_source_fits n =
    search (own, spelled_subselect, close_behind_subselect, spelled_alias) depth 14

pub query_source_read : (n : ℕ) {xs : List Token} {o : Seen Token Source} → Comes (query_source_rule n) any xs o →
    Reads (query_source n) any xs o
unfolding query_source
query_source_read n c = c.to (query_source_fits n)
