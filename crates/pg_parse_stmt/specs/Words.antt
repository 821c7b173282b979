-- What one token stands for in a statement.
use Rattle.std.specs.Prelude.{ℕ, pos, neg_ℤ, List, Option, Some, None, if◌then◌else◌, nat_le}
use Rattle.pg_values.specs.declared.value.Value.{Value}
use Rattle.pg_values.specs.declared.value.Value.TheVariants as value
use Rattle.pg_values.specs.declared.value.Kind.{Kind}
use Rattle.pg_values.specs.declared.value.Kind.TheVariants as kind
use Rattle.pg_lexer.specs.declared.keyword.Keyword.TheVariants as k
use Rattle.pg_lexer.specs.declared.sign.Sign.TheVariants as s
use Rattle.pg_lexer.specs.declared.token.Token.{Token}
use Rattle.pg_lexer.specs.declared.token.Token.TheVariants as token
use Rattle.pg_parse_stmt.specs.declared.tree.Direction.{Direction}
use Rattle.pg_parse_stmt.specs.declared.tree.Direction.TheVariants.{Ascending, Descending}
use Rattle.pg_parse_stmt.specs.declared.tree.NullsPlace.{NullsPlace}
use Rattle.pg_parse_stmt.specs.declared.tree.NullsPlace.TheVariants.{First, Last}
use Rattle.pg_parse_stmt.specs.declared.tree.LockStrength.{LockStrength}
use Rattle.pg_parse_stmt.specs.declared.tree.LockStrength.TheVariants as lock
use Rattle.pg_parse_stmt.specs.declared.word.Lead.{Lead}
use Rattle.pg_parse_stmt.specs.declared.word.Lead.TheVariants as lead
use Rattle.pg_parse_stmt.specs.declared.word.Link.{Link}
use Rattle.pg_parse_stmt.specs.declared.word.Link.TheVariants as link
use Rattle.pg_parse_stmt.specs.declared.word.ChangeWord.{ChangeWord}
use Rattle.pg_parse_stmt.specs.declared.word.ChangeWord.TheVariants as change
use Rattle.pg_parse_stmt.specs.declared.word.ConstraintWord.{ConstraintWord}
use Rattle.pg_parse_stmt.specs.declared.word.ConstraintWord.TheVariants as constraint
use Rattle.pg_parse_stmt.specs.declared.word.RuleWord.{RuleWord}
use Rattle.pg_parse_stmt.specs.declared.word.RuleWord.TheVariants as rule

-- a name that is no reserved word: an alias without AS is one
unfoldable pub bare_name_of : Token → Option (List ℕ)
bare_name_of (token.Name name) = Some name
bare_name_of _ = None

-- the number of an integer literal
unfoldable pub integer_of : Token → Option ℕ
integer_of (token.Integer n) = Some n
integer_of _ = None

-- the words that name a kind
unfoldable pub kind_of : Token → Option Kind
kind_of (token.Keyword k.Integer) = Some kind.Int
kind_of (token.Keyword k.Int) = Some kind.Int
kind_of (token.Keyword k.Bigint) = Some kind.Big
kind_of (token.Keyword k.Text) = Some kind.Text
kind_of (token.Keyword k.Boolean) = Some kind.Bool
kind_of (token.Keyword k.Bool) = Some kind.Bool
kind_of _ = None

-- a number with a minus sign before it: of the kind that it has without
abbrev pub negative_value : ℕ → Option Value
negative_value n =
    if nat_le n 2147483647 then Some (value.Int (neg_ℤ (pos n)))
    else (if nat_le n 9223372036854775807 then Some (value.Big (neg_ℤ (pos n))) else None)

unfoldable pub negative_of : Token → Option Value
negative_of (token.Integer n) = negative_value n
negative_of _ = None

unfoldable pub direction_of : Token → Option Direction
direction_of (token.Keyword k.Asc) = Some Ascending
direction_of (token.Keyword k.Desc) = Some Descending
direction_of _ = None

unfoldable pub nulls_of : Token → Option NullsPlace
nulls_of (token.Keyword k.First) = Some First
nulls_of (token.Keyword k.Last) = Some Last
nulls_of _ = None

-- the first words of the strengths of row locks
unfoldable pub strength_of : Token → Option LockStrength
strength_of (token.Keyword k.Key) = Some lock.KeyShare
strength_of (token.Keyword k.Share) = Some lock.Share
strength_of (token.Keyword k.No) = Some lock.NoKeyUpdate
strength_of (token.Keyword k.Update) = Some lock.Update
strength_of _ = None

-- the first words of the statements
unfoldable pub lead_of : Token → Option Lead
lead_of (token.Keyword k.Begin) = Some lead.Begin
lead_of (token.Keyword k.Commit) = Some lead.Commit
lead_of (token.Keyword k.End) = Some lead.Commit
lead_of (token.Keyword k.Rollback) = Some lead.Rollback
lead_of (token.Keyword k.Abort) = Some lead.Rollback
lead_of (token.Keyword k.Select) = Some lead.Select
lead_of (token.Keyword k.Insert) = Some lead.Insert
lead_of (token.Keyword k.Update) = Some lead.Update
lead_of (token.Keyword k.Delete) = Some lead.Delete
lead_of (token.Keyword k.Merge) = Some lead.Merge
lead_of (token.Keyword k.Create) = Some lead.Create
lead_of _ = None

-- what leads from one source to the next
unfoldable pub link_of : Token → Option Link
link_of (token.Sign s.Comma) = Some link.Comma
link_of (token.Keyword k.Inner) = Some link.Inner
link_of (token.Keyword k.Join) = Some link.Join
link_of _ = None

-- the first words of a change
unfoldable pub change_of : Token → Option ChangeWord
change_of (token.Keyword k.Update) = Some change.Update
change_of (token.Keyword k.Delete) = Some change.Delete
change_of (token.Keyword k.Do) = Some change.Do
change_of _ = None

-- the first words of a constraint
unfoldable pub constraint_of : Token → Option ConstraintWord
constraint_of (token.Keyword k.Primary) = Some constraint.Primary
constraint_of (token.Keyword k.Unique) = Some constraint.Unique
constraint_of (token.Keyword k.Check) = Some constraint.Check
constraint_of _ = None

-- the first words of what stands behind a column's kind
unfoldable pub rule_of : Token → Option RuleWord
rule_of (token.Keyword k.Not) = Some rule.Not
rule_of (token.Keyword k.Default) = Some rule.Default
rule_of (token.Keyword k.Constraint) = Some rule.Named
rule_of (token.Keyword k.Primary) = Some (rule.Unnamed constraint.Primary)
rule_of (token.Keyword k.Unique) = Some (rule.Unnamed constraint.Unique)
rule_of (token.Keyword k.Check) = Some (rule.Unnamed constraint.Check)
rule_of _ = None
