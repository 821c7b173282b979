-- The reserved words of the statements, and the reserved words that may also be names.
use Rattle.std.specs.Prelude.{ℕ, Bool, true, false, List, [], ◌∷◌, Option, codes, filter, nat_eq}
use Rattle.std.specs.List.{find, starts_with}
use Rattle.std.specs.Str.{bytes_eq}
use Rattle.pg_lexer.specs.declared.keyword.Keyword.{Keyword}
use Rattle.pg_lexer.specs.declared.keyword.Keyword.TheVariants as k

-- how a reserved word is spelled, folded to lower case
unfoldable pub spelling : Keyword → List ℕ
spelling k.Abort = codes "abort"
spelling k.And = codes "and"
spelling k.As = codes "as"
spelling k.Asc = codes "asc"
spelling k.Begin = codes "begin"
spelling k.Bigint = codes "bigint"
spelling k.Bool = codes "bool"
spelling k.Boolean = codes "boolean"
spelling k.By = codes "by"
spelling k.Check = codes "check"
spelling k.Commit = codes "commit"
spelling k.Committed = codes "committed"
spelling k.Conflict = codes "conflict"
spelling k.Constraint = codes "constraint"
spelling k.Create = codes "create"
spelling k.Default = codes "default"
spelling k.Delete = codes "delete"
spelling k.Desc = codes "desc"
spelling k.Distinct = codes "distinct"
spelling k.Do = codes "do"
spelling k.End = codes "end"
spelling k.False = codes "false"
spelling k.First = codes "first"
spelling k.For = codes "for"
spelling k.From = codes "from"
spelling k.Index = codes "index"
spelling k.Inner = codes "inner"
spelling k.Insert = codes "insert"
spelling k.Int = codes "int"
spelling k.Integer = codes "integer"
spelling k.Into = codes "into"
spelling k.Is = codes "is"
spelling k.Isolation = codes "isolation"
spelling k.Join = codes "join"
spelling k.Key = codes "key"
spelling k.Last = codes "last"
spelling k.Level = codes "level"
spelling k.Limit = codes "limit"
spelling k.Locked = codes "locked"
spelling k.Matched = codes "matched"
spelling k.Merge = codes "merge"
spelling k.No = codes "no"
spelling k.Not = codes "not"
spelling k.Nothing = codes "nothing"
spelling k.Nowait = codes "nowait"
spelling k.Null = codes "null"
spelling k.Nulls = codes "nulls"
spelling k.Of = codes "of"
spelling k.On = codes "on"
spelling k.Or = codes "or"
spelling k.Order = codes "order"
spelling k.Primary = codes "primary"
spelling k.Read = codes "read"
spelling k.Returning = codes "returning"
spelling k.Rollback = codes "rollback"
spelling k.Select = codes "select"
spelling k.Set = codes "set"
spelling k.Share = codes "share"
spelling k.Skip = codes "skip"
spelling k.Source = codes "source"
spelling k.Table = codes "table"
spelling k.Target = codes "target"
spelling k.Text = codes "text"
spelling k.Then = codes "then"
spelling k.Transaction = codes "transaction"
spelling k.True = codes "true"
spelling k.Unique = codes "unique"
spelling k.Update = codes "update"
spelling k.Using = codes "using"
spelling k.Values = codes "values"
spelling k.When = codes "when"
spelling k.Where = codes "where"
spelling k.Work = codes "work"

-- every reserved word, in alphabetical order
unfoldable pub keywords : List Keyword
keywords =
    k.Abort ∷ k.And ∷ k.As ∷ k.Asc ∷ k.Begin ∷ k.Bigint ∷ k.Bool ∷ k.Boolean ∷ k.By ∷ k.Check ∷ k.Commit ∷
    k.Committed ∷ k.Conflict ∷ k.Constraint ∷ k.Create ∷ k.Default ∷ k.Delete ∷ k.Desc ∷ k.Distinct ∷ k.Do ∷
    k.End ∷ k.False ∷ k.First ∷ k.For ∷ k.From ∷ k.Index ∷ k.Inner ∷ k.Insert ∷ k.Int ∷ k.Integer ∷ k.Into ∷
    k.Is ∷ k.Isolation ∷ k.Join ∷ k.Key ∷ k.Last ∷ k.Level ∷ k.Limit ∷ k.Locked ∷ k.Matched ∷ k.Merge ∷
    k.No ∷ k.Not ∷ k.Nothing ∷ k.Nowait ∷ k.Null ∷ k.Nulls ∷ k.Of ∷ k.On ∷ k.Or ∷ k.Order ∷ k.Primary ∷
    k.Read ∷ k.Returning ∷ k.Rollback ∷ k.Select ∷ k.Set ∷ k.Share ∷ k.Skip ∷ k.Source ∷ k.Table ∷ k.Target ∷
    k.Text ∷ k.Then ∷ k.Transaction ∷ k.True ∷ k.Unique ∷ k.Update ∷ k.Using ∷ k.Values ∷ k.When ∷ k.Where ∷
    k.Work ∷ []

-- the reserved word that is spelled so, if one is
unfoldable pub keyword_of : List ℕ → Option Keyword
keyword_of word = find (λ k. bytes_eq (spelling k) word) keywords

-- a reserved word that may also be a name, except as an alias without AS
unfoldable pub may_be_name : Keyword → Bool
may_be_name k.First = true
may_be_name k.Key = true
may_be_name k.Last = true
may_be_name k.Level = true
may_be_name k.Locked = true
may_be_name k.No = true
may_be_name k.Nothing = true
may_be_name k.Read = true
may_be_name k.Share = true
may_be_name k.Source = true
may_be_name k.Target = true
may_be_name k.Work = true
may_be_name _ = false

-- the reserved words that begin with a letter
unfoldable pub words_with : ℕ → List Keyword
words_with first = filter (λ k. starts_with nat_eq (spelling k) (first ∷ [])) keywords
