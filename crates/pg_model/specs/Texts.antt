-- Values, rows and tags as they are printed.
use Rattle.std.specs.Prelude.{ℕ, ◌==◌, true, false, if◌then◌else◌, List, [], ◌∷◌, ◌++◌, codes, decimal, flat_map, map}
use Rattle.std.specs.Fmt.{signed_decimal}
use Rattle.std.specs.List.{join_with_byte}
use Rattle.pg_values.specs.declared.value.Value.{Value}
use Rattle.pg_values.specs.declared.value.Value.TheVariants.{Null, Bool as OfBool, Int, Big, Text}
use Rattle.pg_multi.specs.declared.strength.Strength.{Strength}
use Rattle.pg_multi.specs.declared.strength.Strength.TheVariants.{KeyShare, NoKeyUpdate, Share, Update}
use Rattle.pg_model.specs.declared.journal.Tag.{Tag}
use Rattle.pg_model.specs.declared.journal.Tag.TheVariants as tag

-- each line ends with LF
abbrev pub with_line_end : List ℕ → List ℕ
with_line_end line = line ++ 10 ∷ []

-- a text with each ' doubled
abbrev pub quoted_form : List ℕ → List ℕ
quoted_form bytes = flat_map (λ byte. if byte == 39 then 39 ∷ 39 ∷ [] else byte ∷ []) bytes

-- NULL is `null`, a boolean `t` or `f`, a number is in decimal and a text between '
abbrev pub value_text : Value → List ℕ
value_text Null = codes "null"
value_text (OfBool true) = codes "t"
value_text (OfBool false) = codes "f"
value_text (Int number) = signed_decimal number
value_text (Big number) = signed_decimal number
value_text (Text bytes) = 39 ∷ (quoted_form bytes ++ 39 ∷ [])

-- the values of a row, joined by |
abbrev pub row_text : List Value → List ℕ
row_text values = join_with_byte 124 (map value_text values)

-- the tag of a reply
abbrev pub tag_text : Tag → List ℕ
tag_text tag.Begin = codes "BEGIN"
tag_text tag.Commit = codes "COMMIT"
tag_text tag.Rollback = codes "ROLLBACK"
tag_text (tag.Insert rows) = codes "INSERT 0 " ++ decimal rows
tag_text (tag.Update rows) = codes "UPDATE " ++ decimal rows
tag_text (tag.Delete rows) = codes "DELETE " ++ decimal rows
tag_text (tag.Select rows) = codes "SELECT " ++ decimal rows

-- the strength of a row lock
abbrev pub strength_text : Strength → List ℕ
strength_text KeyShare = codes "key share"
strength_text Share = codes "share"
strength_text NoKeyUpdate = codes "no key update"
strength_text Update = codes "update"
