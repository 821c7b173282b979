-- The names of sessions.
use Rattle.std.specs.Prelude.{◌&&◌, ◌||◌, Bool, ℕ, List, codes, not, false, if◌then◌else◌, Option, None, Some}
use Rattle.std.specs.Option.{option_map_or}
use Rattle.std.specs.Str.{bytes_eq, str_to_ascii_lowercase}
use Rattle.pg_lexer.specs.Bytes.{is_word}
use Rattle.pg_lexer.specs.Keywords.{keyword_of, may_be_name}
use Rattle.pg_line.specs.declared.form.SessionName.{SessionName}
use Rattle.pg_line.specs.Words.{Word}

-- the name is a reserved word of the language, and none of those that may be names
abbrev pub is_reserved : List ℕ → Bool
is_reserved name = option_map_or (λ keyword. not (may_be_name keyword)) (keyword_of name) false

-- the name is one of the words that lines of other forms begin with
abbrev pub is_leading : List ℕ → Bool
is_leading name =
    bytes_eq name (codes "setup") || bytes_eq name (codes "pause") || bytes_eq name (codes "go")
    || bytes_eq name (codes "cut")

-- a word in any case, of any length, names a session: a letter or `_`, then letters, digits and `_`
abbrev pub is_session : Word → Bool
is_session word =
    is_word word.text && not (is_reserved (str_to_ascii_lowercase word.text))
    && not (is_leading (str_to_ascii_lowercase word.text))

-- the session that a word names, folded to lower case
abbrev pub session_of : Word → SessionName
session_of word = record { name = str_to_ascii_lowercase word.text; place = word.place }

-- that session, if the word names one
unfoldable pub session_named : Word → Option SessionName
session_named word = if is_session word then Some (session_of word) else None
