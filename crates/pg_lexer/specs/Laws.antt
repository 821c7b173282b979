-- What is proved of the definitions alone.
use Rattle.std.specs.Prelude.{◌≡◌, ◌↔◌, ℕ, ◌≤◌, List, length, Option, Some}
use Rattle.pg_lexer.specs.declared.keyword.Keyword.{Keyword}
use Rattle.pg_lexer.specs.declared.token.BadPlace.{BadPlace}
use Rattle.pg_lexer.specs.declared.token.Spanned.{Spanned}
use Rattle.pg_lexer.specs.Keywords.{spelling, keyword_of}
use Rattle.pg_lexer.specs.Reading.{IsRead}

-- a line has at most one reading
abbrev pub AtMostOneReading : Type 0
AtMostOneReading =
    (at : ℕ) (line : List ℕ) (tokens tokens' : List Spanned) (fault fault' : Option BadPlace)
    → IsRead at line tokens fault → IsRead at line tokens' fault' → (tokens ≡ tokens') × (fault ≡ fault')

-- each line has a reading
abbrev pub EachLineIsRead : Type 0
EachLineIsRead = (at : ℕ) (line : List ℕ) → (tokens : List Spanned) × (fault : Option BadPlace) × IsRead at line tokens fault

-- a reserved word is found by its spelling, and by nothing else
abbrev pub KeywordsAreTheirSpellings : Type 0
KeywordsAreTheirSpellings =
    (keyword : Keyword) (word : List ℕ) → (keyword_of word ≡ Some keyword) ↔ (word ≡ spelling keyword)

-- a line has no more tokens than bytes
abbrev pub NoMoreTokensThanBytes : Type 0
NoMoreTokensThanBytes =
    (at : ℕ) (line : List ℕ) (tokens : List Spanned) (fault : Option BadPlace)
    → IsRead at line tokens fault → length tokens ≤ length line
