-- What a line says keeps the limits of the language.
use Rattle.std.proofs.Common.{◌≡◌, ℕ, suc, ◌+◌, Bool, true, false, cond, not, List, [], ◌∷◌, ◌++◌, length, map, Option, Some, None, Result, Ok, Err, refl, ◌∙◌, arith, nat_le, le-leb}
use Rattle.std.specs.Prelude.{◌&&◌, codes, position}
use Rattle.std.specs.Char.{to_ascii_lowercase}
use Rattle.std.specs.List.{list_all}
use Rattle.std.proofs.lemmas.Bool.{and_from, and_parts, leb-true}
use Rattle.pg_lexer.specs.Bytes.{begins_word, in_word, is_printed, is_text, is_word}
use Rattle.pg_lexer.specs.Keywords.{keyword_of}
use Rattle.pg_lexer.specs.Lexemes.{Lexeme, Spells, digits, mark, meaning, number_of, quoted_form, text, text_token, unended, word, word_token}
use Rattle.pg_lexer.specs.Reading.{IsRead}
use Rattle.pg_lexer.specs.declared.keyword.Keyword.{Keyword}
use Rattle.pg_lexer.specs.declared.token.BadPlace.{BadPlace}
use Rattle.pg_lexer.specs.declared.token.BadPlace.TheVariants as bad
use Rattle.pg_lexer.specs.declared.token.Spanned.{Spanned}
use Rattle.pg_lexer.specs.declared.token.Token.{Token}
use Rattle.pg_lexer.specs.declared.token.Token.TheVariants as token
use Rattle.pg_lexer.proofs.Cuts.{folded_word, none_fails, printed_value}
use Rattle.pg_parse_expr.specs.Laws.{is_token}
use Rattle.pg_parse_expr.specs.Places.{plain}
use Rattle.pg_parse_stmt.specs.declared.tree.StmtTree.{StmtTree}
use Rattle.pg_parse_stmt.proofs.KeepingSentences.{each_statement_is_within}
use Rattle.pg_line.specs.declared.form.LineForm.{LineForm}
use Rattle.pg_line.specs.declared.form.PlaceFault.{PlaceFault}
use Rattle.pg_line.specs.declared.form.SessionName.{SessionName}
use Rattle.pg_line.specs.Forms.{Outline, IsFormBy, comment, command, behind_first, cut, given, go, label_of, form_named, outline, pause, pause_at, setup, statement, unknown}
use Rattle.pg_line.specs.Sessions.{is_session, session_named, session_of}
use Rattle.pg_line.specs.Statements.{IsOutcome, IsStatementAt}
use Rattle.pg_line.specs.Words.{Word, is_the, words_of}
use Rattle.pg_line.specs.Laws.{EachFormIsWithin, is_form_within, is_named, is_within}
use Rattle.pg_line.proofs.Sessions.{folded_name}

same_token : (a b : Token) → ◌≡◌ {A = Result Token BadPlace} (Ok a) (Ok b) → a ≡ b
same_token a b is = cc

-- a folded word is a name, or reserved
word_is : (name : List ℕ) (reserved : Option Keyword) (t : Token) → Rattle.pg_lexer.specs.Bytes.is_name name ≡ true →
    keyword_of name ≡ reserved → word_token name reserved ≡ t → is_token t ≡ true
word_is name None t is free e = rw (← e) (and_from _ _ is (rw free refl))
word_is name (Some keyword) t is free e = rw (← e) refl

-- a text is one of printed bytes
text_is : (place : ℕ) (value front : List ℕ) (t : Token) (first : Option ℕ) → front ≡ 39 ∷ (quoted_form value ++ 39 ∷ []) →
    nat_le (length value) 4096 ≡ true → position (λ b. not (is_printed b)) front ≡ first →
    text_token place value first ≡ Ok t → is_token t ≡ true
unfolding is_text
text_is place value front t None spelled short none e =
    let printed : list_all is_printed (39 ∷ (quoted_form value ++ 39 ∷ [])) ≡ true = rw spelled at (none_fails is_printed front none) in
    rw (← same_token _ _ e) (and_from _ _ (printed_value value (39 ∷ []) printed) short)
text_is place value front t (Some before) spelled short some e = absurd (cc)

-- what a lexeme means is a token that a line may have
meant : (place : ℕ) (lexeme : Lexeme) (front : List ℕ) (t : Token) → Spells lexeme front →
    meaning place lexeme front ≡ Ok t → is_token t ≡ true
unfolding meaning
meant place word front t spelled means = at (nat_le (length front) 63) refl means
  where
    at : (short : Bool) → nat_le (length front) 63 ≡ short →
        cond short (Ok (word_token (map to_ascii_lowercase front) (keyword_of (map to_ascii_lowercase front)))) (Err (bad.Name place))
        ≡ Ok t → is_token t ≡ true
    at true short e =
        word_is (map to_ascii_lowercase front) (keyword_of (map to_ascii_lowercase front)) t
        (folded_word front spelled (leb-true (length front) 63 short)) refl (same_token _ _ e)
    at false long e = absurd (cc)
meant place digits front t spelled means = at (nat_le (number_of front) 9223372036854775807) refl means
  where
    at : (small : Bool) → nat_le (number_of front) 9223372036854775807 ≡ small →
        cond small (Ok (token.Integer (number_of front))) (Err (bad.Literal place)) ≡ Ok t → is_token t ≡ true
    at true small e = rw (← same_token _ _ e) small
    at false large e = absurd (cc)
meant place (text value) front t spelled means = at (nat_le (length value) 4096) refl means
  where
    at : (short : Bool) → nat_le (length value) 4096 ≡ short →
        cond short (text_token place value (position (λ b. not (is_printed b)) front)) (Err (bad.Literal place)) ≡ Ok t →
        is_token t ≡ true
    at true short e = text_is place value front t (position (λ b. not (is_printed b)) front) spelled short refl e
    at false long e = absurd (cc)
meant place (unended value) front t spelled means = absurd (cc)
meant place (mark sign) front t spelled means = rw (← same_token _ _ means) refl

-- the tokens of a line are tokens that a line may have
pub tokens_are : (at : ℕ) (line : List ℕ) (tokens : List Spanned) (fault : Option BadPlace) → IsRead at line tokens fault →
    list_all is_token (plain tokens) ≡ true
tokens_are at line [] fault read = refl
tokens_are at line (t ∷ tokens) fault read =
    and_from _ _ (meant t.start read.1.cut.lexeme read.1.front t.token read.1.cut.longest.spelled read.1.cut.means)
    (tokens_are t.end read.0 tokens fault read.2)

outcome_is : (version : ℕ) (tokens : List Spanned) (end : ℕ) (bad : Option BadPlace) (outcome : Result StmtTree PlaceFault) →
    list_all is_token (plain tokens) ≡ true → IsOutcome version tokens end bad outcome → is_within outcome ≡ true
outcome_is version tokens end None (Ok tree) are is = each_statement_is_within version (plain tokens) tree are is.is.spelled
outcome_is version tokens end None (Err fault) are is = refl
outcome_is version tokens end (Some bad) (Ok tree) are is = absurd is
outcome_is version tokens end (Some bad) (Err fault) are is = refl

-- a statement on a line is within the limits
pub statement_is : (version : ℕ) (line : List ℕ) (from : ℕ) (outcome : Result StmtTree PlaceFault) →
    IsStatementAt version line from outcome → is_within outcome ≡ true
statement_is version line from outcome is =
    outcome_is version is.0 (length line + 1) is.1 outcome (tokens_are from _ is.0 is.1 is.2) is.3

some_letters : (bytes : List ℕ) → is_word bytes ≡ true → nat_le 1 (length (map to_ascii_lowercase bytes)) ≡ true
some_letters [] is = absurd (cc)
some_letters (b ∷ bytes) is = le-leb 1 (suc (length (map to_ascii_lowercase bytes))) (omega arith)

-- a word that names a session gives it a name
session_is : (spelled : Word) (found : Option SessionName) → session_named spelled ≡ found →
    (session : SessionName) → found ≡ Some session → is_named session ≡ true
unfolding session_named
session_is spelled found named_by session is = at (is_session spelled) refl (named_by ∙ is)
  where
    at : (names : Bool) → is_session spelled ≡ names → cond names (Some (session_of spelled)) None ≡ Some session →
        is_named session ≡ true
    at true names e =
        let spelled_so : is_word spelled.text ≡ true = (and_parts _ _ (and_parts _ _ names).0).0 in
        let same : session_of spelled ≡ session = cc in
        rw (← same) (and_from _ _ (folded_name spelled.text _ spelled_so refl) (some_letters spelled.text spelled_so))
    at false names e = absurd (cc)

-- the session of an outline has a name
abbrev has_name : Outline → Bool
has_name comment = true
has_name (setup from) = true
has_name (given session from) = is_named session
has_name (pause session label) = is_named session
has_name (go session) = is_named session
has_name (cut session) = is_named session
has_name unknown = true

either : (b : Bool) (x y : Outline) → has_name x ≡ true → has_name y ≡ true → has_name (cond b x y) ≡ true
either true x y one other = one
either false x y one other = other

by_session : (form : SessionName → Outline) → ((session : SessionName) → is_named session ≡ true → has_name (form session) ≡ true) →
    (spelled : Word) (found : Option SessionName) → session_named spelled ≡ found → has_name (form_named form found) ≡ true
by_session form keeps spelled None is = refl
by_session form keeps spelled (Some session) is = keeps session (session_is spelled (Some session) is session refl)

statement_has : (spelled : Word) (from : ℕ) → has_name (statement spelled from) ≡ true
statement_has spelled from =
    either (is_the (codes "setup") spelled) (setup from) (form_named (λ session. given session from) (session_named spelled)) refl
    (by_session (λ session. given session from) (λ session is. is) spelled (session_named spelled) refl)

pause_has : (spelled : Word) (label : Option _) → has_name (pause_at spelled label) ≡ true
pause_has spelled None = refl
pause_has spelled (Some label) =
    by_session (λ session. pause session label) (λ session is. is) spelled (session_named spelled) refl

command_has : (words : List Word) → has_name (command words) ≡ true
command_has [] = refl
command_has (verb ∷ []) = refl
command_has (verb ∷ spelled ∷ []) =
    either (is_the (codes "go") verb) (form_named go (session_named spelled))
    (cond (is_the (codes "cut") verb) (form_named cut (session_named spelled)) unknown)
    (by_session go (λ session is. is) spelled (session_named spelled) refl)
    (either (is_the (codes "cut") verb) (form_named cut (session_named spelled)) unknown
    (by_session cut (λ session is. is) spelled (session_named spelled) refl) refl)
command_has (verb ∷ spelled ∷ link ∷ []) = refl
command_has (verb ∷ spelled ∷ link ∷ label ∷ []) =
    either (is_the (codes "pause") verb && is_the (codes "at") link) (pause_at spelled (label_of label.text)) unknown
    (pause_has spelled (label_of label.text)) refl
command_has (verb ∷ spelled ∷ link ∷ label ∷ more ∷ words) = refl

behind_has : (first : Word) (words : List Word) → has_name (behind_first first words) ≡ true
behind_has first [] = refl
behind_has first (second ∷ words) =
    either (is_the (codes ":") second) (statement first (second.place + 1)) (command (first ∷ second ∷ words))
    (statement_has first (second.place + 1)) (command_has (first ∷ second ∷ words))

outline_has : (words : List Word) → has_name (outline words) ≡ true
outline_has [] = refl
outline_has (first ∷ words) =
    either (is_the (codes "#") first) comment (behind_first first words) refl (behind_has first words)

form_is : (version : ℕ) (line : List ℕ) (plan : Outline) (says : LineForm) → has_name plan ≡ true →
    IsFormBy version line plan says → is_form_within says ≡ true
form_is version line comment says has is = rw is refl
form_is version line (setup from) says has is = rw is.2 (statement_is version line from is.0 is.1)
form_is version line (given session from) says has is =
    rw is.2 (and_from _ _ has (statement_is version line from is.0 is.1))
form_is version line (pause session label) says has is = rw is has
form_is version line (go session) says has is = rw is has
form_is version line (cut session) says has is = rw is has
form_is version line unknown says has is = rw is refl

pub each_form_is_within : EachFormIsWithin
each_form_is_within version line says is =
    form_is version line (outline (words_of line)) says (outline_has (words_of line)) is
