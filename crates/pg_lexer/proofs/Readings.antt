-- A line has at most one reading.
use Rattle.std.proofs.Common.{◌≡◌, ℕ, ◌+◌, ◌-◌, true, List, [], ◌∷◌, ◌++◌, length, Option, Some, None, Result, Ok, Err, ◌⊎◌, inl, inr, ⊎_elim, sym, refl, ap, subst, ◌∙◌, append-nil}
use Rattle.std.specs.Prelude.{not}
use Rattle.std.specs.List.{list_all}
use Rattle.std.proofs.lemmas.Bool.{and_parts, true≢false, not-true}
use Rattle.pg_lexer.specs.declared.token.BadPlace.{BadPlace}
use Rattle.pg_lexer.specs.declared.token.Spanned.{Spanned}
use Rattle.pg_lexer.specs.declared.token.Token.{Token}
use Rattle.pg_lexer.specs.Bytes.{is_blank, Starts}
use Rattle.pg_lexer.specs.Lexemes.{Spells, NoLexeme, meaning, IsCut, IsBad}
use Rattle.pg_lexer.specs.Reading.{Begins, BeginsWith, BeginsBad, IsRead}
use Rattle.pg_lexer.proofs.Lists.{aligned}
use Rattle.pg_lexer.proofs.Exact.{exact, shown}
use Rattle.pg_lexer.proofs.Quotes.{split}

-- the bytes begin with no white space
abbrev pub IsShown : List ℕ → Type 0
IsShown bytes = Starts (λ b. not (is_blank b)) bytes

-- two longest lexemes at one front are the same
record SameCut (front front' after after' : List ℕ) (outcome outcome' : Result Token BadPlace) : Type 0 where
  front_is : front ≡ front'
  after_is : after ≡ after'
  outcome_is : outcome ≡ outcome'

same_length : (place : ℕ) (bytes front after front' after' more : List ℕ) (outcome outcome' : Result Token BadPlace)
    → IsCut place bytes front after outcome → IsCut place bytes front' after' outcome' → front' ≡ front ++ more → after ≡ more ++ after'
    → SameCut front front' after after' outcome outcome'
same_length place bytes front after front' after' more outcome outcome' cut cut' longer shorter =
    let nothing : more ≡ [] = cut.longest.longest cut'.lexeme more after' shorter (subst (Spells cut'.lexeme) longer cut'.longest.spelled) in
    let same : front ≡ front' = sym (append-nil front) ∙ ap (λ m. front ++ m) (sym nothing) ∙ sym longer in
    let spelled : Spells cut'.lexeme front = subst (Spells cut'.lexeme) (sym same) cut'.longest.spelled in
    let one = exact cut.lexeme front cut.longest.spelled in
    let other = exact cut'.lexeme front spelled in
    let lexeme_is : cut.lexeme ≡ cut'.lexeme = cc in
    record {
      front_is = same;
      after_is = shorter ∙ ap (λ m. m ++ after') nothing;
      outcome_is = sym cut.means ∙ (λ i. meaning place (lexeme_is i) (same i)) ∙ cut'.means;
    }

same_cut : (place : ℕ) (bytes front after front' after' : List ℕ) (outcome outcome' : Result Token BadPlace)
    → IsCut place bytes front after outcome → IsCut place bytes front' after' outcome' → SameCut front front' after after' outcome outcome'
same_cut place bytes front after front' after' outcome outcome' cut cut' = ⊎_elim
    (λ w. same_length place bytes front after front' after' w.0 outcome outcome' cut cut' w.1 w.2)
    (λ w. let back = same_length place bytes front' after' front after w.0 outcome' outcome cut' cut w.1 w.2 in
    record { front_is = sym back.front_is; after_is = sym back.after_is; outcome_is = sym back.outcome_is })
    (aligned front front' after after' (sym cut.split ∙ cut'.split))

-- white space ends where something else begins
same_blanks : (blanks blanks' bytes bytes' : List ℕ) → list_all is_blank blanks ≡ true → list_all is_blank blanks' ≡ true
    → IsShown bytes → IsShown bytes' → blanks ++ bytes ≡ blanks' ++ bytes' → (blanks ≡ blanks') × (bytes ≡ bytes')
same_blanks [] [] bytes bytes' blank blank' seen seen' e = (refl, e)
same_blanks [] (b ∷ bs) bytes bytes' blank blank' seen seen' e =
    let parts = and_parts (is_blank b) (list_all is_blank bs) blank' in
    let found : IsShown (b ∷ (bs ++ bytes')) = subst IsShown e seen in
    let other = not-true (is_blank b) found in
    absurd (true≢false (sym parts.0 ∙ other))
same_blanks (b ∷ bs) [] bytes bytes' blank blank' seen seen' e =
    let parts = and_parts (is_blank b) (list_all is_blank bs) blank in
    let found : IsShown (b ∷ (bs ++ bytes)) = subst IsShown (sym e) seen' in
    let other = not-true (is_blank b) found in
    absurd (true≢false (sym parts.0 ∙ other))
same_blanks (b ∷ bs) (c ∷ cs) bytes bytes' blank blank' seen seen' e =
    let parts = and_parts (is_blank b) (list_all is_blank bs) blank in
    let parts' = and_parts (is_blank c) (list_all is_blank cs) blank' in
    let head : b ≡ c = cc in
    let tail : bs ++ bytes ≡ cs ++ bytes' = cc in
    let rest = same_blanks bs cs bytes bytes' parts.1 parts'.1 seen seen' tail in
    ((λ i. head i ∷ rest.0 i), rest.1)

all_blank : (blanks bytes : List ℕ) → list_all is_blank (blanks ++ bytes) ≡ true → IsShown bytes → ⊥
all_blank [] [] blank seen = seen
all_blank [] (b ∷ bs) blank seen =
    let parts = and_parts (is_blank b) (list_all is_blank bs) blank in true≢false (sym parts.0 ∙ not-true (is_blank b) seen)
all_blank (b ∷ bs) bytes blank seen =
    let parts = and_parts (is_blank b) (list_all is_blank (bs ++ bytes)) blank in all_blank bs bytes parts.1 seen

-- what is cut off is seen
cut_shown : (place : ℕ) (bytes front after : List ℕ) (outcome : Result Token BadPlace) → IsCut place bytes front after outcome → IsShown bytes
cut_shown place bytes front after outcome cut = rw cut.split (go front (shown cut.lexeme front cut.longest.spelled))
  where
    go : (xs : List ℕ) → IsShown xs → IsShown (xs ++ after)
    go [] seen = absurd seen
    go (x ∷ xs) seen = seen

bad_shown : (place : ℕ) (bytes : List ℕ) (fault : BadPlace) → IsBad place bytes fault → IsShown bytes
bad_shown place bytes fault (inl w) = cut_shown place bytes w.0 w.1 (Err fault) w.2
bad_shown place bytes fault (inr w) = w.0

no_cut : (place : ℕ) (bytes front after : List ℕ) (outcome : Result Token BadPlace) → NoLexeme bytes → IsCut place bytes front after outcome → ⊥
no_cut place bytes front after outcome none cut = none cut.lexeme front after cut.split cut.longest.spelled

same_bad : (place : ℕ) (bytes : List ℕ) (fault fault' : BadPlace) → IsBad place bytes fault → IsBad place bytes fault' → fault ≡ fault'
same_bad place bytes fault fault' (inl w) (inl w') =
    let same = (same_cut place bytes w.0 w.1 w'.0 w'.1 (Err fault) (Err fault') w.2 w'.2).outcome_is in cc
same_bad place bytes fault fault' (inl w) (inr w') = absurd (no_cut place bytes w.0 w.1 (Err fault) w'.1 w.2)
same_bad place bytes fault fault' (inr w) (inl w') = absurd (no_cut place bytes w'.0 w'.1 (Err fault') w.1 w'.2)
same_bad place bytes fault fault' (inr w) (inr w') = w.2 ∙ sym w'.2

bad_no_token : (place : ℕ) (bytes front after : List ℕ) (token : Token) (fault : BadPlace) → IsBad place bytes fault → IsCut place bytes front after (Ok token) → ⊥
bad_no_token place bytes front after token fault (inl w) cut =
    let same = (same_cut place bytes w.0 w.1 front after (Err fault) (Ok token) w.2 cut).outcome_is in cc
bad_no_token place bytes front after token fault (inr w) cut = no_cut place bytes front after (Ok token) w.1 cut

same_begins : (at : ℕ) (line : List ℕ) (place place' : ℕ) (bytes bytes' : List ℕ) → Begins at line place bytes → Begins at line place' bytes'
    → IsShown bytes → IsShown bytes' → (place ≡ place') × (bytes ≡ bytes')
same_begins at line place place' bytes bytes' begins begins' seen seen' =
    let same = same_blanks begins.blanks begins'.blanks bytes bytes' begins.blank begins'.blank seen seen' (sym begins.split ∙ begins'.split) in
    (begins.placed ∙ ap (λ bs. at + length bs) same.0 ∙ sym begins'.placed, same.1)

token_shown : (at : ℕ) (line : List ℕ) (token : Spanned) (after : List ℕ) → (w : BeginsWith at line token after) → IsShown w.bytes
token_shown at line token after w = cut_shown token.start w.bytes w.front after (Ok token.token) w.cut

-- a fault and a token do not stand at one place
no_both : (at : ℕ) (line : List ℕ) (fault : BadPlace) (token : Spanned) (after : List ℕ) → BeginsBad at line fault → BeginsWith at line token after → ⊥
no_both at line fault token after f w =
    let same = same_begins at line f.place token.start f.bytes w.bytes f.begins w.begins (bad_shown f.place f.bytes fault f.bad) (token_shown at line token after w) in
    let there : IsBad token.start w.bytes fault = subst (λ p. IsBad p w.bytes fault) same.0 (subst (λ bs. IsBad f.place bs fault) same.1 f.bad) in
    bad_no_token token.start w.bytes w.front after token.token fault there w.cut

same_token : (at : ℕ) (line : List ℕ) (token token' : Spanned) (after after' : List ℕ) → BeginsWith at line token after → BeginsWith at line token' after'
    → (token ≡ token') × (after ≡ after')
same_token at line token token' after after' w w' =
    let same = same_begins at line token.start token'.start w.bytes w'.bytes w.begins w'.begins (token_shown at line token after w) (token_shown at line token' after' w') in
    let there : IsCut token'.start w'.bytes w.front after (Ok token.token) =
    subst (λ p. IsCut p w'.bytes w.front after (Ok token.token)) same.0 (subst (λ bs. IsCut token.start bs w.front after (Ok token.token)) same.1 w.cut) in
    let cut = same_cut token'.start w'.bytes w.front after w'.front after' (Ok token.token) (Ok token'.token) there w'.cut in
    let outcome = cut.outcome_is in
    let token_is : token.token ≡ token'.token = cc in
    let end_is : token.end ≡ token'.end = w.ends ∙ (λ i. same.0 i + length (cut.front_is i)) ∙ sym w'.ends in
    ((λ i. record { token = token_is i; start = same.0 i; end = end_is i }), cut.after_is)

pub one_reading : (at : ℕ) (line : List ℕ) (ts ts' : List Spanned) (f f' : Option BadPlace) → IsRead at line ts f → IsRead at line ts' f'
    → (ts ≡ ts') × (f ≡ f')
one_reading at line [] [] None None r r' = (refl, refl)
one_reading at line [] [] None (Some f') r r' =
    absurd (all_blank r'.begins.blanks r'.bytes (subst (λ l. list_all is_blank l ≡ true) r'.begins.split r) (bad_shown r'.place r'.bytes f' r'.bad))
one_reading at line [] [] (Some f) None r r' =
    absurd (all_blank r.begins.blanks r.bytes (subst (λ l. list_all is_blank l ≡ true) r.begins.split r') (bad_shown r.place r.bytes f r.bad))
one_reading at line [] [] (Some f) (Some f') r r' =
    let same = same_begins at line r.place r'.place r.bytes r'.bytes r.begins r'.begins (bad_shown r.place r.bytes f r.bad) (bad_shown r'.place r'.bytes f' r'.bad) in
    let there : IsBad r'.place r'.bytes f = subst (λ p. IsBad p r'.bytes f) same.0 (subst (λ bs. IsBad r.place bs f) same.1 r.bad) in
    (refl, ap Some (same_bad r'.place r'.bytes f f' there r'.bad))
one_reading at line [] (t ∷ ts') None f' r r' =
    let w = r'.1 in
    absurd (all_blank w.begins.blanks w.bytes (subst (λ l. list_all is_blank l ≡ true) w.begins.split r) (token_shown at line t r'.0 w))
one_reading at line (t ∷ ts) [] f None r r' =
    let w = r.1 in
    absurd (all_blank w.begins.blanks w.bytes (subst (λ l. list_all is_blank l ≡ true) w.begins.split r') (token_shown at line t r.0 w))
one_reading at line [] (t ∷ ts') (Some f) f' r r' = absurd (no_both at line f t r'.0 r r'.1)
one_reading at line (t ∷ ts) [] f (Some f') r r' = absurd (no_both at line f' t r.0 r' r.1)
one_reading at line (t ∷ ts) (t' ∷ ts') f f' r r' =
    let same = same_token at line t t' r.0 r'.0 r.1 r'.1 in
    let there : IsRead t'.end r'.0 ts f = subst (λ u. IsRead u.end r'.0 ts f) same.0 (subst (λ a. IsRead t.end a ts f) same.1 r.2) in
    let rest = one_reading t'.end r'.0 ts ts' f f' there r'.2 in
    ((λ i. same.0 i ∷ rest.0 i), rest.1)
