-- Each line has a reading, with no more tokens than bytes, and a loop that cuts one token off at a time finds it.
use Rattle.std.proofs.Common.{◌≡◌, ℕ, zero, suc, ◌+◌, ◌-◌, ◌<◌, ◌≤◌, true, eqb, List, [], ◌∷◌, ◌++◌, length, take, drop, Option, Some, None, Result, Ok, Err, ◌⊎◌, inl, inr, ⊎_elim, sym, refl, ap, subst, ◌∙◌, arith, append_assoc, append-nil, take-append-drop, length-append, length-drop, length-take-le, add-zero}
use Rattle.std.specs.Char.{is_ascii_digit}
use Rattle.std.specs.List.{list_all, prefix_len}
use Rattle.std.proofs.lemmas.Bool.{cases_Bool, and_from, or_from, not-true, not_from_false, eqb-true}
use Rattle.std.proofs.lemmas.List.Sums.{prefix_len-le-length}
use Rattle.std.proofs.lemmas.List.Folds.{list_all-append}
use Rattle.pg_lexer.specs.declared.token.BadPlace.{BadPlace}
use Rattle.pg_lexer.specs.declared.token.BadPlace.TheVariants as bad
use Rattle.pg_lexer.specs.declared.token.Spanned.{Spanned}
use Rattle.pg_lexer.specs.declared.token.Token.{Token}
use Rattle.pg_lexer.specs.Found.{begins_no_other, longest_sign}
use Rattle.pg_lexer.specs.Bytes.{is_blank, begins_word, in_word}
use Rattle.pg_lexer.specs.Lexemes.{Lexeme, word, digits, text, unended, mark, quoted_form, IsLongest, NoLexeme, meaning, IsCut, IsBad}
use Rattle.pg_lexer.specs.Reading.{Begins, BeginsWith, IsRead, IsReadFrom}
use Rattle.pg_lexer.proofs.Lists.{passes, stops}
use Rattle.pg_lexer.proofs.Exact.{shown}
use Rattle.pg_lexer.proofs.Longest.{word_longest, digits_longest, text_longest, unended_longest, sign_longest, no_sign}
use Rattle.pg_lexer.proofs.Quotes.{Split, closed, never, split}
use Rattle.pg_lexer.specs.declared.sign.Sign.{Sign}
use Rattle.pg_lexer.proofs.Readings.{IsShown}

-- ---- there is one

begins_behind : (at at' : ℕ) (blanks line line' : List ℕ) (place : ℕ) (bytes : List ℕ) → list_all is_blank blanks ≡ true
    → line ≡ blanks ++ line' → at' ≡ at + length blanks → Begins at' line' place bytes → Begins at line place bytes
begins_behind at at' blanks line line' place bytes blank split placed begins = record {
  blanks = blanks ++ begins.blanks;
  split = split ∙ ap (λ l. blanks ++ l) begins.split ∙ sym (append_assoc blanks begins.blanks bytes);
  blank = list_all-append is_blank blanks begins.blanks ∙ and_from (list_all is_blank blanks) _ blank begins.blank;
  placed = let far = begins.placed in simp length-append (omega arith);
}

-- more white space in front changes nothing but the place
pub read_behind : (at at' : ℕ) (blanks line line' : List ℕ) (ts : List Spanned) (f : Option BadPlace) → list_all is_blank blanks ≡ true
    → line ≡ blanks ++ line' → at' ≡ at + length blanks → IsRead at' line' ts f → IsRead at line ts f
read_behind at at' blanks line line' [] None blank split placed r =
    rw (split, list_all-append is_blank blanks line') (and_from (list_all is_blank blanks) _ blank r)
read_behind at at' blanks line line' [] (Some f) blank split placed r = record {
  place = r.place;
  bytes = r.bytes;
  begins = begins_behind at at' blanks line line' r.place r.bytes blank split placed r.begins;
  bad = r.bad;
}
read_behind at at' blanks line line' (t ∷ ts) f blank split placed r = (
  r.0,
  record {
    bytes = r.1.bytes;
    front = r.1.front;
    begins = begins_behind at at' blanks line line' t.start r.1.bytes blank split placed r.1.begins;
    cut = r.1.cut;
    ends = r.1.ends;
  },
  r.2,
)

-- what stands at the front of bytes that begin with no white space
lexeme_at : (bytes : List ℕ) → IsShown bytes
    → ((lexeme : Lexeme) × (front : List ℕ) × (after : List ℕ) × (bytes ≡ front ++ after) × IsLongest lexeme front after) ⊎ NoLexeme bytes
lexeme_at [] seen = absurd seen
lexeme_at (b ∷ bs) seen = ⊎_elim
    (λ letter. let n = prefix_len in_word (b ∷ bs) in inl (word, take n (b ∷ bs), drop n (b ∷ bs), sym (take-append-drop n (b ∷ bs)), word_longest (b ∷ bs) n letter refl))
    (λ no_letter. ⊎_elim
    (λ digit. let n = prefix_len is_ascii_digit (b ∷ bs) in inl (digits, take n (b ∷ bs), drop n (b ∷ bs), sym (take-append-drop n (b ∷ bs)), digits_longest (b ∷ bs) n digit refl))
    (λ no_digit. ⊎_elim
    (λ quote. text_at (split bs) quote)
    (λ no_quote. sign_at (longest_sign (b ∷ bs)) refl (not_from_false _ (or_from _ _ (or_from _ _ (or_from _ _ (not-true (is_blank b) seen) no_letter) no_digit) no_quote)))
    (cases_Bool (eqb b 39)))
    (cases_Bool (is_ascii_digit b)))
    (cases_Bool (begins_word b))
  where
    text_at : Split bs → eqb b 39 ≡ true
        → ((lexeme : Lexeme) × (front : List ℕ) × (after : List ℕ) × (b ∷ bs ≡ front ++ after) × IsLongest lexeme front after) ⊎ NoLexeme (b ∷ bs)
    text_at (closed value after is ended) quote =
        inl (text value, 39 ∷ (quoted_form value ++ 39 ∷ []), after, (λ i. eqb-true b 39 quote i ∷ (is ∙ sym (append_assoc (quoted_form value) (39 ∷ []) after)) i), text_longest value after ended)
    text_at (never value is) quote =
        inl (unended value, 39 ∷ quoted_form value, [], (λ i. eqb-true b 39 quote i ∷ (is ∙ sym (append-nil (quoted_form value))) i), unended_longest value)

    sign_at : (o : Option (Sign × ℕ)) → longest_sign (b ∷ bs) ≡ o → begins_no_other b ≡ true
        → ((lexeme : Lexeme) × (front : List ℕ) × (after : List ℕ) × (b ∷ bs ≡ front ++ after) × IsLongest lexeme front after) ⊎ NoLexeme (b ∷ bs)
    sign_at None is starts = inr (no_sign (b ∷ bs) starts is)
    sign_at (Some found) is starts =
        inl (mark found.0, take found.1 (b ∷ bs), drop found.1 (b ∷ bs), sym (take-append-drop found.1 (b ∷ bs)), (sign_longest (b ∷ bs) found.0 found.1 starts is).1)

abbrev HasReading : ℕ → List ℕ → Type 0
HasReading at line = (ts : List Spanned) × (f : Option BadPlace) × IsRead at line ts f

nonempty : (xs : List ℕ) → IsShown xs → 0 < length xs
nonempty [] seen = absurd seen
nonempty (x ∷ xs) seen = omega arith

-- a token is at least one byte long
pub cut_length : (place : ℕ) (bytes front after : List ℕ) (outcome : Result Token BadPlace) → IsCut place bytes front after outcome → 0 < length front
cut_length place bytes front after outcome cut = nonempty front (shown cut.lexeme front cut.longest.spelled)

-- a reading of a line from readings of what is shorter
module _ (at : ℕ) (line : List ℕ) (shorter : (at' : ℕ) (after : List ℕ) → length after < length line → HasReading at' after) where
  with_token : (place : ℕ) (bytes front after : List ℕ) (token : Token) → Begins at line place bytes → IsCut place bytes front after (Ok token)
      → HasReading at line
  with_token place bytes front after token begins cut =
      let long = cut_length place bytes front after (Ok token) cut in
      let whole = ap length (begins.split ∙ ap (λ r. begins.blanks ++ r) cut.split) in
      let sum : length line ≡ length begins.blanks + (length front + length after) = whole ∙ simp length-append in
      let rest = shorter (place + length front) after (omega arith) in (
        record { token = token; start = place; end = place + length front } ∷ rest.0,
        rest.1,
        (after, record { bytes = bytes; front = front; begins = begins; cut = cut; ends = refl }, rest.2),
      )

  with_lexeme : (place : ℕ) (bytes : List ℕ) (lexeme : Lexeme) (front after : List ℕ) → bytes ≡ front ++ after → IsLongest lexeme front after
      → Begins at line place bytes → (outcome : Result Token BadPlace) → meaning place lexeme front ≡ outcome → HasReading at line
  with_lexeme place bytes lexeme front after cut longest begins (Ok token) means =
      with_token place bytes front after token begins (record { lexeme = lexeme; split = cut; longest = longest; means = means })
  with_lexeme place bytes lexeme front after cut longest begins (Err fault) means = (
    [],
    Some fault,
    record {
      place = place;
      bytes = bytes;
      begins = begins;
      bad = inl (front, after, record { lexeme = lexeme; split = cut; longest = longest; means = means });
    },
  )

  read_step : (rest : List ℕ) → drop (prefix_len is_blank line) line ≡ rest → HasReading at line
  read_step [] is =
      let k = prefix_len is_blank line in
      let whole : take k line ≡ line = sym (append-nil (take k line)) ∙ ap (λ r. take k line ++ r) (sym is) ∙ take-append-drop k line in
      ([], None, ap (list_all is_blank) (sym whole) ∙ passes is_blank line)
  read_step (b ∷ bs) is =
      let k = prefix_len is_blank line in
      let place = at + length (take k line) in
      let seen : IsShown (b ∷ bs) = not_from_false (is_blank b) (stops is_blank line b bs is) in
      let begins : Begins at line place (b ∷ bs) = record {
        blanks = take k line;
        split = sym (take-append-drop k line) ∙ ap (λ r. take k line ++ r) is;
        blank = passes is_blank line;
        placed = refl;
      } in
      ⊎_elim
      (λ w. with_lexeme place (b ∷ bs) w.0 w.1 w.2 w.3 w.4 begins (meaning place w.0 w.1) refl)
      (λ none. ([], Some (bad.Byte place), record { place = place; bytes = b ∷ bs; begins = begins; bad = inr (seen, none, refl) }))
      (lexeme_at (b ∷ bs) seen)

read_up_to : (n at : ℕ) (line : List ℕ) → length line < n → HasReading at line
read_up_to zero at line short = absurd (omega arith)
read_up_to (suc n) at line short =
    read_step at line (λ at' after less. read_up_to n at' after (omega arith)) (drop (prefix_len is_blank line) line) refl

pub read_one : (at : ℕ) (line : List ℕ) → (ts : List Spanned) × (f : Option BadPlace) × IsRead at line ts f
read_one at line = read_up_to (suc (length line)) at line (omega arith)

-- ---- no more tokens than bytes

-- a token leaves fewer bytes behind it
fewer_behind : (at : ℕ) (line : List ℕ) (token : Spanned) (after : List ℕ) → BeginsWith at line token after
    → length after < length line
fewer_behind at line token after w =
    let long = cut_length token.start w.bytes w.front after (Ok token.token) w.cut in
    let whole = ap length (w.begins.split ∙ ap (λ bs. w.begins.blanks ++ bs) w.cut.split) in
    let sum : length line ≡ length w.begins.blanks + (length w.front + length after) = whole ∙ simp length-append in
    omega arith

pub few_tokens : (at : ℕ) (line : List ℕ) (tokens : List Spanned) (fault : Option BadPlace)
    → IsRead at line tokens fault → length tokens ≤ length line
few_tokens at line [] fault r = omega arith
few_tokens at line (t ∷ ts) fault r =
    let less = fewer_behind at line t r.0 r.1 in
    let rest = few_tokens t.end r.0 ts fault r.2 in
    omega arith

-- from a place on there are no more tokens than the whole line has bytes
pub few_tokens_from : (from : ℕ) (line : List ℕ) (tokens : List Spanned) (fault : Option BadPlace)
    → IsReadFrom from line tokens fault → length tokens ≤ length line
few_tokens_from from line tokens fault r =
    let size = length-drop (from - 1) line in
    let few = few_tokens from (drop (from - 1) line) tokens fault r in
    omega arith

-- ---- the loop over a line

-- What is read so far: whatever reads the rest, from its place on, reads the line with these tokens in front.
pub record ReadSoFar (line : List ℕ) (start end : ℕ) (tokens : List Spanned) (rest : List ℕ) : Type 0 where
  pub leads : (ts : List Spanned) (f : Option BadPlace) → IsRead (end - length rest) rest ts f → IsRead start (drop (start - 1) line) (tokens ++ ts) f
  pub ends : end ≡ length line + 1
  pub within : length rest ≤ length line
  pub seen : 0 < length rest → IsShown rest

trimmed_shown : (line : List ℕ) → 0 < length (drop (prefix_len is_blank line) line) → IsShown (drop (prefix_len is_blank line) line)
trimmed_shown line some = go (drop (prefix_len is_blank line) line) refl some
  where
    go : (rest : List ℕ) → drop (prefix_len is_blank line) line ≡ rest → 0 < length rest → IsShown rest
    go [] is some = absurd (omega arith)
    go (b ∷ bs) is some = not_from_false (is_blank b) (stops is_blank line b bs is)

-- white space in front may be left out
read_trimmed : (at at' : ℕ) (line : List ℕ) (ts : List Spanned) (f : Option BadPlace) → at' + length (drop (prefix_len is_blank line) line) ≡ at + length line
    → IsRead at' (drop (prefix_len is_blank line) line) ts f → IsRead at line ts f
read_trimmed at at' line ts f placed r =
    let k = prefix_len is_blank line in
    let within = prefix_len-le-length is_blank line in
    read_behind at at' (take k line) line (drop k line) ts f (passes is_blank line) (sym (take-append-drop k line))
    (let front = length-take-le k line within in let behind = length-drop k line in omega arith) r

pub read_begins : (line : List ℕ) (start end : ℕ) (rest : List ℕ) → 1 ≤ start → start ≤ length line + 1 → end ≡ length line + 1
    → rest ≡ drop (prefix_len is_blank (drop (start - 1) line)) (drop (start - 1) line) → ReadSoFar line start end [] rest
read_begins line start end rest low high ends is =
    let whole = drop (start - 1) line in
    let size = length-drop (start - 1) line in
    let less : length rest ≤ length whole = rw is (simp length-drop (omega arith)) in
    record {
      leads = λ ts f r. read_trimmed start (end - length rest) whole ts f (rw (← is) (omega arith)) (subst (λ xs. IsRead (end - length rest) xs ts f) is r);
      ends = ends;
      within = omega arith;
      seen = λ some. rw is (trimmed_shown whole (rw is at some));
    }

pub read_more : (line : List ℕ) (start end : ℕ) (tokens : List Spanned) (rest rest' : List ℕ) (token : Token) (n : ℕ)
    → ReadSoFar line start end tokens rest → n ≤ length rest → IsCut (end - length rest) rest (take n rest) (drop n rest) (Ok token)
    → rest' ≡ drop (prefix_len is_blank (drop n rest)) (drop n rest)
    → ReadSoFar line start end (tokens ++ record { token = token; start = end - length rest; end = end - length rest + n } ∷ []) rest'
read_more line start end tokens rest rest' token n so_far within cut is =
    let next : Spanned = record { token = token; start = end - length rest; end = end - length rest + n } in
    let size = length-drop n rest in
    let less : length rest' ≤ length (drop n rest) = rw is (simp length-drop (omega arith)) in
    let ends = so_far.ends in
    let short = so_far.within in
    record {
      leads = λ ts f r.
          let after : IsRead next.end (drop n rest) ts f =
          read_trimmed next.end (end - length rest') (drop n rest) ts f (rw (← is) (omega arith)) (subst (λ xs. IsRead (end - length rest') xs ts f) is r) in
          let whole = so_far.leads (next ∷ ts) f (
            drop n rest,
            record {
              bytes = rest;
              front = take n rest;
              begins = record { blanks = []; split = refl; blank = refl; placed = sym (add-zero (end - length rest)) };
              cut = cut;
              ends = ap (λ m. end - length rest + m) (sym (length-take-le n rest within));
            },
            after,
          ) in
          subst (λ us. IsRead start (drop (start - 1) line) us f) (sym (append_assoc tokens (next ∷ []) ts)) whole;
      ends = ends;
      within = omega arith;
      seen = λ some. rw is (trimmed_shown (drop n rest) (rw is at some));
    }

pub read_ends : (line : List ℕ) (start end : ℕ) (tokens : List Spanned) (rest : List ℕ) → ReadSoFar line start end tokens rest → rest ≡ []
    → IsRead start (drop (start - 1) line) tokens None
read_ends line start end tokens rest so_far nothing =
    subst (λ us. IsRead start (drop (start - 1) line) us None) (append-nil tokens)
    (so_far.leads [] None (ap (list_all is_blank) nothing))

pub read_bad : (line : List ℕ) (start end : ℕ) (tokens : List Spanned) (rest : List ℕ) (fault : BadPlace) → ReadSoFar line start end tokens rest
    → IsBad (end - length rest) rest fault → IsRead start (drop (start - 1) line) tokens (Some fault)
read_bad line start end tokens rest fault so_far bad =
    subst (λ us. IsRead start (drop (start - 1) line) us (Some fault)) (append-nil tokens)
    (so_far.leads [] (Some fault) (record {
      place = end - length rest;
      bytes = rest;
      begins = record { blanks = []; split = refl; blank = refl; placed = sym (add-zero (end - length rest)) };
      bad = bad;
    }))

-- a token leaves less to be read
pub read_less : (place : ℕ) (rest : List ℕ) (n : ℕ) (rest' : List ℕ) (token : Token) → n ≤ length rest
    → IsCut place rest (take n rest) (drop n rest) (Ok token) → rest' ≡ drop (prefix_len is_blank (drop n rest)) (drop n rest) → length rest' < length rest
read_less place rest n rest' token within cut is =
    let some = cut_length place rest (take n rest) (drop n rest) (Ok token) cut in
    let front = length-take-le n rest within in
    rw is (simp length-drop (omega arith))
