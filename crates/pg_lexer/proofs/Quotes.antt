-- Texts as they are written, with each quote doubled.
use Rattle.std.proofs.Common.{◌≡◌, ℕ, suc, ◌+◌, ◌-◌, ◌<◌, true, false, eqb, List, [], ◌∷◌, ◌++◌, length, take, drop, ⊎_elim, sym, refl, ap, ◌∙◌, arith, append_assoc, length-append}
use Rattle.std.proofs.lemmas.Bool.{cases_Bool, cond-true, cond-false, eqb-true, eq-eqb, ne_eqb, true≢false}
use Rattle.std.proofs.lemmas.Grind.{flat_map-append}
use Rattle.std.proofs.lemmas.List.{take_at, drop_at}
use Rattle.pg_lexer.specs.Bytes.{Starts}
use Rattle.pg_lexer.specs.Found.{EndsText, Writes, IsEnded}
use Rattle.pg_lexer.specs.Lexemes.{quoted_form}

pub quoted_other : (b : ℕ) (value : List ℕ) → eqb b 39 ≡ false → quoted_form (b ∷ value) ≡ b ∷ quoted_form value
unfolding quoted_form
quoted_other b value other = ap (λ front. front ++ quoted_form value) (cond-false (eqb b 39) (39 ∷ 39 ∷ []) (b ∷ []) other)

pub quoted_quote : (b : ℕ) (value : List ℕ) → eqb b 39 ≡ true → quoted_form (b ∷ value) ≡ 39 ∷ 39 ∷ quoted_form value
unfolding quoted_form
quoted_quote b value quote = ap (λ front. front ++ quoted_form value) (cond-true (eqb b 39) (39 ∷ 39 ∷ []) (b ∷ []) quote)

quoted_append : (xs ys : List ℕ) → quoted_form (xs ++ ys) ≡ quoted_form xs ++ quoted_form ys
unfolding quoted_form
quoted_append xs ys = flat_map-append _ xs ys

quoted_nil : quoted_form [] ≡ []
unfolding quoted_form
quoted_nil = refl

-- one byte of the value more
pub quoted_push : (value bytes rest : List ℕ) (byte n : ℕ) → Writes rest byte n → bytes ≡ quoted_form value ++ rest
    → bytes ≡ quoted_form (value ++ byte ∷ []) ++ drop n rest
quoted_push value bytes rest byte n writes e =
    e ∙ ap (λ r. quoted_form value ++ r) writes.written ∙ sym (append_assoc (quoted_form value) (quoted_form (byte ∷ [])) (drop n rest))
    ∙ ap (λ q. q ++ drop n rest) (sym (quoted_append value (byte ∷ [])))

pub writes_other : (byte : ℕ) (after : List ℕ) → (byte ≡ 39 → ⊥) → Writes (byte ∷ after) byte 1
writes_other byte after other = record {
  some = omega arith;
  within = omega arith;
  written = ap (λ q. q ++ after) (sym (quoted_other byte [] (ne_eqb byte 39 other) ∙ ap (λ q. byte ∷ q) quoted_nil));
}

pub writes_quote : (byte second : ℕ) (after : List ℕ) → byte ≡ 39 → second ≡ 39 → Writes (byte ∷ second ∷ after) byte 2
writes_quote byte second after first again = record {
  some = omega arith;
  within = omega arith;
  written = (λ i. first i ∷ again i ∷ after) ∙ ap (λ q. q ++ after) (sym (quoted_quote byte [] (eq-eqb byte 39 first) ∙ ap (λ q. 39 ∷ 39 ∷ q) quoted_nil));
}

-- where a text ends and the line goes on, the closing quote comes next
pub ended_body : (bytes value rest : List ℕ) (n : ℕ) → bytes ≡ quoted_form value ++ rest → EndsText rest → 0 < length rest → n ≡ length bytes - length rest + 1
    → IsEnded bytes value n
ended_body bytes value [] n e ends some is = absurd (omega arith)
ended_body bytes value (b ∷ after) n e ends some is =
    let sum : length bytes ≡ length (quoted_form value) + suc (length after) = ap length e ∙ simp length-append in
    let size : n ≡ length (quoted_form value ++ 39 ∷ []) = simp length-append (omega arith) in
    let whole : bytes ≡ (quoted_form value ++ 39 ∷ []) ++ after =
    e ∙ ap (λ q. quoted_form value ++ q ∷ after) ends.0 ∙ sym (append_assoc (quoted_form value) (39 ∷ []) after) in
    let front : take n bytes ≡ quoted_form value ++ 39 ∷ [] = ap (take n) whole ∙ take_at (quoted_form value ++ 39 ∷ []) after n (sym size) in
    let behind : drop n bytes ≡ after = ap (drop n) whole ∙ drop_at (quoted_form value ++ 39 ∷ []) after n (sym size) in
    record { within = omega arith; written = front; ended = rw behind ends.1 }

-- the bytes behind an opening quote come to a closing one, or never do
pub data Split : List ℕ → Type 0 where
  closed : {bytes : List ℕ} (value after : List ℕ) → bytes ≡ quoted_form value ++ 39 ∷ after → (Starts (λ b. eqb b 39) after → ⊥) → Split bytes
  never : {bytes : List ℕ} (value : List ℕ) → bytes ≡ quoted_form value → Split bytes

more_other : (b : ℕ) (bs : List ℕ) → eqb b 39 ≡ false → Split bs → Split (b ∷ bs)
more_other b bs other (closed value after is ended) =
    closed (b ∷ value) after (ap (λ q. b ∷ q) is ∙ ap (λ q. q ++ 39 ∷ after) (sym (quoted_other b value other))) ended
more_other b bs other (never value is) = never (b ∷ value) (ap (λ q. b ∷ q) is ∙ sym (quoted_other b value other))

more_quote : (b c : ℕ) (bs : List ℕ) → eqb b 39 ≡ true → eqb c 39 ≡ true → Split bs → Split (b ∷ c ∷ bs)
more_quote b c bs first second (closed value after is ended) =
    closed (39 ∷ value) after ((λ i. eqb-true b 39 first i ∷ eqb-true c 39 second i ∷ is i) ∙ ap (λ q. q ++ 39 ∷ after) (sym (quoted_quote 39 value refl))) ended
more_quote b c bs first second (never value is) =
    never (39 ∷ value) ((λ i. eqb-true b 39 first i ∷ eqb-true c 39 second i ∷ is i) ∙ sym (quoted_quote 39 value refl))

pub split : (bytes : List ℕ) → Split bytes
split [] = never [] (sym quoted_nil)
split (b ∷ []) = ⊎_elim
    (λ quote. closed [] [] ((λ i. eqb-true b 39 quote i ∷ []) ∙ ap (λ q. q ++ 39 ∷ []) (sym quoted_nil)) (λ starts. starts))
    (λ other. more_other b [] other (never [] (sym quoted_nil)))
    (cases_Bool (eqb b 39))
split (b ∷ c ∷ bs) = ⊎_elim
    (λ quote. ⊎_elim
    (λ again. more_quote b c bs quote again (split bs))
    (λ other. closed [] (c ∷ bs) ((λ i. eqb-true b 39 quote i ∷ c ∷ bs) ∙ ap (λ q. q ++ 39 ∷ c ∷ bs) (sym quoted_nil)) (λ starts. true≢false (sym starts ∙ other)))
    (cases_Bool (eqb c 39)))
    (λ other. more_other b (c ∷ bs) other (split (c ∷ bs)))
    (cases_Bool (eqb b 39))

pub quoted_nothing : (bytes : List ℕ) → bytes ≡ quoted_form [] ++ bytes
quoted_nothing bytes = ap (λ q. q ++ bytes) (sym quoted_nil)
