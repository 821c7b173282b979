-- What is read passes the tests of the laws: one lemma a form.
use Rattle.std.proofs.Common.{◌≡◌, Bool, true, ◌&&◌, List, [], ◌∷◌, ◌++◌, Option, refl, ◌∙◌}
use Rattle.pg_parse_stmt.proofs.Common.{list_all, and_from, Lang, gives, one, bind, either, Keeps, keeps_gives, keeps_token, keeps_one, keeps_bind, keeps_either, keeps_more, Token, is_token, word, sign, or_else, optional, next_of, list_of, in_brackets, none_or, some_and_all}
use Rattle.std.proofs.lemmas.List.Folds.{list_all-append}
use Rattle.pg_lexer.specs.declared.keyword.Keyword.{Keyword as Reserved}
use Rattle.pg_lexer.specs.declared.sign.Sign.{Sign as Mark}
use Rattle.pg_lexer.specs.declared.token.Token.TheVariants.{Keyword, Sign}

-- what L reads of tokens that a line may have passes a test
abbrev pub Reading : {V : Type 0} → Lang Token V → (V → Bool) → Type 0
Reading L p = Keeps is_token L (λ v. p v ≡ true)

-- tests that all hold
pub both : {a b : Bool} → a ≡ true → b ≡ true → (a && b) ≡ true
both {a} {b} g h = and_from a b g h

pub reading_gives : {V : Type 0} {x : V} {p : V → Bool} → p x ≡ true → Reading (gives x) p
reading_gives {V} {x} {p} h = keeps_gives is_token (λ v. p v ≡ true) x h

pub reading_word : {V : Type 0} {w : Reserved} {L : Lang Token V} {P : V → Type 0} → Keeps is_token L P →
    Keeps is_token (word w L) P
reading_word {V} {w} {L} {P} a = keeps_token is_token P (Keyword w) L a

pub reading_sign : {V : Type 0} {c : Mark} {L : Lang Token V} {P : V → Type 0} → Keeps is_token L P →
    Keeps is_token (sign c L) P
reading_sign {V} {c} {L} {P} a = keeps_token is_token P (Sign c) L a

pub reading_bind : {X V : Type 0} {L : Lang Token X} {K : X → Lang Token V} {Q : X → Type 0} {P : V → Type 0} →
    Keeps is_token L Q → ((x : X) → Q x → Keeps is_token (K x) P) → Keeps is_token (bind L K) P
reading_bind {X} {V} {L} {K} {Q} {P} a k = keeps_bind is_token Q P L K a k

pub reading_either : {V : Type 0} {L M : Lang Token V} {P : V → Type 0} → Keeps is_token L P → Keeps is_token M P →
    Keeps is_token (either L M) P
reading_either {V} {L} {M} {P} a b = keeps_either is_token P L M a b

-- what passes one test passes another
pub reading_less : {V : Type 0} {L : Lang Token V} {P Q : V → Type 0} → Keeps is_token L P → ((v : V) → P v → Q v) →
    Keeps is_token L Q
reading_less a h = record { keeps = λ s v z g l. let r = a.keeps s v z g l in (h v r.0, r.1) }

-- a value of which nothing is asked
abbrev pub Free : {V : Type 0} → Lang Token V → Type 0
Free L = Keeps is_token L (λ v. v ≡ v)

pub free_gives : {V : Type 0} {x : V} → Free (gives x)
free_gives {V} {x} = keeps_gives is_token (λ v. v ≡ v) x refl

pub free_one : {X : Type 0} {f : Token → Option X} → Free (one f)
free_one {X} {f} = keeps_one is_token (λ x. x ≡ x) f (λ t x a h. refl)

-- what may be left out
pub reading_optional : {V : Type 0} {L : Lang Token V} {p : V → Bool} → Reading L p → Reading (optional L) (none_or p)
reading_optional a = reading_either (reading_bind a (λ v h. reading_gives h)) (reading_gives refl)

pub reading_in_brackets : {V : Type 0} {L : Lang Token V} {P : V → Type 0} → Keeps is_token L P →
    Keeps is_token (in_brackets L) P
unfolding in_brackets
reading_in_brackets {V} {L} {P} a = reading_sign (reading_bind a (λ v h. reading_sign (keeps_gives is_token P v h)))

-- a list that is empty where it is left out
some_all : {V : Type 0} (p : V → Bool) (list : List V) → some_and_all p list ≡ true → list_all p list ≡ true
some_all p [] h = refl
some_all p (v ∷ list) h = h

pub reading_list_or_none : {V : Type 0} {L : Lang Token (List V)} (p : V → Bool) → Reading L (some_and_all p) →
    Reading (or_else [] L) (list_all p)
reading_list_or_none p a = reading_either (reading_less a (some_all p)) (reading_gives refl)

-- lists, of which each value passes a test
pub all_and_one : {V : Type 0} (p : V → Bool) (list : List V) (v : V) → list_all p list ≡ true → p v ≡ true →
    list_all p (list ++ v ∷ []) ≡ true
all_and_one p list v h g = list_all-append p list (v ∷ []) ∙ both h (both g refl)

pub some_and_one : {V : Type 0} (p : V → Bool) (list : List V) (v : V) → some_and_all p list ≡ true → p v ≡ true →
    some_and_all p (list ++ v ∷ []) ≡ true
some_and_one p [] v h g = absurd (cc h)
some_and_one p (x ∷ list) v h g = all_and_one p (x ∷ list) v h g

pub reading_list : {V : Type 0} (p : V → Bool) (L : Lang Token V) → Reading L p → Reading (list_of L) (some_and_all p)
unfolding list_of next_of
reading_list p L a =
    reading_bind a
    (λ v h. keeps_more is_token (λ list. some_and_all p list ≡ true) (next_of L)
    (λ list g. reading_sign (reading_bind a (λ x q. reading_gives (some_and_one p list x g q)))) (v ∷ []) (both h refl))
