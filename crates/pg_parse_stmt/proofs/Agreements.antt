-- One reading of the forms that many rules have.
use Rattle.std.proofs.Common.{◌≡◌, ◌∷◌, ◌++◌, ℕ, suc, Bool, true, false, [], Option, Some, None, refl, ap, ◌∙◌, arith, not, ◌&&◌, is_some, leb, le-leb, leb-true}
use Rattle.pg_parse_stmt.proofs.Common.{both_ways, not_from_true, and_right, next, Lang, gives, token, one, bind, either, more, Agree, Apart, apart_starts, agree_less, agree_gives, agree_token, agree_bind, agree_either, agree_more, Starts, starts_gives, starts_token, starts_one, starts_bind, starts_either, starts_more, Token, has, any, rank, behind, sign, or_else, optional, next_of, list_of, in_brackets}
use Rattle.pg_lexer.specs.declared.sign.Sign.TheVariants as s
use Rattle.pg_lexer.specs.declared.token.Token.TheVariants as t
use Rattle.pg_parse_stmt.proofs.Lists.{starts_any, and_left}

-- what f does not let stand behind
abbrev pub outside : (Option Token → Bool) → Option Token → Bool
outside f o = not (f o)

-- what may stand behind a step, and not behind the last
abbrev pub between : (Option Token → Bool) → (Option Token → Bool) → Option Token → Bool
between before behind o = before o && not (behind o)

not_true : (b : Bool) → not b ≡ true → b ≡ false
not_true true e = absurd (cc e)
not_true false e = refl

-- what begins with p begins with q
pub starts_as : {V : Type 0} (p q g : Option Token → Bool) {L : Lang Token V} →
    ((o : Option Token) → p o ≡ true → q o ≡ true) →
    Starts p L g → Starts q L g
starts_as p q g h a = record { starts = λ m s v z l c. h (next s) (a.starts m s v z l c) }

-- what a part begins with, whatever stands behind it
pub starts_first : {X V : Type 0} (f g : Option Token → Bool) (L : Lang Token X) (K : X → Lang Token V) →
    Starts f L any →
    Starts f (bind L K) g
starts_first f g L K a = starts_bind f any g L K a (λ x. starts_any (K x) g)

pub starts_has : {X : Type 0} (p : Token → Option X) (g : Option Token → Bool) → Starts (has p) (one p) g
unfolding has
starts_has p g = starts_one (has p) g p (λ u x e. ap is_some e)

-- Apart
pub apart_flip : {V : Type 0} {f : Option Token → Bool} {L M : Lang Token V} → Apart L M f → Apart M L f
apart_flip a = record { apart = λ m n s v w y z l r c d. a.apart n m s w v z y r l d c }

pub apart_words : {V : Type 0} (f : Option Token → Bool) (u x : Token) (L M : Lang Token V) → (u ≡ x → ⊥) →
    Apart (token u L) (token x M) f
apart_words f u x L M h = record { apart = λ m n s v w y z l r c d. h (cc (l.1, r.1)) }

-- a word that the other does not begin with
pub apart_token : {V : Type 0} (q f : Option Token → Bool) (u : Token) (L M : Lang Token V) → q (Some u) ≡ false →
    Starts q M f →
    Apart (token u L) M f
apart_token q f u L M h b = record {
  apart = λ m n s v w y z l r c d.
      let here : q (next s) ≡ false = ap (λ x. q (next x)) l.1 ∙ h in
      both_ways (q (next s)) here (b.starts n s w z r d);
}

pub apart_outside : {V : Type 0} (q f : Option Token → Bool) (L M : Lang Token V) → Starts q L f →
    Starts (outside q) M f → Apart L M f
apart_outside q f L M a b = apart_starts q (outside q) f L M a b (λ o e. not_from_true (q o) e)

-- Agree
pub agree_then : {X V : Type 0} (h f : Option Token → Bool) (L : Lang Token X) (K : X → Lang Token V) → Agree L L h →
    ((x : X) → Agree (K x) (K x) f) → ((x : X) → Starts h (K x) f) → Agree (bind L K) (bind L K) f
agree_then h f L K a b c = agree_bind h f L L K K a b c c

-- a part that any token may stand behind
pub agree_free : {X V : Type 0} (f : Option Token → Bool) (L : Lang Token X) (K : X → Lang Token V) → Agree L L any →
    ((x : X) → Agree (K x) (K x) f) → Agree (bind L K) (bind L K) f
agree_free f L K a b = agree_then any f L K a b (λ x. starts_any (K x) f)

pub agree_made : {X V : Type 0} (f : Option Token → Bool) (L : Lang Token X) (make : X → V) → Agree L L f →
    Agree (bind L (λ x. gives (make x))) (bind L (λ x. gives (make x))) f
agree_made f L make a =
    agree_then f f L (λ x. gives (make x)) a (λ x. agree_gives f (make x)) (λ x. starts_gives f f (make x) (λ o e. e))

pub agree_choice : {V : Type 0} (f : Option Token → Bool) (L M : Lang Token V) → Agree L L f → Agree M M f →
    Apart L M f →
    Agree (either L M) (either L M) f
agree_choice f L M a b p = agree_either f L L M M a b p p

pub agree_words : {V : Type 0} (f : Option Token → Bool) (u x : Token) (L M : Lang Token V) → (u ≡ x → ⊥) →
    Agree L L f → Agree M M f →
    Agree (either (token u L) (token x M)) (either (token u L) (token x M)) f
agree_words f u x L M h a b =
    agree_choice f (token u L) (token x M) (agree_token f u L L a) (agree_token f x M M b) (apart_words f u x L M h)

-- what may be left out begins with no token that may stand behind it
pub agree_or : {V : Type 0} (f : Option Token → Bool) (x : V) (L : Lang Token V) → Agree L L f →
    Starts (outside f) L f →
    Agree (or_else x L) (or_else x L) f
agree_or f x L a b =
    agree_choice f L (gives x) a (agree_gives f x)
    (apart_starts (outside f) f f L (gives x) b (starts_gives f f x (λ o e. e)) (λ o e. not_true (f o) e))

pub agree_or_word : {V : Type 0} (f : Option Token → Bool) (x : V) (u : Token) (L : Lang Token V) → f (Some u) ≡ false →
    Agree L L f →
    Agree (or_else x (token u L)) (or_else x (token u L)) f
agree_or_word f x u L h a = agree_or f x (token u L) (agree_token f u L L a) (starts_token (outside f) f u L (ap not h))

pub agree_optional : {V : Type 0} (f : Option Token → Bool) (L : Lang Token V) → Agree L L f → Starts (outside f) L f →
    Agree (optional L) (optional L) f
agree_optional f L a b =
    agree_or f None (bind L (λ v. gives (Some v))) (agree_made f L (λ v. Some v) a)
    (starts_bind (outside f) f f L (λ v. gives (Some v)) b (λ v. starts_gives f f (Some v) (λ o e. e)))

pub agree_optional_word : {V : Type 0} (f : Option Token → Bool) (u : Token) (L : Lang Token V) → f (Some u) ≡ false →
    Agree L L f →
    Agree (optional (token u L)) (optional (token u L)) f
agree_optional_word f u L h a =
    agree_optional f (token u L) (agree_token f u L L a) (starts_token (outside f) f u L (ap not h))

pub agree_brackets : {V : Type 0} (h f : Option Token → Bool) (L : Lang Token V) → h (Some (t.Sign s.Close)) ≡ true →
    Agree L L h →
    Agree (in_brackets L) (in_brackets L) f
unfolding in_brackets
agree_brackets h f L c a =
    agree_token f (t.Sign s.Open) _ _
    (agree_then h f L (λ v. sign s.Close (gives v)) a (λ v. agree_token f (t.Sign s.Close) (gives v) (gives v)
    (agree_gives f v))
    (λ v. starts_token h f (t.Sign s.Close) (gives v) c))

-- a part, and steps behind it
module _ {X V : Type 0} (before behind : Option Token → Bool) (L : Lang Token X) (step : V → Lang Token V)
    (first : X → V)
    (below : (o : Option Token) → behind o ≡ true → before o ≡ true)
    (begun : (a : V) → Starts (between before behind) (step a) before) where
  pub starts_rest : (a : V) → Starts before (more step a) behind
  starts_rest a =
      starts_more before behind step a
      (λ v. starts_as (between before behind) before before (λ o e. and_left (before o) (not (behind o)) e)
      (begun v)) below

  pub agree_rest : ((a : V) → Agree (step a) (step a) before) → (a : V) → Agree (more step a) (more step a) behind
  agree_rest each a =
      agree_more (between before behind) before behind step step each begun begun
      (λ o e. and_left (before o) (not (behind o)) e) below
      (λ o e. and_right (before o) (not (behind o)) (not_from_true (behind o) e)) a

  pub agree_repeat : ((a : V) → Agree (step a) (step a) before) → Agree L L before →
      Agree (bind L (λ x. more step (first x))) (bind L (λ x. more step (first x))) behind
  agree_repeat each a =
      agree_then before behind L (λ x. more step (first x)) a (λ x. agree_rest each (first x))
      (λ x. starts_rest (first x))

pub deeper : (i j : ℕ) → leb i j ≡ true → (o : Option Token) → behind j o ≡ true → behind i o ≡ true
deeper i j h o b =
    let l = leb-true (suc j) (rank o) b in
    let g = leb-true i j h in
    le-leb (suc i) (rank o) (omega (arith, g, l))

-- L has one reading where what is behind the level may follow
abbrev pub Single : {V : Type 0} → ℕ → Lang Token V → Type 0
Single level L = Agree L L (behind level)

pub single : {V : Type 0} (level : ℕ) (L : Lang Token V) → Agree L L any → Single level L
single level L a = agree_less any (behind level) L L (λ o e. refl) a

pub loosened : {V : Type 0} (i j : ℕ) (L : Lang Token V) → leb i j ≡ true → Single i L → Single j L
loosened i j L h a = agree_less (behind i) (behind j) L L (deeper i j h) a

pub single_list : {V : Type 0} (L : Lang Token V) → Single 10 L → Single 11 (list_of L)
unfolding list_of next_of rank
single_list L a =
    agree_repeat (behind 10) (behind 11) L (next_of L) (λ v. v ∷ []) (deeper 10 11 refl)
    (λ list. starts_token (between (behind 10) (behind 11)) (behind 10) (t.Sign s.Comma) _ refl)
    (λ list. agree_token (behind 10) (t.Sign s.Comma) _ _ (agree_made (behind 10) L (λ v. list ++ v ∷ []) a)) a

-- what is left of a rule behind a part of the level i
pub record Tail {V : Type 0} (i : ℕ) (L : Lang Token V) (level : ℕ) : Type 0 where
  pub agree : Agree L L (behind level)
  pub starts : Starts (behind i) L (behind level)

pub tail_gives : {V : Type 0} (i level : ℕ) (x : V) → leb i level ≡ true → Tail i (gives x) level
tail_gives i level x h =
    record {
      agree =
          agree_gives (behind level) x;
      starts = starts_gives (behind i) (behind level) x (deeper i level h);
    }

pub tail_token : {V : Type 0} (i level : ℕ) (u : Token) (L : Lang Token V) → behind i (Some u) ≡ true → Single level L →
    Tail i (token u L) level
tail_token i level u L h a =
    record { agree = agree_token (behind level) u L L a; starts = starts_token (behind i) (behind level) u L h }

pub tail_bind : {X V : Type 0} (i j level : ℕ) (L : Lang Token X) (K : X → Lang Token V) → Single j L →
    Starts (behind i) L (behind j) →
    ((x : X) → Tail j (K x) level) → Tail i (bind L K) level
tail_bind i j level L K a b c = record {
  agree = agree_then (behind j) (behind level) L K a (λ x. (c x).agree) (λ x. (c x).starts);
  starts = starts_bind (behind i) (behind j) (behind level) L K b (λ x. (c x).starts);
}

pub agree_rule : {X V : Type 0} (j level : ℕ) (L : Lang Token X) (K : X → Lang Token V) → Single j L →
    ((x : X) → Tail j (K x) level) → Single level (bind L K)
agree_rule j level L K a c = agree_then (behind j) (behind level) L K a (λ x. (c x).agree) (λ x. (c x).starts)

-- [u L] begins with u, or with what stands behind it
pub starts_or_at : {V : Type 0} (i j : ℕ) (x : V) (u : Token) (L : Lang Token V) → behind i (Some u) ≡ true →
    leb i j ≡ true →
    Starts (behind i) (or_else x (token u L)) (behind j)
starts_or_at i j x u L h l =
    starts_either (behind i) (behind j) (token u L) (gives x) (starts_token (behind i) (behind j) u L h)
    (starts_gives (behind i) (behind j) x (deeper i j l))

pub starts_optional_at : {V : Type 0} (i j : ℕ) (u : Token) (L : Lang Token V) → behind i (Some u) ≡ true →
    leb i j ≡ true →
    Starts (behind i) (optional (token u L)) (behind j)
starts_optional_at i j u L h l =
    starts_either (behind i) (behind j) (bind (token u L) (λ v. gives (Some v))) (gives None)
    (starts_first (behind i) (behind j) (token u L) (λ v. gives (Some v)) (starts_token (behind i) any u L h))
    (starts_gives (behind i) (behind j) None (deeper i j l))

pub tail_or : {X V : Type 0} (i j level : ℕ) (x : X) (u : Token) (L : Lang Token X) (K : X → Lang Token V) →
    behind i (Some u) ≡ true →
    behind j (Some u) ≡ false → leb i j ≡ true → Single j L → ((v : X) → Tail j (K v) level) → Tail i
    (bind (or_else x (token u L)) K) level
tail_or i j level x u L K h out l a c =
    tail_bind i j level (or_else x (token u L)) K (agree_or_word (behind j) x u L out a) (starts_or_at i j x u L h l) c

pub tail_optional : {X V : Type 0} (i j level : ℕ) (u : Token) (L : Lang Token X) (K : Option X → Lang Token V) →
    behind i (Some u) ≡ true →
    behind j (Some u) ≡ false → leb i j ≡ true → Single j L → ((v : Option X) → Tail j (K v) level) →
    Tail i (bind (optional (token u L)) K) level
tail_optional i j level u L K h out l a c =
    tail_bind i j level (optional (token u L)) K (agree_optional_word (behind j) u L out a)
    (starts_optional_at i j u L h l) c
