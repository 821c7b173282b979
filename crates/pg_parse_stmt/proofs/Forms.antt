-- What the forms of rules answer, found from what is to be shown: a word, a part, what is made of a part, a choice, and
-- what may be left out.
use Rattle.std.proofs.Common.{◌≡◌, ◌∷◌, ℕ, Bool, true, false, List, length, Option, Some, ap, ◌∙◌, refl}
use Rattle.pg_parse_stmt.proofs.Common.{Fault, Syntax, Lang, gives, token, bind, either, next, Misses, Seen, read, failed, Reads, Spelled, Starts, Bars, starts_gives, spelled_gives, spelled_token, spelled_bind, spelled_left, bars_token, bars_from, bars_gives, bars_either, reads_narrow, reads_gives, reads_refused, leads_token, leads_bind, leads_left, leads_right, reads_bind_failed, Token, any}
use Rattle.pg_parse_stmt.proofs.Lists.{starts_any}

pub nothing : {V : Type 0} {x : V} {g : Option Token → Bool} {xs : List Token} → Reads (gives x) g xs (read x xs)
nothing {x = x} {g = g} {xs = xs} = reads_gives x x g xs refl

-- a word that stands there, with what is behind it, and one that does not
module _ {V : Type 0} {u : Token} {L : Lang Token V} {g : Option Token → Bool} {xs : List Token} where
  pub word_then : {ys : List Token} {o : Seen Token V} → xs ≡ u ∷ ys → Reads L g ys o → Reads (token u L) g xs o
  word_then {ys} {o} e r = (leads_token u L g xs ys e).to o r

  pub no_word : {n : ℕ} → Spelled L → Misses u xs → n ≡ length xs → Reads (token u L) g xs (failed (Syntax n))
  no_word {n} a miss h =
      reads_refused (token u L) g xs n (bars_token g u L 0 xs (λ x. miss.misses x)) (spelled_token u L a) h

pub word_alone : {V : Type 0} {u : Token} {x : V} {g : Option Token → Bool} {xs ys : List Token} → xs ≡ u ∷ ys →
    Reads (token u (gives x)) g xs (read x ys)
word_alone e = word_then e nothing

pub no_word_alone : {V : Type 0} {u : Token} {x : V} {g : Option Token → Bool} {xs : List Token} {n : ℕ} → Misses u xs →
    n ≡ length xs → Reads (token u (gives x)) g xs (failed (Syntax n))
no_word_alone {x = x} miss h = no_word (spelled_gives x) miss h

-- a part that any token may stand behind
module _ {X V : Type 0} {L : Lang Token X} {K : X → Lang Token V} {g : Option Token → Bool} {xs : List Token} where
  pub part_then : {ys : List Token} {x : X} {o : Seen Token V} → Reads L any xs (read x ys) → Reads (K x) g ys o →
      Reads (bind L K) g xs o
  part_then {ys} {x} {o} r q = (leads_bind L K any g xs ys x r (λ u. starts_any (K u) g)).to o q

  pub no_part : {e : Fault} → ((x : X) → Spelled (K x)) → Reads L any xs (failed e) → Reads (bind L K) g xs (failed e)
  no_part {e} a r = reads_bind_failed L K any g xs e r (λ u. starts_any (K u) g) a

-- what is made of a part
module _ {X V : Type 0} {L : Lang Token X} {make : X → V} {g : Option Token → Bool} {xs : List Token} where
  pub made_read : {ys : List Token} {x : X} → Reads L g xs (read x ys) →
      Reads (bind L (λ y. gives (make y))) g xs (read (make x) ys)
  made_read {ys} {x} r =
      (leads_bind L (λ y. gives (make y)) g g xs ys x r (λ y. starts_gives g g (make y) (λ o b. b))).to
      (read (make x) ys) nothing

  pub made_failed : {e : Fault} → Reads L g xs (failed e) → Reads (bind L (λ y. gives (make y))) g xs (failed e)
  made_failed {e} r =
      reads_bind_failed L (λ y. gives (make y)) g g xs e r (λ y. starts_gives g g (make y) (λ o b. b))
      (λ y. spelled_gives (make y))

pub spelled_made : {X V : Type 0} {L : Lang Token X} {make : X → V} → Spelled L →
    Spelled (bind L (λ y. gives (make y)))
spelled_made {L = L} {make = make} a = spelled_bind L (λ y. gives (make y)) a (λ y. spelled_gives (make y))

-- one word or another
module _ {V : Type 0} {u w : Token} {L M : Lang Token V} {g : Option Token → Bool} {xs : List Token} where
  pub one_word : {ys : List Token} {o : Seen Token V} → (u ≡ w → ⊥) → xs ≡ u ∷ ys → Reads L g ys o →
      Reads (either (token u L) (token w M)) g xs o
  one_word {ys} {o} d e r =
      (leads_left (token u L) (token w M) g xs (bars_token g w M 0 xs
      (λ n. let same : u ≡ w = cc (ap next e, n) in d same))).to o (word_then e r)

  pub neither_word : {n : ℕ} → Spelled L → Misses u xs → Misses w xs → n ≡ length xs →
      Reads (either (token u L) (token w M)) g xs (failed (Syntax n))
  neither_word {n} a b c h =
      reads_refused (either (token u L) (token w M)) g xs n
      (bars_either g (token u L) (token w M) 1 xs (bars_token g u L 0 xs (λ x. b.misses x))
      (bars_token g w M 0 xs (λ x. c.misses x)))
      (spelled_left (token u L) (token w M) (spelled_token u L a)) h

-- one side of a choice, where the other is barred
module _ {V : Type 0} {L M : Lang Token V} {g : Option Token → Bool} {xs : List Token} {o : Seen Token V} where
  pub left_side : Bars M g 1 xs → Reads L g xs o → Reads (either L M) g xs o
  left_side b r = (leads_left L M g xs b).to o r

  pub right_side : Bars L g 1 xs → Reads M g xs o → Reads (either L M) g xs o
  right_side b r = (leads_right L M g xs b).to o r

-- a word, or a rule, where the word does not stand there
pub other : {V : Type 0} {u : Token} {L M : Lang Token V} {g : Option Token → Bool} {xs : List Token} {o : Seen Token V} →
    Misses u xs → Reads M g xs o → Reads (either (token u L) M) g xs o
other {u = u} {L = L} {M = M} {g = g} {xs = xs} {o = o} miss r =
    (leads_right (token u L) M g xs (bars_token g u L 0 xs (λ x. miss.misses x))).to o r

-- the next token is the first
pub next_is : (g : Option Token → Bool) {u : Token} {xs ys : List Token} {b : Bool} → xs ≡ u ∷ ys → g (Some u) ≡ b →
    g (next xs) ≡ b
next_is g e h = ap (λ x. g (next x)) e ∙ h

-- the same, where the word stands there and the rule begins with none of that kind
pub this : {V : Type 0} {u : Token} {L M : Lang Token V} {g : Option Token → Bool} {xs ys : List Token}
    {o : Seen Token V} (q : Option Token → Bool) → q (Some u) ≡ false → Starts q M g → xs ≡ u ∷ ys → Reads L g ys o →
    Reads (either (token u L) M) g xs o
this {u = u} {L = L} {M = M} {g = g} {xs = xs} {o = o} q h a e r =
    (leads_left (token u L) M g xs (bars_from q g M 0 xs a (next_is q e h))).to o (word_then e r)

-- what is left out
pub left_out : {V : Type 0} {u : Token} {L : Lang Token V} {x : V} {g : Option Token → Bool} {xs : List Token} →
    Misses u xs → Reads (either (token u L) (gives x)) g xs (read x xs)
left_out miss = other miss nothing

pub left_out_as : {V : Type 0} {u : Token} {L : Lang Token V} {x v : V} {g : Option Token → Bool} {xs : List Token} →
    v ≡ x → Misses u xs → Reads (either (token u L) (gives x)) g xs (read v xs)
left_out_as {x = x} {v = v} {g = g} {xs = xs} e miss = other miss (reads_gives x v g xs e)

-- what may be left out, where something else may not stand behind
pub there : {V : Type 0} {L : Lang Token V} {x : V} {g : Option Token → Bool} {xs : List Token} {o : Seen Token V} →
    g (next xs) ≡ false → Reads L g xs o → Reads (either L (gives x)) g xs o
there {L = L} {x = x} {g = g} {xs = xs} {o = o} h r = (leads_left L (gives x) g xs (bars_gives g x 0 xs h)).to o r

-- where fewer tokens may stand behind
pub before : {V : Type 0} {L : Lang Token V} {b g : Option Token → Bool} {xs : List Token} {o : Seen Token V} →
    ((o : Option Token) → g o ≡ true → b o ≡ true) → Reads L b xs o → Reads L g xs o
before {L = L} {b = b} {g = g} {xs = xs} {o = o} h r = reads_narrow L b g xs o h r

pub before_any : {V : Type 0} {L : Lang Token V} {g : Option Token → Bool} {xs : List Token} {o : Seen Token V} →
    Reads L any xs o → Reads L g xs o
before_any r = before (λ q h. refl) r

-- neither of two words stands there, and both are left out
pub both_left_out : {V : Type 0} {u w : Token} {L M : Lang Token V} {x : V} {g : Option Token → Bool} {xs : List Token} →
    Misses u xs → Misses w xs → Reads (either (either (token u L) (token w M)) (gives x)) g xs (read x xs)
both_left_out {u = u} {w = w} {L = L} {M = M} {x = x} {g = g} {xs = xs} a b =
    (leads_right (either (token u L) (token w M)) (gives x) g xs
    (bars_either g (token u L) (token w M) 1 xs (bars_token g u L 0 xs (λ n. a.misses n))
    (bars_token g w M 0 xs (λ n. b.misses n)))).to (read x xs) nothing
