-- How a rule is read, step by step: one lemma a form.
use Rattle.std.proofs.Common.{◌≡◌, ◌∷◌, ◌≤◌, ◌<◌, ℕ, Bool, false, List, length, Option, Some, None, Result, Err, refl, sym, ap, ◌∙◌, subst}
use Rattle.pg_grammar.specs.declared.fault.Fault.{Fault}
use Rattle.pg_grammar.specs.declared.fault.Fault.TheVariants.{Syntax}
use Rattle.pg_grammar.specs.Limits.{Limit, most}
use Rattle.pg_grammar.specs.Languages.{Lang, Took}
use Rattle.pg_grammar.specs.Languages as lang
use Rattle.pg_grammar.specs.Answers.{next, Lacks, Misses, Seen, read, failed, Reads}
use Rattle.pg_grammar.specs.Parts.{seen}
use Rattle.pg_grammar.specs.declared.part.Part.{Part}
use Rattle.pg_grammar.proofs.Words.{Begun, bars_from, bars_gives, bars_token, bars_one, bars_bind, starts_gives, spelled_gives, spelled_token}
use Rattle.pg_grammar.proofs.Leading.{reads_narrow}
use Rattle.pg_grammar.proofs.Combining.{reads_gives, reads_refused, reads_over, over_limit, leads_token, leads_one, leads_bind, leads_left, leads_right, leads_reaches, reads_bind_failed}
use Rattle.pg_grammar.proofs.Rules.{Rule, gives, token, one, part, maybe, last, made, either, reaches, words, any, Begins, Fits}
use Rattle.pg_grammar.proofs.Fitting.{starts_any, starts, spelled}

-- what xs read as, for a rule that fits
pub record Comes {T V : Type 0} (L : Rule T V) (f : Option T → Bool) (xs : List T) (o : Seen T V) : Type 0 where
  pub to : Fits L f → Reads (words L) f xs o

pub comes_made : {T V : Type 0} (x v : V) (f : Option T → Bool) (xs : List T) → v ≡ x →
    Comes (gives x) f xs (read v xs)
comes_made x v f xs e = record { to = λ h. reads_gives x v f xs e }

pub comes_word : {T V : Type 0} (u : T) (L : Rule T V) (f : Option T → Bool) (xs ys : List T) (o : Seen T V) →
    xs ≡ u ∷ ys → Comes L f ys o → Comes (token u L) f xs o
comes_word u L f xs ys o e c = record { to = λ h. (leads_token u (words L) f xs ys e).to o (c.to h) }

pub comes_no_word : {T V : Type 0} (u : T) (L : Rule T V) (f : Option T → Bool) (xs : List T) (l : ℕ) →
    Misses u xs → l ≡ length xs → Comes (token u L) f xs (failed (Syntax l))
comes_no_word u L f xs l miss e = record {
  to = λ h. reads_refused (words (token u L)) f xs l (bars_token f u (words L) 0 xs (λ x. miss.misses x))
      (spelled_token u (words L) (spelled L f h)) e;
}

pub comes_one : {T X V : Type 0} (g : T → Option X) (K : X → Rule T V) (f : Option T → Bool) (xs ys : List T) (x : X)
    (o : Seen T V) → Took g xs x ys → Comes (K x) f ys o → Comes (one g K) f xs o
comes_one g K f xs ys x o k c = record {
  to = λ h. (leads_one g (λ y. words (K y)) f xs ys k.head x k.is k.value).to o (c.to (h.3 x));
}

pub comes_no_one : {T X V : Type 0} (g : T → Option X) (K : X → Rule T V) (f : Option T → Bool) (xs : List T) (l : ℕ) →
    Lacks g xs → l ≡ length xs → Comes (one g K) f xs (failed (Syntax l))
comes_no_one g K f xs l k e = record {
  to = λ h. reads_refused (words (one g K)) f xs l
      (bars_bind any f (lang.one g) (λ y. words (K y)) 1 xs (bars_one any g 0 xs k.lacks)
      (λ y. starts_any (words (K y)) f)) (spelled (one g K) f h) e;
}

-- a part that is read, and one that is not
pub comes_part : {T X V : Type 0} (b c : Option T → Bool) (L : Lang T X) (K : X → Rule T V) (f : Option T → Bool)
    (xs ys : List T) (x : X) (o : Seen T V) → Reads L c xs (read x ys) → Comes (K x) f ys o →
    Comes (part b c L K) f xs o
comes_part b c L K f xs ys x o r k = record {
  to = λ h. (leads_bind L (λ y. words (K y)) b f xs ys x (reads_narrow L c b xs (read x ys) h.0.below r)
      (λ y. starts b (K y) f (h.2 y) (h.1 y))).to o (k.to (h.2 x));
}

pub comes_no_part : {T X V : Type 0} (b c : Option T → Bool) (L : Lang T X) (K : X → Rule T V) (f : Option T → Bool)
    (xs : List T) (e : Fault) → Reads L c xs (failed e) → Comes (part b c L K) f xs (failed e)
comes_no_part b c L K f xs e r = record {
  to = λ h. reads_bind_failed L (λ y. words (K y)) b f xs e (reads_narrow L c b xs (failed e) h.0.below r)
      (λ y. starts b (K y) f (h.2 y) (h.1 y)) (λ y. spelled (K y) f (h.2 y));
}

pub comes_maybe : {T X V : Type 0} (b c : Option T → Bool) (L : Lang T X) (K : X → Rule T V) (f : Option T → Bool)
    (xs ys : List T) (x : X) (o : Seen T V) → Reads L c xs (read x ys) → Comes (K x) f ys o →
    Comes (maybe b c L K) f xs o
comes_maybe b c L K f xs ys x o r k = record { to = λ h. (comes_part b c L K f xs ys x o r k).to h }

pub comes_no_maybe : {T X V : Type 0} (b c : Option T → Bool) (L : Lang T X) (K : X → Rule T V) (f : Option T → Bool)
    (xs : List T) (e : Fault) → Reads L c xs (failed e) → Comes (maybe b c L K) f xs (failed e)
comes_no_maybe b c L K f xs e r = record { to = λ h. (comes_no_part b c L K f xs e r).to h }

pub comes_last : {T V : Type 0} (b c : Option T → Bool) (L : Lang T V) (f : Option T → Bool) (xs : List T)
    (o : Seen T V) → Reads L c xs o → Comes (last b c L) f xs o
comes_last b c L f xs o r = record {
  to = λ h. reads_narrow L b f xs o h.1 (reads_narrow L c b xs o h.0.below r);
}

-- what is made of a value that is read, and of none
pub comes_mapped : {T X V : Type 0} (g : X → V) (L : Rule T X) (f : Option T → Bool) (xs ys : List T) (x : X) (v : V) →
    v ≡ g x → Comes L f xs (read x ys) → Comes (made g L) f xs (read v ys)
comes_mapped g L f xs ys x v e c = record {
  to = λ h. (leads_bind (words L) (λ y. lang.gives (g y)) f f xs ys x (c.to h)
      (λ y. starts_gives f f (g y) (λ o b. b))).to (read v ys) (reads_gives (g x) v f ys e);
}

pub comes_not_mapped : {T X V : Type 0} (g : X → V) (L : Rule T X) (f : Option T → Bool) (xs : List T) (e : Fault) →
    Comes L f xs (failed e) → Comes (made g L) f xs (failed e)
comes_not_mapped g L f xs e c = record {
  to = λ h. reads_bind_failed (words L) (λ y. lang.gives (g y)) f f xs e (c.to h)
      (λ y. starts_gives f f (g y) (λ o b. b)) (λ y. spelled_gives (g y));
}

-- [u L] or x, where u stands there
pub comes_there : {T V : Type 0} (u : T) (L : Rule T V) (x : V) (f : Option T → Bool) (xs ys : List T) (o : Seen T V) →
    xs ≡ u ∷ ys → f (Some u) ≡ false → Comes L f ys o → Comes (either (token u L) (gives x)) f xs o
comes_there u L x f xs ys o e h c = record {
  to = λ w. (leads_left (words (token u L)) (lang.gives x) f xs (bars_gives f x 0 xs (ap (λ z. f (next z)) e ∙ h))).to o
      ((comes_word u L f xs ys o e c).to w.0);
}

-- u L or w M, where u stands there
pub comes_this : {T V : Type 0} (u w : T) (L M : Rule T V) (f : Option T → Bool) (xs ys : List T) (o : Seen T V) →
    xs ≡ u ∷ ys → (Some u ≡ Some w → ⊥) → Comes L f ys o → Comes (either (token u L) (token w M)) f xs o
comes_this u w L M f xs ys o e h c = record {
  to = λ k. (leads_left (words (token u L)) (words (token w M)) f xs
      (bars_token f w (words M) 0 xs (λ n. h (sym (ap next e) ∙ n)))).to o ((comes_word u L f xs ys o e c).to k.0);
}

-- [L], where u begins L
pub comes_some : {T V : Type 0} (u : T) (L : Rule T V) (f : Option T → Bool) (xs ys : List T) (o : Seen T (Option V)) →
    xs ≡ u ∷ ys → f (Some u) ≡ false → Comes (made Some L) f xs o → Comes (either (made Some L) (gives None)) f xs o
comes_some u L f xs ys o e h c = record {
  to = λ w. (leads_left (words (made Some L)) (lang.gives None) f xs
      (bars_gives f None 0 xs (ap (λ z. f (next z)) e ∙ h))).to o (c.to w.0);
}

pub comes_none : {T V : Type 0} (u : T) (L : Rule T V) (f : Option T → Bool) (xs : List T) → Misses u xs →
    Comes (either (made Some (token u L)) (gives None)) f xs (read None xs)
comes_none u L f xs miss = record {
  to = λ h. (leads_right (words (made Some (token u L))) (lang.gives None) f xs
      (bars_bind any f (words (token u L)) (λ y. lang.gives (Some y)) 1 xs
      (bars_token any u (words L) 0 xs (λ y. miss.misses y)) (λ y. starts_any (lang.gives (Some y)) f))).to
      (read None xs) (reads_gives None None f xs refl);
}

-- the next token is none that the other side begins with
pub comes_left : {T V : Type 0} (q : Option T → Bool) (L M : Rule T V) (f : Option T → Bool) (xs : List T)
    (o : Seen T V) → q (next xs) ≡ false → Begins q M f → Comes L f xs o → Comes (either L M) f xs o
comes_left q L M f xs o e b c = record {
  to = λ h. (leads_left (words L) (words M) f xs (bars_from q f (words M) 0 xs (starts q M f h.1 b) e)).to o (c.to h.0);
}

pub comes_right : {T V : Type 0} (q : Option T → Bool) (L M : Rule T V) (f : Option T → Bool) (xs : List T)
    (o : Seen T V) → q (next xs) ≡ false → Begins q L f → Comes M f xs o → Comes (either L M) f xs o
comes_right q L M f xs o e b c = record {
  to = λ h. (leads_right (words L) (words M) f xs (bars_from q f (words L) 0 xs (starts q L f h.0 b) e)).to o (c.to h.1);
}

-- the word that the left side begins with does not stand there
pub comes_other : {T V : Type 0} (u : T) (L M : Rule T V) (f : Option T → Bool) (xs : List T) (o : Seen T V) →
    Misses u xs → Comes M f xs o → Comes (either (token u L) M) f xs o
comes_other u L M f xs o miss c = record {
  to = λ h. (leads_right (words (token u L)) (words M) f xs (bars_token f u (words L) 0 xs (λ y. miss.misses y))).to o
      (c.to h.1);
}

-- the first token keeps the limit, or not
pub comes_within : {T V : Type 0} (k : Limit) (n : ℕ) (L : Rule T V) (f : Option T → Bool) (xs : List T)
    (o : Seen T V) → n ≤ most k → Comes L f xs o → Comes (reaches k n L) f xs o
comes_within k n L f xs o le c = record { to = λ h. (leads_reaches k n (words L) f xs le).to o (c.to h) }

pub comes_over : {T V : Type 0} (k : Limit) (n : ℕ) (L : Rule T V) (f : Option T → Bool) (xs ys : List T) (t : T)
    (l : ℕ) → most k < n → xs ≡ t ∷ ys → Begun t (words L) → l ≡ length xs →
    Comes (reaches k n L) f xs (failed (over_limit k l))
comes_over k n L f xs ys t l over e b q = record { to = λ h. reads_over k n (words L) f xs ys t l over e b q }

pub ruleset steps = (
  comes_made,
  comes_word,
  comes_no_word,
  comes_one,
  comes_no_one,
  comes_part,
  comes_no_part,
  comes_maybe,
  comes_no_maybe,
  comes_last,
  comes_mapped,
  comes_not_mapped,
)

-- a fault that is passed on
pub comes_passed : {T V : Type 0} {L : Rule T V} {f : Option T → Bool} {xs : List T} {r : Result (Part T V) Fault}
    (e : Fault) → r ≡ Err e → Comes L f xs (failed e) → Comes L f xs (seen r)
comes_passed {L = L} {f = f} {xs = xs} e h c = subst (λ q. Comes L f xs (seen q)) (sym h) c
