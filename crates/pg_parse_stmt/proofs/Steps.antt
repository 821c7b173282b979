-- One step of a rule: a word, a part, and what may be left out.
use Rattle.std.proofs.Common.{◌≡◌, ◌∷◌, Bool, true, false, List, Option, Some, None, refl, ap, ◌∙◌, not, ◌&&◌}
use Rattle.pg_parse_stmt.proofs.Common.{Fault, Lang, gives, token, bind, next, Misses, Seen, read, failed, Reads, Leads, leads_on, reads_narrow, Starts, Spelled, starts_gives, starts_token, starts_bind, starts_either, spelled_gives, bars_token, bars_bind, bars_gives, reads_gives, leads_token, leads_bind, reads_bind_failed, leads_left, leads_right, leads_token_bind, spelling, Keyword, Token, any, is_word, behind_optional, word, or_else, optional}
use Rattle.pg_lexer.specs.declared.token.Token.TheVariants as t
use Rattle.std.proofs.lemmas.Slice.Eq.{bytes_eq-Decides}
use Rattle.pg_parse_stmt.proofs.Lists.{starts_any, and_left}

pub word_read : {V : Type 0} (t : Token) (L : Lang Token V) (g : Option Token → Bool) (xs ys : List Token)
    (o : Seen Token V) → xs ≡ t ∷ ys →
    Reads L g ys o → Reads (token t L) g xs o
word_read t L g xs ys o e r = (leads_token t L g xs ys e).to o r

pub part_read : {X V : Type 0} (L : Lang Token X) (M : X → Lang Token V) (b g : Option Token → Bool)
    (xs ys : List Token) (x : X) (o : Seen Token V) →
    Reads L b xs (read x ys) → ((u : X) → Starts b (M u) g) → Reads (M x) g ys o → Reads (bind L M) g xs o
part_read L M b g xs ys x o r st q = (leads_bind L M b g xs ys x r st).to o q

-- [t L], or x
module _ {V : Type 0} (x : V) (t : Token) (L : Lang Token V) (g : Option Token → Bool) where
  pub or_read : (xs ys : List Token) (o : Seen Token V) → g (Some t) ≡ false → xs ≡ t ∷ ys → Reads L g ys o →
      Reads (or_else x (token t L)) g xs o
  or_read xs ys o h e r =
      (leads_left (token t L) (gives x) g xs (bars_gives g x 0 xs (ap (λ y. g (next y)) e ∙ h))).to o
      (word_read t L g xs ys o e r)

  pub or_none : (xs : List Token) → Misses t xs → Reads (or_else x (token t L)) g xs (read x xs)
  or_none xs miss =
      (leads_right (token t L) (gives x) g xs (bars_token g t L 0 xs (λ n. miss.misses n))).to (read x xs)
      (reads_gives x x g xs refl)

-- [t L]
module _ {V : Type 0} (t : Token) (L : Lang Token V) (b g : Option Token → Bool)
    (below : (o : Option Token) → g o ≡ true → b o ≡ true) where
  made : V → Lang Token (Option V)
  made v = gives (Some v)

  starts_made : (v : V) → Starts b (made v) g
  unfolding made
  starts_made v = starts_gives b g (Some v) below

  spelled_made : (v : V) → Spelled (made v)
  unfolding made
  spelled_made v = spelled_gives (Some v)

  leads_some : (xs ys : List Token) → g (Some t) ≡ false → xs ≡ t ∷ ys →
      Leads (optional (token t L)) xs (bind L made) ys g
  unfolding made
  leads_some xs ys h e =
      leads_on (leads_left (bind (token t L) (λ v. gives (Some v))) (gives None) g xs
      (bars_gives g None 0 xs (ap (λ y. g (next y)) e ∙ h)))
      (leads_on (leads_token_bind t L (λ v. gives (Some v)) g xs)
      (leads_token t (bind L (λ v. gives (Some v))) g xs ys e))

  reads_made : (v w : V) (zs : List Token) → w ≡ v → Reads (made v) g zs (read (Some w) zs)
  unfolding made
  reads_made v w zs e = reads_gives (Some v) (Some w) g zs (ap Some e)

  pub some_read : (xs ys zs : List Token) (v : V) → g (Some t) ≡ false → xs ≡ t ∷ ys → Reads L b ys (read v zs) →
      Reads (optional (token t L)) g xs (read (Some v) zs)
  some_read xs ys zs v h e r =
      (leads_some xs ys h e).to (read (Some v) zs)
      (part_read L made b g ys zs v (read (Some v) zs) r starts_made (reads_made v v zs refl))

  pub some_failed : (xs ys : List Token) (e : Fault) → g (Some t) ≡ false → xs ≡ t ∷ ys → Reads L b ys (failed e) →
      Reads (optional (token t L)) g xs (failed e)
  some_failed xs ys e h i r =
      (leads_some xs ys h i).to (failed e) (reads_bind_failed L made b g ys e r starts_made spelled_made)

pub none_read : {V : Type 0} (t : Token) (L : Lang Token V) (g : Option Token → Bool) (xs : List Token) → Misses t xs →
    Reads (optional (token t L)) g xs (read None xs)
none_read t L g xs miss =
    (leads_right (bind (token t L) (λ v. gives (Some v))) (gives None) g xs
    (bars_bind any g (token t L) (λ v. gives (Some v)) 1 xs (bars_token any t L 0 xs (λ n. miss.misses n))
    (λ v. starts_any (gives (Some v)) g))).to (read None xs)
    (reads_gives None None g xs refl)

-- [w L], where b may stand behind L
module _ {V : Type 0} (w : Keyword) (L : Lang Token V) (b : Option Token → Bool) where
  goes_on : behind_optional w b (Some (t.Keyword w)) ≡ false
  unfolding behind_optional is_word
  goes_on = rw ((bytes_eq-Decides (spelling w) (spelling w)).1 refl) (closed (b (Some (t.Keyword w))))
    where
      closed : (x : Bool) → (x && false) ≡ false
      closed true = refl
      closed false = refl

  below : (o : Option Token) → behind_optional w b o ≡ true → b o ≡ true
  unfolding behind_optional
  below o e = and_left (b o) (not (is_word w o)) e

  pub optional_read : (xs ys zs : List Token) (v : V) → xs ≡ t.Keyword w ∷ ys → Reads L b ys (read v zs) →
      Reads (optional (word w L)) (behind_optional w b) xs (read (Some v) zs)
  optional_read xs ys zs v e r = some_read (t.Keyword w) L b (behind_optional w b) below xs ys zs v goes_on e r

  pub optional_failed : (xs ys : List Token) (f : Fault) → xs ≡ t.Keyword w ∷ ys → Reads L b ys (failed f) →
      Reads (optional (word w L)) (behind_optional w b) xs (failed f)
  optional_failed xs ys f e r = some_failed (t.Keyword w) L b (behind_optional w b) below xs ys f goes_on e r

  pub optional_none : (xs : List Token) → Misses (t.Keyword w) xs →
      Reads (optional (word w L)) (behind_optional w b) xs (read None xs)
  optional_none xs miss = none_read (t.Keyword w) L (behind_optional w b) xs miss

-- [t L] begins with t, or with what stands behind it
pub starts_or : {V : Type 0} (x : V) (t : Token) (L : Lang Token V) (b : Option Token → Bool) → b (Some t) ≡ true →
    Starts b (or_else x (token t L)) b
starts_or x t L b h = starts_either b b (token t L) (gives x) (starts_token b b t L h) (starts_gives b b x (λ o e. e))

pub starts_optional : {V : Type 0} (t : Token) (L : Lang Token V) (b : Option Token → Bool) → b (Some t) ≡ true →
    Starts b (optional (token t L)) b
starts_optional t L b h =
    starts_either b b (bind (token t L) (λ v. gives (Some v))) (gives None)
    (starts_bind b any b (token t L) (λ v. gives (Some v)) (starts_token b any t L h)
    (λ v. starts_any (gives (Some v)) b))
    (starts_gives b b None (λ o e. e))

-- [t L] or x, where fewer tokens may stand behind than behind L
pub or_narrow : {V : Type 0} (x : V) (t : Token) (L : Lang Token V) (b g : Option Token → Bool) (xs ys : List Token)
    (o : Seen Token V) →
    g (Some t) ≡ false → ((o : Option Token) → g o ≡ true → b o ≡ true) → xs ≡ t ∷ ys → Reads L b ys o → Reads
    (or_else x (token t L)) g xs o
or_narrow x t L b g xs ys o h below e r = or_read x t L g xs ys o h e (reads_narrow L b g ys o below r)

pub and_right : (a b : Bool) → (a && b) ≡ true → b ≡ true
and_right true b e = e
and_right false true e = refl
and_right false false e = e
