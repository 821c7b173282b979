-- Lists with commas, and what stands in brackets.
use Rattle.std.proofs.Common.{◌≡◌, ◌≤◌, ◌∷◌, ◌++◌, ℕ, Bool, true, false, List, [], length, Option, Some, refl, sym, ap, ◌∙◌, subst, arith, length-append, not, ◌&&◌}
use Rattle.pg_parse_stmt.proofs.Common.{Fault, Syntax, Lang, gives, bind, more, next, Misses, read, failed, IsRead, Reads, Leads, leads_on, Starts, Bars, Spelled, starts_gives, starts_token, starts_bind, starts_more, spelled_gives, spelled_token, spelled_bind, spelled_more, bars_token, reads_gives, reads_refused, leads_token, leads_bind, reads_bind_failed, leads_more, leads_no_more, leads_assoc, leads_token_bind, leads_gives, Token, any, behind_list, is_comma, sign, next_of, list_of, in_brackets}
use Rattle.pg_lexer.specs.declared.sign.Sign.TheVariants as s
use Rattle.pg_lexer.specs.declared.token.Token.TheVariants.{Sign as sign_token}

pub starts_any : {V : Type 0} (L : Lang Token V) (g : Option Token → Bool) → Starts any L g
starts_any L g = record { starts = λ m s v z l b. refl }

pub and_left : (a b : Bool) → (a && b) ≡ true → a ≡ true
and_left true b e = refl
and_left false b e = e

-- what is read leaves no more tokens
pub reads_no_more : {V : Type 0} (L : Lang Token V) (follows : Option Token → Bool) (xs ys : List Token) (v : V) →
    Reads L follows xs (read v ys) → length ys ≤ length xs
reads_no_more {V} L follows xs ys v r =
    let f = parts in let l = ap length f.split ∙ length-append f.front ys in omega (arith, l)
  where
    parts : IsRead L follows xs v ys
    parts = r.is

module _ {V : Type 0} (L : Lang Token V) (f : Option Token → Bool) (comma : f (Some (sign_token s.Comma)) ≡ true) where
  behind_first : (o : Option Token) → behind_list f o ≡ true → f o ≡ true
  unfolding behind_list
  behind_first o e = and_left (f o) (not (is_comma o)) e

  starts_next : (list : List V) (g : Option Token → Bool) → Starts f (next_of L list) g
  unfolding next_of
  starts_next list g = starts_token f g (sign_token s.Comma) (bind L (λ v. gives (list ++ v ∷ []))) comma

  starts_rest : (list : List V) → Starts f (more (next_of L) list) (behind_list f)
  starts_rest list = starts_more f (behind_list f) (next_of L) list (λ a. starts_next a f) behind_first

  -- the first
  list_first : (xs ys : List Token) (v : V) → Reads L f xs (read v ys) →
      Leads (list_of L) xs (more (next_of L) (v ∷ [])) ys (behind_list f)
  unfolding list_of
  list_first xs ys v r =
      leads_bind L (λ u. more (next_of L) (u ∷ [])) f (behind_list f) xs ys v r (λ u. starts_rest (u ∷ []))

  pub list_begun : (xs ys : List Token) (v : V) (none list : List V) → none ≡ [] → list ≡ none ++ v ∷ [] →
      Reads L f xs (read v ys) →
      Leads (list_of L) xs (more (next_of L) list) ys (behind_list f)
  list_begun xs ys v none list e h r =
      let same : v ∷ [] ≡ list = sym (h ∙ ap (λ l. l ++ v ∷ []) e) in
      subst (λ l. Leads (list_of L) xs (more (next_of L) l) ys (behind_list f)) same (list_first xs ys v r)

  pub list_not_begun : (xs : List Token) (e : Fault) → Reads L f xs (failed e) →
      Reads (list_of L) (behind_list f) xs (failed e)
  unfolding list_of
  list_not_begun xs e r =
      reads_bind_failed L (λ u. more (next_of L) (u ∷ [])) f (behind_list f) xs e r (λ u. starts_rest (u ∷ []))
      (λ u. spelled_more (next_of L) (u ∷ []))

  after_comma : List V → V → Lang Token (List V)
  after_comma list v = bind (gives (list ++ v ∷ [])) (more (next_of L))

  starts_after : (list : List V) (v : V) → Starts f (after_comma list v) (behind_list f)
  unfolding after_comma
  starts_after list v =
      starts_bind f f (behind_list f) (gives (list ++ v ∷ [])) (more (next_of L))
      (starts_gives f f (list ++ v ∷ []) (λ o e. e)) (λ a. starts_rest a)

  spelled_after : (list : List V) (v : V) → Spelled (after_comma list v)
  unfolding after_comma
  spelled_after list v =
      spelled_bind (gives (list ++ v ∷ [])) (more (next_of L)) (spelled_gives (list ++ v ∷ []))
      (λ a. spelled_more (next_of L) a)

  leads_after : (list : List V) (zs : List Token) (v : V) →
      Leads (after_comma list v) zs (more (next_of L) (list ++ v ∷ [])) zs (behind_list f)
  unfolding after_comma
  leads_after list zs v = leads_gives (list ++ v ∷ []) (more (next_of L)) (behind_list f) zs

  bars_next : (list : List V) (xs : List Token) → Misses (sign_token s.Comma) xs → Bars (next_of L list) any 1 xs
  unfolding next_of
  bars_next list xs miss =
      bars_token any (sign_token s.Comma) (bind L (λ v. gives (list ++ v ∷ []))) 0 xs (λ n. miss.misses n)

  not_behind : (xs ys : List Token) → xs ≡ sign_token s.Comma ∷ ys → behind_list f (next xs) ≡ false
  unfolding behind_list is_comma
  not_behind xs ys e = ap (λ x. behind_list f (next x)) e ∙ closed (f (Some (sign_token s.Comma)))
    where
      closed : (b : Bool) → (b && false) ≡ false
      closed true = refl
      closed false = refl

  leads_comma : (list : List V) (xs ys : List Token) → xs ≡ sign_token s.Comma ∷ ys →
      Leads (more (next_of L) list) xs (bind L (after_comma list)) ys (behind_list f)
  unfolding next_of after_comma
  leads_comma list xs ys e =
      leads_on (leads_more (next_of L) list (behind_list f) xs (not_behind xs ys e))
      (leads_on (leads_token_bind (sign_token s.Comma) (bind L (λ v. gives (list ++ v ∷ []))) (more (next_of L))
      (behind_list f) xs)
      (leads_on (leads_token (sign_token s.Comma) (bind (bind L (λ v. gives (list ++ v ∷ []))) (more (next_of L)))
      (behind_list f) xs ys e)
      (leads_assoc L (λ v. gives (list ++ v ∷ [])) (more (next_of L)) (behind_list f) ys)))

  -- one more behind a comma
  pub list_goes_on : (list : List V) (ts xs ys zs : List Token) (v : V) →
      Leads (list_of L) ts (more (next_of L) list) xs (behind_list f) → xs ≡ sign_token s.Comma ∷ ys → Reads L f ys
      (read v zs) →
      Leads (list_of L) ts (more (next_of L) (list ++ v ∷ [])) zs (behind_list f)
  list_goes_on list ts xs ys zs v l e r =
      leads_on l (leads_on (leads_comma list xs ys e)
      (leads_on (leads_bind L (after_comma list) f (behind_list f) ys zs v r (starts_after list))
      (leads_after list zs v)))

  pub list_breaks_off : (list : List V) (ts xs ys : List Token) (e : Fault) →
      Leads (list_of L) ts (more (next_of L) list) xs (behind_list f) → xs ≡ sign_token s.Comma ∷ ys → Reads L f ys
      (failed e) →
      Reads (list_of L) (behind_list f) ts (failed e)
  list_breaks_off list ts xs ys e l h r =
      l.to (failed e) ((leads_comma list xs ys h).to (failed e)
      (reads_bind_failed L (after_comma list) f (behind_list f) ys e r (starts_after list) (spelled_after list)))

  -- no comma
  pub list_ends : (list : List V) (ts xs : List Token) →
      Leads (list_of L) ts (more (next_of L) list) xs (behind_list f) →
      Misses (sign_token s.Comma) xs → Reads (list_of L) (behind_list f) ts (read list xs)
  list_ends list ts xs l miss =
      l.to (read list xs) ((leads_no_more (next_of L) list any (behind_list f) xs (bars_next list xs miss)
      (λ u. starts_any (more (next_of L) u) (behind_list f))).to (read list xs)
      (reads_gives list list (behind_list f) xs refl))

pub list_before_close : (f : Option Token → Bool) → f (Some (sign_token s.Close)) ≡ true →
    behind_list f (Some (sign_token s.Close)) ≡ true
unfolding behind_list is_comma
list_before_close f e = ap (λ b. b && true) e

closing : {V : Type 0} → V → Lang Token V
closing v = sign s.Close (gives v)

module _ {V : Type 0} (L : Lang Token V) (f : Option Token → Bool) (close : f (Some (sign_token s.Close)) ≡ true) where
  starts_closing : (v : V) → Starts f (closing v) any
  unfolding closing
  starts_closing v = starts_token f any (sign_token s.Close) (gives v) close

  spelled_closing : (v : V) → Spelled (closing v)
  unfolding closing
  spelled_closing v = spelled_token (sign_token s.Close) (gives v) (spelled_gives v)

  leads_inside : (xs ys : List Token) → xs ≡ sign_token s.Open ∷ ys → Leads (in_brackets L) xs (bind L closing) ys any
  unfolding in_brackets closing
  leads_inside xs ys e = leads_token (sign_token s.Open) (bind L closing) any xs ys e

  leads_behind : (xs ys zs : List Token) (v : V) → xs ≡ sign_token s.Open ∷ ys → Reads L f ys (read v zs) →
      Leads (in_brackets L) xs (closing v) zs any
  leads_behind xs ys zs v e r = leads_on (leads_inside xs ys e) (leads_bind L closing f any ys zs v r starts_closing)

  pub brackets_read : (xs ys zs ws : List Token) (v : V) → xs ≡ sign_token s.Open ∷ ys → Reads L f ys (read v zs) →
      zs ≡ sign_token s.Close ∷ ws → Reads (in_brackets L) any xs (read v ws)
  unfolding closing
  brackets_read xs ys zs ws v e r h =
      (leads_behind xs ys zs v e r).to (read v ws)
      ((leads_token (sign_token s.Close) (gives v) any zs ws h).to (read v ws) (reads_gives v v any ws refl))

  pub brackets_not_closed : (xs ys zs : List Token) (v : V) (n : ℕ) → xs ≡ sign_token s.Open ∷ ys →
      Reads L f ys (read v zs) →
      Misses (sign_token s.Close) zs → n ≡ length zs → Reads (in_brackets L) any xs (failed (Syntax n))
  unfolding closing
  brackets_not_closed xs ys zs v n e r miss h =
      (leads_behind xs ys zs v e r).to (failed (Syntax n))
      (reads_refused (closing v) any zs n (bars_token any (sign_token s.Close) (gives v) 0 zs (λ x. miss.misses x))
      (spelled_closing v) h)

  pub brackets_not_read : (xs ys : List Token) (e : Fault) → xs ≡ sign_token s.Open ∷ ys → Reads L f ys (failed e) →
      Reads (in_brackets L) any xs (failed e)
  brackets_not_read xs ys e h r =
      (leads_inside xs ys h).to (failed e) (reads_bind_failed L closing f any ys e r starts_closing spelled_closing)

pub brackets_not_open : {V : Type 0} (L : Lang Token V) (xs : List Token) (n : ℕ) → Spelled L →
    Misses (sign_token s.Open) xs → n ≡ length xs →
    Reads (in_brackets L) any xs (failed (Syntax n))
unfolding in_brackets closing
brackets_not_open L xs n a miss h =
    reads_refused (in_brackets L) any xs n (bars_token any (sign_token s.Open) (bind L closing) 0 xs
    (λ x. miss.misses x))
    (spelled_token (sign_token s.Open) (bind L closing) (spelled_bind L closing a
    (λ v. spelled_token (sign_token s.Close) (gives v) (spelled_gives v)))) h

-- what a list answers: its start, one more, and its end
pub ruleset lists = (list_begun, list_not_begun, list_goes_on, list_breaks_off, list_ends, reads_no_more)

-- what stands in brackets answers
pub ruleset brackets = (brackets_read, brackets_not_open, brackets_not_read, brackets_not_closed)
