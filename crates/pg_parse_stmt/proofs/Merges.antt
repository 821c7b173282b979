-- WHEN clauses, one and several.
use Rattle.std.proofs.Common.{◌≡◌, ◌∷◌, ◌++◌, ℕ, Bool, true, false, List, [], length, Option, Some, refl, sym, ap, ◌∙◌, subst}
use Rattle.pg_parse_stmt.proofs.Common.{Fault, Syntax, Lang, gives, bind, more, next, Misses, Seen, read, failed, Reads, Starts, Spelled, starts_gives, starts_token, starts_bind, spelled_gives, spelled_token, spelled_bind, bars_token, bars_bind, reads_gives, reads_refused, reads_bind_failed, Token, any, behind_sets, word, Leads, leads_on, starts_more, spelled_more, spelled_left, leads_token, leads_token_bind, leads_bind, leads_more, leads_no_more, leads_assoc, leads_gives, change, addition, then, by_whom, not_matched, when_behind, when, next_when, whens, When, rank, behind}
use Rattle.pg_lexer.specs.declared.keyword.Keyword.TheVariants as k
use Rattle.pg_lexer.specs.declared.token.Token.TheVariants as t
use Rattle.pg_parse_stmt.specs.declared.tree.When.TheVariants as when_of
use Rattle.pg_parse_stmt.proofs.Lists.{starts_any}
use Rattle.pg_parse_stmt.proofs.Forms.{word_then, no_word, one_word, neither_word, other, this, before_any}
use Rattle.pg_parse_stmt.proofs.PartRules.{spelled_then, starts_then}
use Rattle.pg_parse_stmt.proofs.Following.{when_behind_sets}
use Rattle.pg_parse_stmt.proofs.Agreements.{deeper}
use Rattle.pg_parse_stmt.proofs.Follows.{sets_follows}
use Rattle.pg_parse_stmt.proofs.Changes.{spelled_the_change}

spelled_by_whom : Spelled by_whom
unfolding by_whom
spelled_by_whom =
    spelled_left _ _ (spelled_token (t.Keyword k.Source) _ (spelled_then change when_of.NotBySource spelled_the_change))

pub by_source : (xs ys : List Token) (o : Seen Token When) → xs ≡ t.Keyword k.Source ∷ ys →
    Reads (then change when_of.NotBySource) behind_sets ys o → Reads by_whom behind_sets xs o
unfolding by_whom
by_source xs ys o e r = one_word (λ h. cc h) e r

pub by_target : (xs ys : List Token) (o : Seen Token When) → Misses (t.Keyword k.Source) xs →
    xs ≡ t.Keyword k.Target ∷ ys → Reads (then addition when_of.NotByTarget) any ys o → Reads by_whom behind_sets xs o
unfolding by_whom
by_target xs ys o miss e r = other miss (word_then e (before_any r))

pub by_none : (xs : List Token) (l : ℕ) → Misses (t.Keyword k.Source) xs → Misses (t.Keyword k.Target) xs →
    l ≡ length xs → Reads by_whom behind_sets xs (failed (Syntax l))
unfolding by_whom
by_none xs l a b q = neither_word (spelled_then change when_of.NotBySource spelled_the_change) a b q

spelled_not_matched : Spelled not_matched
unfolding not_matched
spelled_not_matched = spelled_left _ _ (spelled_token (t.Keyword k.By) by_whom spelled_by_whom)

-- the words that begin a THEN, and what may stand before it
opens_then : Option Token → Bool
opens_then (Some (t.Keyword k.And)) = true
opens_then (Some (t.Keyword k.Then)) = true
opens_then _ = false

pub not_matched_by : (xs ys : List Token) (o : Seen Token When) → xs ≡ t.Keyword k.By ∷ ys →
    Reads by_whom behind_sets ys o → Reads not_matched behind_sets xs o
unfolding not_matched opens_then
not_matched_by xs ys o e r =
    this opens_then refl (starts_then opens_then behind_sets addition when_of.NotByTarget refl refl) e r

pub not_matched_plain : (xs : List Token) (o : Seen Token When) → Misses (t.Keyword k.By) xs →
    Reads (then addition when_of.NotByTarget) any xs o → Reads not_matched behind_sets xs o
unfolding not_matched
not_matched_plain xs o miss r = other miss (before_any r)

pub spelled_when_behind : Spelled when_behind
unfolding when_behind
spelled_when_behind =
    spelled_left _ _ (spelled_token (t.Keyword k.Matched) _ (spelled_then change when_of.Matched spelled_the_change))

pub when_matched : (xs ys : List Token) (o : Seen Token When) → xs ≡ t.Keyword k.Matched ∷ ys →
    Reads (then change when_of.Matched) behind_sets ys o → Reads when_behind behind_sets xs o
unfolding when_behind
when_matched xs ys o e r = one_word (λ h. cc h) e r

-- NOT stands there, so MATCHED does not
not_first : (xs ys : List Token) → xs ≡ t.Keyword k.Not ∷ ys → Misses (t.Keyword k.Matched) xs
not_first xs ys e = record { misses = λ n. cc (e, n) }

pub when_not_matched : (xs ys zs : List Token) (o : Seen Token When) → xs ≡ t.Keyword k.Not ∷ ys →
    ys ≡ t.Keyword k.Matched ∷ zs → Reads not_matched behind_sets zs o → Reads when_behind behind_sets xs o
unfolding when_behind
when_not_matched xs ys zs o e i r = other (not_first xs ys e) (word_then e (word_then i r))

pub when_no_matched : (xs ys : List Token) (l : ℕ) → xs ≡ t.Keyword k.Not ∷ ys → Misses (t.Keyword k.Matched) ys →
    l ≡ length ys → Reads when_behind behind_sets xs (failed (Syntax l))
unfolding when_behind
when_no_matched xs ys l e miss q = other (not_first xs ys e) (word_then e (no_word spelled_not_matched miss q))

pub when_neither : (xs : List Token) (l : ℕ) → Misses (t.Keyword k.Matched) xs → Misses (t.Keyword k.Not) xs →
    l ≡ length xs → Reads when_behind behind_sets xs (failed (Syntax l))
unfolding when_behind
when_neither xs l a b q = neither_word (spelled_then change when_of.Matched spelled_the_change) a b q

-- when {when}
after_when : List When → When → Lang Token (List When)
after_when list w = gives (list ++ w ∷ [])

whens_sets : (o : Option Token) → behind 14 o ≡ true → behind_sets o ≡ true
whens_sets o e = sets_follows o (deeper 11 14 refl o e)

when_goes_on_whens : behind 14 (Some (t.Keyword k.When)) ≡ false
unfolding rank
when_goes_on_whens = refl

starts_next_when : (list : List When) (g : Option Token → Bool) → Starts behind_sets (next_when list) g
unfolding next_when when after_when
starts_next_when list g =
    starts_bind behind_sets any g (word k.When when_behind) (after_when list)
    (starts_token behind_sets any (t.Keyword k.When) when_behind when_behind_sets)
    (λ w. starts_any (after_when list w) g)

starts_whens_rest : (list : List When) → Starts behind_sets (more next_when list) (behind 14)
starts_whens_rest list =
    starts_more behind_sets (behind 14) next_when list (λ a. starts_next_when a behind_sets) whens_sets

then_whens : List When → When → Lang Token (List When)
then_whens list w = bind (after_when list w) (more next_when)

starts_then_whens : (list : List When) (w : When) → Starts behind_sets (then_whens list w) (behind 14)
unfolding then_whens after_when
starts_then_whens list w =
    starts_bind behind_sets behind_sets (behind 14) (gives (list ++ w ∷ [])) (more next_when)
    (starts_gives behind_sets behind_sets (list ++ w ∷ []) (λ o e. e)) starts_whens_rest

spelled_then_whens : (list : List When) (w : When) → Spelled (then_whens list w)
unfolding then_whens after_when
spelled_then_whens list w =
    spelled_bind (gives (list ++ w ∷ [])) (more next_when) (spelled_gives (list ++ w ∷ []))
    (λ a. spelled_more next_when a)

first_when : When → Lang Token (List When)
first_when w = more next_when (w ∷ [])

starts_first_when : (w : When) → Starts behind_sets (first_when w) (behind 14)
unfolding first_when
starts_first_when w = starts_whens_rest (w ∷ [])

spelled_first_when : (w : When) → Spelled (first_when w)
unfolding first_when
spelled_first_when w = spelled_more next_when (w ∷ [])

leads_first : (xs ys : List Token) → xs ≡ t.Keyword k.When ∷ ys →
    Leads whens xs (bind when_behind first_when) ys (behind 14)
unfolding whens when first_when
leads_first xs ys e =
    leads_on (leads_token_bind (t.Keyword k.When) when_behind first_when (behind 14) xs)
    (leads_token (t.Keyword k.When) (bind when_behind first_when) (behind 14) xs ys e)

pub whens_no_when : (xs : List Token) (l : ℕ) → Misses (t.Keyword k.When) xs → l ≡ length xs →
    Reads whens (behind 14) xs (failed (Syntax l))
unfolding whens when first_when
whens_no_when xs l miss q =
    reads_refused whens (behind 14) xs l
    (bars_bind any (behind 14) (word k.When when_behind) first_when 1 xs
    (bars_token any (t.Keyword k.When) when_behind 0 xs (λ n. miss.misses n))
    (λ w. starts_any (first_when w) (behind 14)))
    (spelled_bind (word k.When when_behind) first_when (spelled_token
    (t.Keyword k.When) when_behind spelled_when_behind) spelled_first_when) q

pub whens_not_begun : (xs ys : List Token) (f : Fault) → xs ≡ t.Keyword k.When ∷ ys →
    Reads when_behind behind_sets ys (failed f) → Reads whens (behind 14) xs (failed f)
whens_not_begun xs ys f e r =
    (leads_first xs ys e).to (failed f)
    (reads_bind_failed when_behind first_when behind_sets (behind 14) ys f r starts_first_when spelled_first_when)

pub whens_begun : (xs ys zs : List Token) (w : When) (none list : List When) → none ≡ [] → list ≡ none ++ w ∷ [] →
    xs ≡ t.Keyword k.When ∷ ys → Reads when_behind behind_sets ys (read w zs) →
    Leads whens xs (more next_when list) zs (behind 14)
unfolding first_when
whens_begun xs ys zs w none list h i e r =
    let same : w ∷ [] ≡ list = sym (i ∙ ap (λ x. x ++ w ∷ []) h) in
    subst (λ x. Leads whens xs (more next_when x) zs (behind 14)) same
    (leads_on (leads_first xs ys e)
    (leads_bind when_behind first_when behind_sets (behind 14) ys zs w r starts_first_when))

leads_when : (list : List When) (xs ys : List Token) → xs ≡ t.Keyword k.When ∷ ys →
    Leads (more next_when list) xs (bind when_behind (then_whens list)) ys (behind 14)
unfolding next_when when after_when then_whens
leads_when list xs ys e =
    leads_on (leads_more next_when list (behind 14) xs (ap (λ x. (behind 14) (next x)) e ∙ when_goes_on_whens))
    (leads_on (leads_assoc (word k.When when_behind) (after_when list) (more next_when) (behind 14) xs)
    (leads_on (leads_token_bind (t.Keyword k.When) when_behind (then_whens list) (behind 14) xs)
    (leads_token (t.Keyword k.When) (bind when_behind (then_whens list)) (behind 14) xs ys e)))

pub whens_go_on : (list longer : List When) (ts xs ys zs : List Token) (w : When) → longer ≡ list ++ w ∷ [] →
    Leads whens ts (more next_when list) xs (behind 14) →
    xs ≡ t.Keyword k.When ∷ ys → Reads when_behind behind_sets ys (read w zs) → Leads whens ts
    (more next_when longer) zs (behind 14)
unfolding then_whens after_when
whens_go_on list longer ts xs ys zs w h a e r =
    subst (λ x. Leads whens ts (more next_when x) zs (behind 14)) (sym h)
    (leads_on a (leads_on (leads_when list xs ys e)
    (leads_on (leads_bind when_behind (then_whens list) behind_sets (behind 14) ys zs w r (starts_then_whens list))
    (leads_gives (list ++ w ∷ []) (more next_when) (behind 14) zs))))

pub whens_break_off : (list : List When) (ts xs ys : List Token) (f : Fault) →
    Leads whens ts (more next_when list) xs (behind 14) → xs ≡ t.Keyword k.When ∷ ys →
    Reads when_behind behind_sets ys (failed f) → Reads whens (behind 14) ts (failed f)
whens_break_off list ts xs ys f a e r =
    a.to (failed f) ((leads_when list xs ys e).to (failed f)
    (reads_bind_failed when_behind (then_whens list) behind_sets (behind 14) ys f r (starts_then_whens list)
    (spelled_then_whens list)))

pub whens_end : (list : List When) (ts xs : List Token) → Leads whens ts (more next_when list) xs (behind 14) →
    Misses (t.Keyword k.When) xs → Reads whens (behind 14) ts (read list xs)
unfolding next_when when after_when
whens_end list ts xs a miss =
    a.to (read list xs) ((leads_no_more next_when list any (behind 14) xs
    (bars_bind any any (word k.When when_behind) (after_when list) 1 xs
    (bars_token any (t.Keyword k.When) when_behind 0 xs (λ n. miss.misses n)) (λ w. starts_any (after_when list w) any))
    (λ u. starts_any (more next_when u) (behind 14))).to (read list xs)
    (reads_gives list list (behind 14) xs refl))

pub spelled_whens : Spelled whens
unfolding whens when first_when
spelled_whens =
    spelled_bind (word k.When when_behind) first_when (spelled_token
    (t.Keyword k.When) when_behind spelled_when_behind) spelled_first_when

pub starts_whens : (b g : Option Token → Bool) → b (Some (t.Keyword k.When)) ≡ true → Starts b whens g
unfolding whens when first_when
starts_whens b g h =
    starts_bind b any g (word k.When when_behind) first_when (starts_token b any (t.Keyword k.When) when_behind h)
    (λ w. starts_any (first_when w) g)

-- what the clauses answer: their start, one more, and their end
pub ruleset clauses = (whens_no_when, whens_not_begun, whens_begun, whens_go_on, whens_break_off, whens_end)
