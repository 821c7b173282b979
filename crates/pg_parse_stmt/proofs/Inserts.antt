-- INSERT
use Rattle.std.proofs.Common.{◌≡◌, ◌∷◌, ℕ, Bool, true, false, List, length, Option, Some, None, sym, not, subst}
use Rattle.pg_parse_stmt.proofs.Common.{Fault, Syntax, gives, bind, next, Misses, Seen, read, failed, Reads, Bars, Spelled, spelled_gives, spelled_token, bars_token, bars_bind, Token, any, is_word, behind_target, behind_condition, behind_conflict, word, sign, optional, in_brackets, spelled_optional, spelled_left, bars_either, name, element, elements, condition, target_elements, target_constraint, conflict_target, upsert, conflict_act, ConflictTarget, Conflict}
use Rattle.pg_parse_stmt.proofs.Forms.{nothing, no_word_alone, word_alone, one_word, left_side, right_side, other, there, next_is, made_read, made_failed, before, before_any}
use Rattle.pg_lexer.specs.declared.keyword.Keyword.TheVariants as k
use Rattle.pg_lexer.specs.declared.sign.Sign.TheVariants as s
use Rattle.pg_lexer.specs.declared.token.Token.TheVariants as t
use Rattle.pg_parse_stmt.specs.declared.tree.ConflictTarget.TheVariants as target_of
use Rattle.pg_parse_stmt.specs.declared.tree.Conflict.TheVariants as conflict_of
use Rattle.pg_parse_stmt.proofs.Lists.{starts_any, and_left}
use Rattle.pg_parse_stmt.proofs.Following.{on_goes_on_target, open_goes_on_target}

-- "(" element {"," element} ")" [WHERE expr] | ON CONSTRAINT name
target_condition : (o : Option Token) → behind_target o ≡ true → behind_condition o ≡ true
unfolding behind_target
target_condition o e = and_left (behind_condition o) (not (is_word k.On o)) e

elements_target : (xs ys : List Token) (o : Seen Token ConflictTarget) → xs ≡ t.Sign s.Open ∷ ys →
    Reads target_elements behind_condition xs o → Reads conflict_target behind_condition xs o
unfolding conflict_target target_constraint
elements_target xs ys o e r = left_side (bars_token behind_condition (t.Keyword k.On) _ 0 xs (λ n. cc (e, n))) r

-- no bracket opens, so no elements stand there
bars_elements : (xs : List Token) (g : Option Token → Bool) → (next xs ≡ Some (t.Sign s.Open) → ⊥) →
    Bars target_elements g 1 xs
unfolding target_elements elements in_brackets
bars_elements xs g h =
    bars_bind any g (sign s.Open _) (λ v. bind condition (λ c. gives (target_of.Elements v c))) 1 xs
    (bars_token any (t.Sign s.Open) _ 0 xs h) (λ v. starts_any (bind condition (λ c. gives (target_of.Elements v c))) g)

constraint_target : (xs ys : List Token) (o : Seen Token ConflictTarget) → xs ≡ t.Keyword k.On ∷ ys →
    Reads target_constraint any xs o → Reads conflict_target behind_condition xs o
unfolding conflict_target
constraint_target xs ys o e r = right_side (bars_elements xs behind_condition (λ n. cc (e, n))) (before_any r)

target_read : (xs ys : List Token) (v : ConflictTarget) → behind_target (next xs) ≡ false →
    Reads conflict_target behind_condition xs (read v ys) →
    Reads (optional conflict_target) behind_target xs (read (Some v) ys)
target_read xs ys v h r = there h (made_read (before target_condition r))

target_failed : (xs : List Token) (f : Fault) → behind_target (next xs) ≡ false →
    Reads conflict_target behind_condition xs (failed f) →
    Reads (optional conflict_target) behind_target xs (failed f)
target_failed xs f h r = there h (made_failed (before target_condition r))

open_on : (xs ys : List Token) → xs ≡ t.Sign s.Open ∷ ys → behind_target (next xs) ≡ false
open_on xs ys e = next_is behind_target e open_goes_on_target

on_on : (xs ys : List Token) → xs ≡ t.Keyword k.On ∷ ys → behind_target (next xs) ≡ false
on_on xs ys e = next_is behind_target e on_goes_on_target

pub target_elements_read : (xs ys zs : List Token) (v : ConflictTarget) → xs ≡ t.Sign s.Open ∷ ys →
    Reads target_elements behind_condition xs (read v zs) →
    Reads (optional conflict_target) behind_target xs (read (Some v) zs)
target_elements_read xs ys zs v e r = target_read xs zs v (open_on xs ys e) (elements_target xs ys (read v zs) e r)

pub target_elements_failed : (xs ys : List Token) (f : Fault) → xs ≡ t.Sign s.Open ∷ ys →
    Reads target_elements behind_condition xs (failed f) →
    Reads (optional conflict_target) behind_target xs (failed f)
target_elements_failed xs ys f e r = target_failed xs f (open_on xs ys e) (elements_target xs ys (failed f) e r)

pub target_constraint_read : (xs ys zs : List Token) (v : ConflictTarget) → xs ≡ t.Keyword k.On ∷ ys →
    Reads target_constraint any xs (read v zs) →
    Reads (optional conflict_target) behind_target xs (read (Some v) zs)
target_constraint_read xs ys zs v e r = target_read xs zs v (on_on xs ys e) (constraint_target xs ys (read v zs) e r)

pub target_constraint_failed : (xs ys : List Token) (f : Fault) → xs ≡ t.Keyword k.On ∷ ys →
    Reads target_constraint any xs (failed f) →
    Reads (optional conflict_target) behind_target xs (failed f)
target_constraint_failed xs ys f e r = target_failed xs f (on_on xs ys e) (constraint_target xs ys (failed f) e r)

pub target_none : (xs : List Token) → Misses (t.Sign s.Open) xs → Misses (t.Keyword k.On) xs →
    Reads (optional conflict_target) behind_target xs (read None xs)
unfolding conflict_target target_constraint
target_none xs a b =
    right_side (bars_bind any behind_target conflict_target (λ v. gives (Some v)) 1 xs
    (bars_either any target_elements (word k.On _) 1 xs (bars_elements xs any (λ n. a.misses n))
    (bars_token any (t.Keyword k.On) _ 0 xs (λ n. b.misses n)))
    (λ v. starts_any (gives (Some v)) behind_target)) nothing

pub spelled_target : Spelled (optional conflict_target)
spelled_target = spelled_optional conflict_target

-- NOTHING, or with a target UPDATE, behind DO
pub act_nothing_read : (target : Option ConflictTarget) (xs ys : List Token) → xs ≡ t.Keyword k.Nothing ∷ ys →
    Reads (conflict_act target) behind_conflict xs (read (conflict_of.Nothing target) ys)
unfolding conflict_act upsert
act_nothing_read None xs ys e = word_alone e
act_nothing_read (Some c) xs ys e = one_word (λ h. cc h) e nothing

pub act_upsert_read : (target : Option ConflictTarget) (c : ConflictTarget) (xs : List Token) (o : Seen Token Conflict) →
    target ≡ Some c → Misses (t.Keyword k.Nothing) xs → Reads (upsert c) behind_conflict xs o →
    Reads (conflict_act target) behind_conflict xs o
unfolding conflict_act
act_upsert_read target c xs o e miss r =
    subst (λ x. Reads (conflict_act x) behind_conflict xs o) (sym e) (other miss r)

pub act_refused : (target : Option ConflictTarget) (xs : List Token) (l : ℕ) → target ≡ None →
    Misses (t.Keyword k.Nothing) xs → l ≡ length xs →
    Reads (conflict_act target) behind_conflict xs (failed (Syntax l))
unfolding conflict_act
act_refused target xs l e miss q =
    subst (λ x. Reads (conflict_act x) behind_conflict xs (failed (Syntax l))) (sym e) (no_word_alone miss q)

pub spelled_act : (target : Option ConflictTarget) → Spelled (conflict_act target)
unfolding conflict_act
spelled_act None = spelled_token (t.Keyword k.Nothing) _ (spelled_gives (conflict_of.Nothing None))
spelled_act (Some c) =
    spelled_left _ (upsert c) (spelled_token (t.Keyword k.Nothing) _ (spelled_gives (conflict_of.Nothing (Some c))))

-- what the target of ON CONFLICT answers
pub ruleset targets = (target_elements_read, target_elements_failed, target_constraint_read, target_constraint_failed, target_none)
