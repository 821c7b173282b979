-- From the reading of a part to the reading of the whole.
use Rattle.std.proofs.Common.{◌≡◌, ◌+◌, ◌≤◌, ℕ, zero, suc, Bool, true, List, [], ◌∷◌, ◌++◌, length, take, Option, Some, None, refl, sym, ap, ◌∙◌, arith, append_assoc, length-append}
use Rattle.pg_grammar.specs.declared.fault.Fault.TheVariants.{Syntax, Deep, Many, Memory}
use Rattle.pg_grammar.specs.Limits.{Limit, nodes, sources}
use Rattle.pg_grammar.specs.Languages.{Lang}
use Rattle.pg_grammar.specs.Answers.{next, Seen, read, failed, IsRead, IsFault, Reads}

-- what reads M in ys reads L in xs
pub record Leads {T V : Type 0} (L : Lang T V) (xs : List T) (M : Lang T V) (ys : List T) (follows : Option T → Bool) : Type 0 where
  pub to : (o : Seen T V) → Reads M follows ys o → Reads L follows xs o

pub leads_on : {T V : Type 0} {L M N : Lang T V} {xs ys zs : List T} {follows : Option T → Bool} →
    Leads L xs M ys follows → Leads M ys N zs follows → Leads L xs N zs follows
leads_on a b = record { to = λ o r. a.to o (b.to o r) }

-- at least k - 1 tokens stand before the place that the answer names
abbrev pub Far : {T V : Type 0} → ℕ → List T → Seen T V → Type 0
Far k ys (read v rest) = length rest + k ≤ suc (length ys)
Far k ys (failed (Syntax n)) = n + k ≤ suc (length ys)
Far k ys (failed (Deep n)) = n + k ≤ suc (length ys)
Far k ys (failed (Many n)) = n + k ≤ suc (length ys)
Far k ys (failed Memory) = Unit {0}

-- the first k tokens depend on what is read and on the next token alone
take_front : {T : Type 0} (k : ℕ) (front z rest : List T) → next z ≡ next rest → k ≤ suc (length front) →
    take k (front ++ z) ≡ take k (front ++ rest)
take_front zero front z rest e l = refl
take_front (suc zero) [] [] [] e l = refl
take_front (suc zero) [] [] (t ∷ rest) e l = absurd (cc e)
take_front (suc zero) [] (t ∷ z) [] e l = absurd (cc e)
take_front (suc zero) [] (t ∷ z) (u ∷ rest) e l = let d : t ≡ u = cc e in ap (λ x. x ∷ []) d
take_front (suc (suc k)) [] z rest e l = absurd (omega (arith, l))
take_front (suc k) (t ∷ front) z rest e l = ap (λ x. t ∷ x) (take_front k front z rest e (omega (arith, l)))

next_take : {T : Type 0} (s ys : List T) → take 1 s ≡ take 1 ys → next s ≡ next ys
next_take [] [] e = refl
next_take [] (t ∷ ys) e = absurd (cc e)
next_take (t ∷ s) [] e = absurd (cc e)
next_take (t ∷ s) (u ∷ ys) e = let d : t ≡ u = cc e in ap Some d

module _ {T V : Type 0} (L M : Lang T V) (follows : Option T → Bool) (k : ℕ) (p ys : List T)
    (into : (m : Limit → ℕ) (s : List T) (v : V) (z : List T) → M m s v z → L m (p ++ s) v z)
    (out : (m : Limit → ℕ) (s : List T) (v : V) (z : List T) → take k s ≡ take k ys → L m (p ++ s) v z → follows (next z) ≡ true → M m s v z) where
  taken : (front rest z : List T) → ys ≡ front ++ rest → next z ≡ next rest → length rest + k ≤ suc (length ys) →
      take k (front ++ z) ≡ take k ys
  taken front rest z s e far =
      let l = ap length s ∙ length-append front rest in
      take_front k front z rest e (omega (arith, far, l)) ∙ ap (λ x. take k x) (sym s)

  read_behind : (v : V) (rest : List T) → length rest + k ≤ suc (length ys) → IsRead M follows ys v rest →
      IsRead L follows (p ++ ys) v rest
  read_behind v rest far r = record {
    front = p ++ r.front;
    split = ap (λ x. p ++ x) r.split ∙ sym (append_assoc p r.front rest);
    spelled = λ m z. rw append_assoc (into m (r.front ++ z) v z (r.spelled m z));
    only = λ m z z' v' e l f. r.only m z z' v' e (out m (r.front ++ z) v' z' (taken r.front rest z r.split e far) (rw append_assoc at l) f) f;
  }

  fault_behind : (over : Option Limit) (n : ℕ) → n + k ≤ suc (length ys) → IsFault over M follows ys n →
      IsFault over L follows (p ++ ys) n
  fault_behind over n far r = record {
    front = p ++ r.front;
    rest = r.rest;
    split = ap (λ x. p ++ x) r.split ∙ sym (append_assoc p r.front r.rest);
    left = r.left;
    tail = r.tail;
    value = r.value;
    goes_on = r.goes_on;
    completed = λ m z w. rw append_assoc (into m (r.front ++ (r.tail ++ z)) r.value z (r.completed m z w));
    none = λ m z z' v' w e l f. r.none m z z' v' w e (out m (r.front ++ z) v' z' (taken r.front r.rest z r.split e (omega (arith, far, r.left))) (rw append_assoc at l) f) f;
  }

  pub reads_behind : (o : Seen T V) → Far k ys o → Reads M follows ys o → Reads L follows (p ++ ys) o
  reads_behind (read v rest) far r = record { is = read_behind v rest far r.is }
  reads_behind (failed (Syntax n)) far r = record { is = fault_behind None n far r.is }
  reads_behind (failed (Deep n)) far r = record { is = fault_behind (Some nodes) n far r.is }
  reads_behind (failed (Many n)) far r = record { is = fault_behind (Some sources) n far r.is }
  reads_behind (failed Memory) far r = record { is = tt }

near_rest : {T : Type 0} (ys front rest : List T) → ys ≡ front ++ rest → length rest + 1 ≤ suc (length ys)
near_rest ys front rest s = let l = ap length s ∙ length-append front rest in omega (arith, l)

near_fault : {T V : Type 0} {over : Option Limit} {M : Lang T V} {follows : Option T → Bool} {ys : List T} {n : ℕ} →
    IsFault over M follows ys n → n + 1 ≤ suc (length ys)
near_fault {ys = ys} r = let l = near_rest ys r.front r.rest r.split in omega (arith, l, r.left)

-- each answer looks one token ahead
near : {T V : Type 0} (M : Lang T V) (follows : Option T → Bool) (ys : List T) (o : Seen T V) →
    Reads M follows ys o → Far 1 ys o
near M follows ys (read v rest) r = let f = r.is in near_rest ys f.front rest f.split
near M follows ys (failed (Syntax n)) r = near_fault r.is
near M follows ys (failed (Deep n)) r = near_fault r.is
near M follows ys (failed (Many n)) r = near_fault r.is
near M follows ys (failed Memory) r = tt

-- an answer behind p looks one token further than p
pub far_behind : {T V : Type 0} (N : Lang T V) (follows : Option T → Bool) (p xs ys : List T) (o : Seen T V) →
    xs ≡ p ++ ys → Reads N follows ys o → Far (suc (length p)) xs o
far_behind {T} {V} N follows p xs ys o e r = go o (near N follows ys o r)
  where
    l : length xs ≡ length p + length ys
    l = ap length e ∙ length-append p ys

    go : (o : Seen T V) → Far 1 ys o → Far (suc (length p)) xs o
    go (read v rest) h = omega (arith, h, l)
    go (failed (Syntax n)) h = omega (arith, h, l)
    go (failed (Deep n)) h = omega (arith, h, l)
    go (failed (Many n)) h = omega (arith, h, l)
    go (failed Memory) h = tt

-- L behind p is M, where the next token is that of ys
pub leads_behind : {T V : Type 0} (L M : Lang T V) (follows : Option T → Bool) (p ys : List T) →
    ((m : Limit → ℕ) (s : List T) (v : V) (z : List T) → M m s v z → L m (p ++ s) v z) →
    ((m : Limit → ℕ) (s : List T) (v : V) (z : List T) → next s ≡ next ys → L m (p ++ s) v z → follows (next z) ≡ true → M m s v z) →
    Leads L (p ++ ys) M ys follows
leads_behind L M follows p ys into out = record {
  to = λ o r. reads_behind L M follows 1 p ys into (λ m s v z e l f. out m s v z (next_take s ys e) l f) o (near M follows ys o r) r;
}

-- the same languages
pub leads_same : {T V : Type 0} (L M : Lang T V) (follows : Option T → Bool) (xs : List T) →
    ((m : Limit → ℕ) (s : List T) (v : V) (z : List T) → M m s v z → L m s v z) →
    ((m : Limit → ℕ) (s : List T) (v : V) (z : List T) → L m s v z → M m s v z) → Leads L xs M xs follows
leads_same L M follows xs into out = leads_behind L M follows [] xs into (λ m s v z e l f. out m s v z l)

-- fewer tokens may stand behind
pub reads_narrow : {T V : Type 0} (L : Lang T V) (follows fewer : Option T → Bool) (xs : List T) (o : Seen T V) →
    ((t : Option T) → fewer t ≡ true → follows t ≡ true) → Reads L follows xs o → Reads L fewer xs o
reads_narrow {T} {V} L follows fewer xs o less r = go o r
  where
    fault : (over : Option Limit) (n : ℕ) → IsFault over L follows xs n → IsFault over L fewer xs n
    fault over n f = record {
      front = f.front;
      rest = f.rest;
      split = f.split;
      left = f.left;
      tail = f.tail;
      value = f.value;
      goes_on = f.goes_on;
      completed = f.completed;
      none = λ m z z' v' w e l b. f.none m z z' v' w e l (less (next z') b);
    }

    go : (o : Seen T V) → Reads L follows xs o → Reads L fewer xs o
    go (read v rest) r = let f = r.is in record { is = record { front = f.front; split = f.split; spelled = f.spelled; only = λ m z z' v' e l b. f.only m z z' v' e l (less (next z') b) } }
    go (failed (Syntax n)) r = record { is = fault None n r.is }
    go (failed (Deep n)) r = record { is = fault (Some nodes) n r.is }
    go (failed (Many n)) r = record { is = fault (Some sources) n r.is }
    go (failed Memory) r = record { is = tt }
