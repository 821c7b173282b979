-- What comes of a rule by recursion: what it begins with, that it has a word, and that it has one reading.
use Rattle.std.proofs.Common.{◌≡◌, Bool, true, false, Option, refl}
use Rattle.std.specs.Prelude.{not, ◌&&◌}
use Rattle.std.proofs.lemmas.Bool.{not_from_true, and_right}
use Rattle.pg_grammar.specs.Languages.{Lang}
use Rattle.pg_grammar.specs.Languages as lang
use Rattle.pg_grammar.specs.Answers.{next}
use Rattle.pg_grammar.proofs.Words.{Starts, Spelled, starts_gives, starts_token, starts_one, starts_bind, starts_either, starts_more, starts_reaches, spelled_gives, spelled_token, spelled_one, spelled_bind, spelled_left, spelled_more, spelled_reaches}
use Rattle.pg_grammar.proofs.Agreeing.{Agree, agree_less, agree_gives, agree_token, agree_one, agree_bind, agree_either, agree_more, agree_reaches}
use Rattle.pg_grammar.proofs.Rules.{Rule, gives, token, one, part, maybe, last, made, either, more, reaches, words, any, between, Begins, Known, Fits, Ones}

pub and_left : (a b : Bool) → (a && b) ≡ true → a ≡ true
and_left true b e = refl
and_left false b e = e

pub starts_any : {T V : Type 0} (L : Lang T V) (f : Option T → Bool) → Starts any L f
starts_any L f = record { starts = λ m s v z l e. refl }

-- what begins with b begins with p
starts_as : {T V : Type 0} (b p f : Option T → Bool) (L : Lang T V) → ((o : Option T) → b o ≡ true → p o ≡ true) →
    Starts b L f → Starts p L f
starts_as b p f L h a = record { starts = λ m s v z l c. h (next s) (a.starts m s v z l c) }

-- what follows may be less
pub starts_before : {T V : Type 0} (p b f : Option T → Bool) (L : Lang T V) → ((o : Option T) → f o ≡ true → b o ≡ true) →
    Starts p L b → Starts p L f
starts_before p b f L h a = record { starts = λ m s v z l c. a.starts m s v z l (h (next z) c) }

pub starts : {T V : Type 0} (p : Option T → Bool) (L : Rule T V) (f : Option T → Bool) → Fits L f → Begins p L f →
    Starts p (words L) f
starts p (gives x) f w h = starts_gives p f x h
starts p (token u L) f w h = starts_token p f u (words L) h
starts p (one g K) f w h =
    starts_bind p any f (lang.one g) (λ x. words (K x)) (starts_one p any g h) (λ x. starts_any (words (K x)) f)
starts p (part b c L K) f w h = starts_bind p any f L (λ x. words (K x)) h (λ x. starts_any (words (K x)) f)
starts p (maybe b c L K) f w h = starts_bind p b f L (λ x. words (K x)) h (λ x. starts b (K x) f (w.2 x) (w.1 x))
starts p (last b c L) f w h = starts_before p b f L w.1 h
starts p (made g L) f w h =
    starts_bind p f f (words L) (λ x. lang.gives (g x)) (starts p L f w h) (λ x. starts_gives f f (g x) (λ o e. e))
starts p (either L M) f w h = starts_either p f (words L) (words M) (starts p L f w.0 h.0) (starts p M f w.1 h.1)
starts {T} {V} p (more b step x) f w h =
    starts_as b p f (lang.more (λ a. words (step a)) x) h
    (starts_more b f (λ a. words (step a)) x
    (λ a. starts_as (between b f) b b (words (step a)) (λ o e. and_left (b o) (not (f o)) e)
    (starts (between b f) (step a) b (w.0 a) (w.1 a))) w.2)
starts p (reaches k n L) f w h = starts_reaches p f k n (words L) (starts p L f w h)

pub spelled : {T V : Type 0} (L : Rule T V) (f : Option T → Bool) → Fits L f → Spelled (words L)
spelled (gives x) f h = spelled_gives x
spelled (token u L) f h = spelled_token u (words L) (spelled L f h)
spelled (one g K) f h =
    spelled_bind (lang.one g) (λ x. words (K x)) (spelled_one g h.0 h.1 h.2) (λ x. spelled (K x) f (h.3 x))
spelled (part b c L K) f h = spelled_bind L (λ x. words (K x)) h.0.spelled (λ x. spelled (K x) f (h.2 x))
spelled (maybe b c L K) f h = spelled_bind L (λ x. words (K x)) h.0.spelled (λ x. spelled (K x) f (h.2 x))
spelled (last b c L) f h = h.0.spelled
spelled (made g L) f h = spelled_bind (words L) (λ x. lang.gives (g x)) (spelled L f h) (λ x. spelled_gives (g x))
spelled (either L M) f h = spelled_left (words L) (words M) (spelled L f h.0)
spelled (more b step x) f h = spelled_more (λ a. words (step a)) x
spelled (reaches k n L) f h = spelled_reaches k n (words L) (spelled L f h)

pub agrees : {T V : Type 0} (L : Rule T V) (f : Option T → Bool) → Fits L f → Ones L f → Agree (words L) (words L) f
agrees (gives x) f h q = agree_gives f x
agrees (token u L) f h q = agree_token f u (words L) (words L) (agrees L f h q)
agrees (one {X} g K) f h q =
    let free = λ (x : X). starts_any (words (K x)) f in
    agree_bind any f (lang.one g) (lang.one g) (λ x. words (K x)) (λ x. words (K x)) (agree_one any g)
    (λ x. agrees (K x) f (h.3 x) (q x)) free free
agrees (part {X} b c L K) f h q =
    let behind = λ (x : X). starts b (K x) f (h.2 x) (h.1 x) in
    agree_bind b f L L (λ x. words (K x)) (λ x. words (K x)) q.0 (λ x. agrees (K x) f (h.2 x) (q.1 x)) behind behind
agrees (maybe {X} b c L K) f h q =
    let behind = λ (x : X). starts b (K x) f (h.2 x) (h.1 x) in
    agree_bind b f L L (λ x. words (K x)) (λ x. words (K x)) q.0 (λ x. agrees (K x) f (h.2 x) (q.1 x)) behind behind
agrees (last b c L) f h q = agree_less b f L L h.1 q
agrees (made {X} g L) f h q =
    let behind = λ (x : X). starts_gives f f (g x) (λ o e. e) in
    agree_bind f f (words L) (words L) (λ x. lang.gives (g x)) (λ x. lang.gives (g x)) (agrees L f h q)
    (λ x. agree_gives f (g x)) behind behind
agrees (either L M) f h q =
    agree_either f (words L) (words L) (words M) (words M) (agrees L f h.0 q.0) (agrees M f h.1 q.1) q.2 q.2
agrees {T} {V} (more b step x) f h q =
    let begun = λ (a : V). starts (between b f) (step a) b (h.0 a) (h.1 a) in
    agree_more (between b f) b f (λ a. words (step a)) (λ a. words (step a)) (λ a. agrees (step a) b (h.0 a) (q a))
    begun begun (λ o e. and_left (b o) (not (f o)) e) h.2
    (λ o e. and_right (b o) (not (f o)) (not_from_true (f o) e)) x
agrees (reaches k n L) f h q = agree_reaches f k n n (words L) (words L) (agrees L f h q)

-- a part, with less behind it than its function lets stand there, and with as much
pub less : {T V : Type 0} {b c : Option T → Bool} {L : Lang T V} → Spelled L →
    ((o : Option T) → b o ≡ true → c o ≡ true) → Known b c L
less a h = record { spelled = a; below = h }

pub own : {T V : Type 0} {b : Option T → Bool} {L : Lang T V} → Spelled L → Known b b L
own a = less a (λ o e. e)
