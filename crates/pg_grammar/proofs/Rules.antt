-- Rules as data, one level deep: the named parts of a rule stand in it as languages, each with what may stand behind
-- it there, and with what may as its parse function has it, which is no less. What a rule's words are, what they begin
-- with and what makes the rule fit come by one recursion each.
use Rattle.std.specs.Prelude.{◌≡◌, ◌&&◌, not, ℕ, Bool, true, Option, Some}
use Rattle.pg_grammar.specs.Languages.{Lang}
use Rattle.pg_grammar.specs.Languages as lang
use Rattle.pg_grammar.specs.Limits.{Limit}
use Rattle.pg_grammar.proofs.Words.{Starts, Spelled}
use Rattle.pg_grammar.proofs.Agreeing.{Agree, Apart}

pub data Rule (T : Type 0) : Type 0 → Type 1 where
  -- no token, and a value
  gives : {V : Type 0} → V → Rule T V
  -- a token, and a rule
  token : {V : Type 0} → T → Rule T V → Rule T V
  -- one token, and what its value leads to
  one : {X V : Type 0} → (T → Option X) → (X → Rule T V) → Rule T V
  -- a part of one token or more, and what its value leads to
  part : {X V : Type 0} → (b c : Option T → Bool) → Lang T X → (X → Rule T V) → Rule T V
  -- a part that may be left out, and what its value leads to
  maybe : {X V : Type 0} → (b c : Option T → Bool) → Lang T X → (X → Rule T V) → Rule T V
  -- a part, and nothing behind it
  last : {V : Type 0} → (b c : Option T → Bool) → Lang T V → Rule T V
  -- a rule, and what is made of its value
  made : {X V : Type 0} → (X → V) → Rule T X → Rule T V
  -- one or the other
  either : {V : Type 0} → Rule T V → Rule T V → Rule T V
  -- any number of steps, with what may stand behind a step
  more : {V : Type 0} → (Option T → Bool) → (V → Rule T V) → V → Rule T V
  -- a rule whose first token makes a count for a limit
  reaches : {V : Type 0} → Limit → ℕ → Rule T V → Rule T V

-- the language of a rule
abbrev pub words : {T V : Type 0} → Rule T V → Lang T V
words (gives x) = lang.gives x
words (token u L) = lang.token u (words L)
words (one f K) = lang.bind (lang.one f) (λ x. words (K x))
words (part b c L K) = lang.bind L (λ x. words (K x))
words (maybe b c L K) = lang.bind L (λ x. words (K x))
words (last b c L) = L
words (made g L) = lang.bind (words L) (λ x. lang.gives (g x))
words (either L M) = lang.either (words L) (words M)
words (more b step x) = lang.more (λ a. words (step a)) x
words (reaches k h L) = lang.reaches k h (words L)

-- any token
abbrev pub any : {T : Type 0} → Option T → Bool
any o = true

-- what may stand behind a step, and not behind the last
abbrev pub between : {T : Type 0} → (Option T → Bool) → (Option T → Bool) → Option T → Bool
between step whole o = step o && not (whole o)

-- a word of a rule that fits begins with a token that p takes, where f may follow
abbrev pub Begins : {T V : Type 0} → (Option T → Bool) → Rule T V → (Option T → Bool) → Type 0
Begins {T} p (gives x) f = (o : Option T) → f o ≡ true → p o ≡ true
Begins p (token u L) f = p (Some u) ≡ true
Begins {T} p (one {X} g K) f = (u : T) (x : X) → g u ≡ Some x → p (Some u) ≡ true
Begins p (part b c L K) f = Starts p L any
Begins p (maybe b c L K) f = Starts p L b
Begins p (last b c L) f = Starts p L b
Begins p (made g L) f = Begins p L f
Begins p (either L M) f = Begins p L f × Begins p M f
Begins {T} p (more b step x) f = (o : Option T) → b o ≡ true → p o ≡ true
Begins p (reaches k h L) f = Begins p L f

-- what is asked of a named part, where b may stand behind it, and c as its parse function has it
pub record Known {T V : Type 0} (b c : Option T → Bool) (L : Lang T V) : Type 0 where
  pub spelled : Spelled L
  pub below : (o : Option T) → b o ≡ true → c o ≡ true

-- each part of the rule may stand before what is behind it, and the rule before what f takes
abbrev pub Fits : {T V : Type 0} → Rule T V → (Option T → Bool) → Type 0
Fits (gives x) f = Unit {0}
Fits (token u L) f = Fits L f
Fits {T} (one {X} g K) f = (u : T) × (x : X) × (g u ≡ Some x) × ((y : X) → Fits (K y) f)
Fits (part {X} b c L K) f = Known b c L × ((x : X) → Begins b (K x) f) × ((x : X) → Fits (K x) f)
Fits (maybe {X} b c L K) f = Known b c L × ((x : X) → Begins b (K x) f) × ((x : X) → Fits (K x) f)
Fits {T} (last b c L) f = Known b c L × ((o : Option T) → f o ≡ true → b o ≡ true)
Fits (made g L) f = Fits L f
Fits (either L M) f = Fits L f × Fits M f
Fits {T} {V} (more b step x) f =
    ((a : V) → Fits (step a) b) × ((a : V) → Begins (between b f) (step a) b) ×
    ((o : Option T) → f o ≡ true → b o ≡ true)
Fits (reaches k h L) f = Fits L f

-- each part of the rule has one reading, and so has each choice
abbrev pub Ones : {T V : Type 0} → Rule T V → (Option T → Bool) → Type 0
Ones (gives x) f = Unit {0}
Ones (token u L) f = Ones L f
Ones (one {X} g K) f = (x : X) → Ones (K x) f
Ones (part {X} b c L K) f = Agree L L b × ((x : X) → Ones (K x) f)
Ones (maybe {X} b c L K) f = Agree L L b × ((x : X) → Ones (K x) f)
Ones (last b c L) f = Agree L L b
Ones (made g L) f = Ones L f
Ones (either L M) f = Ones L f × Ones M f × Apart (words L) (words M) f
Ones {T} {V} (more b step x) f = (a : V) → Ones (step a) b
Ones (reaches k h L) f = Ones L f
