-- Lists of versions: what a version more and versions taken away leave of them.
use Rattle.std.proofs.Common.{◌≡◌, ◌≢◌, ◌<◌, ◌≤◌, ℕ, Bool, true, false, cond, not, List, [], ◌∷◌, ◌++◌, filter, Option, Some, refl, sym, ap, ◌∙◌, eq-eqb, ne_eqb, arith}
use Rattle.std.specs.List.{last_or}
use Rattle.pg_heap.specs.declared.version.Version.{Version}
use Rattle.pg_heap.specs.Rows.{is_written_by}
use Rattle.pg_relation.specs.Locking.{AreRising, Each, IsFirstBy, StandBehind}

-- what holds of each item
pub each_map : {X : Type 0} (P Q : X → Type 0) → ((x : X) → P x → Q x) → (xs : List X) → Each P xs → Each Q xs
each_map P Q keeps [] all = tt
each_map P Q keeps (x ∷ xs) all = (keeps x all.0, each_map P Q keeps xs all.1)

pub each_two : {X : Type 0} (P Q R : X → Type 0) → ((x : X) → P x → Q x → R x) → (xs : List X) → Each P xs → Each Q xs →
    Each R xs
each_two P Q R keeps [] one two = tt
each_two P Q R keeps (x ∷ xs) one two = (keeps x one.0 two.0, each_two P Q R keeps xs one.1 two.1)

pub each_more : {X : Type 0} (P : X → Type 0) (xs : List X) (y : X) → Each P xs → P y → Each P (xs ++ y ∷ [])
each_more P [] y all one = (one, tt)
each_more P (x ∷ xs) y all one = (all.0, each_more P xs y all.1 one)

pub each_filter : {X : Type 0} (P : X → Type 0) (p : X → Bool) (xs : List X) → Each P xs → Each P (filter p xs)
each_filter P p [] all = tt
each_filter P p (x ∷ xs) all = at (p x) (each_filter P p xs all.1)
  where
    at : (b : Bool) → Each P (filter p xs) → Each P (cond b (x ∷ filter p xs) (filter p xs))
    at true rest = (all.0, rest)
    at false rest = rest

-- and of each that passes
pub each_passing : {X : Type 0} (P : X → Type 0) (p : X → Bool) → ((x : X) → p x ≡ true → P x) → (xs : List X) →
    Each P (filter p xs)
each_passing P p passes [] = tt
each_passing P p passes (x ∷ xs) = at (p x) refl (each_passing P p passes xs)
  where
    at : (b : Bool) → p x ≡ b → Each P (filter p xs) → Each P (cond b (x ∷ filter p xs) (filter p xs))
    at true is rest = (passes x is, rest)
    at false is rest = rest

pub none_passing : {X : Type 0} (p : X → Bool) (xs : List X) → Each (λ x. p x ≡ false) xs → filter p xs ≡ []
none_passing p [] none = refl
none_passing p (x ∷ xs) none = rw none.0 (none_passing p xs none.1)

-- the last of a list
pub last_more : {X : Type 0} (o : Option X) (xs : List X) (y : X) → last_or o (xs ++ y ∷ []) ≡ Some y
last_more o [] y = refl
last_more o (x ∷ xs) y = last_more (Some x) xs y

-- it stays the last where it passes
pub last_kept : {X : Type 0} (p : X → Bool) (xs : List X) (a b : Option X) (y : X) → last_or a xs ≡ Some y → p y ≡ true →
    (a ≡ Some y → b ≡ Some y) → last_or b (filter p xs) ≡ Some y
last_kept p [] a b y is passes same = same is
last_kept {X = X} p (x ∷ xs) a b y is passes same =
    at (p x) refl (last_kept p xs (Some x) (Some x) y is passes (λ e. e)) (λ was. last_kept p xs (Some x) b y is passes was)
  where
    apart : p x ≡ false → Some x ≡ Some y → b ≡ Some y
    apart fails e =
        let f : x ≡ y = cc e in
        absurd (let g : false ≡ true = sym fails ∙ (ap p f ∙ passes) in cc g)

    at : (t : Bool) → p x ≡ t → last_or (Some x) (filter p xs) ≡ Some y →
        ((Some x ≡ Some y → b ≡ Some y) → last_or b (filter p xs) ≡ Some y) →
        last_or b (cond t (x ∷ filter p xs) (filter p xs)) ≡ Some y
    at true keeps behind other = behind
    at false fails behind other = other (λ e. apart fails e)

-- and the last of those that pass does
pub last_passes : {X : Type 0} (p : X → Bool) (xs : List X) (a : Option X) (y : X) → last_or a (filter p xs) ≡ Some y →
    (a ≡ Some y → p y ≡ true) → p y ≡ true
last_passes p [] a y is passes = passes is
last_passes {X = X} p (x ∷ xs) a y is passes =
    at (p x) refl is (λ last was. last_passes p xs (Some x) y last was) (λ last. last_passes p xs a y last passes)
  where
    own : p x ≡ true → Some x ≡ Some y → p y ≡ true
    own keeps e = let f : x ≡ y = cc e in ap p (sym f) ∙ keeps

    at : (t : Bool) → p x ≡ t → last_or a (cond t (x ∷ filter p xs) (filter p xs)) ≡ Some y →
        (last_or (Some x) (filter p xs) ≡ Some y → (Some x ≡ Some y → p y ≡ true) → p y ≡ true) →
        (last_or a (filter p xs) ≡ Some y → p y ≡ true) → p y ≡ true
    at true keeps last behind other = behind last (λ e. own keeps e)
    at false fails last behind other = other last

-- what holds of each item holds of the last
pub last_each : {X : Type 0} (P : X → Type 0) (xs : List X) (a : Option X) (y : X) → Each P xs → last_or a xs ≡ Some y →
    (a ≡ Some y → P y) → P y
last_each P [] a y all is own = own is
last_each {X = X} P (x ∷ xs) a y all is own = last_each P xs (Some x) y all.1 is (λ e. here e)
  where
    here : Some x ≡ Some y → P y
    here e = let f : x ≡ y = cc e in rw (← f) all.0

-- the first of a list of versions
pub first_more : (xact : ℕ) (versions : List Version) (version : Version) → IsFirstBy xact versions →
    IsFirstBy xact (versions ++ version ∷ [])
first_more xact [] version first = absurd first
first_more xact (one ∷ versions) version first = first

pub not_written : (version : Version) (xact : ℕ) → version.writer ≢ xact → not (is_written_by xact version) ≡ true
not_written version xact apart = rw (ne_eqb version.writer xact apart) refl

pub others_left : (version : Version) (xact : ℕ) → not (is_written_by xact version) ≡ true → version.writer ≢ xact
others_left version xact is same =
    let e : not true ≡ true = rw (eq-eqb version.writer xact same) at is in absurd (cc e)

pub first_left : (xact gone : ℕ) (versions : List Version) → xact ≢ gone → IsFirstBy xact versions →
    IsFirstBy xact (filter (λ version. not (is_written_by gone version)) versions)
first_left xact gone [] apart first = absurd first
first_left xact gone (one ∷ versions) apart first =
    rw (not_written one gone (λ e. apart (sym first ∙ e))) first

-- versions of a transaction behind all others
pub behind_none : (xact : ℕ) (versions : List Version) → Each (λ version. version.writer ≢ xact) versions →
    StandBehind xact versions
behind_none xact [] none = tt
behind_none xact (version ∷ versions) none = (λ e. absurd (none.0 e), behind_none xact versions none.1)

pub behind_more : (xact : ℕ) (versions : List Version) (version : Version) → StandBehind xact versions →
    version.writer ≡ xact → StandBehind xact (versions ++ version ∷ [])
behind_more xact [] version behind own = (λ e. tt, tt)
behind_more xact (one ∷ versions) version behind own = (
  λ e. each_more (λ later. later.writer ≡ xact) versions version (behind.0 e) own,
  behind_more xact versions version behind.1 own,
)

pub behind_filter : (xact : ℕ) (p : Version → Bool) (versions : List Version) → StandBehind xact versions →
    StandBehind xact (filter p versions)
behind_filter xact p [] behind = tt
behind_filter xact p (one ∷ versions) behind = at (p one) (behind_filter xact p versions behind.1)
  where
    at : (b : Bool) → StandBehind xact (filter p versions) →
        StandBehind xact (cond b (one ∷ filter p versions) (filter p versions))
    at true rest = (λ e. each_filter (λ later. later.writer ≡ xact) p versions (behind.0 e), rest)
    at false rest = rest

-- where the newest is another's there is none of the transaction
pub behind_other : (xact : ℕ) (versions : List Version) (o : Option Version) (newest : Version) → StandBehind xact versions →
    last_or o versions ≡ Some newest → newest.writer ≢ xact → Each (λ version. version.writer ≢ xact) versions
behind_other xact [] o newest behind is apart = tt
behind_other xact (one ∷ versions) o newest behind is apart = (
  λ e. apart (last_each (λ later. later.writer ≡ xact) versions (Some one) newest (behind.0 e) is (λ f. here e f)),
  behind_other xact versions (Some one) newest behind.1 is apart,
)
  where
    here : one.writer ≡ xact → Some one ≡ Some newest → newest.writer ≡ xact
    here e f = let g : one ≡ newest = cc f in ap (λ v. v.writer) (sym g) ∙ e

-- versions of a transaction rise by command
pub rising_more : (versions : List Version) (version : Version) → AreRising versions →
    Each (λ one. version.writer ≡ one.writer → one.command < version.command) versions →
    AreRising (versions ++ version ∷ [])
rising_more [] version rising early = (tt, tt)
rising_more (one ∷ versions) version rising early = (
  each_more (λ later. later.writer ≡ one.writer → one.command < later.command) versions version rising.0 early.0,
  rising_more versions version rising.1 early.1,
)

pub rising_filter : (p : Version → Bool) (versions : List Version) → AreRising versions → AreRising (filter p versions)
rising_filter p [] rising = tt
rising_filter p (one ∷ versions) rising = at (p one) (rising_filter p versions rising.1)
  where
    at : (b : Bool) → AreRising (filter p versions) → AreRising (cond b (one ∷ filter p versions) (filter p versions))
    at true rest = (
      each_filter (λ later. later.writer ≡ one.writer → one.command < later.command) p versions rising.0,
      rest,
    )
    at false rest = rest

-- the newest has the highest command of its writer
pub newest_highest : (versions : List Version) (o : Option Version) (newest : Version) → AreRising versions →
    last_or o versions ≡ Some newest →
    Each (λ one. one.writer ≡ newest.writer → one.command ≤ newest.command) versions
newest_highest [] o newest rising is = tt
newest_highest (one ∷ versions) o newest rising is = (
  λ e. last_each (λ later. later.writer ≡ one.writer → one.command ≤ later.command) versions (Some one) newest
      (each_map (λ later. later.writer ≡ one.writer → one.command < later.command)
      (λ later. later.writer ≡ one.writer → one.command ≤ later.command)
      (λ later lower same. let h = lower same in omega (arith, h)) versions rising.0)
      is (λ f. here f) (sym e),
  newest_highest versions (Some one) newest rising.1 is,
)
  where
    here : Some one ≡ Some newest → newest.writer ≡ one.writer → one.command ≤ newest.command
    here f same =
        let g : one ≡ newest = cc f in
        let h = ap (λ v. v.command) g in omega (arith, h)
