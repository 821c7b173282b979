-- Each transaction that runs is the open one of the session that began it.
use Rattle.std.proofs.Common.{◌≡◌, ◌⊎◌, ◌++◌, ℕ, zero, suc, List, [], ◌∷◌, length, Option, Some, None, slice_get, slice_set, refl, sym, ap, ◌∙◌, subst, inl, inr, arith, length-append}
use Rattle.std.specs.Prelude.{option_map}
use Rattle.std.specs.Option.{option_map_or}
use Rattle.std.proofs.lemmas.Bool.{cases_eq}
use Rattle.std.proofs.lemmas.Option.{slice_get_within}
use Rattle.pg_lists.specs.Numbered.{with_changed_item}
use Rattle.pg_xacts.specs.declared.transaction.Transaction.{Transaction}
use Rattle.pg_xacts.specs.declared.transaction.XStatus.{XStatus}
use Rattle.pg_xacts.specs.declared.transaction.XStatus.TheVariants.{Running as IsRunning}
use Rattle.pg_xacts.specs.Transactions.{Transactions, beginner_of, next_number, status_of, transaction_begun, with_status}
use Rattle.pg_model.specs.declared.script.Script.{Script}
use Rattle.pg_world.specs.declared.session.SessionView.{SessionView}
use Rattle.pg_world.specs.Worlds.{World}
use Rattle.pg_relation.specs.Setup.{first_world}
use Rattle.pg_relation.proofs.Lists.{get_set, get_set_other, slice_get_none}

-- what stands behind a list's own
get_more : {X : Type 0} (xs : List X) (place : ℕ) (x y : X) → slice_get xs place ≡ Some x → slice_get (xs ++ y ∷ []) place ≡ Some x
get_more [] place x y is = absurd (cc is)
get_more (z ∷ xs) zero x y is = is
get_more (z ∷ xs) (suc place) x y is = get_more xs place x y is

get_last : {X : Type 0} (xs : List X) (y : X) → slice_get (xs ++ y ∷ []) (length xs) ≡ Some y
get_last [] y = refl
get_last (x ∷ xs) y = get_last xs y

-- where one is begun, it runs, and those that ran
begun_keeps : {Y : Type 0} (f : Transaction → Y) (list : List Transaction) (place : ℕ) (t : Transaction) (y : Y) →
    option_map f (slice_get list place) ≡ Some y → option_map f (slice_get (list ++ t ∷ []) place) ≡ Some y
begun_keeps f list place t y is = at (slice_get list place) refl is
  where
    at : (o : Option Transaction) → slice_get list place ≡ o → option_map f o ≡ Some y →
        option_map f (slice_get (list ++ t ∷ []) place) ≡ Some y
    at None e h = absurd (cc h)
    at (Some one) e h = rw (get_more list place one t e) h

beginner_kept : (transactions : Transactions) (by xact owner : ℕ) → beginner_of transactions xact ≡ Some owner →
    beginner_of (transaction_begun transactions by) xact ≡ Some owner
beginner_kept transactions by zero owner is = is
beginner_kept transactions by (suc place) owner is = begun_keeps (λ t. t.session) transactions.list place _ owner is

beginner_next : (transactions : Transactions) (by xact : ℕ) → xact ≡ next_number transactions →
    beginner_of (transaction_begun transactions by) xact ≡ Some by
beginner_next transactions by zero is = absurd (omega (arith, is))
beginner_next transactions by (suc place) is =
    let here : place ≡ length transactions.list = omega (arith, is) in
    rw here (ap (λ o. option_map (λ t. t.session) o) (get_last transactions.list _))

begun_cases : (transactions : Transactions) (by xact : ℕ) → status_of (transaction_begun transactions by) xact ≡ Some IsRunning →
    (status_of transactions xact ≡ Some IsRunning) ⊎ (xact ≡ next_number transactions)
begun_cases transactions by zero runs = absurd (cc runs)
begun_cases transactions by (suc place) runs = at (slice_get transactions.list place) refl
  where
    at : (o : Option Transaction) → slice_get transactions.list place ≡ o →
        (status_of transactions (suc place) ≡ Some IsRunning) ⊎ (suc place ≡ next_number transactions)
    at (Some t) is =
        let kept = begun_keeps (λ t. t.status) transactions.list place (record { session = by; status = IsRunning }) t.status
        (ap (λ o. option_map (λ t. t.status) o) is) in
        inl (ap (λ o. option_map (λ t. t.status) o) is ∙ (sym kept ∙ runs))
    at None is = last (slice_get (transactions.list ++ record { session = by; status = IsRunning } ∷ []) place) refl
      where
        last : (o : Option Transaction) → slice_get (transactions.list ++ record { session = by; status = IsRunning } ∷ []) place ≡ o →
            (status_of transactions (suc place) ≡ Some IsRunning) ⊎ (suc place ≡ next_number transactions)
        last None e = absurd (let f = rw e at runs in let g : None ≡ Some IsRunning = f in cc g)
        last (Some t) e =
            let above = slice_get_none transactions.list place is in
            let below = slice_get_within (transactions.list ++ record { session = by; status = IsRunning } ∷ []) place t e in
            inr (omega (arith, above, below, length-append {A = Transaction}))

-- where one has ended, it does not run, and the others are as they were
changed_status : (list : List Transaction) (place : ℕ) (status : XStatus) → (status ≡ IsRunning → ⊥) →
    option_map (λ t. t.status) (slice_get (with_changed_item (λ t. record t { status = status }) list place) place) ≡ Some IsRunning → ⊥
changed_status list place status other runs = at (slice_get list place) refl runs
  where
    at : (o : Option Transaction) → slice_get list place ≡ o →
        option_map (λ t. t.status)
        (slice_get (option_map_or (λ t. slice_set list place (record t { status = status })) o list) place) ≡ Some IsRunning → ⊥
    at None is h = absurd (let f = rw is at h in let g : None ≡ Some IsRunning = f in cc g)
    at (Some t) is h =
        let f = rw (get_set list place t (record t { status = status }) is) at h in
        let g : Some status ≡ Some IsRunning = f in
        let same : status ≡ IsRunning = cc g in
        other same

not_running : (transactions : Transactions) (xact : ℕ) (status : XStatus) → (status ≡ IsRunning → ⊥) →
    status_of (with_status transactions xact status) xact ≡ Some IsRunning → ⊥
not_running transactions zero status other runs = absurd (cc runs)
not_running transactions (suc place) status other runs = changed_status transactions.list place status other runs

beginner_same : (list : List Transaction) (place other : ℕ) (status : XStatus) →
    option_map (λ t. t.session) (slice_get (with_changed_item (λ t. record t { status = status }) list place) other)
    ≡ option_map (λ t. t.session) (slice_get list other)
beginner_same list place other status = at (slice_get list place) refl
  where
    set : (xs : List Transaction) (i j : ℕ) (t : Transaction) → slice_get xs i ≡ Some t →
        option_map (λ t. t.session) (slice_get (slice_set xs i (record t { status = status })) j)
        ≡ option_map (λ t. t.session) (slice_get xs j)
    set [] i j t is = refl
    set (x ∷ xs) zero zero t is = let e : x ≡ t = cc is in rw e refl
    set (x ∷ xs) zero (suc j) t is = refl
    set (x ∷ xs) (suc i) zero t is = refl
    set (x ∷ xs) (suc i) (suc j) t is = set xs i j t is

    at : (o : Option Transaction) → slice_get list place ≡ o →
        option_map (λ t. t.session) (slice_get (option_map_or (λ t. slice_set list place (record t { status = status })) o list) other)
        ≡ option_map (λ t. t.session) (slice_get list other)
    at None is = refl
    at (Some t) is = set list place other t is

status_same : (list : List Transaction) (place other : ℕ) (status : XStatus) → (other ≡ place → ⊥) →
    option_map (λ t. t.status) (slice_get (with_changed_item (λ t. record t { status = status }) list place) other)
    ≡ option_map (λ t. t.status) (slice_get list other)
status_same list place other status apart = at (slice_get list place) refl
  where
    at : (o : Option Transaction) → slice_get list place ≡ o →
        option_map (λ t. t.status) (slice_get (option_map_or (λ t. slice_set list place (record t { status = status })) o list) other)
        ≡ option_map (λ t. t.status) (slice_get list other)
    at None is = refl
    at (Some t) is = ap (λ o. option_map (λ t. t.status) o) (get_set_other list place other (record t { status = status }) apart)

record LeftBy (transactions : Transactions) (xact other : ℕ) (status : XStatus) : Type 0 where
  beginner : beginner_of (with_status transactions xact status) other ≡ beginner_of transactions other
  runs : status_of (with_status transactions xact status) other ≡ Some IsRunning → (other ≡ xact → ⊥) →
      status_of transactions other ≡ Some IsRunning

left_by : (transactions : Transactions) (xact other : ℕ) (status : XStatus) → LeftBy transactions xact other status
left_by transactions zero other status = record { beginner = refl; runs = λ r apart. r }
left_by transactions (suc place) zero status = record { beginner = refl; runs = λ r apart. r }
left_by transactions (suc place) (suc other) status = record {
  beginner = beginner_same transactions.list place other status;
  runs = λ r apart. sym (status_same transactions.list place other status (λ e. apart (ap suc e))) ∙ r;
}

-- the session that began a transaction has it open
pub record HasHome (world : World) (xact : ℕ) : Type 0 where
  pub number : ℕ
  pub begun : beginner_of world.transactions xact ≡ Some number
  pub session : SessionView
  pub is : slice_get world.sessions number ≡ Some session
  pub open_is : session.transaction ≡ Some xact

abbrev pub AreAtHome : World → Type 0
AreAtHome world = (xact : ℕ) → status_of world.transactions xact ≡ Some IsRunning → HasHome world xact

-- none was begun at the start
pub home_first : (script : Script) → AreAtHome (first_world script)
home_first script = λ xact runs. none xact runs
  where
    none : (xact : ℕ) → status_of (first_world script).transactions xact ≡ Some IsRunning → HasHome (first_world script) xact
    none zero runs = absurd (cc runs)
    none (suc place) runs = absurd (cc runs)

module _ (world new : World) (number : ℕ) (session other : SessionView) (is : slice_get world.sessions number ≡ Some session) (sessions : new.sessions ≡ slice_set world.sessions number other) where
  -- the home of a transaction that has its beginner still, and that its session has open still
  home_moved : (xact : ℕ) (home : HasHome world xact) → beginner_of new.transactions xact ≡ Some home.number →
      (session.transaction ≡ Some xact → other.transaction ≡ Some xact) → HasHome new xact
  home_moved xact home begun opens = at (cases_eq home.number number)
    where
      at : (home.number ≡ number) ⊎ (home.number ≡ number → ⊥) → HasHome new xact
      at (inl same) =
          let here : slice_get world.sessions home.number ≡ Some session = rw same is in
          let both : Some home.session ≡ Some session = sym home.is ∙ here in
          let own : home.session ≡ session = cc both in
          record {
            number = home.number;
            begun = begun;
            session = other;
            is = rw (sessions, same) (get_set world.sessions number session other is);
            open_is = opens (rw (← own) home.open_is);
          }
      at (inr apart) = record {
        number = home.number;
        begun = begun;
        session = home.session;
        is = rw sessions (get_set_other world.sessions number home.number other apart ∙ home.is);
        open_is = home.open_is;
      }

  -- no transaction begins or ends
  pub home_kept : AreAtHome world → new.transactions ≡ world.transactions → other.transaction ≡ session.transaction → AreAtHome new
  home_kept homes same opens = λ xact runs.
      let home = homes xact (subst (λ t. status_of t xact ≡ Some IsRunning) same runs) in
      home_moved xact home (ap (λ t. beginner_of t xact) same ∙ home.begun) (λ own. opens ∙ own)

  -- one begins
  pub home_begun : AreAtHome world → new.transactions ≡ transaction_begun world.transactions number → session.transaction ≡ None →
      other.transaction ≡ Some (next_number world.transactions) → AreAtHome new
  home_begun homes begun none opens = λ xact runs.
      at xact (begun_cases world.transactions number xact (subst (λ t. status_of t xact ≡ Some IsRunning) begun runs))
    where
      at : (xact : ℕ) → (status_of world.transactions xact ≡ Some IsRunning) ⊎ (xact ≡ next_number world.transactions) → HasHome new xact
      at xact (inl runs) =
          let home = homes xact runs in
          home_moved xact home (ap (λ t. beginner_of t xact) begun ∙ beginner_kept world.transactions number xact home.number home.begun)
          (λ own. absurd (let e : None ≡ Some xact = sym none ∙ own in cc e))
      at xact (inr next) = record {
        number = number;
        begun = ap (λ t. beginner_of t xact) begun ∙ beginner_next world.transactions number xact next;
        session = other;
        is = rw sessions (get_set world.sessions number session other is);
        open_is = rw next opens;
      }

  -- one ends
  pub home_ended : AreAtHome world → (ended : ℕ) (status : XStatus) → (status ≡ IsRunning → ⊥) → session.transaction ≡ Some ended →
      new.transactions.list ≡ (with_status world.transactions ended status).list → AreAtHome new
  home_ended homes ended status over opens list = λ xact runs. at xact (sym (same xact) ∙ runs)
    where
      same : (xact : ℕ) → status_of new.transactions xact ≡ status_of (with_status world.transactions ended status) xact
      same zero = refl
      same (suc place) = ap (λ l. option_map (λ t. t.status) (slice_get l place)) list

      beginner : (xact : ℕ) → beginner_of new.transactions xact ≡ beginner_of (with_status world.transactions ended status) xact
      beginner zero = refl
      beginner (suc place) = ap (λ l. option_map (λ t. t.session) (slice_get l place)) list

      by : (xact : ℕ) → (xact ≡ ended → ⊥) → status_of (with_status world.transactions ended status) xact ≡ Some IsRunning → HasHome new xact
      by xact apart runs =
          let left = left_by world.transactions ended xact status in
          let home = homes xact (left.runs runs apart) in
          home_moved xact home (beginner xact ∙ (left.beginner ∙ home.begun))
          (λ own. let both : Some xact ≡ Some ended = sym own ∙ opens in let e : xact ≡ ended = cc both in absurd (apart e))

      at : (xact : ℕ) → status_of (with_status world.transactions ended status) xact ≡ Some IsRunning → HasHome new xact
      at xact runs = here (cases_eq xact ended)
        where
          here : (xact ≡ ended) ⊎ (xact ≡ ended → ⊥) → HasHome new xact
          here (inl e) = absurd (not_running world.transactions ended status over (subst (λ x. status_of (with_status world.transactions ended status) x ≡ Some IsRunning) e runs))
          here (inr apart) = by xact apart runs
