use Rattle.std.proofs.Common.{◌≡◌, IfOk, Result, Ok, Err, ap₂, arith, ◌∙◌, sym}
use Rattle.pg_xacts.specs.Transactions.{Transactions}
use Rattle.pg_xacts.specs.Snapshots.{SnapshotView, WasTakenOf, snapshot_of}
use Rattle.pg_xacts.proofs.Kept.{kept_rises}
use Rattle.pg_xacts.proofs.Snapshots.{taken_now}
use Rattle.pg_xacts.proofs.xacts.Xacts.snapshot.Goals as goal

pub new-requires : goal.new-requires
new-requires c =
    rw c.deref.ensures.value
    (kept_rises (record { list = c.self.inside.list.items; commits = c.self.inside.commits }) c.self.inside.running.items
    c.self.invariant)

-- the snapshot that was made is the one of these transactions
known : {E : Type 0} (transactions now : Transactions) (made : SnapshotView) (result : Result SnapshotView E) →
    now ≡ transactions → made ≡ snapshot_of transactions → WasTakenOf transactions (snapshot_of transactions) →
    IfOk result (λ snapshot. snapshot ≡ made) → IfOk result (WasTakenOf now)
known transactions now made (Ok snapshot) is same taken made_is = rw (is, made_is, same) taken
known transactions now made (Err error) is same taken made_is = tt

pub returns-clause-known : goal.returns-clause-known
returns-clause-known c =
    let transactions : Transactions = record { list = c.self.inside.list.items; commits = c.self.inside.commits } in
    known transactions c.args.self.now _ c.new.result (sym c.self.view_is)
    (ap₂ (λ running next. record { commits = c.self.inside.commits; running = running; next = next })
    (c.deref.ensures.value ∙ c.self.invariant.running) (omega (arith, c.len.ensures)))
    (taken_now transactions c.self.invariant.placed) c.new.ensures
