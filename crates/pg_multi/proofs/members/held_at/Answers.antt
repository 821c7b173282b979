use Rattle.std.proofs.Common.{◌≡◌, ◌<◌, ◌∙◌, Some, ap, is_some, length, slice_get, sym}
use Rattle.std.proofs.lemmas.Option.{slice_get-get_or, slice_get_past}
use Rattle.std.proofs.lemmas.Bool.{ltb-false}
use Rattle.pg_multi.proofs.Ascending.{held_there, not_held_past, not_held_there}
use Rattle.pg_multi.proofs.members.held_at.Goals as goal

pub returns-in-Some : goal.returns-in-Some
returns-in-Some c =
    let found = c.in-Some.ensures.lookup in
    let within : c.args.place < length c.args.locks.now = found.3.0 in
    let there : slice_get c.args.locks.now c.args.place ≡ Some c.in-Some.lock.now =
    slice_get-get_or c.args.locks.now c.args.place c.in-Some.lock.now within ∙ ap (λ lock. Some lock) (sym found.1) in
    sym (held_there 0 c.args.locks.now c.args.xact c.in-Some.lock.now c.requires.ascending (rw (← c.requires.first) there) c.if-lock-xact.true)

pub returns-in_default : goal.returns-in_default
returns-in_default c =
    let found = c.in-Some.ensures.lookup in
    let within : c.args.place < length c.args.locks.now = found.3.0 in
    let there : slice_get c.args.locks.now c.args.place ≡ Some c.in-Some.lock.now =
    slice_get-get_or c.args.locks.now c.args.place c.in-Some.lock.now within ∙ ap (λ lock. Some lock) (sym found.1) in
    sym (not_held_there 0 c.args.locks.now c.args.xact c.in-Some.lock.now c.requires.ascending (rw (← c.requires.first) there) c.if-lock-xact.false)

pub returns-in_default-2 : goal.returns-in_default-2
returns-in_default-2 c =
    let past = ltb-false c.args.place (length c.args.locks.now)
    (sym c.get.ensures.lookup.0 ∙ ap (λ lock. is_some lock) c.in_default.is) in
    sym (not_held_past c.args.locks.now c.args.xact (rw (← c.requires.first) (slice_get_past c.args.locks.now c.args.place past)))
