-- Who waits for whom: for each session, by its number, what it waits for, if it waits.
use Rattle.std.specs.Prelude.{ℕ, List, Option, None, option_map, replicate}
use Rattle.std.specs.Option.{option_map_or}
use Rattle.pg_lists.specs.Numbered.{item_at}
use Rattle.pg_xacts.specs.declared.on.On.{On}

-- of so many sessions none waits
abbrev pub no_waits : ℕ → List (Option On)
no_waits sessions = replicate sessions None

-- what a session waits for, if it waits
abbrev pub wait_of : List (Option On) → ℕ → Option On
wait_of slots session = option_map_or (λ slot. slot) (item_at slots session) None

-- the session that a session waits for, if it waits
abbrev pub waits_for : List (Option On) → ℕ → Option ℕ
waits_for slots session = option_map (λ on. on.session) (wait_of slots session)
