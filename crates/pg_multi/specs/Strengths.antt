-- The four strengths of a lock on a row, and which of them conflict.
use Rattle.std.specs.Prelude.{ℕ, Bool, true, false, nat_lt, if◌then◌else◌}
use Rattle.pg_multi.specs.declared.strength.Strength.{Strength}
use Rattle.pg_multi.specs.declared.strength.Strength.TheVariants.{KeyShare, Share, NoKeyUpdate, Update}

-- what stands in a square of the table: who asks waits until the other transaction ends
abbrev pub waits : Bool
waits = true

-- or it passes the lock that the other holds
abbrev pub passes : Bool
passes = false

-- a row of the table, with a column for each strength that is held: KEY SHARE, SHARE, NO KEY UPDATE
-- and UPDATE
abbrev pub row : Bool → Bool → Bool → Bool → Strength → Bool
row key_share share no_key_update update KeyShare = key_share
row key_share share no_key_update update Share = share
row key_share share no_key_update update NoKeyUpdate = no_key_update
row key_share share no_key_update update Update = update

-- the table of row-level locks: the strength that is asked for to the left, and on top, in the order
-- of `row`, the one that another transaction holds
abbrev pub conflicts : Strength → Strength → Bool
conflicts KeyShare = row passes passes passes waits
conflicts Share = row passes passes waits waits
conflicts NoKeyUpdate = row passes waits waits waits
conflicts Update = row waits waits waits waits

-- the place of a strength in their order, from the weakest
abbrev pub rank_of : Strength → ℕ
rank_of KeyShare = 0
rank_of Share = 1
rank_of NoKeyUpdate = 2
rank_of Update = 3

-- the stronger of two strengths
abbrev pub stronger : Strength → Strength → Strength
stronger a b = if nat_lt (rank_of a) (rank_of b) then b else a
