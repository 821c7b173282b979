-- The table of strengths: it is the same both ways, and a stronger lock conflicts with more.
use Rattle.std.proofs.Common.{◌≡◌, ◌≤◌, true, false, max, refl, arith}
use Rattle.pg_multi.specs.declared.strength.Strength.{Strength}
use Rattle.pg_multi.specs.declared.strength.Strength.TheVariants.{KeyShare, Share, NoKeyUpdate, Update}
use Rattle.pg_multi.specs.Strengths.{conflicts, rank_of, stronger}

pub conflicts_both : (a b : Strength) → conflicts a b ≡ conflicts b a
conflicts_both KeyShare KeyShare = refl
conflicts_both KeyShare Share = refl
conflicts_both KeyShare NoKeyUpdate = refl
conflicts_both KeyShare Update = refl
conflicts_both Share KeyShare = refl
conflicts_both Share Share = refl
conflicts_both Share NoKeyUpdate = refl
conflicts_both Share Update = refl
conflicts_both NoKeyUpdate KeyShare = refl
conflicts_both NoKeyUpdate Share = refl
conflicts_both NoKeyUpdate NoKeyUpdate = refl
conflicts_both NoKeyUpdate Update = refl
conflicts_both Update KeyShare = refl
conflicts_both Update Share = refl
conflicts_both Update NoKeyUpdate = refl
conflicts_both Update Update = refl

pub update_with_all : (other : Strength) → conflicts Update other ≡ true
update_with_all KeyShare = refl
update_with_all Share = refl
update_with_all NoKeyUpdate = refl
update_with_all Update = refl

pub key_share_with_update : (other : Strength) → conflicts KeyShare other ≡ true → other ≡ Update
key_share_with_update KeyShare is = absurd (cc is)
key_share_with_update Share is = absurd (cc is)
key_share_with_update NoKeyUpdate is = absurd (cc is)
key_share_with_update Update is = refl

pub with_more : (weak strong other : Strength) → rank_of weak ≤ rank_of strong → conflicts weak other ≡ true →
    conflicts strong other ≡ true
with_more KeyShare KeyShare other le is = is
with_more KeyShare Share KeyShare le is = is
with_more KeyShare Share Share le is = is
with_more KeyShare Share NoKeyUpdate le is = refl
with_more KeyShare Share Update le is = refl
with_more KeyShare NoKeyUpdate KeyShare le is = is
with_more KeyShare NoKeyUpdate Share le is = refl
with_more KeyShare NoKeyUpdate NoKeyUpdate le is = refl
with_more KeyShare NoKeyUpdate Update le is = refl
with_more weak Update other le is = update_with_all other
with_more Share KeyShare other le is = absurd (omega (arith, le))
with_more Share Share other le is = is
with_more Share NoKeyUpdate KeyShare le is = is
with_more Share NoKeyUpdate Share le is = refl
with_more Share NoKeyUpdate NoKeyUpdate le is = refl
with_more Share NoKeyUpdate Update le is = refl
with_more NoKeyUpdate KeyShare other le is = absurd (omega (arith, le))
with_more NoKeyUpdate Share other le is = absurd (omega (arith, le))
with_more NoKeyUpdate NoKeyUpdate other le is = is
with_more Update KeyShare other le is = absurd (omega (arith, le))
with_more Update Share other le is = absurd (omega (arith, le))
with_more Update NoKeyUpdate other le is = absurd (omega (arith, le))

-- the stronger of two is one of them, and its rank is the higher
pub stronger_rank : (a b : Strength) → rank_of (stronger a b) ≡ max (rank_of a) (rank_of b)
stronger_rank KeyShare KeyShare = refl
stronger_rank KeyShare Share = refl
stronger_rank KeyShare NoKeyUpdate = refl
stronger_rank KeyShare Update = refl
stronger_rank Share KeyShare = refl
stronger_rank Share Share = refl
stronger_rank Share NoKeyUpdate = refl
stronger_rank Share Update = refl
stronger_rank NoKeyUpdate KeyShare = refl
stronger_rank NoKeyUpdate Share = refl
stronger_rank NoKeyUpdate NoKeyUpdate = refl
stronger_rank NoKeyUpdate Update = refl
stronger_rank Update KeyShare = refl
stronger_rank Update Share = refl
stronger_rank Update NoKeyUpdate = refl
stronger_rank Update Update = refl

-- what conflicts with neither does not conflict with the stronger of the two
pub stronger_with_none : (a b other : Strength) → conflicts a other ≡ false → conflicts b other ≡ false →
    conflicts (stronger a b) other ≡ false
stronger_with_none KeyShare KeyShare other one two = one
stronger_with_none KeyShare Share other one two = two
stronger_with_none KeyShare NoKeyUpdate other one two = two
stronger_with_none KeyShare Update other one two = two
stronger_with_none Share KeyShare other one two = one
stronger_with_none Share Share other one two = one
stronger_with_none Share NoKeyUpdate other one two = two
stronger_with_none Share Update other one two = two
stronger_with_none NoKeyUpdate KeyShare other one two = one
stronger_with_none NoKeyUpdate Share other one two = one
stronger_with_none NoKeyUpdate NoKeyUpdate other one two = one
stronger_with_none NoKeyUpdate Update other one two = two
stronger_with_none Update KeyShare other one two = one
stronger_with_none Update Share other one two = one
stronger_with_none Update NoKeyUpdate other one two = one
stronger_with_none Update Update other one two = one
