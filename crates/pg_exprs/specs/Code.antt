-- How the logic stores a tree.
use Rattle.std.proofs.Common.{◌≡◌, ◌≢◌, ℕ, refl, ap, arith}
use Rattle.std.specs.Coded.{Coded, coded_ℕ}
use base.Stored.{Gv, gnil, gnum, gcons}
use Rattle.pg_values.specs.contracts.value.Value as value
use Rattle.pg_exprs.specs.contracts.operator.BinaryOp as binary_op
use Rattle.pg_exprs.specs.contracts.operator.UnaryOp as unary_op
use Rattle.pg_exprs.specs.Tree.{Tree, literal, column, action, unary, binary}

-- the front of a stored pair, and what stands behind it
abbrev head : Gv → Gv
head gnil = gnil
head (gnum n) = gnil
head (gcons a b) = a

-- what stands behind the front of a stored pair
abbrev tail : Gv → Gv
tail gnil = gnil
tail (gnum n) = gnil
tail (gcons a b) = b

-- what is stored under two numbers is two things
apart : (m n : ℕ) {a b : Gv} → gcons (gnum m) a ≡ gcons (gnum n) b → m ≢ n → ⊥
apart m n p other = other (cc)

-- a tree as it is stored: the number of its outermost part, then what that part holds
abbrev pub tree_code : Tree → Gv
tree_code (literal a0) = gcons (gnum 0) (value.the_row.coded.code a0)
tree_code (column a0 a1) = gcons (gnum 1) (gcons (coded_ℕ.code a0) (coded_ℕ.code a1))
tree_code action = gcons (gnum 2) gnil
tree_code (unary a0 a1) = gcons (gnum 3) (gcons (unary_op.the_row.coded.code a0) (tree_code a1))
tree_code (binary a0 a1 a2) = gcons (gnum 4) (gcons (binary_op.the_row.coded.code a0) (gcons (tree_code a1) (tree_code a2)))

-- two trees stored alike are one tree
pub tree_inj : (x y : Tree) → tree_code x ≡ tree_code y → x ≡ y
tree_inj (literal a0) (literal b0) p = λ i. literal (value.the_row.coded.inj a0 b0 (ap (λ g. tail g) p) i)
tree_inj (literal a0) (column b0 b1) p = absurd (apart 0 1 p (omega arith))
tree_inj (literal a0) action p = absurd (apart 0 2 p (omega arith))
tree_inj (literal a0) (unary b0 b1) p = absurd (apart 0 3 p (omega arith))
tree_inj (literal a0) (binary b0 b1 b2) p = absurd (apart 0 4 p (omega arith))
tree_inj (column a0 a1) (literal b0) p = absurd (apart 1 0 p (omega arith))
tree_inj (column a0 a1) (column b0 b1) p = λ i. column (coded_ℕ.inj a0 b0 (ap (λ g. head (tail g)) p) i) (coded_ℕ.inj a1 b1 (ap (λ g. tail (tail g)) p) i)
tree_inj (column a0 a1) action p = absurd (apart 1 2 p (omega arith))
tree_inj (column a0 a1) (unary b0 b1) p = absurd (apart 1 3 p (omega arith))
tree_inj (column a0 a1) (binary b0 b1 b2) p = absurd (apart 1 4 p (omega arith))
tree_inj action (literal b0) p = absurd (apart 2 0 p (omega arith))
tree_inj action (column b0 b1) p = absurd (apart 2 1 p (omega arith))
tree_inj action action p = refl
tree_inj action (unary b0 b1) p = absurd (apart 2 3 p (omega arith))
tree_inj action (binary b0 b1 b2) p = absurd (apart 2 4 p (omega arith))
tree_inj (unary a0 a1) (literal b0) p = absurd (apart 3 0 p (omega arith))
tree_inj (unary a0 a1) (column b0 b1) p = absurd (apart 3 1 p (omega arith))
tree_inj (unary a0 a1) action p = absurd (apart 3 2 p (omega arith))
tree_inj (unary a0 a1) (unary b0 b1) p = λ i. unary (unary_op.the_row.coded.inj a0 b0 (ap (λ g. head (tail g)) p) i) (tree_inj a1 b1 (ap (λ g. tail (tail g)) p) i)
tree_inj (unary a0 a1) (binary b0 b1 b2) p = absurd (apart 3 4 p (omega arith))
tree_inj (binary a0 a1 a2) (literal b0) p = absurd (apart 4 0 p (omega arith))
tree_inj (binary a0 a1 a2) (column b0 b1) p = absurd (apart 4 1 p (omega arith))
tree_inj (binary a0 a1 a2) action p = absurd (apart 4 2 p (omega arith))
tree_inj (binary a0 a1 a2) (unary b0 b1) p = absurd (apart 4 3 p (omega arith))
tree_inj (binary a0 a1 a2) (binary b0 b1 b2) p = λ i. binary (binary_op.the_row.coded.inj a0 b0 (ap (λ g. head (tail g)) p) i) (tree_inj a1 b1 (ap (λ g. head (tail (tail g))) p) i) (tree_inj a2 b2 (ap (λ g. tail (tail (tail g))) p) i)

-- how a tree is stored, and that nothing of it is lost
abbrev pub coded_tree : Coded Tree
coded_tree = record { code = tree_code; inj = tree_inj }
